-- A split keeps the rule.
use Rattle.std.proofs.Common.{◌≡◌, ◌≢◌, ℕ, ◌+◌, ◌<◌, List, [], ◌∷◌, ◌++◌, length, refl, sym, ◌∙◌, subst, inl, inr, ⊎_elim, arith, set, length-append}
use Rattle.std.specs.Prelude.{Option, Some, None}
use Rattle.std.proofs.lemmas.List.{length-set}
use mathlib.Core.Option.{some}
use lib.ListN.{get_elem?}
use Rattle.atomic_table.specs.Table.{State, Splits}
use Rattle.atomic_table.proofs.Lists.{at_set}
use Rattle.lw_turn.specs.declared.shared.Entry.{Entry}
use Rattle.lw_turn.specs.declared.view.View.{View}
use Rattle.lw_turn.specs.declared.view.Ended.{Ended}
use Rattle.lw_turn.specs.declared.view.Doing.{Doing}
use Rattle.lw_turn.specs.declared.view.Stage.TheVariants.{Idle}
use Rattle.lw_turn.specs.History.{entries_of}
use Rattle.lw_turn.specs.Rule.{IsLiveStage, IsSpent, Fits, IsTurn, RuleHolds}
use Rattle.lw_turn.specs.Steps.{one_more, next_place}
use Rattle.lw_turn.proofs.Histories.{prefix_refl}
use Rattle.lw_turn.proofs.Places.{there, at_snoc_index}
use Rattle.lw_turn.proofs.Fitting.{fits_still, spent_set, spent_longer}
use Rattle.lw_turn.proofs.Tickets.{tickets_same, tickets_more}
use Rattle.lw_turn.proofs.Turning.{idle_is_calm, out_set, out_longer, turning_set, turning_more}

module _ {C O A B : Type 0} (actors : O → ℕ) (legal : O → List (Entry A B) → Type 0) (opening : C → O) (entries : C → List (Entry A B)) (o : O) where
  abbrev Law : State (Option C) (Doing O A B) → Type 0
  Law = RuleHolds actors legal opening entries o

  module _ (id : ℕ) (v : View O A B) (zeroth : v.number ≡ 0) (room : v.made < actors v.opening) (s : State (Option C) (Doing O A B)) (k : Law s) (at : get_elem? s.views id ≡ some record { stage = Idle; view = v }) where
    abbrev d : Doing O A B
    d = record { stage = Idle; view = v }

    abbrev left : Doing O A B
    left = one_more d

    abbrev right : Doing O A B
    right = next_place d

    abbrev changed : List (Doing O A B)
    changed = set s.views id left

    abbrev places : List (Doing O A B)
    places = changed ++ right ∷ []

    fit : Fits o k.log s.views id v
    fit = k.live id d at tt

    id_is : id ≡ 0
    id_is = sym fit.number ∙ zeroth

    made_is : v.made ≡ length s.views
    made_is = fit.made id_is

    same_length : length changed ≡ length s.views
    same_length = length-set s.views id left

    one_longer : length places ≡ length s.views + 1
    one_longer = omega (arith, length-append changed (right ∷ []), same_length)

    gone : (n : ℕ) → IsSpent s.views n → IsSpent places n × (entries_of n k.log ≡ entries_of n k.log)
    gone n sp = (spent_longer changed (right ∷ []) n (spent_set s.views id n d left at tt sp), refl)

    left_fits : Fits o k.log places id left.view
    left_fits = record {
      number = fit.number;
      opened = fit.opened;
      seen = fit.seen;
      mine = fit.mine;
      made = λ z. omega (arith, made_is, one_longer);
      ended = λ n e is. let h = fit.ended n e is in (h.0, h.1, (gone n h.2).0);
    }

    right_fits : Fits o k.log places (length changed) right.view
    right_fits = record {
      number = made_is ∙ sym same_length;
      opened = fit.opened;
      seen = fit.seen;
      mine = k.absent (length changed) (omega (arith, same_length));
      made = λ z. let p = there s.views id d at in absurd (omega (arith, p, z, same_length));
      ended = λ n e is. absurd (nothing e is);
    }
      where
        nothing : (e : Ended A B) → None ≡ Some e → ⊥
        nothing e q = cc

    live_still : (i : ℕ) (x : Doing O A B) → get_elem? places i ≡ some x → IsLiveStage x.stage → Fits o k.log places i x.view
    live_still i x is lx =
        ⊎_elim
        (λ (h : get_elem? changed i ≡ some x).
        ⊎_elim
        (λ (q : (i ≡ id) × (left ≡ x)). subst (λ (y : Doing O A B). Fits o k.log places i y.view) q.1 (subst (λ (n : ℕ). Fits o k.log places n left.view) (sym q.0) left_fits))
        (λ (q : (i ≢ id) × (get_elem? s.views i ≡ some x)).
        fits_still o k.log k.log s.views places i x.view (k.live i x q.1 lx) (prefix_refl k.log) refl (λ z. absurd (q.0 (z ∙ sym id_is))) gone)
        (at_set s.views id i left x h))
        (λ (h : (i ≡ length changed) × (right ≡ x)). subst (λ (y : Doing O A B). Fits o k.log places i y.view) h.1 (subst (λ (n : ℕ). Fits o k.log places n right.view) (sym h.0) right_fits))
        (at_snoc_index changed right x i is)

    split : Law record { words = s.words; homes = s.homes; views = places }
    split = record {
      log = k.log;
      next = k.next;
      words = k.words;
      lawful = k.lawful;
      room = let r : v.made < actors o = subst (λ (x : O). v.made < actors x) fit.opened room in omega (arith, r, made_is, one_longer);
      tickets = tickets_more (length k.log) k.next changed right refl (tickets_same (length k.log) k.next s.views id d left at refl k.tickets);
      live = live_still;
      absent = λ n le. k.absent n (omega (arith, one_longer, le));
      turning = turning_more (IsTurn k.log s.homes) changed right idle_is_calm (turning_set (IsTurn k.log s.homes) s.views id left idle_is_calm k.turning);
      slot = ⊎_elim (λ h. inl h) (λ out. inr (out_longer changed (right ∷ []) (out_set s.views id d left at idle_is_calm out))) k.slot;
    }

  pub splits : (id : ℕ) (v : View O A B) → v.number ≡ 0 → v.made < actors v.opening
      → Splits Law id record { stage = Idle; view = v } (one_more record { stage = Idle; view = v }) (next_place record { stage = Idle; view = v })
  splits id v zeroth room s k at = split id v zeroth room s k at

  pub splits_idle : (id : ℕ) (d : Doing O A B) → d.stage ≡ Idle → d.view.number ≡ 0 → d.view.made < actors d.view.opening → Splits Law id d (one_more d) (next_place d)
  splits_idle id d idle zeroth room =
      let is : record { stage = Idle; view = d.view } ≡ d = λ i. record { stage = sym idle i; view = d.view } in
      subst (λ (x : Doing O A B). Splits Law id x (one_more x) (next_place x)) is (splits id d.view zeroth room)
