-- A join keeps the rule.
use Rattle.std.proofs.Common.{◌≡◌, ◌≢◌, ℕ, List, length, Bool, true, false, refl, sym, ◌∙◌, subst, inl, inr, ⊎_elim, arith, set, cond, eqb}
use Rattle.std.specs.Prelude.{Option, Some}
use Rattle.std.specs.Cmp.{unsigned_Decides}
use Rattle.std.proofs.lemmas.List.{length-set}
use mathlib.Core.Option.{some}
use mathlib.Core.List.{IsPrefix}
use lib.ListN.{get_elem?}
use Rattle.atomic_table.specs.Table.{State, Joins}
use Rattle.atomic_table.proofs.Lists.{at_set, set_here, set_else}
use Rattle.lw_turn.specs.declared.shared.Entry.{Entry}
use Rattle.lw_turn.specs.declared.view.View.{View}
use Rattle.lw_turn.specs.declared.view.Ended.{Ended}
use Rattle.lw_turn.specs.declared.view.Doing.{Doing}
use Rattle.lw_turn.specs.declared.view.Stage.TheVariants.{Idle}
use Rattle.lw_turn.specs.History.{entries_of}
use Rattle.lw_turn.specs.Views.{ended_of, ended_view}
use Rattle.lw_turn.specs.Rule.{IsLiveStage, IsSpent, Fits, IsTurn, RuleHolds}
use Rattle.lw_turn.specs.Steps.{with_ended, spent_place}
use Rattle.lw_turn.proofs.Histories.{prefix_refl}
use Rattle.lw_turn.proofs.Places.{there}
use Rattle.lw_turn.proofs.Fitting.{fits_still, spent_set}
use Rattle.lw_turn.proofs.Tickets.{tickets_same}
use Rattle.lw_turn.proofs.Turning.{idle_is_calm, spent_is_calm, out_set, turning_set}

module _ {C O A B : Type 0} (actors : O → ℕ) (legal : O → List (Entry A B) → Type 0) (opening : C → O) (entries : C → List (Entry A B)) (some_opening o : O) where
  abbrev Law : State (Option C) (Doing O A B) → Type 0
  Law = RuleHolds actors legal opening entries o

  module _ (id other : ℕ) (v w : View O A B) (s : State (Option C) (Doing O A B)) (k : Law s) (at : get_elem? s.views id ≡ some record { stage = Idle; view = v }) (apart : other ≢ id)
      (there_too : get_elem? s.views other ≡ some record { stage = Idle; view = w }) where
    abbrev d : Doing O A B
    d = record { stage = Idle; view = v }

    abbrev e : Doing O A B
    e = record { stage = Idle; view = w }

    abbrev both : Doing O A B
    both = with_ended d e

    abbrev spent : Doing O A B
    spent = spent_place some_opening

    abbrev changed : List (Doing O A B)
    changed = set s.views id both

    abbrev places : List (Doing O A B)
    places = set changed other spent

    fit : Fits o k.log s.views id v
    fit = k.live id d at tt

    fit_other : Fits o k.log s.views other w
    fit_other = k.live other e there_too tt

    still_there : get_elem? changed other ≡ some e
    still_there = set_else s.views id other both apart ∙ there_too

    same_length : length places ≡ length s.views
    same_length = length-set changed other spent ∙ length-set s.views id both

    gone : (n : ℕ) → IsSpent s.views n → IsSpent places n × (entries_of n k.log ≡ entries_of n k.log)
    gone n sp = (spent_set changed other n e spent still_there tt (spent_set s.views id n d both at tt sp), refl)

    other_gone : IsSpent places other
    other_gone = (spent, set_here changed other spent (there changed other e still_there), refl)

    ended_fits : (n : ℕ) (x : Ended A B) (b : Bool) → eqb w.number n ≡ b → cond b (Some (ended_view w)) (ended_of n v.ended) ≡ Some x → (entries_of n k.log ≡ x.mine) × IsPrefix x.seen k.log × IsSpent places n
    ended_fits n x true q is =
        let same : n ≡ other = sym ((unsigned_Decides w.number n).0 q) ∙ fit_other.number in
        let is_x : ended_view w ≡ x = cc in
        subst (λ (y : Ended A B). (entries_of n k.log ≡ y.mine) × IsPrefix y.seen k.log × IsSpent places n) is_x
        (subst (λ (m : ℕ). (entries_of m k.log ≡ w.mine) × IsPrefix w.seen k.log × IsSpent places m) (sym same) (fit_other.mine, fit_other.seen, other_gone))
    ended_fits n x false q is = let h = fit.ended n x is in (h.0, h.1, (gone n h.2).0)

    both_fits : Fits o k.log places id both.view
    both_fits = record {
      number = fit.number;
      opened = fit.opened;
      seen = fit.seen;
      mine = fit.mine;
      made = λ z. fit.made z ∙ sym same_length;
      ended = λ n x is. ended_fits n x (eqb w.number n) refl is;
    }

    live_still : (i : ℕ) (x : Doing O A B) → get_elem? places i ≡ some x → IsLiveStage x.stage → Fits o k.log places i x.view
    live_still i x is lx =
        ⊎_elim
        (λ (h : (i ≡ other) × (spent ≡ x)). absurd (subst (λ (y : Doing O A B). IsLiveStage y.stage) (sym h.1) lx))
        (λ (h : (i ≢ other) × (get_elem? changed i ≡ some x)).
        ⊎_elim
        (λ (q : (i ≡ id) × (both ≡ x)). subst (λ (y : Doing O A B). Fits o k.log places i y.view) q.1 (subst (λ (n : ℕ). Fits o k.log places n both.view) (sym q.0) both_fits))
        (λ (q : (i ≢ id) × (get_elem? s.views i ≡ some x)).
        fits_still o k.log k.log s.views places i x.view (k.live i x q.1 lx) (prefix_refl k.log) refl (λ z. same_length) gone)
        (at_set s.views id i both x h.1))
        (at_set changed other i spent x is)

    joined : Law record { words = s.words; homes = s.homes; views = places }
    joined = record {
      log = k.log;
      next = k.next;
      words = k.words;
      lawful = k.lawful;
      room = omega (arith, same_length, k.room);
      tickets = tickets_same (length k.log) k.next changed other e spent still_there refl (tickets_same (length k.log) k.next s.views id d both at refl k.tickets);
      live = live_still;
      absent = λ n le. k.absent n (omega (arith, same_length, le));
      turning = turning_set (IsTurn k.log s.homes) changed other spent spent_is_calm (turning_set (IsTurn k.log s.homes) s.views id both idle_is_calm k.turning);
      slot = ⊎_elim (λ h. inl h) (λ out. inr (out_set changed other e spent still_there idle_is_calm (out_set s.views id d both at idle_is_calm out))) k.slot;
    }

  pub joins : (id other : ℕ) (v w : View O A B)
      → Joins Law id record { stage = Idle; view = v } other record { stage = Idle; view = w } (with_ended record { stage = Idle; view = v } record { stage = Idle; view = w }) (spent_place some_opening)
  joins id other v w s k at apart is =
      joined id other v w s k at apart (sym (set_else s.views id other (with_ended record { stage = Idle; view = v } record { stage = Idle; view = w }) apart) ∙ is)

  pub joins_idle : (id other : ℕ) (d e : Doing O A B) → d.stage ≡ Idle → e.stage ≡ Idle → Joins Law id d other e (with_ended d e) (spent_place some_opening)
  joins_idle id other d e idle idle_too =
      let is : record { stage = Idle; view = d.view } ≡ d = λ i. record { stage = sym idle i; view = d.view } in
      let is_too : record { stage = Idle; view = e.view } ≡ e = λ i. record { stage = sym idle_too i; view = e.view } in
      subst (λ (x : Doing O A B). Joins Law id x other e (with_ended x e) (spent_place some_opening)) is
      (subst (λ (y : Doing O A B). Joins Law id record { stage = Idle; view = d.view } other y (with_ended record { stage = Idle; view = d.view } y) (spent_place some_opening)) is_too (joins id other d.view e.view))
