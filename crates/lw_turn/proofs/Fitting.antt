-- What the passes know stays true where one of them takes a step.
use Rattle.std.proofs.Common.{◌≡◌, ◌≢◌, ℕ, List, ◌++◌, length, refl, sym, ap, ◌∙◌, subst, ⊎_elim, set}
use Rattle.std.proofs.lemmas.List.{length-set}
use mathlib.Core.Option.{some}
use mathlib.Core.List.{IsPrefix}
use lib.ListN.{get_elem?}
use Rattle.atomic_table.proofs.Lists.{at_set, set_else, at_longer}
use Rattle.lw_turn.specs.declared.shared.Entry.{Entry}
use Rattle.lw_turn.specs.declared.view.View.{View}
use Rattle.lw_turn.specs.declared.view.Doing.{Doing}
use Rattle.lw_turn.specs.declared.view.Stage.{Stage}
use Rattle.lw_turn.specs.declared.view.Stage.TheVariants.{Idle, Waiting, Turning, Spent}
use Rattle.lw_turn.specs.History.{entries_of}
use Rattle.lw_turn.specs.Rule.{IsLiveStage, IsSpent, Fits}
use Rattle.lw_turn.proofs.Histories.{prefix_refl, prefix_trans}
use Rattle.lw_turn.proofs.Places.{one_at}

pub live_not_spent : (s : Stage) → IsLiveStage s → s ≢ Spent
live_not_spent Idle h e = cc
live_not_spent (Waiting t) h e = cc
live_not_spent (Turning t) h e = cc
live_not_spent Spent h e = h

module _ {O A B : Type 0} where
  -- a pass that was joined is not one that takes a step
  pub spent_apart : (places : List (Doing O A B)) (id n : ℕ) (d : Doing O A B) → get_elem? places id ≡ some d → IsLiveStage d.stage → IsSpent places n → n ≢ id
  spent_apart places id n d at live sp e =
      let P : ℕ → Type 0 = λ k. get_elem? places k ≡ some sp.0 in
      let same : d ≡ sp.0 = one_at places id d sp.0 at (subst P e sp.1) in
      let st : d.stage ≡ Spent = ap (λ (x : Doing O A B). x.stage) same ∙ sp.2 in live_not_spent d.stage live st

  pub spent_set : (places : List (Doing O A B)) (id n : ℕ) (d new : Doing O A B) → get_elem? places id ≡ some d → IsLiveStage d.stage → IsSpent places n → IsSpent (set places id new) n
  spent_set places id n d new at live sp = (sp.0, set_else places id n new (spent_apart places id n d at live sp) ∙ sp.1, sp.2)

  pub spent_longer : (places more : List (Doing O A B)) (n : ℕ) → IsSpent places n → IsSpent (places ++ more) n
  spent_longer places more n sp = (sp.0, at_longer places more n sp.0 sp.1, sp.2)

  -- the same pass, where the history has grown by entries that are none of its own and the places have changed elsewhere
  pub fits_still : (o : O) (log log' : List (Entry A B)) (places places' : List (Doing O A B)) (i : ℕ) (v : View O A B) → Fits o log places i v
      → IsPrefix log log' → entries_of i log' ≡ entries_of i log → (i ≡ 0 → length places' ≡ length places)
      → ((n : ℕ) → IsSpent places n → IsSpent places' n × (entries_of n log' ≡ entries_of n log)) → Fits o log' places' i v
  fits_still o log log' places places' i v f grows own len gone = record {
    number = f.number;
    opened = f.opened;
    seen = prefix_trans v.seen log log' f.seen grows;
    mine = own ∙ f.mine;
    made = λ z. f.made z ∙ sym (len z);
    ended = λ n e is. let h = f.ended n e is in let g = gone n h.2 in (g.1 ∙ h.0, prefix_trans e.seen log log' h.1 grows, g.0);
  }

  -- all places after one was changed, and the history has not
  pub live_set : (o : O) (log : List (Entry A B)) (places : List (Doing O A B)) (id : ℕ) (d new : Doing O A B) → get_elem? places id ≡ some d → IsLiveStage d.stage
      → ((i : ℕ) (x : Doing O A B) → get_elem? places i ≡ some x → IsLiveStage x.stage → Fits o log places i x.view)
      → Fits o log places id new.view
      → (i : ℕ) (x : Doing O A B) → get_elem? (set places id new) i ≡ some x → IsLiveStage x.stage → Fits o log (set places id new) i x.view
  live_set o log places id d new at live all own i x is lx =
      let len = length-set places id new in
      let still : (j : ℕ) (v : View O A B) → Fits o log places j v → Fits o log (set places id new) j v = λ j v f.
      fits_still o log log places (set places id new) j v f (prefix_refl log) refl (λ z. len) (λ n sp. (spent_set places id n d new at live sp, refl)) in
      ⊎_elim
      (λ (h : (i ≡ id) × (new ≡ x)). subst (λ (y : Doing O A B). Fits o log (set places id new) i y.view) h.1 (subst (λ (k : ℕ). Fits o log (set places id new) k new.view) (sym h.0) (still id new.view own)))
      (λ (h : (i ≢ id) × (get_elem? places i ≡ some x)). still i x.view (all i x h.1 lx))
      (at_set places id i new x is)
