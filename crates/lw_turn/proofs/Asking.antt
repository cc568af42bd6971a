-- The core that is out with a caller, around one call of it.
use Rattle.std.proofs.Common.{◌≡◌, ℕ, List, [], ◌∷◌, sym, ap, ◌∙◌, subst}
use Rattle.std.specs.Prelude.{Option}
use Rattle.atomic_table.specs.Table.{Me, rest}
use Rattle.lw_turn.specs.declared.shared.Entry.{Entry}
use Rattle.lw_turn.specs.declared.view.View.{View}
use Rattle.lw_turn.specs.declared.view.Doing.{Doing}
use Rattle.lw_turn.specs.declared.view.Stage.TheVariants.{Idle, Waiting}
use Rattle.lw_turn.specs.Steps.{IsServed}
use Rattle.lw_turn.specs.Turns.{WasAsked}

-- the only slot that is carried is the one that was taken last
pub only_slot : {S : Type 0} (l : List (ℕ × S)) (x : ℕ × S) → l ≡ x ∷ [] → l ≡ x ∷ rest l
only_slot l x e = e ∙ ap (λ xs. x ∷ rest xs) (sym e)

module _ {C O A B : Type 0} (opening : C → O) (entries : C → List (Entry A B)) (legal : O → List (Entry A B) → Type 0) where
  -- the same of the place after the call, by its own number
  pub asked_after : (core : C) (ask : A) (reply : B) (d : Doing O A B) (n : ℕ) (me : Me (Option C) (Doing O A B)) → me.0 ≡ d → n ≡ d.view.number
      → WasAsked opening entries legal core d.view n ask reply me → WasAsked opening entries legal core me.0.view me.0.view.number ask reply me
  asked_after core ask reply d n me place number h =
      subst (λ (x : Doing O A B). WasAsked opening entries legal core x.view x.view.number ask reply me) (sym place) (subst (λ (m : ℕ). WasAsked opening entries legal core d.view m ask reply me) number h)

module _ {C O A B : Type 0} where
  -- a pass keeps its number from the drawing of its ticket to its turn
  pub number_kept : (actors : O → ℕ) (opening : C → O) (entries : C → List (Entry A B)) (n t : ℕ) (v : View O A B) (drawn turned : Me (Option C) (Doing O A B)) (core : C) → n ≡ v.number
      → ◌≡◌ {A = Me (Option C) (Doing O A B)} drawn (record { stage = Waiting t; view = v }, []) → IsServed actors opening entries t drawn.0.view core turned → n ≡ turned.0.view.number
  number_kept actors opening entries n t v drawn turned core number waits served =
      number ∙ sym (ap (λ (m : Me (Option C) (Doing O A B)). m.0.view.number) waits) ∙ sym (ap (λ (m : Me (Option C) (Doing O A B)). m.0.view.number) served.place)

  -- a place that has taken in an ended one is as idle as before
  pub idle_still : (d : Doing O A B) (carried : List (ℕ × Option C)) (me : Me (Option C) (Doing O A B)) → ◌≡◌ {A = Me (Option C) (Doing O A B)} me (d, carried) → d.stage ≡ Idle → carried ≡ [] → (me.0.stage ≡ Idle) × (me.1 ≡ [])
  idle_still d carried me is idle empty = (ap (λ (m : Me (Option C) (Doing O A B)). m.0.stage) is ∙ idle, ap (λ (m : Me (Option C) (Doing O A B)). m.1) is ∙ empty)
