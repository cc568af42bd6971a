-- Whether a turn is under way, where a place changes that is in no turn.
use Rattle.std.proofs.Common.{◌≡◌, ◌≢◌, ℕ, List, [], ◌∷◌, ◌++◌, length, sym, ap, ◌∙◌, subst, ⊎_elim, set}
use mathlib.Core.Option.{some}
use lib.ListN.{get_elem?}
use Rattle.atomic_table.proofs.Lists.{at_set, set_else, at_longer}
use Rattle.lw_turn.specs.declared.view.Doing.{Doing}
use Rattle.lw_turn.specs.declared.view.Stage.{Stage}
use Rattle.lw_turn.specs.declared.view.Stage.TheVariants.{Idle, Waiting, Turning, Spent}
use Rattle.lw_turn.specs.Rule.{IsOut}
use Rattle.lw_turn.proofs.Places.{one_at, at_snoc_index}

abbrev pub IsCalm : Stage → Type 0
IsCalm s = (t : ℕ) → s ≢ Turning t

pub idle_is_calm : IsCalm Idle
idle_is_calm t e = cc

pub waiting_is_calm : (n : ℕ) → IsCalm (Waiting n)
waiting_is_calm n t e = cc

pub spent_is_calm : IsCalm Spent
spent_is_calm t e = cc

module _ {O A B : Type 0} where
  pub out_set : (places : List (Doing O A B)) (id : ℕ) (d new : Doing O A B) → get_elem? places id ≡ some d → IsCalm d.stage → IsOut places → IsOut (set places id new)
  out_set places id d new at calm out = (
    out.0,
    out.1,
    out.2,
    set_else places id out.0 new (λ e. calm out.2 (ap (λ (x : Doing O A B). x.stage) (one_at places out.0 d out.1 (subst (λ (k : ℕ). get_elem? places k ≡ some d) (sym e) at) out.3) ∙ out.4)) ∙ out.3,
    out.4,
  )

  pub out_longer : (places more : List (Doing O A B)) → IsOut places → IsOut (places ++ more)
  out_longer places more out = (out.0, out.1, out.2, at_longer places more out.0 out.1 out.3, out.4)

  -- nobody new is in a turn
  pub turning_set : (Q : Doing O A B → ℕ → Type 0) (places : List (Doing O A B)) (id : ℕ) (new : Doing O A B) → IsCalm new.stage
      → ((i : ℕ) (x : Doing O A B) (t : ℕ) → get_elem? places i ≡ some x → x.stage ≡ Turning t → Q x t)
      → (i : ℕ) (x : Doing O A B) (t : ℕ) → get_elem? (set places id new) i ≡ some x → x.stage ≡ Turning t → Q x t
  turning_set Q places id new calm all i x t is tk =
      ⊎_elim
      (λ (h : (i ≡ id) × (new ≡ x)). absurd (calm t (ap (λ (z : Doing O A B). z.stage) h.1 ∙ tk)))
      (λ (h : (i ≢ id) × (get_elem? places i ≡ some x)). all i x t h.1 tk)
      (at_set places id i new x is)

  pub turning_more : (Q : Doing O A B → ℕ → Type 0) (places : List (Doing O A B)) (new : Doing O A B) → IsCalm new.stage
      → ((i : ℕ) (x : Doing O A B) (t : ℕ) → get_elem? places i ≡ some x → x.stage ≡ Turning t → Q x t)
      → (i : ℕ) (x : Doing O A B) (t : ℕ) → get_elem? (places ++ new ∷ []) i ≡ some x → x.stage ≡ Turning t → Q x t
  turning_more Q places new calm all i x t is tk =
      ⊎_elim
      (λ (h : get_elem? places i ≡ some x). all i x t h tk)
      (λ (h : (i ≡ length places) × (new ≡ x)). absurd (calm t (ap (λ (z : Doing O A B). z.stage) h.1 ∙ tk)))
      (at_snoc_index places new x i is)
