-- Sessions that may make a pool, one after the other.
use Rattle.std.proofs.Common.{◌≡◌, ⊎_elim, ℕ, ◌<◌, ◌≤◌, List, [], ◌∷◌, ◌++◌, length, get_or, None, refl, ap, subst, sym, arith}
use Rattle.std.proofs.lemmas.Bool.{cases_lt}
use Rattle.std.proofs.lemmas.List.{get_or_append_left, get_or_default, length_push, get_or_push}
use Rattle.lw_words.specs.declared.kept.KeptAnswer.{KeptAnswer}
use Rattle.lw_sul.specs.SessionState.{SessionState}
use Rattle.lw_words.specs.Word.{name_at}
use Rattle.lw_names.specs.Naming.{IsFree, Naming}
use Rattle.lw_desk.specs.Ending.{FreeComeUp, IsShared}
use Rattle.lw_pool.specs.Pool.{Member}
use Rattle.lw_pool.specs.Opening.{MayJoin, AllMayJoin}

module _ {S : Type 0} (f : SessionState S → Member S) (naming : Naming) (inputs outputs : ℕ) where
  pub none_joins : AllMayJoin f naming inputs outputs []
  none_joins i d lt = absurd (omega arith)

  pub one_more_joins : (sessions : List (SessionState S)) (s : SessionState S) → AllMayJoin f naming inputs outputs sessions → MayJoin naming inputs outputs (length sessions) (f s).seen → AllMayJoin f naming inputs outputs (sessions ++ s ∷ [])
  one_more_joins sessions s all one i d lt =
      ⊎_elim
      (λ (before : i < length sessions). subst (λ (x : SessionState S). MayJoin naming inputs outputs i (f x).seen) (sym (get_or_append_left sessions (s ∷ []) d i before)) (all i d before))
      (λ (le : length sessions ≤ i).
      let same : i ≡ length sessions = omega (arith, le, lt, length_push sessions s) in
      subst (λ (n : ℕ). MayJoin naming inputs outputs n (f (get_or (sessions ++ s ∷ []) n d)).seen) (sym same) (subst (λ (x : SessionState S). MayJoin naming inputs outputs (length sessions) (f x).seen) (sym (get_or_push sessions s d (length sessions) refl)) one))
      (cases_lt i (length sessions))

-- names that are declared are shared
pub declared_shared : (names : List (List ℕ)) → IsShared (record { names = names; brought = None })
declared_shared names instance y lt = (y, lt, get_or_default names y (name_at names y) [] lt)

-- and none of them is free; nor is any brought yet where there is none
pub declared_come_up : (kept : List KeptAnswer) (naming : Naming) → naming.brought ≡ None → FreeComeUp kept naming
declared_come_up kept naming declared free = absurd (subst IsFree declared free)

pub none_come_up : (kept : List KeptAnswer) (naming : Naming) → naming.names ≡ [] → FreeComeUp kept naming
none_come_up kept naming none free y lt = absurd (omega (arith, lt, ap (λ (l : List (List ℕ)). length l) none))
