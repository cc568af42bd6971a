-- Sessions of children that are made one after the other.
use Rattle.std.proofs.Common.{◌≡◌, ⊎_elim, ℕ, zero, suc, ◌+◌, ◌<◌, ◌≤◌, List, [], ◌∷◌, ◌++◌, length, get_or, Option, Some, None, IfSome, refl, ap, sym, ◌∙◌, subst, subst₂, arith}
use Rattle.std.proofs.lemmas.Bool.{cases_lt}
use Rattle.std.proofs.lemmas.List.{get_or_append_left, length_push, get_or_push}
use Rattle.lw_sul.specs.SessionState.{SessionState}
use Rattle.lw_outside.specs.Links.{LinkState, SpawnerState}
use Rattle.lw_line.specs.LineState.{LineState}
use Rattle.lw_system.specs.Spawners.{StartsLinks}
use Rattle.lw_children.specs.Crews.{AreEarlier, HasBegun, IsLoose, new_session}

module _ {L : Type 0} (state : L → LinkState) (letters : List (List ℕ)) (outputs : Option (List (List ℕ))) where
  pub none_begun : (before : SpawnerState) → HasBegun state letters outputs before [] None
  none_begun before = record { new = λ i d lt. absurd (omega (arith, lt)); loose_is = tt; earlier = λ lt. absurd (omega (arith, lt)) }

  module _ (words : List (List ℕ)) (before between : SpawnerState) (sessions : List (SessionState (LineState L))) (begun : HasBegun state letters outputs before sessions None) (starts : StartsLinks words before between (length sessions)) where
    -- what was retired before was started before
    earlier_too : AreEarlier between.retired between.started → (n : ℕ) → n ≡ length sessions → AreEarlier before.retired before.started
    earlier_too then zero is = subst₂ (λ (rs : List LinkState) (k : ℕ). AreEarlier rs k) starts.retired (omega (arith, starts.started, is)) then
    earlier_too then (suc n) is = begun.earlier (omega (arith, is))

    pub more_begun : (s : SessionState (LineState L)) (n : ℕ) → n ≡ length sessions → s ≡ new_session n s.sul.link letters outputs → (state s.sul.link).number ≡ between.started → AreEarlier between.retired between.started → HasBegun state letters outputs before (sessions ++ s ∷ []) None
    more_begun s n is made linked then = record {
      new = λ i d lt.
          ⊎_elim
          (λ (lt' : i < length sessions).
          subst (λ (x : SessionState (LineState L)). (x ≡ new_session i x.sul.link letters outputs) × ((state x.sul.link).number ≡ before.started + i)) (sym (get_or_append_left sessions (s ∷ []) d i lt')) (begun.new i d lt'))
          (λ (le : length sessions ≤ i).
          let here : n ≡ i = omega (arith, le, lt, is, length_push sessions s) in
          subst (λ (x : SessionState (LineState L)). (x ≡ new_session i x.sul.link letters outputs) × ((state x.sul.link).number ≡ before.started + i)) (sym (ap (λ (k : ℕ). get_or (sessions ++ s ∷ []) k d) (sym here) ∙ get_or_push sessions s d n (sym is)))
          (subst (λ (k : ℕ). s ≡ new_session k s.sul.link letters outputs) here made, omega (arith, linked, starts.started, here, is)))
          (cases_lt i (length sessions));
      loose_is = tt;
      earlier = λ lt. earlier_too then (length sessions) refl;
    }

    pub begun_with : (loose : Option L) → IsLoose state between.started loose → IfSome loose (λ l. AreEarlier between.retired between.started) → HasBegun state letters outputs before sessions loose
    begun_with None is then = begun
    begun_with (Some l) is then = record {
      new = begun.new;
      loose_is = (omega (arith, is.0, starts.started), is.1, is.2, is.3);
      earlier = λ lt. earlier_too then (length sessions) refl;
    }
