-- What arguments say to a command that takes them.
use Rattle.std.proofs.Common.{◌≡◌, ◌∙◌, ◌&&◌, List, ℕ, Bool, true, false, Option, Some, None, Result, Ok, Err, IfOk, if◌then◌else◌, ap, refl, sym}
use Rattle.clap.specs.Words.{App, Row, matches_of}
use Rattle.lw_top.specs.CommandLine.{are_taken, values_taken}

-- what one of two tests refuses
pub untaken : (named : Bool) {faultless : Bool} → faultless ≡ false → (named && faultless) ≡ false
untaken true is = is
untaken false is = refl

module _ {V : Type 0} (app : App) (values : List Row → Option V) (words : List (List ℕ)) where
  chosen : (b : Bool) → b ≡ true → (if b then values (matches_of app words) else None) ≡ values (matches_of app words)
  chosen true is = refl
  chosen false is = absurd (cc)

  left : (b : Bool) → b ≡ false → (if b then values (matches_of app words) else None) ≡ None
  left true is = absurd (cc)
  left false is = refl

  -- what is read of the rows that clap found is what the arguments say
  pub taken_values : {asked : App} {rows : List Row} → asked ≡ app → rows ≡ matches_of asked words → are_taken asked words ≡ true → values_taken app values words ≡ values rows
  taken_values same found taken =
      chosen (are_taken app words) (ap (λ (a : App). are_taken a words) (sym same) ∙ taken)
      ∙ sym (ap values (found ∙ ap (λ (a : App). matches_of a words) same))

  pub untaken_values : {asked : App} → asked ≡ app → are_taken asked words ≡ false → values_taken app values words ≡ None
  untaken_values same refused = left (are_taken app words) (ap (λ (a : App). are_taken a words) (sym same) ∙ refused)

-- the same of a value that was made
pub say : {V X E : Type 0} (made : X → V) {said read : Option V} (r : Result X E) → said ≡ read → IfOk r (λ x. read ≡ Some (made x)) → IfOk r (λ x. said ≡ Some (made x))
say made (Ok x) same is = same ∙ is
say made (Err e) same is = tt
