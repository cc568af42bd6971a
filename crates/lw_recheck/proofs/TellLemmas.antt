-- What is put to the streams.
use Rattle.std.proofs.Common.{◌≡◌, ⊎_elim, ℕ, List, Option, None, Result, Err, inl, inr, refl, ap₂, subst}
use Rattle.lw_words.specs.Cause.{CountedFault}
use Rattle.lw_words.specs.declared.kept.KeptAnswer.{KeptAnswer}
use Rattle.lw_report.specs.Outcomes.{HasOwnText, StandsOrWants}
use Rattle.lw_outside.specs.Streams.{SinkState}
use Rattle.lw_report.specs.Stops.{tell_outcome}
use Rattle.lw_report.specs.Text.{rechecked_line}
use Rattle.lw_report.specs.Writing.{TakesSome, said_text}
use Rattle.lw_report.specs.declared.«end».End.{End}
use Rattle.lw_report.specs.declared.outcome.Outcome.{Outcome}
use Rattle.lw_report.specs.declared.outcome.Outcome.TheVariants.{NoMemory, Rechecked, SinkFault}
use Rattle.lw_report.specs.declared.role.Role.{Role}
use Rattle.lw_report.specs.declared.stops.TellStop.{TellStop}
use Rattle.lw_report.specs.declared.stops.TellStop.TheVariants as tell
use Rattle.lw_recheck.specs.Ending.{EndsBy, EndsSame, IsSaid, IsTold}

-- an outcome whose text takes no memory stands
stands : (why outcome : Outcome) → ¬ HasOwnText why → StandsOrWants why outcome → outcome ≡ why
stands why outcome fixed = ⊎_elim (λ (is : outcome ≡ why). is) (λ (wants : HasOwnText why × (outcome ≡ NoMemory)). absurd (fixed wants.0))

-- the line of so many answers was not put whole
module _ (answers : ℕ) (kept : List KeptAnswer) (o p e d : SinkState) (end : End) (told : Result (Unit {0}) TellStop) where
  pub cut_off : (stop : TellStop) → told ≡ Err stop → StandsOrWants (tell_outcome stop) end.outcome → (told ≡ Err tell.NoMemory → p.taken ≡ o.taken) → (told ≡ Err tell.NoMemory → p.faults ≡ o.faults) → (told ≡ Err tell.Sink → CountedFault o.faults p.faults) → ((role : Role) → ¬ (told ≡ Err (tell.File role))) → TakesSome (rechecked_line answers) o.taken p.taken → IsSaid (said_text None None kept 0 end.outcome) e d → EndsSame answers kept o p e d end
  cut_off (tell.File role) is came memory calm failed no_file part said = absurd (no_file role is)
  cut_off tell.Sink is came memory calm failed no_file part said =
      let out = stands SinkFault end.outcome (λ own. own) came in
      inr (inr (record { outcome = out; refused = failed is; part = part; said = subst (λ (x : Outcome). IsSaid (said_text None None kept 0 x) e d) out said }))
  cut_off tell.NoMemory is came memory calm failed no_file part said =
      let out = stands NoMemory end.outcome (λ own. own) came in
      inr (inl (record {
        outcome = out;
        unput = ap₂ (λ (t : Option (List ℕ)) (n : ℕ). let s : SinkState = record { taken = t; faults = n } in s) (memory is) (calm is);
        said = subst (λ (x : Outcome). IsSaid (said_text None None kept 0 x) e d) out said;
      }))

-- any other outcome is told
pub told_other : (inputs outputs : Option (List (List ℕ))) (why : Outcome) (kept : List KeptAnswer) (o p e d : SinkState) (end : End) → ((answers : ℕ) → ¬ (why ≡ Rechecked answers)) → IsTold inputs outputs why kept o p e d end → EndsBy inputs outputs why kept o p e d end
told_other inputs outputs (Rechecked answers) kept o p e d end other told = absurd (other answers refl)
told_other inputs outputs _ kept o p e d end other told = told
