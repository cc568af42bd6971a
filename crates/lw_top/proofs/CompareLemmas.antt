-- Calls of `compare` for whose arguments there was no memory.
use Rattle.std.proofs.Common.{◌≡◌, List, ℕ, inl, inr, refl, sym, subst}
use Rattle.lw_outside.specs.Files.{FilesState}
use Rattle.lw_outside.specs.Streams.{SinkState}
use Rattle.lw_report.specs.declared.«end».End.{End}
use Rattle.lw_report.specs.declared.outcome.Outcome.TheVariants.{NoMemory}
use Rattle.lw_compare.specs.CompareRun.{IsCompareRun}
use Rattle.lw_compare.specs.Outcomes.{ComparesNothing as IsRefusedOutcome, IsUntroubled}
use Rattle.lw_compare.specs.Reading.{IsUnread}
use Rattle.lw_top.specs.Run.{TellsOutcome}

-- the end of a call that touched nothing, which is out of memory, is one that `compare` may come to
pub wanted_compare : (one two : List ℕ) (f : FilesState) (o e d : SinkState) (end : End) → end.outcome ≡ NoMemory → TellsOutcome e d end → IsCompareRun one two f f o o e d end
wanted_compare one two f o e d end out r = record {
  no_model = r.model;
  no_learner = r.learner;
  nothing_kept = r.kept;
  no_outputs = r.outputs;
  untouched = refl;
  ended = inl (record {
    cause = subst (IsUnread one two f f) (sym out) (inl refl);
    unwritten = refl;
    said = r.said;
    said_part = r.part;
  });
  exact = λ first second c tells_first tells_second is. inr (inl out);
  refused = λ tells. subst IsRefusedOutcome (sym out) tt;
  untroubled = λ first second tells_first tells_second files quiet. subst IsUntroubled (sym out) tt;
}
