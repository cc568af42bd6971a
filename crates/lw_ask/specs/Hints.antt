-- What is put of the hint at a member that a setup doesn't know.
use Rattle.std.specs.Prelude.{◌≡◌, ℕ, ◌≤◌, List, []}
use Rattle.lw_words.specs.Cause.{CountedFault}
use Rattle.lw_outside.specs.Streams.{SinkState, TakesAll, TakesSome}

-- a hint was put to a stream: whole where no fault was counted; where there is none, nothing was put
pub record TakesHint (hint : List ℕ) (err_before err_now : SinkState) : Type 0 where
  pub whole : ¬ CountedFault err_before.faults err_now.faults → TakesAll hint err_before.taken err_now.taken
  pub part : TakesSome hint err_before.taken err_now.taken
  pub none : hint ≡ [] → err_now ≡ err_before
  pub counts : err_before.faults ≤ err_now.faults
