-- What a call of the program writes.
use Rattle.std.specs.Prelude.{ℕ, List, Option}
pub use Rattle.lw_outside.specs.Streams.{TakesAll, TakesSome}
use Rattle.lw_words.specs.declared.kept.KeptAnswer.{KeptAnswer}
use Rattle.lw_report.specs.Text.{names_of, text_of}
use Rattle.lw_report.specs.declared.outcome.Outcome.{Outcome}

-- the text of an outcome, with the names that a file has said, if any
abbrev pub said_text : Option (List (List ℕ)) → Option (List (List ℕ)) → List KeptAnswer → ℕ → Outcome → List ℕ
said_text inputs outputs kept extra outcome = text_of (names_of inputs) (names_of outputs) kept extra outcome
