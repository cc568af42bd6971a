-- Why no learning begins, as contracts see it.
use Rattle.std.specs.Prelude.{◌≡◌, ◌≤◌, List, [], length, Option, Some, None, option_map}
use Rattle.lw_words.specs.declared.kept.KeptAnswer.{KeptAnswer}
use Rattle.lw_names.specs.Naming.{Naming}
use Rattle.lw_json.specs.KeptOver.{AreKeptOver}
use Rattle.lw_report.specs.Text.{names_of}
use Rattle.lw_report.specs.declared.outcome.Outcome.{Outcome}
use Rattle.lw_system.specs.Systems.{letters_of}
use Rattle.lw_learn.specs.Unread.{names_read}
use Rattle.lw_system.specs.declared.system.System.{System}

-- the outcome, the system if it was read, what is kept of prior answers, and the names of their outputs
pub record UnreadState : Type 0 where
  pub outcome : Outcome
  pub system : Option System
  pub kept : List KeptAnswer
  pub names : Option Naming

-- where answers are kept the names of their outputs are there, as the system that was read declares them, and the answers are
-- over its few letters and these
abbrev pub IsNamed : Option System → List KeptAnswer → Option Naming → Type 0
IsNamed system kept None = kept ≡ []
IsNamed system kept (Some naming) =
    (names_read system ≡ Some naming) × (length (names_of (option_map letters_of system)) ≤ 64) × AreKeptOver (length (names_of (option_map letters_of system))) (length naming.names) kept
