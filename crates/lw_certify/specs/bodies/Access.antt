-- The result of a search for access words.
use Rattle.std.specs.Prelude.{ℕ}
use Rattle.lw_mealy.specs.Machine.{Rows}
use Rattle.lw_separate.specs.Canonical.{AreLeastAccess}
use Rattle.lw_certify.specs.Verdict.{IsFirstUnreached}
use Rattle.lw_certify.specs.declared.certificate.Access.{Access}
use Rattle.lw_certify.specs.declared.certificate.Access.TheVariants.{Words, Unreached}

-- a word for each state, or the first state that has none
abbrev pub IsAccess : ℕ → Rows → Access → Type 0
IsAccess a h (Words words) = AreLeastAccess a h words
IsAccess a h (Unreached state) = IsFirstUnreached a h state
