-- What is to be learned, by the files that were read: a system, and the answers that are there of it.
use Rattle.std.specs.Prelude.{◌≡◌, ℕ, List, [], Option, Some, None}
use Rattle.lw_words.specs.declared.kept.KeptAnswer.{KeptAnswer}
use Rattle.lw_json.specs.Formats.{IsAnswersFile}
use Rattle.lw_json.specs.declared.files.Answers.{Answers}
use Rattle.lw_outside.specs.Files.{File, ReadsFile}
use Rattle.lw_prior.specs.Prior.{prior_answers}
use Rattle.lw_system.specs.Goals.{ReadsSystemFor}
use Rattle.lw_system.specs.Systems.{FitsSystem, declared_of, or_these}
use Rattle.lw_system.specs.declared.system.System.{System}
use Rattle.lw_system.specs.declared.system.System.TheVariants.{Table, Children}
use Rattle.lw_learn.specs.Arguments.{LearnValues}

-- a system with these names of outputs, where none were declared
abbrev pub with_outputs : List (List ℕ) → System → System
with_outputs names (Table m) = Table m
with_outputs names (Children c) = Children (record { words = c.words; inputs = c.inputs; outputs = Some (or_these names c.outputs) })

-- the bytes that were read of a file of prior answers, where there is one, say these of the system, whose outputs have the
-- file's names where none were declared
abbrev pub ReadsPrior : Option (List ℕ) → Option (List File) → List File → List File → (read s : System) → List KeptAnswer → Type 0
ReadsPrior None holds before after read s prior = (after ≡ before) × (s ≡ read) × (prior ≡ [])
ReadsPrior (Some name) holds before after read s prior =
    (p : Answers)
    × ReadsFile IsAnswersFile name holds before after p
    × FitsSystem p read
    × (s ≡ with_outputs p.outputs read)
    × (prior ≡ prior_answers p.outputs (or_these p.outputs (declared_of read)) p.kept.answers)

-- the files that were read say this system and these prior answers
pub record ReadsTask (a : LearnValues) (holds : Option (List File)) (before after : List File) (s : System) (prior : List KeptAnswer) : Type 0 where
  pub between : List File
  pub read : System
  pub system : ReadsSystemFor a.goal a.source a.system holds before between read
  pub answers : ReadsPrior a.prior holds between after read s prior
