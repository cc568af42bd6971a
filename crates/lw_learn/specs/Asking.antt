-- The words that are asked before the rounds of a learning: those of a file, and drawn ones.
use Rattle.std.specs.Prelude.{◌≡◌, ◌⊎◌, ℕ, List, [], ◌∷◌, ◌++◌, length, true, false, Option, Some, None}
use Rattle.std.specs.Str.Lossy.{utf8_lossy}
use Rattle.lw_words.specs.Cause.{CountedFault}
use Rattle.lw_words.specs.declared.kept.KeptAnswer.{KeptAnswer}
use Rattle.lw_draw.specs.Drawn.{drawn_words}
use Rattle.lw_wordlist.specs.Lines.{lines_in}
use Rattle.lw_wordlist.specs.Words.{IsFirstUnknown, words_of_texts}
use Rattle.lw_outside.specs.Files.{File, HoldsLong, read_call, FilesState, ReadsFile, WasRead}
use Rattle.lw_report.specs.declared.outcome.Outcome.{Outcome}
use Rattle.lw_report.specs.declared.outcome.Outcome.TheVariants.{FileFault, FileTooLong, NoMemory, UnknownLetter}
use Rattle.lw_report.specs.declared.role.Role.TheVariants.{Words}
use Rattle.lw_learn.specs.Arguments.{LearnValues}
use Rattle.lw_learn.specs.Tasks.{ReadsTask}
use Rattle.lw_system.specs.Systems.{letters_of}
use Rattle.lw_system.specs.Reads.{MadeReads, MadeSomeReads}
use Rattle.lw_draw.specs.declared.drawing.Drawn.{Drawn}
use Rattle.lw_system.specs.declared.system.System.{System}

-- the bytes of a file say these words over the letters, one a line; bytes that are no UTF-8 are in no name
abbrev pub IsWordsFile : (letters : List (List ℕ)) → List ℕ → List (List ℕ) → Type 0
IsWordsFile letters bytes words = words_of_texts letters (lines_in (utf8_lossy bytes)) ≡ Some words

-- the bytes that were read of a file of words, where one is named, say these
abbrev pub ReadsWords : Option (List ℕ) → (letters : List (List ℕ)) → Option (List File) → (before after : List File) → List (List ℕ) → Type 0
ReadsWords None letters holds before after words = (after ≡ before) × (words ≡ [])
ReadsWords (Some name) letters holds before after words = ReadsFile (IsWordsFile letters) name holds before after words

-- the words of a seed, this many of such a length over this many letters, where some are to be drawn
abbrev pub AreDrawn : Option Drawn → ℕ → List (List ℕ) → Type 0
AreDrawn None letters words = words ≡ []
AreDrawn (Some d) letters words = words ≡ drawn_words letters d.count d.length d.seed

-- the words that are asked first: the file's, then drawn ones
pub record SaysWords (a : LearnValues) (letters : List (List ℕ)) (holds : Option (List File)) (before after : List File) (words : List (List ℕ)) : Type 0 where
  pub named : List (List ℕ)
  pub drawn : List (List ℕ)
  pub whole : words ≡ named ++ drawn
  pub read : ReadsWords a.words letters holds before after named
  pub made : AreDrawn a.drawn (length letters) drawn

-- a name of a line is no letter's, the first one
pub record ReadsUnknown (name : List ℕ) (letters : List (List ℕ)) (holds : Option (List File)) (before after : List File) (line place : ℕ) : Type 0 where
  pub bytes : List ℕ
  pub read : WasRead holds before after name bytes
  pub first : IsFirstUnknown letters (lines_in (utf8_lossy bytes)) line place

-- why there are no words to ask, by the outcome: the file that is named for them, files being f and then g, or memory ran out
abbrev pub IsWordless : Option (List ℕ) → (letters : List (List ℕ)) → (files_before files_now : FilesState) → Outcome → Type 0
IsWordless file letters files_before files_now (FileFault role) = (role ≡ Words) × ((name : List ℕ) × (file ≡ Some name) × CountedFault files_before.faults files_now.faults × (files_now.reads ≡ files_before.reads) × MadeReads files_before files_now (read_call name true ∷ []))
IsWordless file letters files_before files_now (FileTooLong role) = (role ≡ Words) × ((name : List ℕ) × (file ≡ Some name) × HoldsLong files_before.holds name × (files_now.reads ≡ files_before.reads) × MadeReads files_before files_now (read_call name false ∷ []))
IsWordless file letters files_before files_now (UnknownLetter line place) = (name : List ℕ) × (file ≡ Some name) × ReadsUnknown name letters files_before.holds files_before.reads files_now.reads line place × MadeReads files_before files_now []
IsWordless file letters files_before files_now NoMemory = MadeSomeReads files_before files_now
IsWordless file letters files_before files_now _ = ⊥

-- no learning began though the files said what is to be learned, for there are no words to ask, as the outcome says, or memory
-- ran out in place of that; the prior answers are kept
pub record IsWordlessTask (a : LearnValues) (files_before files_now : FilesState) (read : Option System) (kept : List KeptAnswer) (outcome : Outcome) : Type 0 where
  pub system : System
  pub between : FilesState
  pub read_is : read ≡ Some system
  pub task : ReadsTask a files_before.holds files_before.reads between.reads system kept
  pub made : MadeReads files_before between []
  pub quiet : between.faults ≡ files_before.faults
  pub same : between.holds ≡ files_before.holds
  pub why : Outcome
  pub because : IsWordless a.words (letters_of system) between files_now why
  pub told : (outcome ≡ why) ⊎ (outcome ≡ NoMemory)
