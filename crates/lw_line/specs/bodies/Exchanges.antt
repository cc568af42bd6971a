-- Lines that are sent over a link, and what is received for them.
use Rattle.std.specs.Prelude.{◌≡◌, ◌≢◌, ◌⊎◌, ℕ, List, [], ◌∷◌, ◌++◌, codes, Option, None, option_map}
use Rattle.std.specs.Str.Lines.{strip_carriage_return}
use Rattle.lw_words.specs.Word.{IsName}
use Rattle.lw_words.specs.declared.stop.SulStop.{SulStop}
use Rattle.lw_words.specs.declared.stop.SulStop.TheVariants.{Failed, BadLine}
use Rattle.lw_outside.specs.Links.{Transcript, SendsPart, sends}
use Rattle.lw_outside.specs.Protocol.{out_line}
use Rattle.lw_line.specs.Causes.{IsUnknown}
use Rattle.lw_line.specs.Transcripts.{number_behind}
use Rattle.lw_line.specs.bodies.Pieces.{HasLine, EndsOpen}

-- a line with its line feed
abbrev pub ended : List ℕ → List ℕ
ended line = line ++ 10 ∷ []

-- these bytes were sent, and a line was received for them
pub record IsAnswered (bytes held now answer : List ℕ) (before after : Option Transcript) : Type 0 where
  pub raw : List ℕ
  pub received : HasLine held now raw (option_map (sends bytes) before) after
  pub stripped : answer ≡ strip_carriage_return raw

-- these bytes have no good answer: they weren't all sent, no line was received for them, or a bad one
abbrev pub IsRefusal : (List ℕ → Type 0) → List ℕ → List ℕ → List ℕ → SulStop → Option Transcript → Option Transcript → Type 0
IsRefusal IsBad bytes held now stop before after =
    ((stop ≡ Failed) × SendsPart bytes before after)
    ⊎ EndsOpen held stop (option_map (sends bytes) before) after
    ⊎ ((answer : List ℕ) × (stop ≡ BadLine answer) × IsAnswered bytes held now answer before after × IsBad answer)

-- an answer names no output, or one that isn't in the list, which may have no more names
abbrev pub NamesNone : List (List ℕ) → ℕ → List ℕ → Type 0
NamesNone names most answer =
    (number_behind (codes "out ") names answer ≡ None)
    × (((name : List ℕ) → IsName name → answer ≢ out_line name) ⊎ IsUnknown names most answer)
