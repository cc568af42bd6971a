-- Bytes that come in pieces, behind those that are held.
use Rattle.std.specs.Prelude.{◌≡◌, ◌≢◌, ℕ, List, ◌∷◌, ◌++◌, length, Option, option_map}
use Rattle.std.specs.List.{All}
use Rattle.lw_words.specs.declared.stop.SulStop.{SulStop}
use Rattle.lw_words.specs.declared.stop.SulStop.TheVariants.{Failed, BadLine, Gone}
use Rattle.lw_outside.specs.Links.{Transcript, receives}

-- no byte is a line feed
abbrev pub NoFeed : List ℕ → Type 0
NoFeed bytes = All (λ b. b ≢ 10) bytes

-- bytes were received over a link, and with those that were held they are all of these
pub record HasCome (held bytes : List ℕ) (before after : Option Transcript) : Type 0 where
  pub more : List ℕ
  pub told : after ≡ option_map (receives more) before
  pub whole : held ++ more ≡ bytes

-- a line was received, and behind it these bytes
pub record HasLine (held now raw : List ℕ) (before after : Option Transcript) : Type 0 where
  pub come : HasCome held (raw ++ 10 ∷ now) before after
  pub plain : NoFeed raw

-- no line was received, but these bytes of one
pub record IsOpen (held bytes : List ℕ) (before after : Option Transcript) : Type 0 where
  pub come : HasCome held bytes before after
  pub plain : NoFeed bytes

-- why no line was received
abbrev pub EndsOpen : List ℕ → SulStop → Option Transcript → Option Transcript → Type 0
EndsOpen held Failed before after = (bytes : List ℕ) × IsOpen held bytes before after
EndsOpen held Gone before after = (bytes : List ℕ) × IsOpen held bytes before after
EndsOpen held (BadLine line) before after = IsOpen held line before after × (length line ≡ 256)
