-- The lines of a log, each of which ends in a line feed.
use Rattle.std.specs.Prelude.{◌≡◌, ◌<◌, ◌≤◌, ℕ, Bool, List, [], ◌∷◌, ◌++◌, length, codes, if◌then◌else◌, nat_le, ◌==◌, ◌&&◌, not}
use Rattle.std.specs.Fmt.{decimal}
use Rattle.std.specs.List.{All, flat_map}
use Rattle.hex.specs.Hex.{encode_lower}
use Rattle.lw_words.specs.Word.{word_text}
use Rattle.lw_rounds.specs.declared.watcher.Phase.{Phase}
use Rattle.lw_rounds.specs.declared.watcher.Phase.TheVariants.{Words, Table, Suite, Walks, Analysis, Settling}
use Rattle.lw_rounds.specs.declared.watcher.Step.{Step}

abbrev pub phase_name : Phase → List ℕ
phase_name Words = codes "words"
phase_name Table = codes "table"
phase_name Suite = codes "suite"
phase_name Walks = codes "walks"
phase_name Analysis = codes "analysis"
phase_name Settling = codes "settling"

-- where a learning stands after a step
abbrev pub counts_text : (states asked known refinements : ℕ) → List ℕ
counts_text states asked known refinements =
    codes "states " ++ (decimal states ++ (codes ", asked " ++ (decimal asked ++ (codes ", known " ++ (decimal known ++ (codes ", refinements " ++ decimal refinements))))))

-- what a step did, and where the learning stands after it
abbrev pub step_line : Step → List ℕ
step_line s = codes "round " ++ (decimal s.round ++ (codes " " ++ (phase_name s.phase ++ (codes ": " ++ (counts_text s.states s.asked s.known s.refinements ++ codes "\n")))))

-- a run that was cut before it was asked a letter
abbrev pub cut_in_reset_line : ℕ → List ℕ
cut_in_reset_line instance = codes "instance " ++ (decimal instance ++ codes ": cut in a reset\n")

-- a run that was cut behind the letter with this number, counted from 1, of a word with these names
abbrev pub place_line : (instance place : ℕ) (names : List ℕ) → List ℕ
place_line instance place names =
    codes "instance " ++ (decimal instance ++ (codes ": cut at place " ++ (decimal place ++ (codes " of: " ++ (names ++ codes "\n")))))

-- the letters that a run was asked before it was cut, joined by one blank
abbrev pub cut_line : ℕ → List (List ℕ) → List ℕ → List ℕ
cut_line instance letters asked =
    if length asked == 0 then cut_in_reset_line instance else place_line instance (length asked) (word_text letters asked)

-- a byte that stands for itself: from a blank to a tilde, and no backslash
abbrev pub is_plain : ℕ → Bool
is_plain b = nat_le 32 b && nat_le b 126 && not (b == 92)

-- a byte as printable text: a backslash twice, and all that isn't printable as two lower case digits
abbrev pub escaped : ℕ → List ℕ
escaped b = if is_plain b then b ∷ [] else if b == 92 then codes "\\\\" else codes "\\x" ++ encode_lower (b ∷ [])

-- a byte of printable text
abbrev pub IsPrintable : ℕ → Type 0
IsPrintable b = (32 ≤ b) × (b ≤ 126)

-- all bytes are written as printable text, so none of them breaks a line
abbrev pub TellsPrintably : Type 0
TellsPrintably = (bytes : List ℕ) → All (λ b. b < 256) bytes → All IsPrintable (flat_map escaped bytes)

-- no two texts of bytes are written alike
abbrev pub LosesNothing : Type 0
LosesNothing =
    (a b : List ℕ) → All (λ x. x < 256) a → All (λ x. x < 256) b → flat_map escaped a ≡ flat_map escaped b → a ≡ b

-- the last line that was received, without its line feed
abbrev pub received_line : List ℕ → List ℕ
received_line line = codes "received: " ++ (flat_map escaped line ++ codes "\n")

-- what was received after that
abbrev pub rest_line : List ℕ → List ℕ
rest_line rest = codes "rest: " ++ (flat_map escaped rest ++ codes "\n")
