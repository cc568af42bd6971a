-- What a file that is to be a journal holds, and what is appended to it.
use Rattle.std.specs.Prelude.{◌⊎◌, ℕ, ◌==◌, List, [], ◌∷◌, Bool, true, false, Option, if◌then◌else◌}
use Rattle.std.specs.List.{starts_with}
use Rattle.std.specs.Io.KnownBytes.{Appends, Keeps}
use Rattle.lw_json.specs.Journal.{journal_start}

-- the bytes are the first that a journal begins with
abbrev pub is_scrap : List ℕ → Bool
is_scrap bytes = starts_with (λ a b. a == b) journal_start bytes

-- a quote and a bracket end a run, and a line feed its line

-- whether this byte ends the line of a run, where so many of a quote and a bracket stand before it
unfoldable pub ends_run : ℕ → ℕ → Bool
ends_run place b = if place == 2 then b == 10 else false

-- how many of them stand before what follows it
unfoldable pub next_place : ℕ → ℕ → ℕ
next_place place b = if b == 34 then 1 else if place == 1 then (if b == 93 then 2 else 0) else 0

-- whether the line of a run ends among these bytes, where so many stand before them
unfoldable pub has_run : ℕ → List ℕ → Bool
has_run place [] = false
has_run place (b ∷ bs) = if ends_run place b then true else has_run (next_place place b) bs

-- nothing was appended, or the line feed that ends a line which was cut
abbrev pub StartsLine : Option (List ℕ) → Option (List ℕ) → Type 0
StartsLine old new = Keeps old new ⊎ Appends old new (10 ∷ [])

-- a line was appended as it is, or behind the line feed that ends a line which was cut
abbrev pub AppendsLine : Option (List ℕ) → Option (List ℕ) → List ℕ → Type 0
AppendsLine old new line = Appends old new line ⊎ Appends old new (10 ∷ line)
