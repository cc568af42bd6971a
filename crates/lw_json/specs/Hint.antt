-- The members of a setup by their names, and the hint at one that a setup doesn't know.
use Rattle.std.specs.Prelude.{List, [], ◌∷◌, ◌++◌, ℕ, Bool, not, ◌||◌, ◌&&◌, ◌==◌, nat_lt, codes, Option, Some, None, option_and_then, if◌then◌else◌}
use Rattle.std.specs.List.{flat_map}
use Rattle.std.specs.Str.{bytes_eq}
use Rattle.hex.specs.Hex.{encode_lower}
use Rattle.serde_json.specs.Data.{Data, Members, member, no_members}
use Rattle.serde_json.specs.Find.{as_object}

-- a setup knows a member of this name
abbrev pub is_known : List ℕ → Bool
is_known name = bytes_eq name (codes "table") || (bytes_eq name (codes "command") || (bytes_eq name (codes "inputs") || bytes_eq name (codes "outputs")))

-- the first member that it doesn't know; an object has its members in the order of their names
abbrev pub first_unknown : Members → Option (List ℕ)
first_unknown no_members = None
first_unknown (member name d rest) = if is_known name then first_unknown rest else Some name

abbrev pub unknown_in : Data → Option (List ℕ)
unknown_in d = option_and_then first_unknown (as_object d)

-- printable ASCII, and neither the quote nor the backslash
abbrev pub is_unescaped : ℕ → Bool
is_unescaped b = not (nat_lt b 32) && (nat_lt b 127 && (not (b == 34) && not (b == 92)))

-- a plain byte is printed as it is, each other one by two hexadecimal digits
abbrev pub printed : ℕ → List ℕ
printed b = if is_unescaped b then b ∷ [] else codes "\\x" ++ encode_lower (b ∷ [])

-- the hint at a member of this name
abbrev pub hint_text : List ℕ → List ℕ
hint_text name = codes "unknown member \"" ++ (flat_map printed name ++ codes "\" in setup\n")

-- what is reported of a setup's members: the first unknown one, or nothing where each is known
abbrev pub hint_line : Option (List ℕ) → List ℕ
hint_line None = []
hint_line (Some name) = hint_text name

abbrev pub hint_of : Data → List ℕ
hint_of d = hint_line (unknown_in d)
