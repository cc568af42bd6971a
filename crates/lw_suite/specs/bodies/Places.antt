-- Places in a suite, by the number of an access word with a middle word, and the number of an end.
use Rattle.std.specs.Prelude.{◌≡◌, ℕ, ◌+◌, ◌*◌, ◌<◌, ◌≤◌, List, [], ◌∷◌, ◌++◌, length, slice_index_or}
use Rattle.lw_chunks.specs.Middle.{each_with, words_up_to, suite_of}
use Rattle.lw_suite.specs.declared.parts.Parts.{Parts}
use Rattle.lw_chunks.specs.declared.chunks.Place.{Place}

-- each access word with each middle word
abbrev pub fronts : Parts → List (List ℕ)
fronts p = each_with (λ u v. u ++ v) p.access (words_up_to p.inputs p.longest)

-- nothing, and each word at the end
abbrev pub ends : Parts → List (List ℕ)
ends p = [] ∷ p.ends

abbrev pub all_words : Parts → List (List ℕ)
all_words p = suite_of p.access (words_up_to p.inputs p.longest) p.ends

abbrev pub number_of : Parts → Place → ℕ
number_of p at = at.front * length (ends p) + at.end

-- the place is that of a word, or the first one past the end
pub record IsPlace (p : Parts) (at : Place) : Type 0 where
  pub end : at.end < length (ends p)
  pub within : number_of p at ≤ length p.access * p.middles * length (ends p)

-- the prefix of the word at the place, where there is one
abbrev pub IsFront : Parts → Place → List ℕ → Type 0
IsFront p at front = at.front < length p.access * p.middles → front ≡ slice_index_or (fronts p) at.front []
