-- Names without `?`.
use Rattle.std.proofs.Common.{◌≡◌, ◌∙◌, ℕ, List, Some, None, ap, sym}
use Rattle.std.specs.List.{Contains}
use Rattle.std.proofs.lemmas.Option.{none-some, slice_get-get_or}
use Rattle.lw_words.specs.Word.{AllDiffer, number_of}
use Rattle.lw_words.proofs.NumberLemmas.{number_at_place}

-- a name that has no number isn't in the list
pub not_contained : (names : List (List ℕ)) (name : List ℕ) → AllDiffer names → number_of name names ≡ None → ¬ Contains names name
not_contained names name differ none h =
    none-some h.0 (sym none ∙ number_at_place names h.0 name differ (slice_get-get_or names h.0 name h.1 ∙ ap (λ (n : List ℕ). Some n) h.2))
