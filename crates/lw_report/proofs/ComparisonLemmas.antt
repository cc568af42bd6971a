-- Lists of names in texts.
use Rattle.std.proofs.Common.{◌≡◌, ◌∙◌, ◌++◌, List, [], ◌∷◌, ℕ, refl, sym, ap, codes, map, string_bytes}
use Rattle.std.specs.Prelude.{String}
use Rattle.std.specs.List.{join_by}
use Rattle.std.specs.declared.alloc.Global.{Global}
use Rattle.std.proofs.lemmas.List.Folds.{flat_map-map}
use Rattle.lw_report.specs.Text.{joined_names}

of_texts : (texts : List (String Global)) → join_by (λ n. string_bytes n) (codes " ") texts ≡ joined_names (map (λ n. string_bytes n) texts)
of_texts [] = refl
of_texts (t ∷ ts) = ap (λ rest. string_bytes t ++ rest) (sym (flat_map-map (λ y. codes " " ++ y) (λ n. string_bytes n) ts))

-- texts that are these names
pub joined_of : (texts : List (String Global)) (names : List (List ℕ)) → map (λ n. string_bytes n) texts ≡ names → join_by (λ n. string_bytes n) (codes " ") texts ≡ joined_names names
joined_of texts names is = of_texts texts ∙ ap joined_names is
