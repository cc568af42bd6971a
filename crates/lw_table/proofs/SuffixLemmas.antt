-- A table with a suffix more.
use Rattle.std.proofs.Common.{◌≡◌, ◌≢◌, inl, ℕ, ◌+◌, ◌<◌, List, [], ◌∷◌, ◌++◌, length, refl, ap, sym, ◌∙◌, subst, arith, append-nil}
use Rattle.std.proofs.Math.ListN.{get_or-append}
use Rattle.std.proofs.lemmas.List.{length-append, take-append-le}
use Rattle.std.proofs.lemmas.List.Elements.{All-push}
use Rattle.lw_words.specs.Word.{Answer, IsWord}
use Rattle.lw_cache.specs.Cut.{word_at}
use Rattle.lw_cache.specs.Known.{Reads}
use Rattle.lw_table.specs.Grown.{HasGrown}
use Rattle.lw_table.specs.Table.{TableState, row_number, row_at, IsTable, RowIsRead, CellsAreRead}
use Rattle.lw_table.specs.bodies.Growing.{with_suffix}
use Rattle.lw_table.proofs.CellLemmas.{enough_suffixes}
use Rattle.lw_table.proofs.RowLemmas.{home_row}

module _ (t : TableState) (e : List ℕ) (g : IsTable t) where
  longer : length (t.suffixes ++ e ∷ []) ≡ length t.suffixes + 1
  longer = length-append t.suffixes (e ∷ [])

  suffix_stays : (k : ℕ) → k < length t.suffixes → word_at (t.suffixes ++ e ∷ []) k ≡ word_at t.suffixes k
  suffix_stays k lt = get_or-append t.suffixes (e ∷ []) [] k lt

  pub suffixed : IsWord t.inputs e → e ≢ [] → IsTable (with_suffix t e)
  suffixed letters some =
      record {
        inputs = g.inputs;
        outputs = g.outputs;
        most = g.most;
        some = g.some;
        few = g.few;
        words = g.words;
        rows = g.rows;
        each_home = g.each_home;
        homes = g.homes;
        letters = take-append-le t.inputs t.suffixes (e ∷ []) (enough_suffixes t g) ∙ g.letters;
        suffixes = All-push (λ w. IsWord t.inputs w × (w ≢ [])) t.suffixes e g.suffixes (letters, some);
        shape = λ j d lt. let was = g.shape j d lt in record {
          few = omega (arith, was.few, longer);
          whole = λ k le. was.whole k le ∙ ap (λ (w : List ℕ). length w) (sym (suffix_stays k (omega (arith, le, was.few))));
          below = was.below;
        };
        even = g.even;
        differ = g.differ;
        refined = g.refined;
      }

  row_read : (ks : List Answer) (w : List ℕ) (j : ℕ) → j < length t.cells → RowIsRead ks w t.suffixes (row_at t j) → RowIsRead ks w (t.suffixes ++ e ∷ []) (row_at t j)
  row_read ks w j lt was k le =
      let r = was k le in
      let few = (g.shape j [] lt).few in
      (r.0, subst (λ (s : List ℕ). Reads ks (w ++ s) r.0) (sym (suffix_stays k (omega (arith, le, few)))) r.1, r.2)

  pub suffix_read : (ks : List Answer) → CellsAreRead ks t → CellsAreRead ks (with_suffix t e)
  suffix_read ks read =
      record {
        first = row_read ks [] 0 (omega (arith, g.rows)) read.first;
        extensions = λ q x lt small. row_read ks (word_at t.access q ++ x ∷ []) (row_number t.inputs q x) (home_row t.inputs (length t.access) q x (row_number t.inputs q x) (length t.cells) lt small refl g.rows) (read.extensions q x lt small);
      }

  pub suffix_grown : (ks : List Answer) → IsWord t.inputs e → e ≢ [] → CellsAreRead ks t → HasGrown ks t (with_suffix t e)
  suffix_grown ks letters some read =
      record {
        inputs = refl;
        outputs = refl;
        most = refl;
        more = [];
        access = sym (append-nil t.access);
        rows = λ j. ([], sym (append-nil (row_at t j)));
        longer = omega arith;
        whole = inl (λ j. refl);
        each_new = λ j ge lt. absurd (omega (arith, ge, lt));
        homes = λ q lt. refl;
        table = suffixed letters some;
        read = suffix_read ks read;
      }
