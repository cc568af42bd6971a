-- Answers that cover a machine do so renamed.
use Rattle.std.proofs.Common.{◌≡◌, ◌≢◌, ℕ, ◌<◌, List, [], ◌++◌, length, take, get_or, refl, sym, ap, ◌∙◌, subst}
use Rattle.std.proofs.lemmas.List.Elements.{All-drop, All-take}
use Rattle.std.proofs.lemmas.List.{drop_at}
use Rattle.lw_words.specs.Word.{Answer, AreAnswers, IsWord}
use Rattle.lw_mealy.specs.Machine.{Rows, IsMachine, after, out}
use Rattle.lw_mealy.proofs.WordLemmas.{after_below}
use Rattle.lw_cache.specs.Known.{IsKnown}
use Rattle.lw_cache.proofs.KnownLemmas.{known_is_read}
use Rattle.lw_cache.proofs.ReadLemmas.{read_is_word}
use Rattle.lw_chunks.proofs.LetterLemmas.{joined_words}
use Rattle.lw_apart.specs.Covers.{ApartWhereDifferent, Covers}
use Rattle.lw_renumber.specs.Renaming.{Renames, renamed_rows, renamed_answers}
use Rattle.lw_renumber.proofs.ClashLemmas.{known_stays}
use Rattle.lw_renumber.proofs.MachineLemmas.{after_is, out_is, states_same, gives_too, minimal_too, told_apart}
use Rattle.lw_renumber.proofs.SuiteLemmas.{access_too}

-- what stands behind a word in a known one is a word
suffix_word : (a : ℕ) (ks : List Answer) (u w : List ℕ) → AreAnswers a ks → IsKnown ks (u ++ w) → IsWord a w
suffix_word a ks u w are known =
    let r = (known_is_read ks (u ++ w)).0 known in
    subst (IsWord a) (drop_at u w (length u) refl) (All-drop (λ (x : ℕ). x < a) (length u) (u ++ w) (read_is_word a ks (u ++ w) r.0 are r.1))

module _ (f g : ℕ → ℕ) (r : Renames f g) (a : ℕ) (h : Rows) (ks : List Answer) (machine : IsMachine a h) (are : AreAnswers a ks) where
  known_too : (w : List ℕ) → IsKnown ks w → IsKnown (renamed_answers f ks) w
  known_too w = (known_stays f g r a ks are w).1

  -- outputs that differ on a word do so renamed
  differ_still : (p q : ℕ) (w : List ℕ) → p < length h → q < length h → IsWord a w → out h p w ≢ out h q w → out (renamed_rows f h) p w ≢ out (renamed_rows f h) q w
  differ_still p q w lp lq word other same =
      other (told_apart f g r (out h p w) (out h q w) (sym (out_is f a h p w machine lp word) ∙ (same ∙ out_is f a h q w machine lq word)))

  apart_too : (u v : List ℕ) → IsWord a u → IsWord a v → ApartWhereDifferent h ks u v → ApartWhereDifferent (renamed_rows f h) (renamed_answers f ks) u v
  apart_too u v wu wv apart other =
      let p : ℕ = after h 0 u in
      let q : ℕ = after h 0 v in
      let c = apart (λ e. other (after_is f h 0 u ∙ (e ∙ sym (after_is f h 0 v)))) in
      let word : IsWord a c.suffix = suffix_word a ks u c.suffix are c.one in
      record {
        suffix = c.suffix;
        one = known_too (u ++ c.suffix) c.one;
        other = known_too (v ++ c.suffix) c.other;
        differ = λ same. differ_still p q c.suffix (after_below a h u 0 machine machine.some_state wu) (after_below a h v 0 machine machine.some_state wv) word c.differ
            (ap (λ (s : ℕ). out (renamed_rows f h) s c.suffix) (sym (after_is f h 0 u)) ∙ (same ∙ ap (λ (s : ℕ). out (renamed_rows f h) s c.suffix) (after_is f h 0 v)));
      }

  pub covers_too : (k : ℕ) → Covers a h ks k → Covers a (renamed_rows f h) (renamed_answers f ks) k
  covers_too k c =
      let n : length (renamed_rows f h) ≡ length h = states_same f h in
      let below : (q : ℕ) → q < length (renamed_rows f h) → q < length h = λ q lt. subst (λ (s : ℕ). q < s) n lt in
      let word : (q : ℕ) → q < length h → IsWord a (get_or c.access q []) = λ q lt. (c.least.words q lt).does.0 in
      record {
        minimal = minimal_too f g a h r machine c.minimal;
        gives = gives_too f a h ks machine are c.gives;
        access = c.access;
        least = access_too f a h c.access c.least;
        known = λ q w lq is le. known_too (get_or c.access q [] ++ w) (c.known q w (below q lq) is le);
        apart = λ p q w lp lq is le.
            apart_too (get_or c.access p []) (get_or c.access q [] ++ w) (word p (below p lp)) (joined_words a (get_or c.access q []) w (word q (below q lq)) is) (c.apart p q w (below p lp) (below q lq) is le);
        along = λ q w i j lq is len some lo hi.
            apart_too (get_or c.access q [] ++ take i w) (get_or c.access q [] ++ take j w)
            (joined_words a (get_or c.access q []) (take i w) (word q (below q lq)) (All-take (λ (x : ℕ). x < a) i w is))
            (joined_words a (get_or c.access q []) (take j w) (word q (below q lq)) (All-take (λ (x : ℕ). x < a) j w is))
            (c.along q w i j (below q lq) is len some lo hi);
      }
