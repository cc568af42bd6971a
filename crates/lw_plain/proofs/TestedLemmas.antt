-- The words of a suite, tested chunk by chunk.
use Rattle.std.proofs.Common.{◌≡◌, ◌≢◌, ⊎_elim, ℕ, ◌+◌, ◌-◌, ◌*◌, ◌/◌, ◌<◌, ◌≤◌, List, [], ◌∷◌, ◌++◌, length, take, drop, get_or, Some, None, refl, ap, sym, ◌∙◌, subst, arith, append_assoc, append-nil, length-drop}
use Rattle.std.specs.List.{All}
use Rattle.std.proofs.lemmas.Bool.{cases_lt}
use Rattle.std.proofs.lemmas.List.{length-take, get_or-take, get_or-drop, drop-drop, drop_all, take_all}
use Rattle.std.proofs.lemmas.List.Elements.{All-nil, All-append}
use Rattle.std.proofs.lemmas.List.FromFn.{map-range_with_len_more}
use Rattle.std.proofs.Math.Seq.{take-add}
use Rattle.lw_words.specs.First.{FailsFirst}
use Rattle.lw_mealy.specs.Machine.{Rows}
use Rattle.lw_plain.specs.Table.{PlainTable, with_batches}
use Rattle.lw_plain.specs.Rounds.{AgreesOn, IsShortest, chunk_at, first_chunks}
use Rattle.lw_plain.specs.Tested.{FailsAt, TestsWords, HasTested}

pub with_none : (t : PlainTable) → t ≡ with_batches t []
with_none t = ap (λ (bs : List (List (List ℕ))). record t { batches = bs }) (sym (append-nil t.batches))

with_both : (t : PlainTable) (xs ys : List (List (List ℕ))) → with_batches (with_batches t xs) ys ≡ with_batches t (xs ++ ys)
with_both t xs ys = ap (λ (bs : List (List (List ℕ))). record t { batches = bs }) (append_assoc t.batches xs ys)

module _ (m h : Rows) (words : List (List ℕ)) where
  pub tested_none : (t : PlainTable) → HasTested m h words words t t
  tested_none t = record {
    number = 0;
    rest = refl;
    few = omega arith;
    agrees = All-nil (AgreesOn m h);
    is = with_none t;
  }

  -- words are left of those after so many chunks
  left_some : (n : ℕ) (left : List (List ℕ)) → left ≡ drop (512 * n) words → left ≢ [] → 512 * n < length words
  left_some n left is some =
      ⊎_elim
      (λ (lt : 512 * n < length words). lt)
      (λ (le : length words ≤ 512 * n). absurd (some (is ∙ drop_all (512 * n) words le)))
      (cases_lt (512 * n) (length words))

  chunks_more : (n : ℕ) → first_chunks words (n + 1) ≡ first_chunks words n ++ chunk_at words n ∷ []
  chunks_more n = map-range_with_len_more (chunk_at words) 0 n n (omega arith)

  -- a chunk more
  asked_on : (n : ℕ) (left chunk : List (List ℕ)) (before now next : PlainTable) → left ≡ drop (512 * n) words → chunk ≡ take 512 left → now ≡ with_batches before (first_chunks words n)
      → next ≡ with_batches now (chunk ∷ []) → next ≡ with_batches before (first_chunks words (n + 1))
  asked_on n left chunk before now next rest part is more =
      let chunk_is : chunk ≡ chunk_at words n = part ∙ ap (λ (l : List (List ℕ)). take 512 l) rest in
      more ∙ (ap (λ (t : PlainTable). with_batches t (chunk ∷ [])) is
      ∙ (with_both before (first_chunks words n) (chunk ∷ [])
      ∙ ap (λ (bs : List (List (List ℕ))). with_batches before bs) (ap (λ (c : List (List ℕ)). first_chunks words n ++ c ∷ []) chunk_is ∙ sym (chunks_more n))))

  pub tested_more : (left chunk rest : List (List ℕ)) (before now next : PlainTable) → HasTested m h words left before now → left ≢ [] → chunk ≡ take 512 left → rest ≡ drop 512 left
      → All (AgreesOn m h) chunk → next ≡ with_batches now (chunk ∷ []) → HasTested m h words rest before next
  tested_more left chunk rest before now next tested some part after agrees more =
      let n = tested.number in
      let lt = left_some n left tested.rest some in
      let long : 512 * n + 512 ≡ 512 * (n + 1) = omega arith in
      record {
        number = n + 1;
        rest = after ∙ (ap (λ (l : List (List ℕ)). drop 512 l) tested.rest ∙ (drop-drop 512 (512 * n) words ∙ ap (λ (k : ℕ). drop k words) long));
        few = omega arith;
        agrees =
            let both = All-append (AgreesOn m h) (take (512 * n) words) chunk tested.agrees agrees in
            let whole : take (512 * n) words ++ chunk ≡ take (512 * (n + 1)) words =
            ap (λ (c : List (List ℕ)). take (512 * n) words ++ c) (part ∙ ap (λ (l : List (List ℕ)). take 512 l) tested.rest)
            ∙ (sym (take-add (512 * n) 512 words) ∙ ap (λ (k : ℕ). take k words) long) in
            subst (λ (ws : List (List ℕ)). All (AgreesOn m h) ws) whole both;
        is = asked_on n left chunk before now next tested.rest part tested.is more;
      }

  pub tested_all : (left : List (List ℕ)) (before now : PlainTable) → HasTested m h words left before now → left ≡ [] → TestsWords m h words before now None
  tested_all left before now tested none =
      let n = tested.number in
      let size : length words - 512 * n ≡ 0 = sym (length-drop (512 * n) words) ∙ ap (λ (l : List (List ℕ)). length l) (sym tested.rest ∙ none) in
      let le : length words ≤ 512 * n = omega (arith, size) in
      let few = tested.few in
      let count : n ≡ (length words + 511) / 512 = omega arith in
      record {
        asked = first_chunks words n;
        is = tested.is;
        comes = record {
          agrees = subst (λ (ws : List (List ℕ)). All (AgreesOn m h) ws) (take_all (512 * n) words le) tested.agrees;
          chunks = ap (λ (k : ℕ). first_chunks words k) count;
        };
      }

  -- a word of the chunk
  in_chunk : (n k : ℕ) (chunk : List (List ℕ)) (d : List ℕ) → chunk ≡ chunk_at words n → k < length chunk → get_or chunk k d ≡ get_or words (512 * n + k) d
  in_chunk n k chunk d is lt =
      let short = length-take 512 (drop (512 * n) words) in
      let size : length chunk ≡ length (chunk_at words n) = ap (λ (c : List (List ℕ)). length c) is in
      ap (λ (c : List (List ℕ)). get_or c k d) is ∙ (get_or-take 512 (drop (512 * n) words) k d (omega arith) ∙ get_or-drop (512 * n) words k d)

  fails_here : (n k : ℕ) (chunk : List (List ℕ)) → chunk ≡ chunk_at words n → All (AgreesOn m h) (take (512 * n) words) → FailsFirst (AgreesOn m h) chunk k → FailsFirst (AgreesOn m h) words (512 * n + k)
  fails_here n k chunk is old first =
      let short = length-take 512 (drop (512 * n) words) in
      let size : length chunk ≡ length (chunk_at words n) = ap (λ (c : List (List ℕ)). length c) is in
      let left = length-drop (512 * n) words in
      let within = first.within in
      record {
        within = omega arith;
        fails = λ d. subst (λ (w : List ℕ). ¬ AgreesOn m h w) (in_chunk n k chunk d is within) (first.fails d);
        before = λ j d ge lt. ⊎_elim
            (λ (front : j < 512 * n). subst (AgreesOn m h) (get_or-take (512 * n) words j d front) (old j d (let front_size = length-take (512 * n) words in omega arith)))
            (λ (back : 512 * n ≤ j).
            let place : 512 * n + (j - 512 * n) ≡ j = omega arith in
            subst (AgreesOn m h) (in_chunk n (j - 512 * n) chunk d is (omega arith) ∙ ap (λ (i : ℕ). get_or words i d) place) (first.before (j - 512 * n) d (omega arith) (omega arith)))
            (cases_lt j (512 * n));
      }

  pub tested_fails : (left chunk : List (List ℕ)) (word : List ℕ) (before now next : PlainTable) → HasTested m h words left before now → chunk ≡ take 512 left → next ≡ with_batches now (chunk ∷ [])
      → FailsAt m h chunk word → TestsWords m h words before next (Some word)
  tested_fails left chunk word before now next tested part more fails =
      let n = tested.number in
      let k = fails.number in
      let is : chunk ≡ chunk_at words n = part ∙ ap (λ (l : List (List ℕ)). take 512 l) tested.rest in
      let short = length-take 512 (drop (512 * n) words) in
      let size : length chunk ≡ length (chunk_at words n) = ap (λ (c : List (List ℕ)). length c) is in
      let within = fails.first.within in
      let small : k < 512 = omega arith in
      let count : n + 1 ≡ (512 * n + k) / 512 + 1 = omega arith in
      record {
        asked = first_chunks words (n + 1);
        is = asked_on n left chunk before now next tested.rest part tested.is more;
        comes = record {
          number = 512 * n + k;
          first = fails_here n k chunk is tested.agrees fails.first;
          here = subst (λ (w : List ℕ). IsShortest m h w word) (in_chunk n k chunk [] is within) fails.here;
          chunks = ap (λ (j : ℕ). first_chunks words j) count;
        };
      }
