-- The fronts and the words of a suite by a table, by number.
use Rattle.std.proofs.Common.{◌≡◌, ℕ, suc, ◌+◌, ◌-◌, ◌*◌, ◌/◌, ◌%◌, ◌^◌, ◌<◌, ◌≤◌, List, [], ◌∷◌, ◌++◌, length, get_or, All, refl, sym, ap, ◌∙◌, subst, arith}
use Rattle.std.proofs.Math.Nat.{mul-le-mul_right}
use Rattle.std.proofs.lemmas.List.{length-append, length-map, get_or-map, get_or_append_left, get_or-append_right}
use Rattle.std.proofs.lemmas.List.Elements.{All-append, All-get_or}
use Rattle.lw_words.specs.Word.{IsWord}
use Rattle.lw_mealy.specs.Machine.{after}
use Rattle.lw_chunks.specs.Size.{powers}
use Rattle.lw_chunks.specs.Middle.{each_with, words_of_length, words_up_to}
use Rattle.lw_chunks.proofs.EachLemmas.{length-each}
use Rattle.lw_chunks.proofs.LetterLemmas.{all_each, joined_words}
use Rattle.lw_chunks.proofs.MiddleLemmas.{among}
use Rattle.lw_chunks.proofs.SizeLemmas.{length-words_of, length-words_up_to, powers_more}
use Rattle.lw_separate.proofs.ListLemmas.{access_are_words}
use Rattle.lw_wp.specs.Tables.{words_behind, words_with, block}
use Rattle.lw_wp.specs.bodies.Cursors.{table_of, shorter_blocks, longest_blocks, blocks, left_from, ends_behind, end_of, AreParts, SplitsFront, SpellsFront, IsWithin, IsCursor}
use Rattle.lw_wp.specs.declared.cursor.Cursor.{Cursor}
use Rattle.lw_wp.specs.declared.parts.Parts.{Parts}
use Rattle.lw_wp.proofs.FlatLemmas.{next_of, next_block}
use Rattle.lw_wp.proofs.FrontLemmas.{each_number, words_shorter}

module _ (p : Parts) where
  abbrev pub with_two : List ℕ → List ℕ → List (List ℕ)
  with_two u v = words_with p.machine.rows p.extra p.ends (table_of p) u v

  -- a block has the front alone as its first word
  pub some_words : (number : ℕ) → number < length (blocks p) → 0 < length (get_or (blocks p) number [])
  some_words number lt =
      let Some' : List (List ℕ) → Type 0 = λ words. 0 < length words in
      let any : (mids : List (List ℕ)) → All Some' (each_with with_two p.access mids) =
      λ mids. all_each (λ (u : List ℕ). Unit {0}) (λ (v : List ℕ). Unit {0}) Some' with_two (λ u v x y. omega arith) p.access mids (λ i d li. tt) (λ i d li. tt) in
      All-get_or Some' (blocks p) number [] lt (All-append Some' (shorter_blocks p) (longest_blocks p) (any (words_up_to p.machine.inputs p.extra)) (any (words_of_length p.machine.inputs (p.extra + 1))))

  module _ (c : Cursor) (is : IsCursor p c) (some : c.place.front < length (blocks p)) where
    abbrev pub word_of : List ℕ
    word_of = c.front ++ end_of p c

    words_here : length (get_or (blocks p) c.place.front []) ≡ suc (length (ends_behind p c.row))
    words_here = ap length (is.front some) ∙ length-map ([] ∷ ends_behind p c.row) (λ (end : List ℕ). c.front ++ end)

    -- the place has a word
    pub end_within : c.place.end ≤ length (ends_behind p c.row)
    end_within = let l = words_here in let w = is.within.end some in omega (arith, l, w)

    -- the word there, and what is left behind it
    pub next_end : left_from p c.place ≡ word_of ∷ left_from p (record { front = c.place.front; end = c.place.end + 1 })
    next_end =
        let ends : List (List ℕ) = [] ∷ ends_behind p c.row in
        let le = end_within in
        let here : get_or (get_or (blocks p) c.place.front []) c.place.end [] ≡ word_of =
        ap (λ (words : List (List ℕ)). get_or words c.place.end []) (is.front some) ∙ get_or-map (λ (end : List ℕ). c.front ++ end) ends c.place.end [] [] (omega (arith, le)) in
        next_of (blocks p) c.place.front c.place.end [] some (is.within.end some)
        ∙ ap (λ (w : List ℕ). w ∷ left_from p (record { front = c.place.front; end = c.place.end + 1 })) here

    -- and where it is the last with its front
    pub next_front : length (ends_behind p c.row) ≤ c.place.end → left_from p c.place ≡ word_of ∷ left_from p (record { front = c.place.front + 1; end = 0 })
    next_front last =
        let l = words_here in
        let le = end_within in
        next_end ∙ ap (λ (ws : List (List ℕ)). word_of ∷ ws) (next_block (blocks p) c.place.front (c.place.end + 1) some (omega (arith, l, le, last)))

  pub at_start : IsWithin p (record { front = 0; end = 0 })
  at_start = record { front = omega arith; end = λ lt. some_words 0 lt }

module _ (p : Parts) (h : AreParts p) where
  abbrev a : ℕ
  a = p.machine.inputs

  pub length-shorter : length (shorter_blocks p) ≡ length p.access * p.shorter
  length-shorter = length-each (with_two p) p.access (words_up_to a p.extra) ∙ ap (λ (l : ℕ). length p.access * l) (length-words_up_to a p.extra ∙ sym h.shorter)

  length-longest : length (longest_blocks p) ≡ length p.access * p.longest
  length-longest = length-each (with_two p) p.access (words_of_length a (p.extra + 1)) ∙ ap (λ (l : ℕ). length p.access * l) (length-words_of a (p.extra + 1) ∙ sym h.longest)

  pub length-blocks : length (blocks p) ≡ length p.access * (p.shorter + p.longest)
  length-blocks =
      let l = length-append (shorter_blocks p) (longest_blocks p) in
      let u = length-shorter in
      let v = length-longest in
      omega (arith, l, u, v)

  all_middles : p.shorter + p.longest ≡ powers a (p.extra + 1)
  all_middles = let s = h.shorter in let l = h.longest in let m = powers_more a p.extra in omega (arith, s, l, m)

  -- there are few
  pub few_fronts : length p.access * (p.shorter + p.longest) ≤ 8388608
  few_fronts =
      let n : ℕ = length p.machine.rows in
      let each : length p.access ≡ n = h.least.each in
      let some : 1 ≤ n = let s = h.machine.some_state in omega (arith, s) in
      let more = mul-le-mul_right (n * powers a (p.extra + 1)) some in
      let size : n * n * powers a (p.extra + 1) ≤ 8388608 = h.bounded in
      let is : length p.access * (p.shorter + p.longest) ≡ n * powers a (p.extra + 1) = ap (λ (x : ℕ). x * (p.shorter + p.longest)) each ∙ ap (λ (x : ℕ). n * x) all_middles in
      omega (arith, is, more, size)

  pub few_shorter : length p.access * p.shorter ≤ 8388608
  few_shorter = let f = few_fronts in omega (arith, f)

  pub few_middles : p.shorter + p.longest ≤ 8388608
  few_middles =
      let each : length p.access ≡ length p.machine.rows = h.least.each in
      let some : 1 ≤ length p.access = let s = h.machine.some_state in omega (arith, s, each) in
      let more = mul-le-mul_right (p.shorter + p.longest) some in
      let f = few_fronts in
      omega (arith, more, f)

  up_to_more : words_up_to a (p.extra + 1) ≡ words_up_to a p.extra ++ words_of_length a (suc p.extra)
  up_to_more = let e : p.extra + 1 ≡ suc p.extra = omega arith in ap (words_up_to a) e

  -- a front with at most k letters behind an access word
  pub split_shorter : (front : ℕ) → front < length (shorter_blocks p) → (0 < p.shorter) × SplitsFront p front (front / p.shorter) (front % p.shorter)
  split_shorter front within =
      let lt : front < length p.access * p.shorter = omega (arith, length-shorter, within) in
      let long : length (words_up_to a p.extra) ≡ p.shorter = length-words_up_to a p.extra ∙ sym h.shorter in
      let n = each_number (with_two p) p.access (words_up_to a p.extra) p.shorter front [] long lt in
      let middle : front % p.shorter < length (words_up_to a p.extra) = omega (arith, long, n.2) in (
        n.0,
        record {
          access_within = n.1;
          middle_within = let m = all_middles in omega (arith, m, n.2);
          joined = get_or_append_left (shorter_blocks p) (longest_blocks p) [] front within
              ∙ (n.3
              ∙ ap (λ (v : List ℕ). with_two p (get_or p.access (front / p.shorter) []) v)
              (sym (ap (λ (ws : List (List ℕ)). get_or ws (front % p.shorter) []) up_to_more ∙ get_or_append_left (words_up_to a p.extra) (words_of_length a (suc p.extra)) [] (front % p.shorter) middle)));
        },
      )

  -- a front with k + 1 letters behind one
  pub split_longest : (front rest : ℕ) → length (shorter_blocks p) ≤ front → front < length (blocks p) → rest ≡ front - length (shorter_blocks p)
      → (0 < p.longest) × SplitsFront p front (rest / p.longest) (p.shorter + rest % p.longest)
  split_longest front rest ge lt is =
      let long : length (words_of_length a (p.extra + 1)) ≡ p.longest = length-words_of a (p.extra + 1) ∙ sym h.longest in
      let b = length-blocks in
      let s = length-shorter in
      let within : rest < length p.access * p.longest = omega (arith, b, s, lt, ge, is) in
      let n = each_number (with_two p) p.access (words_of_length a (p.extra + 1)) p.longest rest [] long within in
      let m = all_middles in
      let l = h.longest in
      let t = h.shorter in
      let i = powers_more a p.extra in
      let r : rest % p.longest < a ^ (p.extra + 1) = omega (arith, l, n.2) in
      let at : powers a (p.extra + 1) - a ^ (p.extra + 1) + rest % p.longest ≡ p.shorter + rest % p.longest = omega (arith, i, t) in
      let middle : get_or (words_up_to a (p.extra + 1)) (p.shorter + rest % p.longest) [] ≡ get_or (words_of_length a (p.extra + 1)) (rest % p.longest) [] =
      ap (λ (x : ℕ). get_or (words_up_to a (p.extra + 1)) x []) (sym at) ∙ among a (p.extra + 1) (p.extra + 1) (rest % p.longest) (omega arith) r in (
        n.0,
        record {
          access_within = n.1;
          middle_within = omega (arith, m, n.2);
          joined = get_or-append_right (shorter_blocks p) (longest_blocks p) (length (shorter_blocks p)) front [] refl ge
              ∙ (ap (λ (x : ℕ). get_or (longest_blocks p) x []) (sym is)
              ∙ (n.3 ∙ ap (λ (v : List ℕ). with_two p (get_or p.access (rest / p.longest) []) v) (sym middle)));
        },
      )

  -- the middle word of a front is a word of at most k + 1 letters
  pub middle_is : (middle : ℕ) → middle < powers a (p.extra + 1) → IsWord a (get_or (words_up_to a (p.extra + 1)) middle []) × (length (get_or (words_up_to a (p.extra + 1)) middle []) ≤ p.extra + 1)
  middle_is middle lt =
      let l = length-words_up_to a (p.extra + 1) in
      All-get_or (λ (w : List ℕ). IsWord a w × (length w ≤ p.extra + 1)) (words_up_to a (p.extra + 1)) middle [] (omega (arith, l, lt)) (words_shorter a (p.extra + 1))

  -- spelled letter by letter
  pub spelled : (front access middle : ℕ) (word : List ℕ) (left : ℕ) → SplitsFront p front access middle
      → word ≡ get_or p.access access [] ++ get_or (words_up_to a (p.extra + 1)) middle []
      → left ≡ p.extra + 1 - (length word - length (get_or p.access access [])) → SpellsFront p front word left
  spelled front access middle word left s is counted =
      let u : List ℕ = get_or p.access access [] in
      let v : List ℕ = get_or (words_up_to a (p.extra + 1)) middle [] in
      let l : length word ≡ length u + length v = ap length is ∙ length-append u v in
      let us : IsWord a u = All-get_or (IsWord a) p.access access [] s.access_within (access_are_words a p.machine.rows p.access h.least) in
      record {
        access = u;
        middle = v;
        joined = is;
        fewer = omega (arith, l, counted);
        letters = subst (IsWord a) (sym is) (joined_words a u v us (middle_is middle s.middle_within).0);
        words = s.joined;
      }

-- the words with a front, by its number
pub front_is : (p : Parts) (number : ℕ) (word : List ℕ) (left state : ℕ) → SpellsFront p number word left → state ≡ after p.machine.rows 0 word
    → get_or (blocks p) number [] ≡ block word (words_behind p.ends (table_of p) state left)
front_is p number word left state s leads =
    let with_row : List ℕ → ℕ → ℕ → List (List ℕ) = λ w q l. block w (words_behind p.ends (table_of p) q l) in
    s.words
    ∙ (ap (λ (w : List ℕ). with_row w (after p.machine.rows 0 w) (p.extra + 1 - length s.middle)) (sym s.joined)
    ∙ (ap (λ (q : ℕ). with_row word q (p.extra + 1 - length s.middle)) (sym leads) ∙ ap (with_row word state) (sym s.fewer)))
