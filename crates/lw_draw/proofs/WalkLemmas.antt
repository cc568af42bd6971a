-- The walks of a machine.
use Rattle.std.proofs.Common.{◌≡◌, ℕ, ◌+◌, ◌*◌, ◌-◌, ◌%◌, ◌<◌, ◌≤◌, List, [], ◌∷◌, ◌++◌, length, get_or, take, drop, refl, ap, ap₂, sym, ◌∙◌, subst, arith}
use Rattle.std.specs.List.{All, range_with_len}
use Rattle.std.proofs.Math.Nat.{mod-lt}
use Rattle.std.proofs.lemmas.List.{length-map, take_more, get_or-drop, length-drop}
use Rattle.std.proofs.lemmas.List.FromFn.{get_or-map-range_with_len, length-range_with_len}
use Rattle.std.proofs.lemmas.List.Elements.{All-append, All-get_or, All-map}
use Rattle.rand_pcg.specs.Lcg.{Lcg}
use Rattle.lw_words.specs.Word.{IsWord}
use Rattle.lw_separate.proofs.OneLemmas.{one_least_access, one_separators}
use Rattle.lw_separate.proofs.ListLemmas.{access_are_words, ends_are_words}
use Rattle.lw_draw.specs.Drawn.{after_draws, draw_at, drawn_word, seeded}
use Rattle.lw_draw.specs.Walks.{OneWalks, WalksAreOfWords, walk_word, walks, word_by}
use Rattle.lw_draw.specs.declared.drawing.Drawn.{Drawn}
use Rattle.lw_draw.specs.bodies.Walking.{all_walks}
use Rattle.lw_draw.specs.declared.parts.Parts.{Parts}
use Rattle.lw_draw.proofs.DrawLemmas.{draw_then, drawn_below, draws_more}

pub one_walks : OneWalks
one_walks a m d u v hu hv =
    hu.are
    ∙ (ap₂ (λ (s e : List (List ℕ)). walks s e a d) (one_least_access a m hu.access hv.access hu.least hv.least) (one_separators a m hu.ends hv.ends hu.separating hv.separating)
    ∙ sym hv.are)

-- the numbers behind those of the walks before
pub next_walk : (g random now : Lcg) (i k n : ℕ) → k ≡ i * (n + 1) → random ≡ after_draws g k → now ≡ after_draws random (n + 1) → now ≡ after_draws g ((i + 1) * (n + 1))
next_walk g random now i k n is at then = draws_more g random now k (n + 1) ((i + 1) * (n + 1)) (omega (arith, is)) at then

-- a walk without its end that gets it, behind the words of a chunk
pub walk_is_put : (access ends : List (List ℕ)) (a n k : ℕ) (g random : Lcg) (before now : List (List ℕ)) (front : List ℕ) (number : ℕ) (end : List ℕ)
    → front ≡ word_by access k ++ drawn_word a n g → random ≡ after_draws g n → number ≡ draw_at random 0 → end ≡ word_by ends number
    → now ≡ before ++ (front ++ end) ∷ [] → now ≡ before ++ walk_word access ends a n k g ∷ []
walk_is_put access ends a n k g random before now front number end begun at drawn is put =
    let sum : n + 0 ≡ n = omega arith in
    let last : number ≡ draw_at g n = drawn ∙ (ap (λ (h : Lcg). draw_at h 0) at ∙ (draw_then g n 0 ∙ ap (draw_at g) sum)) in
    put ∙ ap₂ (λ (f e : List ℕ). before ++ (f ++ e) ∷ []) begun (is ∙ ap (word_by ends) last)

module _ (p : Parts) where
  pub length-walks : length (all_walks p) ≡ p.drawn.count
  length-walks = length-map (range_with_len 0 p.drawn.count) (λ k. walk_word p.access p.ends p.inputs p.drawn.length k (after_draws (seeded p.drawn.seed) ((length p.access * p.drawn.count + k) * (p.drawn.length + 1)))) ∙ length-range_with_len 0 p.drawn.count

  walk_at : (i : ℕ) → i < p.drawn.count → get_or (all_walks p) i [] ≡ walk_word p.access p.ends p.inputs p.drawn.length i (after_draws (seeded p.drawn.seed) ((length p.access * p.drawn.count + i) * (p.drawn.length + 1)))
  walk_at i lt = get_or-map-range_with_len (λ k. walk_word p.access p.ends p.inputs p.drawn.length k (after_draws (seeded p.drawn.seed) ((length p.access * p.drawn.count + k) * (p.drawn.length + 1)))) 0 p.drawn.count i i [] lt (omega arith)

  -- a chunk that is filled so far, behind the walks that were given
  pub record Filled (given index : ℕ) (random : Lcg) (chunk : List (List ℕ)) : Type 0 where
    pub at : random ≡ after_draws (seeded p.drawn.seed) ((length p.access * p.drawn.count + (given + index)) * (p.drawn.length + 1))
    pub words : take index chunk ≡ take index (drop given (all_walks p))
    pub long : index ≤ length chunk

  pub filled_more : (given index count number : ℕ) (random now : Lcg) (chunk more : List (List ℕ)) → Filled given index random chunk → index < count → given + count ≤ p.drawn.count → number ≡ given + index
      → take (index + 1) more ≡ take index chunk ++ walk_word p.access p.ends p.inputs p.drawn.length number random ∷ [] → now ≡ after_draws random (p.drawn.length + 1) → index < length more → Filled given (index + 1) now more
  filled_more given index count number random now chunk more h lt within is put then long =
      let n : ℕ = p.drawn.length in
      let d : length (drop given (all_walks p)) ≡ length (all_walks p) - given = length-drop given (all_walks p) in
      let l = length-walks in
      let inside : index < length (drop given (all_walks p)) = omega (arith, d, l, lt, within) in
      let here : given + index < p.drawn.count = omega (arith, lt, within) in
      let base : ℕ = length p.access * p.drawn.count in
      let sum : (base + (given + index)) + 1 ≡ base + (given + (index + 1)) = omega arith in
      let word : get_or (drop given (all_walks p)) index [] ≡ walk_word p.access p.ends p.inputs n number random =
      get_or-drop given (all_walks p) index [] ∙ (walk_at (given + index) here ∙ ap₂ (walk_word p.access p.ends p.inputs n) (sym is) (sym h.at)) in
      record {
        at = next_walk (seeded p.drawn.seed) random now (base + (given + index)) ((base + (given + index)) * (n + 1)) n refl h.at then ∙ ap (λ (i : ℕ). after_draws (seeded p.drawn.seed) (i * (n + 1))) sum;
        words = put ∙ (ap₂ (λ (t : List (List ℕ)) (w : List ℕ). t ++ w ∷ []) h.words (sym word) ∙ sym (take_more (drop given (all_walks p)) index [] inside));
        long = omega (arith, long);
      }

-- the walks of a machine are words over its letters
word_by_is : (a : ℕ) (words : List (List ℕ)) (number : ℕ) → All (IsWord a) words → IsWord a (word_by words number)
word_by_is a [] number all = λ i d lt. absurd (omega (arith, lt))
word_by_is a (w ∷ ws) number all = All-get_or (IsWord a) (w ∷ ws) (number % length (w ∷ ws)) [] (mod-lt number {m = length (w ∷ ws)} (omega arith)) all

module _ (a : ℕ) (access ends : List (List ℕ)) (some : 1 ≤ a) (all : All (IsWord a) access) (last : All (IsWord a) ends) where
  walk_is : (n k : ℕ) (g : Lcg) → IsWord a (walk_word access ends a n k g)
  walk_is n k g =
      All-append (λ x. x < a) (word_by access k ++ drawn_word a n g) (word_by ends (draw_at g n))
      (All-append (λ x. x < a) (word_by access k) (drawn_word a n g) (word_by_is a access k all) (drawn_below a n g some))
      (word_by_is a ends (draw_at g n) last)

  each_walk : (d : Drawn) → All (IsWord a) (walks access ends a d)
  each_walk d =
      All-map (IsWord a) (λ k. walk_word access ends a d.length k (after_draws (seeded d.seed) ((length access * d.count + k) * (d.length + 1)))) (range_with_len 0 d.count)
      (λ i e lt. let k : ℕ = get_or (range_with_len 0 d.count) i e in walk_is d.length k (after_draws (seeded d.seed) ((length access * d.count + k) * (d.length + 1))))

pub walks_are_words : WalksAreOfWords
walks_are_words a m d words some is =
    subst (λ (l : List (List ℕ)). All (IsWord a) l) (sym is.are) (each_walk a is.access is.ends some (access_are_words a m is.access is.least) (ends_are_words a m is.ends is.separating) d)
