-- What the nodes tell of the answers, when one more is kept.
use Rattle.std.proofs.Common.{◌≡◌, ◌≢◌, ℕ, zero, suc, ◌+◌, ◌-◌, ◌<◌, ◌≤◌, ◌⊎◌, inl, inr, ⊎_elim, List, [], ◌∷◌, ◌++◌, length, take, get_or, Some, None, refl, ap, sym, ◌∙◌, subst, arith}
use Rattle.std.specs.List.{All}
use Rattle.std.proofs.lemmas.Bool.{cases_lt}
use Rattle.std.proofs.lemmas.List.{length_push, get_or_push, get_or_append_left, length-take-le, get_or-take, ext_get_or, take-take}
use Rattle.lw_words.specs.Word.{Answer, answer_at, IsWhole, IsPrefix}
use Rattle.lw_cache.specs.Clash.{Clash, IsClear, IsClearAfter}
use Rattle.lw_cache.specs.FirstClash.{ClashesFirst, SameKnown}
use Rattle.lw_cache.specs.bodies.Trie.{word_of, IsTrie, no_answer, last_out, AreAnswered}
use Rattle.lw_cache.specs.bodies.Filling.{AgreeBetween, ComparedTo}
use Rattle.lw_cache.specs.declared.node.Node.{Node}
use Rattle.lw_cache.proofs.ClashLemmas.{clear_after, unclashed_after}
use Rattle.lw_cache.proofs.GrowLemmas.{clear_stays}
use Rattle.lw_cache.proofs.KnownLemmas.{prefix_long}
use Rattle.lw_cache.proofs.PlainLemmas.{take_from_prefix, prefix_from_take}
use Rattle.lw_cache.proofs.TrieLemmas.{front_node, not_root}

-- a front of a prefix is a prefix
pub take_prefix : (k : ℕ) (w : List ℕ) → IsPrefix (take k w) w
take_prefix k w =
    ⊎_elim
    (λ (le : k ≤ length w). prefix_from_take (take k w) w (ap (λ (j : ℕ). take j w) (length-take-le k w le)))
    (λ (gt : length w < k). ([], subst (λ (u : List ℕ). w ≡ u ++ []) (sym (all k w (omega arith))) (sym (append_none w))))
    (order k (length w))
  where
    order : (a b : ℕ) → (a ≤ b) ⊎ (b < a)
    order a b = ⊎_elim (λ (l : b < a). inr l) (λ (m : a ≤ b). inl m) (cases_lt b a)

    append_none : (u : List ℕ) → u ++ [] ≡ u
    append_none [] = refl
    append_none (x ∷ u) = ap (λ (v : List ℕ). x ∷ v) (append_none u)

    all : (j : ℕ) (u : List ℕ) → length u ≤ j → take j u ≡ u
    all zero [] le = refl
    all zero (x ∷ u) le = absurd (omega arith)
    all (suc j) [] le = refl
    all (suc j) (x ∷ u) le = ap (λ (v : List ℕ). x ∷ v) (all j u (omega arith))

-- the clear answers once one more is kept
pub clear_push : (ks : List Answer) (k : Answer) (a : ℕ) → IsClear (ks ++ k ∷ []) a → IsClear ks a ⊎ ((a ≡ length ks) × IsClearAfter ks (length ks) k)
clear_push ks k a clear =
    ⊎_elim
    (λ (before : a < length ks). inl ((clear_stays ks (k ∷ []) a before).0 clear))
    (λ (from : length ks ≤ a).
    let is : a ≡ length ks = omega (arith, clear.0, length_push ks k) in
    inr (is, subst (λ (n : ℕ). IsClearAfter ks n k) is (after_was a (omega arith) (subst (λ (l : Answer). IsClearAfter (ks ++ k ∷ []) a l) (get_or_push ks k (record { word = []; outs = [] }) a (sym is)) clear.1))))
    (cases_lt a (length ks))
  where
    after_was : (n : ℕ) → n ≤ length ks → IsClearAfter (ks ++ k ∷ []) n k → IsClearAfter ks n k
    after_was n le c =
        clear_after ks n k le (λ j lt own clash.
        unclashed_after (ks ++ k ∷ []) n k c j lt ((clear_stays ks (k ∷ []) j (omega arith)).1 own)
        (subst (λ (l : Answer). Clash l k) (sym (get_or_append_left ks (k ∷ []) (record { word = []; outs = [] }) j (omega arith))) clash))

pub clear_kept : (ks : List Answer) (k : Answer) (a : ℕ) → IsClear ks a → IsClear (ks ++ k ∷ []) a
clear_kept ks k a clear = (clear_stays ks (k ∷ []) a clear.0).1 clear

pub at_kept : (ks : List Answer) (k : Answer) (a : ℕ) → a < length ks → answer_at (ks ++ k ∷ []) a ≡ answer_at ks a
at_kept ks k a lt = get_or_append_left ks (k ∷ []) (record { word = []; outs = [] }) a lt

pub at_last : (ks : List Answer) (k : Answer) → answer_at (ks ++ k ∷ []) (length ks) ≡ k
at_last ks k = get_or_push ks k (record { word = []; outs = [] }) (length ks) refl

-- an answer that isn't clear makes nothing more known
pub unclear_known : (ks : List Answer) (k : Answer) → ¬ IsClearAfter ks (length ks) k → SameKnown ks (ks ++ k ∷ [])
unclear_known ks k not w = (
  λ known. ⊎_elim
      (λ (e : w ≡ []). inl e)
      (λ (r : (a : ℕ) × IsClear (ks ++ k ∷ []) a × IsPrefix w (answer_at (ks ++ k ∷ []) a).word). ⊎_elim
      (λ (clear : IsClear ks r.0). inr (r.0, clear, subst (λ (l : Answer). IsPrefix w l.word) (at_kept ks k r.0 clear.0) r.2))
      (λ (own : (r.0 ≡ length ks) × IsClearAfter ks (length ks) k). absurd (not own.1))
      (clear_push ks k r.0 r.1))
      known,
  λ known. ⊎_elim
      (λ (e : w ≡ []). inl e)
      (λ (r : (a : ℕ) × IsClear ks a × IsPrefix w (answer_at ks a).word). inr (r.0, clear_kept ks k r.0 r.1, subst (λ (l : Answer). IsPrefix w l.word) (sym (at_kept ks k r.0 r.1.0)) r.2))
      known,
)

-- and changes nothing of what the nodes have to tell
pub unclear_answered : (at : ℕ → Node) (n : ℕ) (ks : List Answer) (k : Answer) → AreAnswered at n ks → ¬ IsClearAfter ks (length ks) k → AreAnswered at n (ks ++ k ∷ [])
unclear_answered at n ks k was not =
    record {
      clear = λ i pos lt some. let r = was.clear i pos lt some in (clear_kept ks k (at i).answer r.0, subst (λ (l : Answer). IsPrefix (word_of at i) l.word) (sym (at_kept ks k (at i).answer r.0.0)) r.1);
      each = λ a clear i pos lt p.
          let own = only a clear in
          let r = was.each a own i pos lt (subst (λ (l : Answer). IsPrefix (word_of at i) l.word) (at_kept ks k a own.0) p) in
          (r.0, r.1 ∙ ap (λ (l : Answer). last_out l.outs (word_of at i)) (sym (at_kept ks k a own.0)));
      has = λ a clear. let own = only a clear in let r = was.has a own in (r.0, r.1, r.2 ∙ ap (λ (l : Answer). l.word) (sym (at_kept ks k a own.0)));
    }
  where
    only : (a : ℕ) → IsClear (ks ++ k ∷ []) a → IsClear ks a
    only a clear = ⊎_elim (λ (c : IsClear ks a). c) (λ (own : (a ≡ length ks) × IsClearAfter ks (length ks) k). absurd (not own.1)) (clear_push ks k a clear)

module _ (at : ℕ → Node) (n : ℕ) (t : IsTrie at n) (ks : List Answer) (answered : AreAnswered at n ks) (few : length ks ≤ no_answer) where
  -- the node of a clear answer's front, which tells that answer's output
  pub clear_node : (a p : ℕ) → IsClear ks a → p < length (answer_at ks a).word
      → (i : ℕ) × (0 < i) × (i < n) × (word_of at i ≡ take (p + 1) (answer_at ks a).word) × ((at i).answer ≤ a) × ((at i).answer ≢ no_answer) × ((at i).output ≡ get_or (answer_at ks a).outs p 0)
  clear_node a p clear lt =
      let e = answered.has a clear in
      let f = front_node at n t e.0 (p + 1) e.1 (omega (arith, lt, ap (λ (w : List ℕ). length w) e.2)) in
      let word : word_of at f.0 ≡ take (p + 1) (answer_at ks a).word = f.2 ∙ ap (take (p + 1)) e.2 in
      let long : length (word_of at f.0) ≡ p + 1 = ap (λ (w : List ℕ). length w) word ∙ length-take-le (p + 1) (answer_at ks a).word (omega arith) in
      let pos : 0 < f.0 = not_root at n t f.0 f.1 (omega (arith, long)) in
      let r = answered.each a clear f.0 pos f.1 (subst (λ (w : List ℕ). IsPrefix w (answer_at ks a).word) (sym word) (take_prefix (p + 1) (answer_at ks a).word)) in
      (f.0, pos, f.1, word, r.0, λ none. omega (arith, r.0, none, few, clear.0), r.1 ∙ ap (λ (m : ℕ). get_or (answer_at ks a).outs (m - 1) 0) long ∙ ap (λ (m : ℕ). get_or (answer_at ks a).outs m 0) (less p))
    where
      less : (q : ℕ) → q + 1 - 1 ≡ q
      less q = omega arith

  -- where an answer differs from a clear one, a node of its word disagrees
  module _ (k : Answer) where
    agree_here : (limit p : ℕ) (a : ℕ) → AgreeBetween at n k.word k.outs 0 limit → IsClear ks a → p < length (answer_at ks a).word → p < length k.word → p < limit → take (p + 1) (answer_at ks a).word ≡ take (p + 1) k.word → get_or (answer_at ks a).outs p 0 ≡ get_or k.outs p 0
    agree_here limit p a agree clear lt own below same =
        let i = clear_node a p clear lt in
        let word : word_of at i.0 ≡ take (p + 1) k.word = i.3 ∙ same in
        let long : length (word_of at i.0) ≡ p + 1 = ap (λ (w : List ℕ). length w) word ∙ length-take-le (p + 1) k.word (omega arith) in
        let e = agree i.0 i.1 i.2 (subst (λ (w : List ℕ). IsPrefix w k.word) (sym word) (take_prefix (p + 1) k.word)) (omega (arith, long)) (omega (arith, long, below)) i.5 in
        sym i.6 ∙ (e ∙ (ap (λ (m : ℕ). get_or k.outs (m - 1) 0) long ∙ ap (λ (m : ℕ). get_or k.outs m 0) (less p)))
      where
        less : (q : ℕ) → q + 1 - 1 ≡ q
        less q = omega arith

    pub unclashed : ComparedTo at n k.word k.outs 0 None → IsClearAfter ks (length ks) k
    unclashed agree =
        clear_after ks (length ks) k (omega arith) (λ a lt clear clash.
        clash.1.here (agree_here (length k.word) clash.0 a agree clear clash.1.first clash.1.second clash.1.second clash.1.letters))

    pub clashes : (answer place : ℕ) → All IsWhole ks → length k.outs ≡ length k.word → ComparedTo at n k.word k.outs 0 (Some (answer, place)) → ClashesFirst ks k (record { first = answer; second = length ks; place = place })
    clashes answer place wholes long found =
        let d = found.1 in
        let told : (at d.node).answer ≢ no_answer = λ e. d.some (sym d.told ∙ e) in
        let own = answered.clear d.node d.not_root d.within told in
        let clear : IsClear ks answer = subst (IsClear ks) d.told own.0 in
        let node_prefix : IsPrefix (word_of at d.node) (answer_at ks answer).word = subst (λ (a : ℕ). IsPrefix (word_of at d.node) (answer_at ks a).word) d.told own.1 in
        let size : length (word_of at d.node) ≡ place + 1 = ap (λ (w : List ℕ). length w) d.front ∙ length-take-le (place + 1) k.word (omega (arith, d.long)) in
        let inside : place < length (answer_at ks answer).word = omega (arith, size, prefix_long (word_of at d.node) (answer_at ks answer).word node_prefix) in
        let letters : take (place + 1) (answer_at ks answer).word ≡ take (place + 1) k.word = ap (λ (m : ℕ). take m (answer_at ks answer).word) (sym size) ∙ (take_from_prefix (word_of at d.node) (answer_at ks answer).word node_prefix ∙ d.front) in
        let output : (at d.node).output ≡ get_or (answer_at ks answer).outs place 0 = (answered.each answer clear d.node d.not_root d.within node_prefix).1 ∙ (ap (λ (m : ℕ). get_or (answer_at ks answer).outs (m - 1) 0) size ∙ ap (λ (m : ℕ). get_or (answer_at ks answer).outs m 0) (less place)) in
        let whole : length (answer_at ks answer).outs ≡ length (answer_at ks answer).word = wholes answer (record { word = []; outs = [] }) clear.0 in
        let before : (q : ℕ) → q < place → get_or (answer_at ks answer).outs q 0 ≡ get_or k.outs q 0 =
        λ q lt. agree_here place q answer found.2 clear (omega (arith, inside, lt)) (omega (arith, d.long, lt)) lt (shorter q lt (answer_at ks answer).word letters) in
        record {
          second = refl;
          clear = clear;
          here = record {
            first = inside;
            second = d.long;
            letters = letters;
            before = same_front (answer_at ks answer).outs k.outs (omega (arith, inside, whole)) (omega (arith, d.long, long)) before;
            here = λ same. d.other (output ∙ same);
          };
          place = λ a q other clash. ⊎_elim
              (λ (early : q < place). absurd (clash.here (agree_here place q a found.2 other clash.first clash.second early clash.letters)))
              (λ (late : place ≤ q). late)
              (cases_lt q place);
          first = λ a other p.
              let r = answered.each a other d.node d.not_root d.within (subst (λ (w : List ℕ). IsPrefix w (answer_at ks a).word) (sym d.front) p) in
              omega (arith, r.0, d.told);
        }
      where
        less : (q : ℕ) → q + 1 - 1 ≡ q
        less q = omega arith

        shorter : (q : ℕ) → q < place → (w : List ℕ) → take (place + 1) w ≡ take (place + 1) k.word → take (q + 1) w ≡ take (q + 1) k.word
        shorter q lt w e = sym (take-take (q + 1) (place + 1) w (omega arith)) ∙ (ap (take (q + 1)) e ∙ take-take (q + 1) (place + 1) k.word (omega arith))

        same_front : (xs ys : List ℕ) → place ≤ length xs → place ≤ length ys → ((q : ℕ) → q < place → get_or xs q 0 ≡ get_or ys q 0) → take place xs ≡ take place ys
        same_front xs ys lx ly each =
            ext_get_or 0 (take place xs) (take place ys) (length-take-le place xs lx ∙ sym (length-take-le place ys ly))
            (λ q lt. let inside : q < place = omega (arith, lt, length-take-le place xs lx) in get_or-take place xs q 0 inside ∙ (each q inside ∙ sym (get_or-take place ys q 0 inside)))

    pub clash_unclear : (answer place : ℕ) → All IsWhole ks → length k.outs ≡ length k.word → ComparedTo at n k.word k.outs 0 (Some (answer, place)) → ¬ IsClearAfter ks (length ks) k
    clash_unclear answer place wholes long found clear =
        let c = clashes answer place wholes long found in
        unclashed_after ks (length ks) k clear answer c.clear.0 c.clear (place, c.here)
