-- The shortest front of a known word on which a machine differs.
use Rattle.std.proofs.Common.{◌≡◌, ℕ, ◌+◌, ◌<◌, ◌≤◌, List, length, take, drop, get_or, ap, sym, ◌∙◌, subst, arith}
use Rattle.std.proofs.lemmas.List.{length-take-le, get_or-take, take-append-drop}
use Rattle.lw_words.specs.Word.{Answer}
use Rattle.lw_mealy.specs.Machine.{Rows, answer}
use Rattle.lw_mealy.specs.Difference.{DifferFirst}
use Rattle.lw_mealy.proofs.WordLemmas.{length-out, out-take}
use Rattle.lw_cache.specs.Against.{Differs}
use Rattle.lw_cache.specs.Known.{Reads}
use Rattle.lw_cache.proofs.ReadLemmas.{read_front}
use Rattle.lw_rounds.specs.bodies.Conformance.{IsShortest}

module _ (h : Rows) (ks : List Answer) (word outs : List ℕ) (read : Reads ks word outs) where
  -- the front of so many letters is read as the first outputs
  front_read : (n : ℕ) → n ≤ length word → Reads ks (take n word) (take n outs)
  front_read n le =
      let long : length (take n word) ≡ n = length-take-le n word le in
      subst (λ (j : ℕ). Reads ks (take n word) (take j outs)) long
      (read_front ks (take n word) (drop n word) outs (subst (λ (w : List ℕ). Reads ks w outs) (sym (take-append-drop n word)) read))

  module _ (place : ℕ) (differ : DifferFirst (answer h word) outs place) where
    inside : place < length word
    inside = let lt = differ.within in omega (arith, lt, length-out h 0 word)

    other : answer h (take (place + 1) word) ≡ take (place + 1) outs → ⊥
    other same =
        let at : take (place + 1) (answer h word) ≡ take (place + 1) outs = sym (out-take h 0 (place + 1) word) ∙ same in
        differ.here
        (sym (get_or-take (place + 1) (answer h word) place 0 (omega arith))
        ∙ (ap (λ (o : List ℕ). get_or o place 0) at ∙ get_or-take (place + 1) outs place 0 (omega arith)))

    pub is_shortest : (front : List ℕ) → front ≡ take (place + 1) word → IsShortest h ks word front
    is_shortest front is =
        record {
          place = place;
          within = inside;
          is = is;
          differs = subst (λ (w : List ℕ). Differs h ks w) (sym is) (take (place + 1) outs, front_read (place + 1) (let lt = inside in omega arith), other);
          before = subst (Reads ks (take place word)) (sym (out-take h 0 place word ∙ differ.before)) (front_read place (let lt = inside in omega arith));
        }
