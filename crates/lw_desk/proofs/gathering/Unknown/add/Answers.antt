use Rattle.std.proofs.Common.{◌≡◌, ℕ, List, [], ◌∷◌, ◌++◌, length, map, sym, ap, ◌∙◌, subst, arith}
use Rattle.std.proofs.lemmas.List.{map_push}
use Rattle.lw_desk.specs.bodies.Gathering.{IsGathered}
use Rattle.lw_desk.proofs.GatherLemmas.{known_of, unknown_of, gathered_known, gathered_unknown}
use Rattle.lw_desk.proofs.gathering.Unknown.add.Goals as goal

abbrev word_of : List ℕ × Unit {0} → List ℕ
word_of p = p.0

pub returns-in_default : goal.returns-in_default
returns-in_default c =
    let n = c.args.self.now in
    let w = c.args.word.now in
    let kept = c.args.cache.now.kept in
    let batch : List (List ℕ) = map word_of n.batch.items in
    let words : c.push.new.self.items ≡ n.words.items ++ [] ∷ [] = c.in_ok-push.ensures.items ∙ ap (λ (v : List ℕ). n.words.items ++ v ∷ []) c.new.ensures in
    let more : map word_of c.and-self.result.items ≡ batch ++ w ∷ [] = ap (map word_of) c.and-self.ensures ∙ map_push word_of n.batch.items (w, tt) in
    let known = known_of kept c.args.cache.now.claims w c.known.result c.requires.unclaimed c.in_default.not-No c.known.ensures in
    record {
      batch = c.and-self.ensures;
      gathered = subst (λ (l : List (List ℕ)). IsGathered kept l c.push.new.self.items n.places.items) (sym more)
          (subst (λ (l : List (List ℕ)). IsGathered kept (batch ++ w ∷ []) l n.places.items) (sym words)
          (gathered_known kept batch n.words.items n.places.items c.requires.gathered w known));
    }

pub returns-clause-gathered : goal.returns-clause-gathered
returns-clause-gathered c =
    let n = c.args.self.now in
    let w = c.args.word.now in
    let kept = c.args.cache.now.kept in
    let batch : List (List ℕ) = map word_of n.batch.items in
    let words : c.push-3.new.self.items ≡ n.words.items ++ w ∷ [] = c.in_ok-push-3.ensures.items ∙ ap (λ (v : List ℕ). n.words.items ++ v ∷ []) c.in_ok-copy.ensures in
    let place : c.len.result ≡ length n.words.items = omega (arith, c.len.ensures, n.words.ok) in
    let places : c.push-2.new.self.items ≡ n.places.items ++ length n.words.items ∷ [] = c.in_ok-push-2.ensures.items ∙ ap (λ (k : ℕ). n.places.items ++ k ∷ []) place in
    let more : map word_of c.and-self.result.items ≡ batch ++ w ∷ [] = ap (map word_of) c.and-self.ensures ∙ map_push word_of n.batch.items (w, tt) in
    subst (λ (l : List (List ℕ)). IsGathered kept l c.push-3.new.self.items c.push-2.new.self.items) (sym more)
    (subst (λ (l : List (List ℕ)). IsGathered kept (batch ++ w ∷ []) l c.push-2.new.self.items) (sym words)
    (subst (λ (l : List ℕ). IsGathered kept (batch ++ w ∷ []) (n.words.items ++ w ∷ []) l) (sym places)
    (gathered_unknown kept batch n.words.items n.places.items c.requires.gathered w (unknown_of kept c.args.cache.now.claims w c.in-No.ensures))))
