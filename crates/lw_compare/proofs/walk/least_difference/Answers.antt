use Rattle.std.proofs.Common.{rules, ◌≡◌, ◌∙◌, ◌+◌, ◌<◌, ℕ, List, [], ◌∷◌, ◌++◌, length, get_or, Option, MatchOption, sym, subst, arith}
use Rattle.lw_compare.specs.Comparing.{IsLeastDifference}
use Rattle.lw_compare.specs.bodies.Walk.{Parts, Walked, words_of}
use Rattle.lw_compare.proofs.LeastLemmas.{agree_all, least_difference}
use Rattle.lw_compare.proofs.NameLemmas.{letter_below}
use Rattle.lw_compare.proofs.StepLemmas.{all_pairs}
use Rattle.lw_compare.proofs.WordLemmas.{length-words_of}
use Rattle.lw_compare.proofs.walk.least_difference.Goals as goal

pub word_to-requires-clause-place : goal.word_to-requires-clause-place
word_to-requires-clause-place c =
    let p : Parts c.args.first.now c.args.second.now c.expand.new.walk c.loop-i.i c.in-Some.letter = subst (λ (o : Option ℕ). MatchOption o (Walked c.args.first.now c.args.second.now c.expand.new.walk (c.loop-i.i + 1) 0) (Parts c.args.first.now c.args.second.now c.expand.new.walk c.loop-i.i)) c.in-Some.is c.in_ok-letter.ensures.letter in
    omega (arith, p.within, p.walked.search.paired, length-words_of c.expand.new.walk.steps.items)

pub returns-in-Some : goal.returns-in-Some
returns-in-Some c =
    let p : Parts c.args.first.now c.args.second.now c.expand.new.walk c.loop-i.i c.in-Some.letter = subst (λ (o : Option ℕ). MatchOption o (Walked c.args.first.now c.args.second.now c.expand.new.walk (c.loop-i.i + 1) 0) (Parts c.args.first.now c.args.second.now c.expand.new.walk c.loop-i.i)) c.in-Some.is c.in_ok-letter.ensures.letter in
    subst (IsLeastDifference c.args.first.now c.args.second.now) (sym c.in_ok-word.ensures)
    (least_difference c.args.first.now c.args.second.now c.requires.by.one.machine c.requires.by.two.machine (letter_below c.args.first.now c.args.second.now c.args.by.now.letters.items c.args.by.now.outputs.items c.requires.by) c.expand.new.walk c.loop-i.i c.in-Some.letter p.walked (omega (arith, p.within, p.walked.search.paired)) p.letter p.apart)

pub loop-i-smaller : goal.loop-i-smaller
loop-i-smaller c =
    let h = c.loop-i.invariant in
    let left = h.walked.search.left in
    let all = all_pairs c.args.first.now c.args.second.now c.args.by.now.letters.items c.args.by.now.outputs.items c.requires.by in
    let more : c.loop-i.i < length c.loop-i.walk.nodes.items = search rules in
    omega (arith, left, all, more)

pub returns : goal.returns
returns c =
    let h = c.loop-i.invariant in
    let whole : c.loop-i.i ≡ length (words_of c.loop-i.walk.steps.items) = let end : c.loop-i.i ≡ length c.loop-i.walk.nodes.items = grind (arith, rules) in omega (arith, end, h.walked.search.paired) in
    agree_all c.args.first.now c.args.second.now c.requires.by.one.machine c.requires.by.two.machine (letter_below c.args.first.now c.args.second.now c.args.by.now.letters.items c.args.by.now.outputs.items c.requires.by) c.loop-i.walk c.loop-i.i 0 h.walked whole
