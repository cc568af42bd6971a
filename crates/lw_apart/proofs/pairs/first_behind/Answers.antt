use Rattle.std.proofs.Common.{◌<◌, ℕ, [], length, subst, arith}
use Rattle.lw_words.specs.Word.{answers_of}
use Rattle.lw_chunks.specs.Middle.{words_of_length}
use Rattle.lw_apart.specs.Pairs.{along}
use Rattle.lw_apart.specs.bodies.Stages.{FirstOpen}
use Rattle.lw_apart.proofs.FirstLemmas.{made_is, longest_word, open_flat, lists_more, lists_all}
use Rattle.lw_apart.proofs.pairs.first_behind.Goals as goal

pub first_along-requires-clause-letters : goal.first_along-requires-clause-letters
first_along-requires-clause-letters c =
    let f = c.args.fronts.now in
    let lt : c.loop-number.number < length (words_of_length f.inputs f.longest) = omega (arith, c.loop-number-test.true, c.longest_count-number-end.ensures) in
    (longest_word c.args.h.now.inputs f.inputs f.longest c.loop-number.number c.spell_longest.new.word c.requires.inputs lt c.in_ok-spell_longest.ensures).0

pub returns-in-Some : goal.returns-in-Some
returns-in-Some c =
    let h = c.args.h.now.rows in
    let ks = answers_of c.args.cache.now.kept in
    let f = c.args.fronts.now in
    let u = c.args.access.now in
    let i = c.loop-number.number in
    let w = c.spell_longest.new.word in
    let words = words_of_length f.inputs f.longest in
    let lt : i < length words = omega (arith, c.loop-number-test.true, c.longest_count-number-end.ensures) in
    let long = (longest_word c.args.h.now.inputs f.inputs f.longest i w c.requires.inputs lt c.in_ok-spell_longest.ensures).1 in
    let found : FirstOpen h ks (along f.longest u w) c.in_ok-pair.field-0 = subst (λ (n : ℕ). FirstOpen h ks (along n u w) c.in_ok-pair.field-0) long c.in_ok-pair.ensures in
    open_flat h ks (along f.longest u) words i w c.in-Some.pair lt (made_is words i w [] lt c.in_ok-spell_longest.ensures) c.loop-number.invariant
    (subst (FirstOpen h ks (along f.longest u w)) c.in-Some.is found)

pub loop-number-preserved : goal.loop-number-preserved
loop-number-preserved c =
    let h = c.args.h.now.rows in
    let ks = answers_of c.args.cache.now.kept in
    let f = c.args.fronts.now in
    let u = c.args.access.now in
    let i = c.loop-number.number in
    let w = c.spell_longest.new.word in
    let words = words_of_length f.inputs f.longest in
    let lt : i < length words = omega (arith, c.loop-number-test.true, c.longest_count-number-end.ensures) in
    let long = (longest_word c.args.h.now.inputs f.inputs f.longest i w c.requires.inputs lt c.in_ok-spell_longest.ensures).1 in
    let found : FirstOpen h ks (along f.longest u w) c.in_ok-pair.field-0 = subst (λ (n : ℕ). FirstOpen h ks (along n u w) c.in_ok-pair.field-0) long c.in_ok-pair.ensures in
    lists_more h ks (along f.longest u) words i w (made_is words i w [] lt c.in_ok-spell_longest.ensures) (subst (FirstOpen h ks (along f.longest u w)) c.in_default.is found) c.loop-number.invariant

pub returns : goal.returns
returns c =
    let f = c.args.fronts.now in
    lists_all c.args.h.now.rows (answers_of c.args.cache.now.kept) (along f.longest c.args.access.now) (words_of_length f.inputs f.longest) c.loop-number.number
    (omega (arith, c.loop-number-test.false, c.longest_count-number-end.ensures)) c.loop-number.invariant
