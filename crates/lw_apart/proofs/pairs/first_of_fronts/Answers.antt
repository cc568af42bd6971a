use Rattle.std.proofs.Common.{◌<◌, [], length, subst, arith}
use Rattle.lw_words.specs.Word.{answers_of}
use Rattle.lw_apart.specs.Pairs.{with_access}
use Rattle.lw_apart.specs.bodies.Stages.{all_fronts, FirstOpen}
use Rattle.lw_apart.proofs.FirstLemmas.{made_is, front_word, open_flat, lists_more, lists_all}
use Rattle.lw_apart.proofs.pairs.first_of_fronts.Goals as goal

pub first_with_access-requires-clause-word : goal.first_with_access-requires-clause-word
first_with_access-requires-clause-word c =
    let f = c.args.fronts.now in
    let lt : c.loop-number.number < length (all_fronts f) = omega (arith, c.loop-number-test.true, c.front_count-number-end.ensures) in
    front_word f c.args.h.now.inputs c.loop-number.number c.spell_front.new.front c.requires.inputs c.requires.access lt c.in_ok-spell_front.ensures

pub returns-in-Some : goal.returns-in-Some
returns-in-Some c =
    let h = c.args.h.now.rows in
    let ks = answers_of c.args.cache.now.kept in
    let f = c.args.fronts.now in
    let i = c.loop-number.number in
    let v = c.spell_front.new.front in
    let lt : i < length (all_fronts f) = omega (arith, c.loop-number-test.true, c.front_count-number-end.ensures) in
    open_flat h ks (with_access f.access) (all_fronts f) i v c.in-Some.pair lt (made_is (all_fronts f) i v [] lt c.in_ok-spell_front.ensures) c.loop-number.invariant
    (subst (FirstOpen h ks (with_access f.access v)) c.in-Some.is c.in_ok-pair.ensures)

pub loop-number-preserved : goal.loop-number-preserved
loop-number-preserved c =
    let h = c.args.h.now.rows in
    let ks = answers_of c.args.cache.now.kept in
    let f = c.args.fronts.now in
    let i = c.loop-number.number in
    let v = c.spell_front.new.front in
    let lt : i < length (all_fronts f) = omega (arith, c.loop-number-test.true, c.front_count-number-end.ensures) in
    lists_more h ks (with_access f.access) (all_fronts f) i v (made_is (all_fronts f) i v [] lt c.in_ok-spell_front.ensures)
    (subst (FirstOpen h ks (with_access f.access v)) c.in_default.is c.in_ok-pair.ensures) c.loop-number.invariant

pub returns : goal.returns
returns c =
    let f = c.args.fronts.now in
    lists_all c.args.h.now.rows (answers_of c.args.cache.now.kept) (with_access f.access) (all_fronts f) c.loop-number.number
    (omega (arith, c.loop-number-test.false, c.front_count-number-end.ensures)) c.loop-number.invariant
