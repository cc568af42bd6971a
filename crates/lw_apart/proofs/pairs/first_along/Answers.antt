use Rattle.std.proofs.Common.{◌<◌, ◌+◌, length, subst, arith}
use Rattle.std.specs.List.{range_with_len}
use Rattle.std.proofs.lemmas.List.FromFn.{length-range_with_len, get_or-range_with_len}
use Rattle.lw_words.specs.Word.{answers_of}
use Rattle.lw_apart.specs.Pairs.{along_from}
use Rattle.lw_apart.specs.bodies.Stages.{FirstOpen}
use Rattle.lw_apart.proofs.FirstLemmas.{open_flat, lists_more, lists_all}
use Rattle.lw_apart.proofs.pairs.first_along.Goals as goal

pub returns-in-Some : goal.returns-in-Some
returns-in-Some c =
    let h = c.args.h.now.rows in
    let ks = answers_of c.args.cache.now.kept in
    let u = c.args.access.now in
    let w = c.args.letters.now in
    let i = c.loop-fewer.fewer in
    let lt : i < length w = omega (arith, c.loop-fewer-test.true, c.len-fewer-end.ensures) in
    open_flat h ks (along_from (length w) u w) (range_with_len 1 (length w)) i (1 + i) c.in-Some.pair (omega (arith, lt, length-range_with_len 1 (length w)))
    (λ d. get_or-range_with_len 1 (length w) i d lt) c.loop-fewer.invariant
    (subst (FirstOpen h ks (along_from (length w) u w (1 + i))) c.in-Some.is c.in_ok-pair.ensures)

pub loop-fewer-preserved : goal.loop-fewer-preserved
loop-fewer-preserved c =
    let h = c.args.h.now.rows in
    let ks = answers_of c.args.cache.now.kept in
    let u = c.args.access.now in
    let w = c.args.letters.now in
    let i = c.loop-fewer.fewer in
    let lt : i < length w = omega (arith, c.loop-fewer-test.true, c.len-fewer-end.ensures) in
    lists_more h ks (along_from (length w) u w) (range_with_len 1 (length w)) i (1 + i) (λ d. get_or-range_with_len 1 (length w) i d lt)
    (subst (FirstOpen h ks (along_from (length w) u w (1 + i))) c.in_default.is c.in_ok-pair.ensures) c.loop-fewer.invariant

pub returns : goal.returns
returns c =
    let w = c.args.letters.now in
    lists_all c.args.h.now.rows (answers_of c.args.cache.now.kept) (along_from (length w) c.args.access.now w) (range_with_len 1 (length w)) c.loop-fewer.fewer
    (omega (arith, c.loop-fewer-test.false, c.len-fewer-end.ensures, length-range_with_len 1 (length w))) c.loop-fewer.invariant
