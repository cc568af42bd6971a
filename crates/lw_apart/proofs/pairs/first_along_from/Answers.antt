use Rattle.std.proofs.Common.{◌≡◌, ◌<◌, ◌+◌, ◌-◌, ◌++◌, length, take, subst, arith}
use Rattle.std.specs.List.{range_with_len}
use Rattle.std.proofs.lemmas.List.FromFn.{length-range_with_len, get_or-range_with_len}
use Rattle.lw_words.specs.Word.{answers_of}
use Rattle.lw_apart.specs.Pairs.{WordPair}
use Rattle.lw_apart.proofs.FirstLemmas.{Met, pair_of, pair_is, word_with, unmet, open_map, met_more, met_all}
use Rattle.lw_apart.proofs.pairs.first_along_from.Goals as goal

pub is_open-requires-clause-one : goal.is_open-requires-clause-one
is_open-requires-clause-one c = word_with c.args.h.now.inputs c.args.count c.loop-more.one c.args.access.now c.args.letters.now c.loop-more.invariant.0 c.requires.access c.requires.letters

pub is_open-requires-clause-other : goal.is_open-requires-clause-other
is_open-requires-clause-other c = word_with c.args.h.now.inputs _ c.in_ok-other.other c.args.access.now c.args.letters.now c.in_ok-other.ensures c.requires.access c.requires.letters

pub returns-then-branch : goal.returns-then-branch
returns-then-branch c =
    let h = c.args.h.now.rows in
    let ks = answers_of c.args.cache.now.kept in
    let u = c.args.access.now in
    let w = c.args.letters.now in
    let n = c.args.count in
    let i = c.loop-more.more in
    let lt : i < length w - n = omega (arith, c.loop-more-test.true, c.len.ensures) in
    let one = c.loop-more.one in
    let other = c.in_ok-other.other in
    let pair : pair_of one other ≡ pair_of (u ++ take n w) (u ++ take (n + 1 + i) w) = pair_is one other (u ++ take n w) (u ++ take (n + 1 + i) w) c.loop-more.invariant.0 c.in_ok-other.ensures in
    open_map h ks (λ j. (u ++ take n w, u ++ take j w)) (range_with_len (n + 1) (length w - n)) i (n + 1 + i) (pair_of one other) (omega (arith, lt, length-range_with_len (n + 1) (length w - n)))
    (λ d. get_or-range_with_len (n + 1) (length w - n) i d lt)
    (subst (λ (e : WordPair). ¬ Met h ks e) pair (unmet h ks (pair_of one other) c.in_ok-is_open.field-0 c.in_ok-is_open.ensures c.if-branch.true))
    c.loop-more.invariant.1 pair

pub loop-more-preserved : goal.loop-more-preserved
loop-more-preserved c =
    let h = c.args.h.now.rows in
    let ks = answers_of c.args.cache.now.kept in
    let u = c.args.access.now in
    let w = c.args.letters.now in
    let n = c.args.count in
    let i = c.loop-more.more in
    let lt : i < length w - n = omega (arith, c.loop-more-test.true, c.len.ensures) in
    let one = c.loop-more.one in
    let other = c.in_ok-other.other in
    let pair : pair_of one other ≡ pair_of (u ++ take n w) (u ++ take (n + 1 + i) w) = pair_is one other (u ++ take n w) (u ++ take (n + 1 + i) w) c.loop-more.invariant.0 c.in_ok-other.ensures in (
      c.loop-more.invariant.0,
      met_more h ks (λ j. (u ++ take n w, u ++ take j w)) (range_with_len (n + 1) (length w - n)) i (n + 1 + i) (omega (arith, lt, length-range_with_len (n + 1) (length w - n)))
          (λ d. get_or-range_with_len (n + 1) (length w - n) i d lt)
          (subst (Met h ks) pair (c.in_ok-is_open.ensures.0 c.if-branch.false)) c.loop-more.invariant.1,
    )

pub returns : goal.returns
returns c =
    let w = c.args.letters.now in
    let n = c.args.count in
    met_all c.args.h.now.rows (answers_of c.args.cache.now.kept) (λ j. (c.args.access.now ++ take n w, c.args.access.now ++ take j w)) (range_with_len (n + 1) (length w - n)) c.loop-more.more
    (omega (arith, c.loop-more-test.false, c.len.ensures, length-range_with_len (n + 1) (length w - n))) c.loop-more.invariant.1
