use Rattle.std.proofs.Common.{subst}
use Rattle.std.specs.List.{All}
use Rattle.lw_words.specs.Word.{answers_of}
use Rattle.lw_cache.specs.Known.{IsKnown}
use Rattle.lw_apart.specs.Pairs.{WordPair, pairs}
use Rattle.lw_apart.specs.Missing.{IsFirstOpen}
use Rattle.lw_apart.specs.bodies.Stages.{all_fronts, LeastUnknown, FirstOpen}
use Rattle.lw_apart.proofs.FirstLemmas.{pair_of}
use Rattle.lw_apart.proofs.MissingLemmas.{word_missing, nothing_missing, pair_words, pair_differs, pair_missing}
use Rattle.lw_apart.proofs.missing.missing_word.Goals as goal
use Rattle.lw_separate.proofs.ListLemmas.{access_are_words}

pub returns-in-Some : goal.returns-in-Some
returns-in-Some c =
    let a = c.args.h.now.inputs in
    let h = c.args.h.now.rows in
    let ks = answers_of c.args.cache.now.kept in
    let f = c.in_ok-fronts.fronts in
    let e = c.in_ok-fronts.ensures in
    word_missing a h ks c.args.extra f e.inputs e.longest e.least c.in-Some.word (subst (LeastUnknown ks (all_fronts f)) c.in-Some.is c.in_ok-word.ensures)

pub first_open-requires-clause-access : goal.first_open-requires-clause-access
first_open-requires-clause-access c = access_are_words c.args.h.now.inputs c.args.h.now.rows c.in_ok-fronts.fronts.access c.in_ok-fronts.ensures.least

pub returns-in_default-2 : goal.returns-in_default-2
returns-in_default-2 c =
    let a = c.args.h.now.inputs in
    let h = c.args.h.now.rows in
    let ks = answers_of c.args.cache.now.kept in
    let f = c.in_ok-fronts.fronts in
    let e = c.in_ok-fronts.ensures in
    let known : All (IsKnown ks) (all_fronts f) = subst (LeastUnknown ks (all_fronts f)) c.in_default.is c.in_ok-word.ensures in
    nothing_missing a h ks c.args.extra f e.inputs e.longest e.least c.requires.minimal c.requires.given known
    (subst (FirstOpen h ks (pairs f.inputs f.access f.longest)) c.in_default-2.is c.in_ok-one.ensures)

pub wanted-requires-clause-one : goal.wanted-requires-clause-one
wanted-requires-clause-one c =
    let a = c.args.h.now.inputs in
    let h = c.args.h.now.rows in
    let ks = answers_of c.args.cache.now.kept in
    let f = c.in_ok-fronts.fronts in
    let e = c.in_ok-fronts.ensures in
    let pair : WordPair = pair_of c.in-Some-2.one c.in-Some-2.other in
    let first : IsFirstOpen h ks (pairs f.inputs f.access f.longest) pair = subst (FirstOpen h ks (pairs f.inputs f.access f.longest)) c.in-Some-2.is c.in_ok-one.ensures in
    (pair_words a h ks c.args.extra f e.inputs e.longest e.least pair first).0

pub wanted-requires-clause-other : goal.wanted-requires-clause-other
wanted-requires-clause-other c =
    let a = c.args.h.now.inputs in
    let h = c.args.h.now.rows in
    let ks = answers_of c.args.cache.now.kept in
    let f = c.in_ok-fronts.fronts in
    let e = c.in_ok-fronts.ensures in
    let pair : WordPair = pair_of c.in-Some-2.one c.in-Some-2.other in
    let first : IsFirstOpen h ks (pairs f.inputs f.access f.longest) pair = subst (FirstOpen h ks (pairs f.inputs f.access f.longest)) c.in-Some-2.is c.in_ok-one.ensures in
    (pair_words a h ks c.args.extra f e.inputs e.longest e.least pair first).1

pub wanted-requires-clause-differ : goal.wanted-requires-clause-differ
wanted-requires-clause-differ c =
    let a = c.args.h.now.inputs in
    let h = c.args.h.now.rows in
    let ks = answers_of c.args.cache.now.kept in
    let f = c.in_ok-fronts.fronts in
    let e = c.in_ok-fronts.ensures in
    let pair : WordPair = pair_of c.in-Some-2.one c.in-Some-2.other in
    let first : IsFirstOpen h ks (pairs f.inputs f.access f.longest) pair = subst (FirstOpen h ks (pairs f.inputs f.access f.longest)) c.in-Some-2.is c.in_ok-one.ensures in
    pair_differs a h ks c.args.extra f e.inputs e.longest e.least pair first

pub returns : goal.returns
returns c =
    let a = c.args.h.now.inputs in
    let h = c.args.h.now.rows in
    let ks = answers_of c.args.cache.now.kept in
    let f = c.in_ok-fronts.fronts in
    let e = c.in_ok-fronts.ensures in
    let pair : WordPair = pair_of c.in-Some-2.one c.in-Some-2.other in
    let first : IsFirstOpen h ks (pairs f.inputs f.access f.longest) pair = subst (FirstOpen h ks (pairs f.inputs f.access f.longest)) c.in-Some-2.is c.in_ok-one.ensures in
    let known : All (IsKnown ks) (all_fronts f) = subst (LeastUnknown ks (all_fronts f)) c.in_default.is c.in_ok-word.ensures in
    pair_missing a h ks c.args.extra f e.inputs e.longest e.least pair first c.in_ok-wanted.field-0 known c.in_ok-wanted.ensures
