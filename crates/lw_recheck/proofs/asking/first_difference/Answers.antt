use Rattle.std.proofs.Common.{◌≡◌, ◌<◌, ◌≤◌, length, get_or, true, false, refl, rules, arith}
use Rattle.lw_recheck.proofs.NameLemmas.{differs_here, same_all, same_more}
use Rattle.lw_recheck.proofs.asking.first_difference.Goals as goal

pub loop-place-preserved : goal.loop-place-preserved
loop-place-preserved g c =
    let own = (g.S.Sul.state c.args.sul.now).names in
    let outputs = c.args.outputs.now in
    let known = c.args.known.now in
    let given = c.args.given.now in
    let i = c.loop-place.place in
    let lt : i < length known = omega (arith, c.loop-place-test.true) in
    let yes : c.same_name.result ≡ true = search rules in
    same_more outputs own known given c.requires.even i c.loop-place.invariant (get_or known i 0) (get_or given i 0) lt refl refl (c.same_name.ensures.0 yes)

pub returns-then-not-same_name-clause-some : goal.returns-then-not-same_name-clause-some
returns-then-not-same_name-clause-some g c =
    let own = (g.S.Sul.state c.args.sul.now).names in
    let outputs = c.args.outputs.now in
    let known = c.args.known.now in
    let given = c.args.given.now in
    let i = c.loop-place.place in
    let lt : i < length known = omega (arith, c.loop-place-test.true) in
    let no : c.same_name.result ≡ false = search rules in
    differs_here outputs own known given c.requires.even i c.loop-place.invariant (get_or known i 0) (get_or given i 0) lt refl refl (λ same. let yes : c.same_name.result ≡ true = c.same_name.ensures.1 same in absurd (cc))

pub returns-clause-none : goal.returns-clause-none
returns-clause-none g c =
    let own = (g.S.Sul.state c.args.sul.now).names in
    let known = c.args.known.now in
    let i = c.loop-place.place in
    let all : length known ≤ i = omega (arith, c.loop-place-test.false) in
    same_all c.args.outputs.now own known c.args.given.now c.requires.even i c.loop-place.invariant all
