use Rattle.std.proofs.Common.{refl}
use Rattle.lw_cache.proofs.SettlingLemmas.{leaves_then}
use Rattle.lw_rounds.specs.Stops.{learn_stop}
use Rattle.lw_workers.specs.Asking.{AnswersWords}
use Rattle.lw_workers.proofs.MachineLemmas.{enough_as}
use Rattle.lw_workers.proofs.AskingLemmas.{are_answered_more, when_ok}
use Rattle.lw_workers.proofs.PlainLemmas.{learns_given}
use Rattle.lw_workers.proofs.asking.learn_after.Goals as goal

pub learn-requires-clause-nothing : goal.learn-requires-clause-nothing
learn-requires-clause-nothing g c = c.in_ok-settle_named.ensures.leaves.unclashed refl c.requires.nothing

pub returns-clause-asked : goal.returns-clause-asked
returns-clause-asked g c =
    let between = g.O.Oracle.state c.settle_named.new.oracle in
    let now = g.O.Oracle.state c.learn.new.oracle in
    let leaves = c.learn.ensures.leaves in
    when_ok c.learn.result (AnswersWords c.args.words.now now.kept) (are_answered_more c.args.words.now between.kept leaves.gained now.kept leaves.at_end c.in_ok-settle_named.ensures.asked)

pub returns-clause-leaves : goal.returns-clause-leaves
returns-clause-leaves g c =
    leaves_then (g.O.Oracle.state c.args.oracle.now) (g.O.Oracle.state c.settle_named.new.oracle) (g.O.Oracle.state c.learn.new.oracle) (learn_stop c.learn.result) c.in_ok-settle_named.ensures.leaves c.learn.ensures.leaves

pub returns-clause-enough : goal.returns-clause-enough
returns-clause-enough g c =
    let before = g.O.Oracle.state c.args.oracle.now in
    let between = g.O.Oracle.state c.settle_named.new.oracle in
    let now = g.O.Oracle.state c.learn.new.oracle in
    enough_as c.args.settings.testing between.inputs before.inputs c.args.settings.extra now.kept now.kept c.learn.result c.in_ok-settle_named.ensures.leaves.same.inputs refl c.learn.ensures.enough

pub returns-clause-plainly : goal.returns-clause-plainly
returns-clause-plainly g c =
    let before = g.O.Oracle.state c.args.oracle.now in
    let between = g.O.Oracle.state c.settle_named.new.oracle in
    let now = g.O.Oracle.state c.learn.new.oracle in
    let first = c.in_ok-settle_named.ensures in
    learns_given c.args.settings.kind c.args.settings.testing before.inputs between.inputs c.args.settings.extra c.args.settings.max_states c.args.words.now before between now c.learn.ensures.leaves.gained first.leaves.same.inputs first.plainly first.leaves.same.exact
    c.learn.ensures.leaves.at_end c.learn.result c.learn.ensures.plainly
