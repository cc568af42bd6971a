use Rattle.std.proofs.Common.{refl}
use Rattle.lw_cache.proofs.SettlingLemmas.{leaves_then}
use Rattle.lw_rounds.proofs.HypothesisLemmas.{suite_words}
use Rattle.lw_rounds.specs.Stops.{learn_stop}
use Rattle.lw_rounds.proofs.hypothesis.settle_and_certify.Goals as goal

pub settle_suite-requires-clause-letters : goal.settle_suite-requires-clause-letters
settle_suite-requires-clause-letters g c = suite_words c.args.settings.testing.suite c.args.hypothesis.now.inputs c.args.model.inputs c.args.model.rows c.args.settings.extra (g.S.Chunks.left c.args.suite.now) c.requires.alphabets.0 c.requires.suite

pub walk_and_certify-requires-clause-nothing : goal.walk_and_certify-requires-clause-nothing
walk_and_certify-requires-clause-nothing g c = c.in_ok-found.ensures.leaves.unclashed refl c.requires.nothing

pub returns-in-None-clause-leaves : goal.returns-in-None-clause-leaves
returns-in-None-clause-leaves g c = leaves_then (g.O.Oracle.state c.args.oracle.now) (g.O.Oracle.state c.settle_suite.new.oracle) (g.O.Oracle.state c.walk_and_certify.new.oracle) (learn_stop c.walk_and_certify.result) c.in_ok-found.ensures.leaves c.walk_and_certify.ensures.leaves
