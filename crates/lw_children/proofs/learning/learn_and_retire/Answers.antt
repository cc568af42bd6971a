use Rattle.std.proofs.Common.{◌∙◌, refl, sym}
use Rattle.lw_rounds.specs.Stops.{learn_stop}
use Rattle.lw_workers.proofs.MachineLemmas.{enough_as}
use Rattle.lw_children.proofs.AskedLemmas.{asked_kept}
use Rattle.lw_children.proofs.EndLemmas.{later_linked}
use Rattle.lw_workers.proofs.PlainLemmas.{runs_as}
use Rattle.lw_children.proofs.learning.learn_and_retire.Goals as goal

pub retire_all-requires-clause-linked : goal.retire_all-requires-clause-linked
retire_all-requires-clause-linked g c κs within =
    later_linked g.P.Link.Link.state (g.P.Spawner.state c.args.spawner.now) c.args.pool c.learn_with-learned.result.pool c.into_parts-sessions.result.0.items (learn_stop c.learn_with-learned.result.learned) c.requires.children c.learn_with-learned.ensures.leaves c.into_parts-sessions.ensures.sessions

pub returns-clause-asked : goal.returns-clause-asked
returns-clause-asked g c =
    asked_kept c.args.words.now c.learn_with-learned.result.learned c.learn_with-learned.result.pool.kept c.into_kept.result.answers (c.into_kept.ensures ∙ c.into_parts-sessions.ensures.cache.0) c.learn_with-learned.ensures.asked

pub returns-clause-enough : goal.returns-clause-enough
returns-clause-enough g c =
    enough_as c.args.settings.testing c.args.pool.inputs c.args.pool.inputs c.args.settings.extra c.learn_with-learned.result.pool.kept c.into_kept.result.answers c.learn_with-learned.result.learned refl (sym (c.into_kept.ensures ∙ c.into_parts-sessions.ensures.cache.0)) c.learn_with-learned.ensures.enough

pub returns-clause-plainly : goal.returns-clause-plainly
returns-clause-plainly g c =
    runs_as c.args.settings.kind c.args.settings.testing c.args.pool.inputs c.args.pool.inputs c.args.settings.extra c.args.settings.max_states c.args.words.now c.args.words.now c.learn_with-learned.result.learned c.args.pool.kept c.args.pool.kept
    c.learn_with-learned.result.pool.kept c.into_kept.result.answers refl refl refl (sym (c.into_kept.ensures ∙ c.into_parts-sessions.ensures.cache.0)) c.learn_with-learned.ensures.plainly
