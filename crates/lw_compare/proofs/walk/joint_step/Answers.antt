use Rattle.std.proofs.Common.{◌≡◌, ◌∙◌}
use Rattle.std.specs.Bool.{Decides}
use Rattle.lw_compare.specs.bodies.Joint.{AgreeAt}
use Rattle.lw_compare.proofs.NameLemmas.{agrees}
use Rattle.lw_compare.proofs.walk.joint_step.Goals as goal

abbrev test : (c : goal.After-eq) → Decides c.eq.result (AgreeAt c.args.first.now c.args.second.now c.args.node c.args.x)
test c =
    agrees c.args.first.now c.args.second.now c.args.by.now.letters.items c.args.by.now.outputs.items c.requires.by c.args.node c.args.x c.from-states.result c.index.result.now c.from.result c.from-4.result c.step-p.result c.step-q.result c.index-2.result.now c.eq.result
    c.requires.node c.requires.letter (c.from-states.ensures ∙ c.states.ensures.value) c.step-p.ensures.value c.from.ensures c.index.ensures c.step-q.ensures.value c.from-4.ensures c.index-2.ensures c.eq.ensures

pub returns-clause-yes : goal.returns-clause-yes
returns-clause-yes c = (test c).0

pub returns-clause-no : goal.returns-clause-no
returns-clause-no c other at = let yes = (test c).1 at in cc
