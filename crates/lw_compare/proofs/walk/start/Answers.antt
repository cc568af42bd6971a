use Rattle.std.proofs.Common.{◌≡◌, ◌∙◌, ap, rules}
use Rattle.lw_compare.proofs.StepLemmas.{walk_start}
use Rattle.lw_compare.proofs.walk.start.Goals as goal

pub returns : goal.returns
returns c =
    walk_start c.args.first.now c.args.second.now c.args.by.now.letters.items c.args.by.now.outputs.items c.requires.by _ c.new.ensures.items c.in_ok-vec.ensures.items (search rules)
