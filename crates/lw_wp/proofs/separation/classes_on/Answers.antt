use Rattle.std.proofs.Common.{ℕ, Vec, Global}
use Rattle.lw_wp.proofs.SeparationLemmas.{classes_read}
use Rattle.lw_wp.proofs.separation.classes_on.Goals as goal

pub returns : goal.returns
returns c =
    classes_read (λ (v : Vec ℕ Global). v.items) c.args.m.now.rows c.args.by.now.words c.args.by.now.classes.items c.args.number c.index.result.now c.as_slice.result.now c.requires.separation.classes c.requires.number c.index.ensures c.as_slice.ensures.value
