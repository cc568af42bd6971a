use Rattle.std.proofs.Common.{◌≡◌, ℕ, Vec, Global, get_or, ap, ◌∙◌}
use Rattle.lw_separate.proofs.ColumnLemmas.{column_read}
use Rattle.lw_separate.proofs.columns.column_of.Goals as goal

pub returns : goal.returns
returns c =
    let is : c.index-columns-from.result ≡ get_or c.args.columns.now c.args.x c.index-columns-from.result = c.index-columns-from.is ∙ ap (λ (k : ℕ). get_or c.args.columns.now k c.index-columns-from.result) c.from.ensures in
    column_read (λ (v : Vec (ℕ × ℕ) Global). v.items) c.args.m.now.inputs c.args.m.now.rows c.args.columns.now c.args.x c.index-columns-from.result c.as_slice.result.now c.requires.columns c.requires.letter is c.as_slice.ensures.value
