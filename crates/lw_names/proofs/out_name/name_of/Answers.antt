use Rattle.std.proofs.Common.{◌∙◌, sym}
use Rattle.lw_names.proofs.NameLemmas.{IsName-at, is_name_at}
use Rattle.lw_names.proofs.out_name.name_of.Goals as goal

pub unreachable-requires : goal.unreachable-requires
unreachable-requires c =
    c.in_default.ensures.none (IsName-at c.args.names.now c.args.y c.name.result.now c.len-names.ensures.names.each c.name.ensures.value)

pub returns : goal.returns
returns c = c.in-Some.ensures.some ∙ sym (is_name_at c.args.names.now c.args.y c.name.result.now c.name.ensures.value)
