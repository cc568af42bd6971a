use Rattle.std.proofs.Common.{◌∙◌, ap, map, sym}
use Rattle.std.proofs.lemmas.List.{drop-map, take_rest}
use Rattle.lw_top.proofs.text_reasons.behind.Goals as goal

pub returns : goal.returns
returns c = ap (map (λ t. t.now)) (take_rest c.args.texts.now c.args.count) ∙ sym (drop-map (λ t. t.now) c.args.count c.args.texts.now)
