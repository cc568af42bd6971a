use Rattle.std.proofs.Common.{◌∙◌, ◌++◌, ℕ, List, [], ap, codes}
use Rattle.std.specs.List.{flat_map}
use Rattle.lw_top.proofs.PageLemmas.{fourth_behind, mapped}
use Rattle.lw_top.proofs.text_reasons.wanted_text.Goals as goal

pub returns : goal.returns
returns c =
    fourth_behind (codes "one of ") c.args.first.now [] (flat_map (λ n. codes " and --" ++ n.now) c.args.options.now) (codes " is wanted") c.in_ok-text.ensures c.in_ok-push_more.ensures c.in_ok-push_str.ensures.bytes
    ∙ ap (λ (t : List ℕ). codes "one of " ++ (c.args.first.now ++ (t ++ codes " is wanted"))) (mapped (λ (p : List ℕ). codes " and --" ++ p) (λ n. n.now) c.args.options.now)
