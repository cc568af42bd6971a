use Rattle.std.proofs.Common.{◌∙◌, ◌++◌, ℕ, List, ap, codes}
use Rattle.std.specs.List.{flat_map}
use Rattle.lw_top.proofs.PageLemmas.{fourth_behind, mapped}
use Rattle.lw_top.proofs.text_reasons.needs_text.Goals as goal

pub returns : goal.returns
returns c =
    fourth_behind (codes "--") c.args.first.now (codes " needs --") c.args.missing.now (flat_map (λ n. codes " and --" ++ n.now) c.args.more.now) c.in_ok-text.ensures c.in_ok-push_str.ensures.bytes c.in_ok-push_more.ensures
    ∙ ap (λ (t : List ℕ). codes "--" ++ (c.args.first.now ++ (codes " needs --" ++ (c.args.missing.now ++ t)))) (mapped (λ (p : List ℕ). codes " and --" ++ p) (λ n. n.now) c.args.more.now)
