use Rattle.std.proofs.Common.{ℕ, List, codes, map, string_bytes}
use Rattle.lw_top.specs.HelpTexts.{listed}
use Rattle.lw_top.proofs.PageLemmas.{fourth}
use Rattle.lw_top.proofs.pages.push_choices.Goals as goal

pub returns : goal.returns
returns c =
    let names : List (List ℕ) = map (λ n. n.now) c.args.choices.now in
    fourth (string_bytes c.args.text.now) (codes "one of ") (listed names) (codes ", by default ") c.args.default.now c.in_ok-push_str.ensures.bytes c.in_ok-push_listed.ensures c.in_ok-push_str-2.ensures.bytes c.in_ok-push_str-3.ensures.bytes
