use Rattle.std.proofs.Common.{◌≡◌, ◌++◌, OnOk, codes, string_bytes, subst}
use Rattle.lw_top.proofs.PageLemmas.{joined}
use Rattle.lw_top.proofs.pages.push_listed.Goals as goal

pub returns : goal.returns
returns c =
    subst (λ t. OnOk c.push_joined.result (string_bytes c.push_joined.new.text ≡ string_bytes c.args.text.now ++ t))
    (joined (λ n. n.now) (codes ", ") c.args.names.now)
    c.push_joined.ensures
