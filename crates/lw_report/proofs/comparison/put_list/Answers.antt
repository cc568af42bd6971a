use Rattle.std.proofs.Common.{◌≡◌, ◌∙◌, ◌++◌, OnOk, ap, map, string_bytes, subst}
use Rattle.lw_report.proofs.ComparisonLemmas.{joined_of}
use Rattle.lw_report.proofs.comparison.put_list.Goals as goal

pub returns : goal.returns
returns c =
    subst (λ t. OnOk c.put_joined.result (string_bytes c.put_joined.new.text ≡ string_bytes c.args.text.now ++ t))
    (joined_of c.as_slice.result.now c.args.names.now (ap (map (λ n. string_bytes n)) c.as_slice.ensures.value ∙ c.get.ensures))
    c.put_joined.ensures
