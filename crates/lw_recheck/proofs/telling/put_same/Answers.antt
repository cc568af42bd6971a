use Rattle.std.proofs.Common.{◌≡◌, ◌∙◌, ℕ, List, subst}
use Rattle.lw_report.specs.Text.{rechecked_line}
use Rattle.lw_report.specs.Writing.{TakesAll}
use Rattle.lw_recheck.proofs.telling.put_same.Goals as goal

pub returns-clause-ok : goal.returns-clause-ok
returns-clause-ok g c =
    let O = g.O.Sink in
    let is : c.deref.result.now ≡ rechecked_line c.args.answers = c.deref.ensures.value ∙ c.in_ok-text.ensures in
    subst (λ (l : List ℕ). TakesAll l (O.state c.args.out.now).taken (O.state c.put_all.new.sink).taken) is c.in_ok-put_all.ensures.ok
