use Rattle.std.proofs.Common.{◌∙◌, ℕ, length, ap, sym}
use Rattle.lw_accept.proofs.ViewLemmas.{states}
use Rattle.lw_mealy.specs.Machine.{Rows}
use Rattle.lw_report.specs.declared.outcome.Outcome.{Outcome as Came}
use Rattle.lw_learn.proofs.reporting.acceptor_report.Goals as goal

pub returns-in-Ok-acceptor_told-clause-outcome : goal.returns-in-Ok-acceptor_told-clause-outcome
returns-in-Ok-acceptor_told-clause-outcome c =
    let m = c.in-Ok-unview.acceptor in
    c.in-Ok-acceptor_told.ensures.outcome
    ∙ ap (λ (n : ℕ). Came.Accepted n c.args.refinements)
    (sym (states (length m.inputs) m.automaton c.in-Ok-unview.ensures.named.acceptor) ∙ ap (λ (rows : Rows). length rows) c.in-Ok-unview.ensures.view)
