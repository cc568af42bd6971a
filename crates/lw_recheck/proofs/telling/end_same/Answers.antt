use Rattle.std.proofs.Common.{inl, refl, subst}
use Rattle.lw_report.specs.Outcomes.{StandsOrWants}
use Rattle.lw_report.specs.declared.outcome.Outcome.{Outcome}
use Rattle.lw_recheck.proofs.TellLemmas.{cut_off}
use Rattle.lw_recheck.proofs.telling.end_same.Goals as goal

pub returns-in-Ok-clause-same : goal.returns-in-Ok-clause-same
returns-in-Ok-clause-same g c =
    inl (record {
      outcome = c.new.ensures.outcome;
      line = c.in-Ok.ensures.ok;
      quiet = c.in-Ok.ensures.quiet;
      unsaid = refl;
    })

pub returns-in-Err-clause-same : goal.returns-in-Err-clause-same
returns-in-Err-clause-same g c =
    let O = g.O.Sink in
    let E = g.E.Sink in
    let o = O.state c.args.out.now in
    let p = O.state c.put_same.new.out in
    let e = E.state c.args.err.now in
    let d = E.state c.refuse.new.err in
    let was = c.put_same.ensures in
    cut_off c.args.answers c.args.kept.answers o p e d c.refuse.result c.put_same.result c.in-Err.stop c.in-Err.is
    (subst (λ (w : Outcome). StandsOrWants w c.refuse.result.outcome) c.from.ensures c.refuse.ensures.outcome)
    was.memory was.calm was.failed was.no_file was.part (record { said = c.refuse.ensures.said; part = c.refuse.ensures.part })
