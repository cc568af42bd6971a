use Rattle.std.proofs.Common.{subst}
use Rattle.lw_line.specs.Causes.{IsTranscriptOf}
use Rattle.lw_line.specs.LineState.{AreToldIfFree}
use Rattle.lw_line.proofs.Calls.{told_of}
use Rattle.lw_line.proofs.system.LineSul.into_link.Goals as goal

pub returns-clause-told : goal.returns-clause-told
returns-clause-told g c =
    let L = g.L.Link in
    let s = c.self.inside in
    subst (λ s. IsTranscriptOf s.letters s.names s.most (L.state s.link).faults s.stop s.cut (L.state s.link).transcript) c.self.view_is
    (told_of s.letters s.outputs.names s.outputs.most (L.state s.link).faults s.started s.inbox s.stop s.cut (L.state s.link).transcript c.self.invariant.0.link)

pub returns-clause-told_names : goal.returns-clause-told_names
returns-clause-told_names g c =
    let L = g.L.Link in
    subst (λ s. AreToldIfFree s.names s.most s.outputs (L.state s.link).transcript) c.self.view_is c.self.invariant.1
