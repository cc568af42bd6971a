use Rattle.std.proofs.Common.{◌≡◌, None, Err, length, option_map, refl, rules, ap, ◌∙◌}
use Rattle.lw_words.specs.declared.stop.SulStop.{SulStop}
use Rattle.lw_sul.specs.Runs.{after_reset}
use Rattle.lw_outside.specs.Protocol.{ready_line, reset_line}
use Rattle.lw_line.specs.Causes.{IsFormed}
use Rattle.lw_line.specs.LineState.{told_runs}
use Rattle.lw_line.specs.bodies.Exchanges.{ended}
use Rattle.lw_line.proofs.Calls.{reset_ready, reset_refused}
use Rattle.lw_line.proofs.Noting.{run_begun}
use Rattle.lw_line.proofs.Telling.{answered_told, refused_told}
use Rattle.lw_line.proofs.system.LineSulSul.reset.Goals as goal

pub invariant_of-self : goal.invariant_of-self
invariant_of-self g c =
    let L = g.L.Link in
    let s = c.self.inside in
    let live : s.stop ≡ None = search rules in
    let done =
    reset_ready s.letters s.outputs.names s.outputs.most (L.state s.link).faults (L.state s.link).ends (L.state c.start.new.link).faults (L.state c.start.new.link).ends s.started s.inbox c.start.new.inbox s.stop s.cut (L.state s.link).transcript (L.state c.start.new.link).transcript live c.self.invariant.0
    c.in-Ok.ensures.ready in
    (done.0, λ free. answered_told s.outputs.names (ended reset_line) s.inbox c.start.new.inbox ready_line (L.state s.link).transcript (L.state c.start.new.link).transcript c.in-Ok.ensures.ready (c.self.invariant.1 free), run_begun (length s.letters) s.note c.begin_run.new.self c.receive.new.self c.begin_run.ensures c.receive.ensures)

pub returns-in-Ok : goal.returns-in-Ok
returns-in-Ok g c =
    let L = g.L.Link in
    let s = c.self.inside in
    let live : s.stop ≡ None = search rules in
    let done =
    reset_ready s.letters s.outputs.names s.outputs.most (L.state s.link).faults (L.state s.link).ends (L.state c.start.new.link).faults (L.state c.start.new.link).ends s.started s.inbox c.start.new.inbox s.stop s.cut (L.state s.link).transcript (L.state c.start.new.link).transcript live c.self.invariant.0
    c.in-Ok.ensures.ready in
    let view = ap (λ s. told_runs s.letters s.names (L.state s.link).transcript) c.self.view_is in
    record {
      ok = search rules;
      begins = done.1 ∙ ap (option_map after_reset) view;
      names = search rules;
      starts = search rules;
      err = search rules;
      left = search rules;
      whole = search rules;
      failed = search rules;
      counts = search rules;
      same = search rules;
    }

pub invariant_of-self-in-Err : goal.invariant_of-self-in-Err
invariant_of-self-in-Err g c =
    let L = g.L.Link in
    let s = c.self.inside in
    let live : s.stop ≡ None = search rules in
    let done =
    reset_refused s.letters s.outputs.names s.outputs.most (L.state s.link).faults (L.state s.link).ends (L.state c.start.new.link).faults (L.state c.start.new.link).ends s.started s.inbox c.start.new.inbox s.stop s.cut (L.state s.link).transcript (L.state c.start.new.link).transcript live c.self.invariant.0
    c.in-Err.stop c.copy.result c.copy.ensures (λ is. c.in-Err.ensures.failed (ap (λ (e : SulStop). Err e) is)) (λ is. c.in-Err.ensures.gone (ap (λ (e : SulStop). Err e) is)) c.in-Err.ensures.err in
    (done.0, λ free. refused_told s.outputs.names (λ answer. ¬ IsFormed reset_line answer) (ended reset_line) s.inbox c.start.new.inbox c.in-Err.stop (L.state s.link).transcript (L.state c.start.new.link).transcript c.in-Err.ensures.err (c.self.invariant.1 free), run_begun (length s.letters) s.note c.begin_run.new.self c.begin_run.new.self c.begin_run.ensures refl)

pub returns-in-Err : goal.returns-in-Err
returns-in-Err g c =
    let L = g.L.Link in
    let s = c.self.inside in
    let live : s.stop ≡ None = search rules in
    let done =
    reset_refused s.letters s.outputs.names s.outputs.most (L.state s.link).faults (L.state s.link).ends (L.state c.start.new.link).faults (L.state c.start.new.link).ends s.started s.inbox c.start.new.inbox s.stop s.cut (L.state s.link).transcript (L.state c.start.new.link).transcript live c.self.invariant.0
    c.in-Err.stop c.copy.result c.copy.ensures (λ is. c.in-Err.ensures.failed (ap (λ (e : SulStop). Err e) is)) (λ is. c.in-Err.ensures.gone (ap (λ (e : SulStop). Err e) is)) c.in-Err.ensures.err in
    let view = ap (λ s. told_runs s.letters s.names (L.state s.link).transcript) c.self.view_is in
    record {
      ok = search rules;
      begins = search rules;
      names = search rules;
      starts = search rules;
      err = search rules;
      left = done.1 ∙ view;
      whole = search rules;
      failed = search rules;
      counts = search rules;
      same = search rules;
    }
