use Rattle.std.proofs.Common.{◌≡◌, ◌∙◌, Some, None, ap, refl}
use Rattle.lw_mealy.specs.Machine.{MealyMachine}
use Rattle.lw_sul.specs.SessionState.{SessionState}
use Rattle.lw_sul.specs.TableSulState.{TableSulState}
use Rattle.lw_system.proofs.ToldLemmas.{as_many_names}
use Rattle.lw_ask.proofs.ChildLemmas.{never_stopped, put_as}
use Rattle.lw_ask.proofs.command.ask_table.Goals as goal

pub returns-clause-asks : goal.returns-clause-asks
returns-clause-asks g c =
    let O = g.O.Sink in
    let o = O.state c.args.out.now in
    let after = c.ask_session-kept.new.out in
    let p = O.state after in
    let m = c.args.machine in
    let s = c.new-session.result in
    let t = c.ask_session-kept.new.session in
    let asked = c.ask_session-kept.ensures in
    let is : Some s.sul.machine.rows ≡ Some m.mealy.rows = ap (λ (x : SessionState TableSulState). Some x.sul.machine.rows) c.new-session.ensures ∙ ap (λ (x : MealyMachine). Some x.rows) c.new.ensures.machine in
    let are : t.sul.names ≡ m.outputs = as_many_names s.sul.names t.sul.names asked.grown asked.same.most ∙ (ap (λ (x : SessionState TableSulState). x.sul.names) c.new-session.ensures ∙ c.new.ensures.names) in
    let came = c.ask_session-kept.result.came in
    record {
      came = came;
      outcome = c.came_outcome.ensures;
      runs = t.journal;
      put = put_as (Some s.sul.machine.rows) (Some m.mealy.rows) m.inputs c.args.words.now t.sul.names m.outputs t.journal c.ask_session-kept.result.kept.answers o p came is are asked.put;
      sound = never_stopped came None refl asked.stopped;
    }
