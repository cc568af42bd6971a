use Rattle.std.proofs.Common.{◌≡◌, ◌∙◌, ℕ, List, Some, None, ap, refl, subst, sym}
use Rattle.lw_words.specs.declared.kept.KeptAnswer.{KeptAnswer}
use Rattle.lw_mealy.specs.Machine.{MealyMachine}
use Rattle.lw_sul.specs.SessionState.{SessionState}
use Rattle.lw_sul.specs.TableSulState.{TableSulState}
use Rattle.lw_system.proofs.ToldLemmas.{as_many_names}
use Rattle.lw_recheck.specs.Again.{HasRechecked}
use Rattle.lw_recheck.specs.Outcomes.{came_outcome}
use Rattle.lw_recheck.proofs.ChildLemmas.{never_stopped, rechecked_as}
use Rattle.lw_recheck.proofs.command.recheck_table.Goals as goal

pub returns : goal.returns
returns c =
    let m = c.args.machine in
    let s = c.new-session.result in
    let t = c.recheck_session-asked.new.session in
    let asked = c.recheck_session-asked.ensures in
    let result = c.recheck_session-asked.result in
    let is : Some s.sul.machine.rows ≡ Some m.mealy.rows = ap (λ (x : SessionState TableSulState). Some x.sul.machine.rows) c.new-session.ensures ∙ ap (λ (x : MealyMachine). Some x.rows) c.new.ensures.machine in
    let are : t.sul.names ≡ m.outputs = as_many_names s.sul.names t.sul.names asked.grown asked.same.most ∙ (ap (λ (x : SessionState TableSulState). x.sul.names) c.new-session.ensures ∙ c.new.ensures.names) in
    let has = rechecked_as (Some s.sul.machine.rows) (Some m.mealy.rows) c.args.outputs c.args.kept.answers t.sul.names m.outputs t.journal result.names result.kept.answers result.came is are asked.has in
    record {
      came = result.came;
      outcome = c.told_of.ensures.outcome ∙ ap (λ (n : ℕ). came_outcome n result.came) c.len-count.ensures;
      runs = t.journal;
      names = result.names;
      shown_are = c.told_of.ensures.names;
      has = subst (λ (ks : List KeptAnswer). HasRechecked (Some m.mealy.rows) c.args.outputs c.args.kept.answers m.outputs t.journal result.names ks result.came) (sym c.told_of.ensures.kept) has;
      sound = never_stopped result.came None refl asked.stopped;
    }
