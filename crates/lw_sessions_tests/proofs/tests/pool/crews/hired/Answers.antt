use Rattle.std.proofs.Common.{ℕ, List, [], ◌∷◌, ◌++◌, length, Some, None, rules, ◌≡◌, refl, ap, sym, ◌∙◌, subst}
use Rattle.lw_sul.specs.SessionState.{SessionState}
use Rattle.lw_names.specs.Naming.{Naming}
use Rattle.lw_pool.specs.Pool.{Member}
use Rattle.lw_pool.specs.Opening.{MayJoin, AllMayJoin}
use Rattle.lw_sessions_tests.specs.declared.tests.pool.acting.Acting.{Acting}
use Rattle.lw_pool.proofs.JoinLemmas.{none_joins, one_more_joins}
use Rattle.lw_sessions_tests.proofs.tests.pool.crews.hired.Goals as goal

abbrev member : SessionState Acting → Member Acting
member s = record { session = s; seen = record { instance = s.instance; journal = s.journal; names = s.sul.table.names; most = length s.sul.table.names; stop = s.sul.stop; origin = record { machine = Some s.sul.table.machine.rows; link = None; letters = None }; inputs = s.sul.table.machine.inputs; outputs = s.sul.table.machine.outputs } }

pub loop-plan-init : goal.loop-plan-init
loop-plan-init g c = subst (AllMayJoin member c.args.shared.now 2 2) (sym c.new-sessions.ensures.items) (none_joins member c.args.shared.now 2 2)

pub loop-plan-preserved : goal.loop-plan-preserved
loop-plan-preserved g c =
    let a = c.acting-acting.ensures in
    let new : SessionState Acting = record { instance = c.expect-instance.result; sul = c.acting-acting.result; journal = [] } in
    let pushed : c.push.new.self.items ≡ c.loop-plan.sessions.items ++ new ∷ [] = search rules in
    let number : c.expect-instance.result ≡ length c.loop-plan.sessions.items = search rules in
    subst (AllMayJoin member c.args.shared.now 2 2) (sym pushed)
    (one_more_joins member c.args.shared.now 2 2 c.loop-plan.sessions.items new c.loop-plan.invariant
    (subst (λ (n : Naming). MayJoin n 2 2 (length c.loop-plan.sessions.items) (member new).seen) (sym c.requires) (record {
      instance = number;
      inputs_is = a.numbers.0;
      outputs_is = a.numbers.1;
      journal = refl;
      live = a.live;
      fits = (a.names, ap (λ (l : List (List ℕ)). length l) a.names, a.numbers.1 ∙ sym a.numbers.2);
      names = a.names;
    })))
