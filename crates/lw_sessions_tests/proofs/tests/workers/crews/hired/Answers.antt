use Rattle.std.proofs.Common.{ℕ, List, [], ◌∷◌, ◌++◌, length, Some, None, rules, ◌≡◌, refl, ap, sym, ◌∙◌, subst}
use Rattle.lw_sul.specs.SessionState.{SessionState}
use Rattle.lw_names.specs.Naming.{Naming}
use Rattle.lw_pool.specs.Pool.{Member}
use Rattle.lw_pool.specs.Opening.{MayJoin, AllMayJoin}
use Rattle.lw_sessions_tests.specs.declared.tests.workers.crews.Refusing.{Refusing}
use Rattle.lw_pool.proofs.JoinLemmas.{none_joins, one_more_joins}
use Rattle.lw_sessions_tests.proofs.tests.workers.crews.hired.Goals as goal

abbrev member : SessionState Refusing → Member Refusing
member s = record { session = s; seen = record { instance = s.instance; journal = s.journal; names = s.sul.table.names; most = length s.sul.table.names; stop = s.sul.stop; origin = record { machine = Some s.sul.table.machine.rows; link = None; letters = None }; inputs = s.sul.table.machine.inputs; outputs = s.sul.table.machine.outputs } }

pub loop-init : goal.loop-init
loop-init g c = subst (AllMayJoin member c.args.shared.now 1 2) (sym c.new-hired.ensures.items) (none_joins member c.args.shared.now 1 2)

pub loop-preserved : goal.loop-preserved
loop-preserved g c =
    let a = c.system-system.ensures in
    let new : SessionState Refusing = record { instance = c.expect-instance.result; sul = c.system-system.result; journal = [] } in
    let pushed : c.push.new.self.items ≡ c.loop.hired.items ++ new ∷ [] = search rules in
    let number : c.expect-instance.result ≡ length c.loop.hired.items = search rules in
    subst (AllMayJoin member c.args.shared.now 1 2) (sym pushed)
    (one_more_joins member c.args.shared.now 1 2 c.loop.hired.items new c.loop.invariant
    (subst (λ (n : Naming). MayJoin n 1 2 (length c.loop.hired.items) (member new).seen) (sym c.requires.shared) (record {
      instance = number;
      inputs_is = a.numbers.0;
      outputs_is = a.numbers.1;
      journal = refl;
      live = a.live;
      fits = (a.names, ap (λ (l : List (List ℕ)). length l) a.names, a.numbers.1 ∙ sym c.requires.names);
      names = a.names;
    })))
