use Rattle.std.proofs.Common.{ℕ, ◌+◌, List, [], ◌∷◌, ◌++◌, length, Some, None, refl, ap, sym, ◌∙◌, subst}
use Rattle.std.proofs.lemmas.List.{length_push}
use Rattle.lw_sul.specs.SessionState.{SessionState}
use Rattle.lw_names.specs.Naming.{Naming}
use Rattle.lw_pool.specs.Pool.{Member}
use Rattle.lw_pool.specs.Opening.{MayJoin, AllMayJoin}
use Rattle.bench_pool.specs.declared.paced.Paced.{Paced}
use Rattle.lw_pool.proofs.JoinLemmas.{none_joins, one_more_joins}
use Rattle.bench_pool.proofs.crews.hired.Goals as goal

abbrev member : SessionState Paced → Member Paced
member s = record { session = s; seen = record { instance = s.instance; journal = s.journal; names = s.sul.table.names; most = length s.sul.table.names; stop = None; origin = record { machine = Some s.sul.table.machine.rows; link = None; letters = None }; inputs = s.sul.table.machine.inputs; outputs = s.sul.table.machine.outputs } }

pub loop-instance-init : goal.loop-instance-init
loop-instance-init c = record {
  count = ap (λ (l : List (SessionState Paced)). length l) c.new-sessions.ensures.items;
  join = subst (AllMayJoin member c.args.shared.now 4 2) (sym c.new-sessions.ensures.items) (none_joins member c.args.shared.now 4 2);
}

pub loop-instance-preserved : goal.loop-instance-preserved
loop-instance-preserved c =
    let a = c.in_ok-system.ensures in
    let new : SessionState Paced = record { instance = c.loop-instance.instance; sul = c.in_ok-system.field-0; journal = [] } in
    record {
      count = ap (λ (l : List (SessionState Paced)). length l) c.in_ok-push.ensures.items ∙ (length_push c.loop-instance.sessions.items c.new.result ∙ ap (λ (n : ℕ). n + 1) c.loop-instance.invariant.count);
      join = subst (AllMayJoin member c.args.shared.now 4 2) (sym (c.in_ok-push.ensures.items ∙ ap (λ (s : SessionState Paced). c.loop-instance.sessions.items ++ s ∷ []) c.new.ensures))
          (one_more_joins member c.args.shared.now 4 2 c.loop-instance.sessions.items new c.loop-instance.invariant.join
          (subst (λ (n : Naming). MayJoin n 4 2 (length c.loop-instance.sessions.items) (member new).seen) (sym c.requires) (record {
            instance = sym c.loop-instance.invariant.count;
            inputs_is = a.0;
            outputs_is = a.1;
            journal = refl;
            live = refl;
            fits = (a.2, ap (λ (l : List (List ℕ)). length l) a.2, a.1 ∙ sym c.args.kind.now.two);
            names = a.2;
          })));
    }
