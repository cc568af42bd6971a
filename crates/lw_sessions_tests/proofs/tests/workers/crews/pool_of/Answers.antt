use Rattle.std.proofs.Common.{rules, ◌≡◌, None, ap, sym, subst}
use Rattle.lw_names.specs.Naming.{Naming}
use Rattle.lw_desk.specs.Ending.{IsShared}
use Rattle.lw_pool.proofs.JoinLemmas.{declared_come_up, declared_shared}
use Rattle.lw_sessions_tests.proofs.tests.workers.crews.pool_of.Goals as goal

pub new-requires-2-clause-shared : goal.new-requires-2-clause-shared
new-requires-2-clause-shared g c =
    let is : c.expect-shared.result ≡ record { names = c.names_of-names.result; brought = None } = search rules in
    subst (λ (n : Naming). IsShared n) (sym is) (declared_shared _)

pub new-requires-2-clause-come_up : goal.new-requires-2-clause-come_up
new-requires-2-clause-come_up g c =
    let is : c.expect-shared.result ≡ record { names = c.names_of-names.result; brought = None } = search rules in
    declared_come_up _ _ (ap (λ (n : Naming). n.brought) is)
