use Rattle.std.proofs.Common.{ℕ, List, [], None, ap, sym, subst}
use Rattle.std.proofs.lemmas.List.{get_or_default}
use Rattle.lw_words.specs.Word.{name_at}
use Rattle.lw_names.specs.Naming.{Naming}
use Rattle.lw_desk.specs.Ending.{IsShared}
use Rattle.lw_pool.proofs.JoinLemmas.{declared_come_up}
use Rattle.bench_pool.proofs.crews.pool_of.Goals as goal

all_shared : (names : List (List ℕ)) → IsShared record { names = names; brought = None }
all_shared names instance y lt = (y, lt, get_or_default names y (name_at names y) [] lt)

pub new-requires-2-clause-shared : goal.new-requires-2-clause-shared
new-requires-2-clause-shared g c = subst (λ (n : Naming). IsShared n) (sym c.in_ok-shared.ensures) (all_shared _)

pub new-requires-2-clause-come_up : goal.new-requires-2-clause-come_up
new-requires-2-clause-come_up g c = declared_come_up _ _ (ap (λ (n : Naming). n.brought) c.in_ok-shared.ensures)
