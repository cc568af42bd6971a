use Rattle.std.proofs.Common.{◌≡◌, ◌≤◌, ℕ, List, [], ◌∷◌, ◌++◌, length, take, replicate, Some, None, rules, refl, ap, ap₂, sym, ◌∙◌, subst}
use Rattle.lw_sul.specs.SessionState.{SessionState}
use Rattle.lw_names.specs.Naming.{Naming, own_names}
use Rattle.lw_pool.specs.Pool.{Member}
use Rattle.lw_pool.specs.Opening.{MayJoin, AllMayJoin}
use Rattle.lw_sessions_tests.specs.declared.tests.pool.growing.Growing.{Growing}
use Rattle.lw_pool.proofs.JoinLemmas.{none_joins, one_more_joins}
use Rattle.lw_sessions_tests.proofs.tests.pool.free.hired.Goals as goal

abbrev Hired : Type 0
Hired = SessionState Growing

abbrev member : Hired → Member Growing
member s = record { session = s; seen = record { instance = s.instance; journal = s.journal; names = take s.sul.known s.sul.table.names; most = length s.sul.table.names; stop = s.sul.stop; origin = record { machine = None; link = None; letters = None }; inputs = s.sul.table.machine.inputs; outputs = 4096 } }

abbrev free : Naming
free = record { names = []; brought = Some (replicate 16 []) }

abbrev hired_at : ℕ → Growing → Hired
hired_at number system = record { instance = number; sul = system; journal = [] }

joins : (number : ℕ) (system : Growing) → own_names free number ≡ [] → (system.table.machine.inputs ≡ 2) × (length system.table.names ≤ 256) → (system.stop ≡ None) × (system.known ≡ 0) → MayJoin free 2 4096 number (member (hired_at number system)).seen
joins number system none numbers begun = record {
  instance = refl;
  inputs_is = numbers.0;
  outputs_is = refl;
  journal = refl;
  live = begun.0;
  fits = (refl, numbers.1, refl);
  names = ap (λ (n : ℕ). take n system.table.names) begun.1 ∙ sym none;
}

pub returns-clause-join : goal.returns-clause-join
returns-clause-join g c =
    let first : Hired = hired_at 0 c.growing-first.result in
    let second : Hired = hired_at 1 c.growing-second.result in
    let none : c.expect-sessions.result.items ≡ [] = search rules in
    let one : c.push_reserved.new.self.items ≡ [] ++ first ∷ [] = c.push_reserved.ensures.items ∙ ap₂ (λ (l : List Hired) (s : Hired). l ++ s ∷ []) none c.new.ensures in
    let two : c.push_reserved-2.new.self.items ≡ ([] ++ first ∷ []) ++ second ∷ [] = c.push_reserved-2.ensures.items ∙ ap₂ (λ (l : List Hired) (s : Hired). l ++ s ∷ []) one c.new-2.ensures in
    subst (AllMayJoin member c.args.shared.now 2 4096) (sym two)
    (subst (λ (n : Naming). AllMayJoin member n 2 4096 (([] ++ first ∷ []) ++ second ∷ [])) (sym c.requires)
    (one_more_joins member free 2 4096 ([] ++ first ∷ []) second
    (one_more_joins member free 2 4096 [] first (none_joins member free 2 4096) (joins 0 c.growing-first.result refl c.growing-first.ensures.numbers c.growing-first.ensures.begun))
    (joins 1 c.growing-second.result refl c.growing-second.ensures.numbers c.growing-second.ensures.begun)))
