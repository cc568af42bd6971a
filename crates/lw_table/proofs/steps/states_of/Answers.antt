use Rattle.std.proofs.Common.{◌≡◌, ℕ, List, length, map, take, get_or, nat_eq, cond, Some, refl, ap, sym, ◌∙◌, subst, arith}
use Rattle.std.specs.HashMap.{get}
use Rattle.std.proofs.lemmas.List.{length-map, length-take-le, take_all}
use Rattle.lw_table.specs.bodies.Numbered.{AreNumbered}
use Rattle.lw_table.specs.bodies.Rows.{class_at}
use Rattle.lw_table.proofs.NumberedLemmas.{numbered_more, mapped_more}
use Rattle.lw_table.proofs.steps.states_of.Goals as goal

pub loop-state-preserved : goal.loop-state-preserved
loop-state-preserved c =
    let l = c.loop-state in
    let f = class_at c.args.rows.now in
    let homes = c.args.homes.now in
    let class : ℕ = f (get_or homes l.state 0) in
    let old = get nat_eq l.states in
    let many : l.state ≡ length (map f (take l.state homes)) = sym (length-map (take l.state homes) f ∙ length-take-le l.state homes (omega (arith, c.loop-state-test.true))) in
    subst (λ (keys : List ℕ). AreNumbered nat_eq keys (get nat_eq c.insert.new.self)) (mapped_more f homes l.state 0 c.loop-state-test.true)
    (numbered_more nat_eq (map f (take l.state homes)) old (get nat_eq c.insert.new.self) class class l.invariant (λ q. refl)
    (λ q. c.in_ok-insert.ensures.updates.0 q ∙ ap (λ (n : ℕ). cond (nat_eq class q) (Some n) (old q)) many))

pub returns : goal.returns
returns c =
    let l = c.loop-state in
    subst (λ (homes : List ℕ). AreNumbered nat_eq (map (class_at c.args.rows.now) homes) (get nat_eq l.states)) (take_all l.state c.args.homes.now (omega (arith, c.loop-state-test.false))) l.invariant
