use Rattle.std.proofs.Common.{rules, ◌≡◌, ◌+◌, ◌*◌, ◌<◌, ℕ, List, [], ◌∷◌, ◌++◌, get_or, ap, sym, ◌∙◌, arith}
use Rattle.lw_table.specs.Table.{TableState, row_number, row_at}
use Rattle.lw_table.specs.bodies.Transitions.{IsTransition}
use Rattle.lw_table.proofs.TransitionLemmas.{transitions_more}
use Rattle.lw_table.proofs.table.ObservationTable.transitions.Goals as goal

pub unreachable-requires : goal.unreachable-requires
unreachable-requires c =
    let t : TableState = c.args.self.now in
    let q = c.args.state in
    let x = c.loop-letter.letter in
    let letters : c.from-letters.result ≡ t.inputs = c.from-letters.ensures ∙ ap (λ (u : TableState). u.inputs) c.self.view_is in
    let outs = c.in_ok-outputs.ensures in
    let small : x < t.inputs = search (rules, outs.count, c.deref-output-items.ensures.value) in
    let there = c.requires.closed.targets q x c.requires.state small in
    let place : row_number t.inputs q x ≡ 1 + q * c.from-letters.result + x = omega (arith, ap (λ (n : ℕ). q * n) letters) in
    c.in_default.ensures there.0 there.1 (ap (row_at t) (sym place) ∙ there.2)

pub loop-letter-preserved : goal.loop-letter-preserved
loop-letter-preserved c =
    let t : TableState = c.args.self.now in
    let q = c.args.state in
    let x = c.loop-letter.letter in
    let letters : c.from-letters.result ≡ t.inputs = c.from-letters.ensures ∙ ap (λ (u : TableState). u.inputs) c.self.view_is in
    let outs = c.in_ok-outputs.ensures in
    let small : x < t.inputs = search (rules, outs.count, c.deref-output-items.ensures.value) in
    let place : row_number t.inputs q x ≡ 1 + q * c.from-letters.result + x = omega (arith, ap (λ (n : ℕ). q * n) letters) in
    let target = c.in-Some.target in
    let here : IsTransition t q x target (get_or c.in_ok-outputs.outputs.items x 0) = record {
      within = c.in-Some.ensures.0;
      row = ap (row_at t) place ∙ c.in-Some.ensures.1;
      cell = outs.each x small;
    } in
    let grown : c.push.new.self.items ≡ c.loop-letter.row.items ++ (target, get_or c.in_ok-outputs.outputs.items x 0) ∷ [] = c.in_ok-push.ensures.items ∙ ap (λ (l : List ℕ). c.loop-letter.row.items ++ (target, get_or l x 0) ∷ []) c.deref-output-items.ensures.value in
    transitions_more t q x target (get_or c.in_ok-outputs.outputs.items x 0) c.loop-letter.row.items c.push.new.self.items c.loop-letter.invariant here grown
