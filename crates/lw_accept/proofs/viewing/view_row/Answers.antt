use Rattle.std.proofs.Common.{◌≡◌, ◌∙◌, ◌+◌, ◌<◌, [], ℕ, length, get_or, ap, sym, arith, refl, add-one}
use Rattle.lw_mealy.specs.Machine.{cell, row}
use Rattle.lw_accept.specs.Acceptor.{Automaton, IsNamedAcceptor, accepts_in}
use Rattle.lw_accept.specs.View.{verdict, viewed, viewed_row}
use Rattle.lw_accept.proofs.TakenLemmas.{taken_more, taken_all}
use Rattle.lw_accept.proofs.ViewLemmas.{at_letter, row_is, row_long}
use Rattle.lw_accept.proofs.viewing.view_row.Goals as goal

pub loop-letter-init : goal.loop-letter-init
loop-letter-init c =
    let m : Automaton = c.args.acceptor.now.automaton in
    let is : row (viewed m) c.args.state ≡ viewed_row c.args.state (accepts_in m c.args.state) (get_or m.targets c.args.state []) = row_is (length c.args.acceptor.now.inputs) m c.inputs.ensures.named.acceptor c.args.state c.requires in
    let first : c.verdict.result ≡ verdict (accepts_in m c.args.state) = c.verdict.ensures ∙ ap verdict c.accepts.ensures in
    c.push_reserved.ensures.items ∙ rw (c.in_ok-pairs.ensures.items, first, is) refl

pub loop-letter-preserved : goal.loop-letter-preserved
loop-letter-preserved c =
    let m : Automaton = c.args.acceptor.now.automaton in
    let a : ℕ = length c.args.acceptor.now.inputs in
    let named : IsNamedAcceptor c.args.acceptor.now = c.inputs.ensures.named in
    let le : c.loop-letter.letter < a = omega (arith, ap length c.inputs.ensures.value) in
    let at : (c.target.result, 2) ≡ cell (viewed m) c.args.state (c.loop-letter.letter + 1) =
    ap (λ (t : ℕ). (t, 2)) c.target.ensures.value ∙ (sym (at_letter a m named.acceptor c.args.state c.loop-letter.letter c.requires le) ∙ ap (λ (x : ℕ). cell (viewed m) c.args.state x) (sym (add-one c.loop-letter.letter))) in
    taken_more c.loop-letter.pairs.items c.push.new.self.items (c.target.result, 2) (row (viewed m) c.args.state) (c.loop-letter.letter + 1) (0, 0)
    c.in_ok-push.ensures.items (omega (arith, row_long a m named.acceptor c.args.state c.requires, le)) at c.loop-letter.invariant

pub returns : goal.returns
returns c =
    let m : Automaton = c.args.acceptor.now.automaton in
    let a : ℕ = length c.args.acceptor.now.inputs in
    let long : length (row (viewed m) c.args.state) ≡ a + 1 = row_long a m c.inputs.ensures.named.acceptor c.args.state c.requires in
    taken_all c.loop-letter.pairs.items (row (viewed m) c.args.state) (c.loop-letter.letter + 1) (omega (arith, long, ap length c.inputs.ensures.value)) c.loop-letter.invariant
