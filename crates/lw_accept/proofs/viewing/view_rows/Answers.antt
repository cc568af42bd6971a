use Rattle.std.proofs.Common.{◌≡◌, ◌<◌, [], length, arith}
use Rattle.lw_accept.specs.View.{viewed}
use Rattle.lw_accept.proofs.TakenLemmas.{seen_more, taken_all}
use Rattle.lw_accept.proofs.ViewLemmas.{states}
use Rattle.lw_accept.proofs.viewing.view_rows.Goals as goal

pub loop-state-preserved : goal.loop-state-preserved
loop-state-preserved c =
    let named = c.states.ensures.named in
    let count : length (viewed c.args.acceptor.now.automaton) ≡ length c.args.acceptor.now.automaton.targets = states (length c.args.acceptor.now.inputs) c.args.acceptor.now.automaton named.acceptor in
    let lt : c.loop-state.state < length (viewed c.args.acceptor.now.automaton) = omega (arith, count) in
    seen_more (λ r. r.items) c.loop-state.rows.items c.push.new.self.items c.in_ok-view_row.field-0 (viewed c.args.acceptor.now.automaton) c.loop-state.state []
    c.in_ok-push.ensures.items lt c.in_ok-view_row.ensures c.loop-state.invariant

pub returns : goal.returns
returns c =
    let named = c.states.ensures.named in
    let count : length (viewed c.args.acceptor.now.automaton) ≡ length c.args.acceptor.now.automaton.targets = states (length c.args.acceptor.now.inputs) c.args.acceptor.now.automaton named.acceptor in
    taken_all _ (viewed c.args.acceptor.now.automaton) c.loop-state.state (omega (arith, count)) c.loop-state.invariant
