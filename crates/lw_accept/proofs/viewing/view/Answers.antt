use Rattle.std.proofs.Common.{◌≡◌, ◌∙◌, ◌+◌, ℕ, length, ap, arith}
use Rattle.lw_mealy.specs.Machine.{IsWithinLimits}
use Rattle.lw_accept.specs.Acceptor.{Automaton, IsNamedAcceptor}
use Rattle.lw_accept.specs.View.{viewed_machine}
use Rattle.lw_accept.proofs.ViewLemmas.{within}
use Rattle.lw_accept.proofs.viewing.view.Goals as goal

pub of_rows-mealy-requires : goal.of_rows-mealy-requires
of_rows-mealy-requires c =
    let m : Automaton = c.args.acceptor.now.automaton in
    let a : ℕ = length c.args.acceptor.now.inputs in
    let named : IsNamedAcceptor c.args.acceptor.now = c.inputs.ensures.named in
    let inputs : c.len.result ≡ a + 1 = omega (arith, c.len.ensures.value, ap length c.in_ok-inputs.ensures, ap length c.inputs.ensures.value) in
    let outputs : c.len-2.result ≡ 3 = c.len-2.ensures.value ∙ ap length c.in_ok-outputs.ensures in
    let fits : IsWithinLimits (viewed_machine a m) = within a m named.acceptor named.inputs.1 named.few in
    rw (inputs, outputs, c.in_ok-rows.ensures) fits
