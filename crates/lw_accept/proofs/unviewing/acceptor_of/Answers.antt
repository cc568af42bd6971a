use Rattle.std.proofs.Common.{◌∙◌, ◌+◌, List, ℕ, length, ap, subst, refl}
use Rattle.lw_mealy.specs.Machine.{IsMachine, Rows}
use Rattle.lw_accept.specs.Acceptor.{NamedAcceptor}
use Rattle.lw_accept.specs.View.{viewed}
use Rattle.lw_accept.proofs.UnviewLemmas.{unviewed_back, unviewed_named}
use Rattle.lw_accept.proofs.unviewing.acceptor_of.Goals as goal

pub of_parts-requires : goal.of_parts-requires
of_parts-requires c =
    let rows : Rows = c.args.mealy.now.rows in
    let inputs : List (List ℕ) = c.args.inputs.now in
    let machine : IsMachine (length inputs + 1) rows = subst (λ (b : ℕ). IsMachine b rows) c.requires.letters c.requires.complete.machine in
    rw (c.in_ok-names.ensures, c.in_ok-bits.ensures, c.in_ok-targets.ensures) (unviewed_named (length inputs) rows machine inputs c.requires.free refl c.requires.complete.few)

pub returns-clause-view : goal.returns-clause-view
returns-clause-view c =
    let rows : Rows = c.args.mealy.now.rows in
    let inputs : List (List ℕ) = c.args.inputs.now in
    let machine : IsMachine (length inputs + 1) rows = subst (λ (b : ℕ). IsMachine b rows) c.requires.letters c.requires.complete.machine in
    ap (λ (n : NamedAcceptor). viewed n.automaton) c.of_parts.ensures ∙ rw (c.in_ok-bits.ensures, c.in_ok-targets.ensures) (unviewed_back (length inputs) rows machine c.requires.viewed)
