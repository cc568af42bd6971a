-- The model of a file is one.
use Rattle.std.proofs.Common.{◌≡◌, ◌∙◌, ℕ, List, Bool, length, Some, sym, ap, subst}
use Rattle.lw_accept.specs.Acceptor.{NamedAcceptor}
use Rattle.lw_accept.specs.AcceptorFile.{IsAcceptorFile, SaysAcceptor}
use Rattle.lw_accept.specs.View.{asked_names, viewed_machine}
use Rattle.lw_json.specs.Formats.{SameMachine}
use Rattle.lw_json.specs.declared.files.Machine.{Machine}
use Rattle.lw_json.proofs.OneValue.{one_value}
use Rattle.lw_system.specs.AcceptorSystems.{IsViewFile}
use Rattle.lw_system.specs.Goals.{IsModelFile}
use Rattle.lw_system.specs.declared.goal.Goal.{Goal}
use Rattle.lw_system.specs.declared.goal.Goal.TheVariants as goal

abbrev named : List (List ℕ) → List Bool → List (List ℕ) → NamedAcceptor
named inputs accepting targets = record { inputs = inputs; automaton = record { accepting = accepting; targets = targets } }

one_inside : {A : Type 0} (x y : A) → Some x ≡ Some y → x ≡ y
one_inside x y e = cc

-- no bytes are the file of two acceptors
one_acceptor : (bytes : List ℕ) (m n : NamedAcceptor) → IsAcceptorFile bytes m → IsAcceptorFile bytes n → m ≡ n
one_acceptor bytes m n f g =
    let v = f.2.0 in
    let w = g.2.0 in
    let s : SaysAcceptor g.0 v = subst (λ d. SaysAcceptor d v) (one_inside f.0 g.0 (sym f.1.1 ∙ g.1.1)) f.2.1 in
    let t : SaysAcceptor g.0 w = g.2.1 in
    let inputs : m.inputs ≡ n.inputs = sym f.2.2.inputs ∙ (one_inside v.inputs w.inputs (sym s.inputs ∙ t.inputs) ∙ g.2.2.inputs) in
    let bits : m.automaton.accepting ≡ n.automaton.accepting = sym f.2.2.accepting ∙ (one_inside v.accepting w.accepting (sym s.accepting ∙ t.accepting) ∙ g.2.2.accepting) in
    let targets : m.automaton.targets ≡ n.automaton.targets = sym f.2.2.targets ∙ (one_inside v.targets w.targets (sym s.targets ∙ t.targets) ∙ g.2.2.targets) in
    ap (λ (i : List (List ℕ)). named i m.automaton.accepting m.automaton.targets) inputs
    ∙ (ap (λ (b : List Bool). named n.inputs b m.automaton.targets) bits
    ∙ ap (λ (t : List (List ℕ)). named n.inputs n.automaton.accepting t) targets)

-- nor of two machines in the place of acceptors
one_view : (bytes : List ℕ) (m n : Machine) → IsViewFile bytes m → IsViewFile bytes n → SameMachine m n
one_view bytes m n f g =
    let e : f.0 ≡ g.0 = one_acceptor bytes f.0 g.0 f.1 g.1 in
    record {
      inputs = f.2.inputs ∙ (ap (λ (a : NamedAcceptor). asked_names a.inputs) e ∙ sym g.2.inputs);
      outputs = f.2.outputs ∙ sym g.2.outputs;
      mealy = f.2.mealy ∙ (ap (λ (a : NamedAcceptor). viewed_machine (length a.inputs) a.automaton) e ∙ sym g.2.mealy);
    }

pub one_model : (aim : Goal) (bytes : List ℕ) (m n : Machine) → IsModelFile aim bytes m → IsModelFile aim bytes n → SameMachine m n
one_model goal.Machine bytes m n f g = one_value bytes m n f g
one_model goal.Acceptor bytes m n f g = one_view bytes m n f g
