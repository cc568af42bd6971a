-- The value that is written for an acceptor spells that acceptor.
use Rattle.std.proofs.Common.{◌≡◌, ◌∙◌, ℕ, ◌<◌, ◌≤◌, List, Bool, Some, None, if◌then◌else◌, option_and_then, false, refl, ap, arith}
use Rattle.std.specs.List.{All}
use Rattle.std.proofs.lemmas.Bool.Decides.{Decides-ltb}
use Rattle.std.proofs.lemmas.List.{map-id}
use Rattle.serde_json.specs.Data.{boolean, number, string, unsigned, depth}
use Rattle.serde_json.specs.Find.{as_bool}
use Rattle.serde_json.specs.Written.{has_float}
use Rattle.lw_json.specs.Formats.{each_of, array_of, target_of}
use Rattle.lw_json.proofs.EachLemmas.{no_float_items}
use Rattle.lw_json.proofs.RoundTrip.{read_list, read_texts, shallow}
use Rattle.lw_accept.specs.Acceptor.{NamedAcceptor, IsNamedAcceptor}
use Rattle.lw_accept.specs.AcceptorFile.{WrittenAcceptor, SaysAcceptor, SpellsAcceptor, targets_of}
use Rattle.lw_accept.specs.AcceptorText.{bits_data, targets_row_data, targets_data, acceptor_data}

abbrev IsSmall : ℕ → Type 0
IsSmall t = t < 65536

read_bits : (bits : List Bool) → option_and_then (each_of as_bool) (array_of (bits_data bits)) ≡ Some bits
read_bits bits = read_list boolean as_bool (λ b. b) (λ _. Unit {0}) (λ b h. refl) bits (λ k d lt. tt) ∙ ap (λ (l : List Bool). Some l) (map-id bits)

read_target : (t : ℕ) → IsSmall t → target_of (number (unsigned t)) ≡ Some t
read_target t lt = ap (λ (b : Bool). if b then Some t else None) ((Decides-ltb t 65536).1 lt)

read_row : (r : List ℕ) → All IsSmall r → targets_of (targets_row_data r) ≡ Some r
read_row r small = read_list (λ (t : ℕ). number (unsigned t)) target_of (λ t. t) IsSmall read_target r small ∙ ap (λ (l : List ℕ). Some l) (map-id r)

read_rows : (rows : List (List ℕ)) → All (All IsSmall) rows → option_and_then (each_of targets_of) (array_of (targets_data rows)) ≡ Some rows
read_rows rows small = read_list targets_row_data targets_of (λ r. r) (All IsSmall) read_row rows small ∙ ap (λ (l : List (List ℕ)). Some l) (map-id rows)

-- the targets of an acceptor are small numbers
targets_small : (m : NamedAcceptor) → IsNamedAcceptor m → All (All IsSmall) m.automaton.targets
targets_small m named =
    let few = named.few in
    λ q r lt x t le. let below = (named.acceptor.complete q r lt).1 x t le in omega arith

-- what is written for an acceptor
abbrev pub written_of : NamedAcceptor → WrittenAcceptor
written_of m = record { accepting = m.automaton.accepting; inputs = m.inputs; targets = m.automaton.targets }

-- the value that is written for an acceptor says and spells it
pub says_it : (m : NamedAcceptor) → IsNamedAcceptor m → SaysAcceptor (acceptor_data m) (written_of m)
says_it m named =
    record {
      accepting = read_bits m.automaton.accepting;
      inputs = read_texts m.inputs;
      targets = read_rows m.automaton.targets (targets_small m named);
    }

pub spelled : (m : NamedAcceptor) → IsNamedAcceptor m → SpellsAcceptor (written_of m) m
spelled m named = record { accepting = refl; inputs = refl; targets = refl; named = named }

-- how deep it nests, and that no number in it is a float
pub acceptor_depth : (m : NamedAcceptor) → depth (acceptor_data m) ≤ 127
acceptor_depth m =
    let bits = shallow boolean 0 (λ _. omega arith) m.automaton.accepting in
    let inputs = shallow string 0 (λ _. omega arith) m.inputs in
    let rows = shallow targets_row_data 1 (λ r. let inner = shallow (λ (t : ℕ). number (unsigned t)) 0 (λ _. omega arith) r in omega arith) m.automaton.targets in
    omega arith

pub no_float : (m : NamedAcceptor) → has_float (acceptor_data m) ≡ false
no_float m =
    rw (
      no_float_items boolean (λ _. refl) m.automaton.accepting,
      no_float_items string (λ _. refl) m.inputs,
      no_float_items targets_row_data (λ r. no_float_items (λ (t : ℕ). number (unsigned t)) (λ _. refl) r) m.automaton.targets,
    ) refl
