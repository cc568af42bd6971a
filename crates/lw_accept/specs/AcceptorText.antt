-- The one text that is written for an acceptor.
use Rattle.std.specs.Prelude.{ℕ, List, [], ◌∷◌, ◌++◌, Bool, map, codes}
use Rattle.serde_json.specs.Data.{Data, array, boolean, number, unsigned, object, member, no_members}
use Rattle.serde_json.specs.View.{items_of}
use Rattle.serde_json.specs.Written.{compact_text}
use Rattle.lw_json.specs.MachineText.{texts_data}
use Rattle.lw_accept.specs.Acceptor.{NamedAcceptor}

abbrev pub bits_data : List Bool → Data
bits_data bits = array (items_of (map boolean bits))

abbrev pub targets_row_data : List ℕ → Data
targets_row_data r = array (items_of (map (λ t. number (unsigned t)) r))

abbrev pub targets_data : List (List ℕ) → Data
targets_data targets = array (items_of (map targets_row_data targets))

-- exactly three members, in the order of their names' bytes
abbrev pub acceptor_data : NamedAcceptor → Data
acceptor_data m =
    object (member (codes "accepting") (bits_data m.automaton.accepting) (member (codes "inputs") (texts_data m.inputs) (member (codes "targets") (targets_data m.automaton.targets) no_members)))

-- serde_json's compact text and a line feed
abbrev pub acceptor_written : NamedAcceptor → List ℕ
acceptor_written m = compact_text (acceptor_data m) ++ 10 ∷ []
