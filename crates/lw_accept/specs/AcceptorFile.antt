-- The grammar of acceptor files, over serde_json's reading of JSON (RFC 8259), and their first fault.
use Rattle.std.specs.Prelude.{◌≡◌, ◌≢◌, ℕ, ◌<◌, ◌≤◌, List, [], ◌∷◌, Bool, length, codes, Option, Some, is_some, option_and_then, slice_get, slice_index_or, Contains}
use Rattle.std.specs.List.{All}
use Rattle.serde_json.specs.Data.{Data}
use Rattle.serde_json.specs.Find.{as_bool}
use Rattle.lw_words.specs.First.{FailsFirst}
use Rattle.lw_json.specs.Fault.{IsFaultOf, first_failing}
use Rattle.lw_json.specs.Formats.{each_of, IsJson, is_object, array_of, list_at, texts_at, target_of}
use Rattle.lw_accept.specs.Acceptor.{NamedAcceptor, IsNamedAcceptor, AreFewInputs, question, target}
use Rattle.lw_accept.specs.declared.fault.AcceptorField.{AcceptorField}
use Rattle.lw_accept.specs.declared.fault.AcceptorField.TheVariants as field
use Rattle.lw_accept.specs.declared.fault.AcceptorFault.{AcceptorFault}
use Rattle.lw_accept.specs.declared.fault.AcceptorFault.TheVariants.{NotJson, Shape, Inputs, Reserved, NoState, TooMany, Lengths, Ragged, Target, NoMemory}

-- a member that is a list of truth values
abbrev pub bits_at : List ℕ → Data → Option (List Bool)
bits_at key d = option_and_then (each_of as_bool) (list_at key d)

-- a list of whole numbers below 65,536, and a member that is a list of such lists
abbrev pub targets_of : Data → Option (List ℕ)
targets_of d = option_and_then (each_of target_of) (array_of d)

abbrev pub targets_at : List ℕ → Data → Option (List (List ℕ))
targets_at key d = option_and_then (each_of targets_of) (list_at key d)

-- what an acceptor file says, before its names are looked at
pub record WrittenAcceptor : Type 0 where
  pub accepting : List Bool
  pub inputs : List (List ℕ)
  pub targets : List (List ℕ)

-- the members have their shapes, and say this; other members are ignored
pub record SaysAcceptor (d : Data) (w : WrittenAcceptor) : Type 0 where
  pub accepting : bits_at (codes "accepting") d ≡ Some w.accepting
  pub inputs : texts_at (codes "inputs") d ≡ Some w.inputs
  pub targets : targets_at (codes "targets") d ≡ Some w.targets

-- what is said is the acceptor, which is one
pub record SpellsAcceptor (w : WrittenAcceptor) (m : NamedAcceptor) : Type 0 where
  pub accepting : w.accepting ≡ m.automaton.accepting
  pub inputs : w.inputs ≡ m.inputs
  pub targets : w.targets ≡ m.automaton.targets
  pub named : IsNamedAcceptor m

-- the bytes are an acceptor file, and this is the acceptor
abbrev pub IsAcceptorFile : List ℕ → NamedAcceptor → Type 0
IsAcceptorFile bytes m = (d : Data) × IsJson bytes d × ((w : WrittenAcceptor) × SaysAcceptor d w × SpellsAcceptor w m)

-- the shapes that the members have, in the order of their faults
abbrev pub acceptor_tests : Data → List (AcceptorField × Bool)
acceptor_tests d =
    (field.Root, is_object d)
    ∷ (field.Accepting, is_some (bits_at (codes "accepting") d))
    ∷ (field.Inputs, is_some (texts_at (codes "inputs") d))
    ∷ (field.Targets, is_some (targets_at (codes "targets") d))
    ∷ []

-- 1 to 63 names without `?`
abbrev pub AreAcceptorLetters : List (List ℕ) → Type 0
AreAcceptorLetters inputs = AreFewInputs inputs × (¬ Contains inputs question)

-- 1 to 1,024 rows
abbrev pub IsCountedRows : List (List ℕ) → Type 0
IsCountedRows targets = (0 < length targets) × (length targets ≤ 1024)

-- the names of the inputs and the numbers of states have no fault
abbrev pub IsEvenFile : WrittenAcceptor → Type 0
IsEvenFile w = AreAcceptorLetters w.inputs × IsCountedRows w.targets × (length w.accepting ≡ length w.targets)

-- the target of this state and letter is the first that is no state: by state, then by letter
abbrev pub TargetFailsFirst : List (List ℕ) → ℕ → ℕ → Type 0
TargetFailsFirst targets q x =
    FailsFirst (λ r. All (λ t. t < length targets) r) targets q
    × FailsFirst (λ t. t < length targets) (slice_index_or targets q []) x

-- what the members of an acceptor file say has this fault first
abbrev pub SaysAcceptorFault : WrittenAcceptor → AcceptorFault → Type 0
SaysAcceptorFault w NotJson = ⊥
SaysAcceptorFault w (Shape field) = ⊥
SaysAcceptorFault w (Inputs fault) = IsFaultOf 63 w.inputs fault
SaysAcceptorFault w (Reserved place) = AreFewInputs w.inputs × (slice_get w.inputs place ≡ Some question)
SaysAcceptorFault w NoState = AreAcceptorLetters w.inputs × (w.targets ≡ [])
SaysAcceptorFault w (TooMany count) = AreAcceptorLetters w.inputs × (count ≡ length w.targets) × (1024 < count)
SaysAcceptorFault w Lengths = AreAcceptorLetters w.inputs × IsCountedRows w.targets × (length w.accepting ≢ length w.targets)
SaysAcceptorFault w (Ragged q) = IsEvenFile w × FailsFirst (λ r. length r ≡ length w.inputs) w.targets q
SaysAcceptorFault w (Target q x t) =
    IsEvenFile w × All (λ r. length r ≡ length w.inputs) w.targets × TargetFailsFirst w.targets q x × (t ≡ target w.targets q x)
SaysAcceptorFault w NoMemory = Unit {0}

abbrev SaidFault : List ℕ → AcceptorFault → Type 0
SaidFault bytes fault = (d : Data) × IsJson bytes d × ((w : WrittenAcceptor) × SaysAcceptor d w × SaysAcceptorFault w fault)

-- the first fault of bytes: they are no JSON; else a member hasn't its shape; else what the members say has the fault.
-- Out of memory may come in place of any answer.
abbrev pub HasAcceptorFault : List ℕ → AcceptorFault → Type 0
HasAcceptorFault bytes NotJson = (d : Data) → ¬ IsJson bytes d
HasAcceptorFault bytes (Shape field) = (d : Data) × IsJson bytes d × (first_failing (acceptor_tests d) ≡ Some field)
HasAcceptorFault bytes (Inputs fault) = SaidFault bytes (Inputs fault)
HasAcceptorFault bytes (Reserved place) = SaidFault bytes (Reserved place)
HasAcceptorFault bytes NoState = SaidFault bytes NoState
HasAcceptorFault bytes (TooMany count) = SaidFault bytes (TooMany count)
HasAcceptorFault bytes Lengths = SaidFault bytes Lengths
HasAcceptorFault bytes (Ragged state) = SaidFault bytes (Ragged state)
HasAcceptorFault bytes (Target state letter t) = SaidFault bytes (Target state letter t)
HasAcceptorFault bytes NoMemory = Unit {0}

-- bytes of the grammar have no fault
abbrev pub AcceptorFilesHaveNoFault : Type 0
AcceptorFilesHaveNoFault = (bytes : List ℕ) (m : NamedAcceptor) (fault : AcceptorFault) → IsAcceptorFile bytes m → HasAcceptorFault bytes fault → fault ≡ NoMemory

-- no bytes are the file of two acceptors
abbrev pub AcceptorFilesHaveOneValue : Type 0
AcceptorFilesHaveOneValue = (bytes : List ℕ) (m n : NamedAcceptor) → IsAcceptorFile bytes m → IsAcceptorFile bytes n → m ≡ n

-- no bytes have two first faults, but that memory may be wanted
abbrev pub HaveOneAcceptorFault : Type 0
HaveOneAcceptorFault = (bytes : List ℕ) (f g : AcceptorFault) → HasAcceptorFault bytes f → HasAcceptorFault bytes g → f ≢ NoMemory → g ≢ NoMemory → f ≡ g

-- bytes that are no acceptor file have this fault first
abbrev pub IsAcceptorFault : List ℕ → AcceptorFault → Type 0
IsAcceptorFault bytes fault = HasAcceptorFault bytes fault × (fault ≢ NoMemory)
