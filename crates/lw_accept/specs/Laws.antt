-- What answers over `?` and an acceptor's letters are worth.
use Rattle.std.specs.Prelude.{◌≡◌, ℕ, ◌<◌, ◌≤◌, ◌+◌, List, length}
use Rattle.std.specs.List.{All}
use Rattle.lw_words.specs.Word.{IsWord, Answer}
use Rattle.lw_mealy.specs.Machine.{Rows, IsMachine, IsMinimal, IsWithinLimits, Gives, Sure, cell}
use Rattle.lw_accept.specs.Acceptor.{Automaton, IsAcceptor, AcceptAlike, IsNamedAcceptor, NamedAcceptor}
use Rattle.lw_accept.specs.View.{viewed, viewed_machine, told, SaysAsTold, IsFirstUnviewed, MayView}
use Rattle.lw_accept.specs.declared.fault.ViewFault.{ViewFault}
use Rattle.lw_accept.specs.declared.fault.ViewFault.TheVariants.{NotAcceptor, NoMemory}

-- an acceptor's machine is one over a letter more, of as many states
abbrev pub ViewsAreMachines : Type 0
ViewsAreMachines = (a : ℕ) (m : Automaton) → IsAcceptor a m → IsMachine (a + 1) (viewed m) × (length (viewed m) ≡ length m.targets)

-- it is within the limits of a machine that is learned
abbrev pub ViewsAreWithinLimits : Type 0
ViewsAreWithinLimits = (m : NamedAcceptor) → IsNamedAcceptor m → IsWithinLimits (viewed_machine (length m.inputs) m.automaton)

-- and has the pairs that such a machine may have
abbrev pub ViewsAreViews : Type 0
ViewsAreViews = (a q x : ℕ) (m : Automaton) → IsAcceptor a m → q < length m.targets → x < a + 1 → MayView q x (cell (viewed m) q x)

-- and it is the machine of no other acceptor
abbrev pub ViewsDiffer : Type 0
ViewsDiffer = (a : ℕ) (m n : Automaton) → IsAcceptor a m → IsAcceptor a n → viewed m ≡ viewed n → m ≡ n

-- the words of answers are over a letters
abbrev pub AreOver : ℕ → List Answer → Type 0
AreOver a ks = All (λ k. IsWord a k.word) ks

-- an acceptor whose machine agrees with the answers says as they tell
abbrev pub AnswersAreTold : Type 0
AnswersAreTold = (a : ℕ) (m : Automaton) (ks : List Answer) → IsAcceptor a m → AreOver (a + 1) ks → Gives (viewed m) ks → SaysAsTold m (told ks)

-- answers fix an acceptor over a letters: it says as they tell, and each of at most k states more that does so too accepts the
-- same words
pub record FixAcceptor (a k : ℕ) (m : Automaton) (ks : List Answer) : Type 0 where
  pub says : SaysAsTold m (told ks)
  pub sure : (n : Automaton) → IsAcceptor a n → length n.targets ≤ length m.targets + k → SaysAsTold n (told ks) → AcceptAlike a n m

-- so they do where they are sure for its machine
abbrev pub AcceptorsAreSure : Type 0
AcceptorsAreSure = (a k : ℕ) (m : Automaton) (ks : List Answer) → IsAcceptor a m → AreOver (a + 1) ks → Gives (viewed m) ks → Sure (a + 1) (viewed m) ks k → FixAcceptor a k m ks

-- no acceptor of at most this many states has a machine that agrees with the answers
abbrev pub NoAcceptorGives : (a most : ℕ) → List Answer → Type 0
NoAcceptorGives a most ks = (n : Automaton) → IsAcceptor a n → length n.targets ≤ most → ¬ Gives (viewed n) ks

-- none of few states has where they are sure for a minimal machine that is no acceptor's
abbrev pub OthersGiveNone : Type 0
OthersGiveNone = (a k q x : ℕ) (h : Rows) (ks : List Answer) → IsMachine (a + 1) h → IsMinimal (a + 1) h → Sure (a + 1) h ks k
    → IsFirstUnviewed h q x → NoAcceptorGives a (length h + k) ks

-- why a machine gives no acceptor: a pair, or memory where there is none
abbrev pub IsUnviewable : Rows → ViewFault → Type 0
IsUnviewable m (NotAcceptor state letter) = IsFirstUnviewed m state letter
IsUnviewable m NoMemory = (state letter : ℕ) → ¬ IsFirstUnviewed m state letter
