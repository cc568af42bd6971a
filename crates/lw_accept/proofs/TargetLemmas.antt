-- The targets of an acceptor, read by place from the vectors that hold them.
use Rattle.std.proofs.Common.{◌≡◌, ◌∙◌, ℕ, ◌<◌, List, [], length, get_or, map, sym, ap}
use Rattle.std.specs.List.{All}
use Rattle.std.proofs.lemmas.List.{length-map, get_or_default}
use Rattle.lw_words.proofs.Lists.{read-map}
use Rattle.lw_accept.specs.Acceptor.{NamedAcceptor, IsNamedAcceptor, target}

-- what an acceptor keeps of the row of a state
pub is_row : (m : NamedAcceptor) (q : ℕ) → IsNamedAcceptor m → q < length m.automaton.targets → (length (get_or m.automaton.targets q []) ≡ length m.inputs) × All (λ t. t < length m.automaton.targets) (get_or m.automaton.targets q [])
is_row m q named lt = named.acceptor.complete q [] lt

pub target_below : (m : NamedAcceptor) (q x : ℕ) → IsNamedAcceptor m → q < length m.automaton.targets → x < length m.inputs → target m.automaton.targets q x < length m.automaton.targets
target_below m q x named lt le =
    let r = is_row m q named lt in
    r.1 x 0 (rw r.0 le)

module _ {X : Type 0} (f : X → List ℕ) where
  -- a row that is read from the rows' own vectors
  pub read_row : (targets : List (List ℕ)) (xs : List X) (q : ℕ) (r : X) → map f xs ≡ targets → q < length targets → r ≡ get_or xs q r → f r ≡ get_or targets q []
  read_row targets xs q r is lt at =
      let lt' : q < length xs = rw (← length-map xs f, is) lt in
      sym (read-map f xs q r [] lt' at) ∙ ap (λ (l : List (List ℕ)). get_or l q []) is

  -- a target that is read from its row's vector
  pub read_target : (targets : List (List ℕ)) (xs : List X) (q x : ℕ) (r : X) (t : ℕ) → map f xs ≡ targets → q < length targets → x < length (f r) → r ≡ get_or xs q r → t ≡ get_or (f r) x t → t ≡ target targets q x
  read_target targets xs q x r t is lt le at then =
      then ∙ (get_or_default (f r) x t 0 le ∙ ap (λ (s : List ℕ). get_or s x 0) (read_row targets xs q r is lt at))
