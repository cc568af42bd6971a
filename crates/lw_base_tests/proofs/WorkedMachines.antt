-- What the definitions say of the four machines.
use Rattle.std.proofs.Common.{◌≡◌, ◌≢◌, ℕ, zero, suc, ◌<◌, List, [], ◌∷◌, refl, ap, arith, lit<, get_or}
use Rattle.std.proofs.lemmas.List.Elements.{All-from_recursion}
use Rattle.lw_words.specs.Word.{IsWord}
use Rattle.lw_mealy.specs.Machine.{after, next, IsMinimal, Reached, Differ}
use Rattle.lw_mealy.specs.Worked.{one, with_equal_states, ring}

with_equal_states_next : (q x : ℕ) → q < 3 → next with_equal_states q x < 3
with_equal_states_next zero zero lt = lit< tt
with_equal_states_next zero (suc x) lt = lit< tt
with_equal_states_next (suc zero) zero lt = lit< tt
with_equal_states_next (suc zero) (suc x) lt = lit< tt
with_equal_states_next (suc (suc zero)) zero lt = lit< tt
with_equal_states_next (suc (suc zero)) (suc x) lt = lit< tt
with_equal_states_next (suc (suc (suc q))) x lt = absurd (omega arith)

with_equal_states_after : (w : List ℕ) (q : ℕ) → q < 3 → after with_equal_states q w < 3
with_equal_states_after [] q lt = lt
with_equal_states_after (x ∷ w) q lt = with_equal_states_after w (next with_equal_states q x) (with_equal_states_next q x lt)

pub with_equal_states_unreached : ¬ Reached 1 with_equal_states 3
with_equal_states_unreached r = let h : after with_equal_states 0 r.0 < 3 = with_equal_states_after r.0 0 (lit< tt) in omega (arith, r.2)

t_word : IsWord 1 (0 ∷ [])
t_word = All-from_recursion (λ x. x < 1) (0 ∷ []) (lit< tt, tt)

tt_word : IsWord 1 (0 ∷ 0 ∷ [])
tt_word = All-from_recursion (λ x. x < 1) (0 ∷ 0 ∷ []) (lit< tt, (lit< tt, tt))

heads : (x y : ℕ) → ¬ (x ≡ y) → x ∷ [] ≢ y ∷ []
heads x y differ e = differ (ap (λ (l : List ℕ). get_or l 0 x) e)

ring_reached : (q : ℕ) → q < 3 → Reached 1 ring q
ring_reached zero lt = ([], All-from_recursion (λ x. x < 1) [] tt, refl)
ring_reached (suc zero) lt = (0 ∷ [], t_word, refl)
ring_reached (suc (suc zero)) lt = (0 ∷ 0 ∷ [], tt_word, refl)
ring_reached (suc (suc (suc q))) lt = absurd (omega arith)

ring_apart : (p q : ℕ) → p < q → q < 3 → Differ 1 ring p q
ring_apart zero zero lt le = absurd (omega arith)
ring_apart zero (suc zero) lt le = (0 ∷ [], t_word, heads 0 1 (λ e. omega arith))
ring_apart zero (suc (suc zero)) lt le = (0 ∷ [], t_word, heads 0 2 (λ e. omega arith))
ring_apart (suc zero) (suc (suc zero)) lt le = (0 ∷ [], t_word, heads 1 2 (λ e. omega arith))
ring_apart (suc zero) zero lt le = absurd (omega arith)
ring_apart (suc zero) (suc zero) lt le = absurd (omega arith)
ring_apart (suc (suc p)) zero lt le = absurd (omega arith)
ring_apart (suc (suc p)) (suc zero) lt le = absurd (omega arith)
ring_apart (suc (suc p)) (suc (suc zero)) lt le = absurd (omega arith)
ring_apart p (suc (suc (suc q))) lt le = absurd (omega arith)

pub ring_minimal : IsMinimal 1 ring
ring_minimal = record { reached = ring_reached; apart = ring_apart }

one_reached : (q : ℕ) → q < 1 → Reached 1 one q
one_reached zero lt = ([], All-from_recursion (λ x. x < 1) [] tt, refl)
one_reached (suc q) lt = absurd (omega arith)

pub one_minimal : IsMinimal 1 one
one_minimal = record { reached = one_reached; apart = λ p q lt le. absurd (omega arith) }
