-- What a source gives.
use Rattle.std.proofs.Common.{◌≡◌, ℕ, ◌+◌, ◌≤◌, List, ◌++◌, length, take, drop, ap, sym, ◌∙◌, subst, arith, length-take}
use Rattle.std.proofs.Math.Seq.{take-append_seam}
use Rattle.std.proofs.lemmas.List.{take-append-drop, drop-drop, length-drop}

-- the bytes that stood from the place on are copied to the front of the buffer
pub gave_front : (given count : ℕ) (bytes buffer copied : List ℕ) → copied ≡ take count (drop given bytes) → given + count ≤ length bytes → drop given bytes ≡ take count (copied ++ drop count buffer) ++ drop (given + count) bytes
gave_front given count bytes buffer copied copy le =
    let left : List ℕ = drop given bytes in
    let size : length copied ≡ count = omega (arith, ap (λ (l : List ℕ). length l) copy, length-take count left, length-drop given bytes) in
    let front : take count (copied ++ drop count buffer) ≡ copied =
    subst (λ (n : ℕ). take n (copied ++ drop count buffer) ≡ copied) size (take-append_seam copied (drop count buffer)) in
    let rest : drop count left ≡ drop (given + count) bytes = drop-drop count given bytes in
    sym (take-append-drop count left) ∙ (ap (λ (l : List ℕ). l ++ drop count left) (sym copy ∙ sym front) ∙ ap (λ (l : List ℕ). take count (copied ++ drop count buffer) ++ l) rest)
