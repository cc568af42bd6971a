-- Bytes in a buffer.
use Rattle.std.proofs.Common.{◌≡◌, ℕ, ◌+◌, ◌-◌, ◌<◌, ◌≤◌, List, [], ◌∷◌, ◌++◌, length, get_or, take, drop, replicate, refl, ap, sym, ◌∙◌, arith, append_assoc, length-drop}
use Rattle.std.proofs.lemmas.List.{take_at, length-take-le, drop-replicate, take-replicate, take-append-drop, drop_more, drop-take, drop-drop}
use Rattle.std.proofs.Math.Seq.{take-append-add, drop-append-add}
use borrow.Rule.Slice.PartMut.{put_mid}
use lib.Seq.{paste}
use Rattle.lw_line.specs.bodies.Exchanges.{ended}

-- a front of two lists
take_both : (xs ys : List ℕ) (h n : ℕ) → length xs ≡ h → take (h + n) (xs ++ ys) ≡ xs ++ take n ys
take_both xs ys h n is = ap (λ (k : ℕ). take (k + n) (xs ++ ys)) (sym is) ∙ take-append-add xs ys n

take_within : (xs ys : List ℕ) (n : ℕ) → n ≤ length xs → take n (xs ++ ys) ≡ take n xs
take_within xs ys n le =
    let split : xs ≡ take n xs ++ drop n xs = sym (take-append-drop n xs) in
    ap (λ (l : List ℕ). take n (l ++ ys)) split
    ∙ (ap (take n) (append_assoc (take n xs) (drop n xs) ys)
    ∙ take_at (take n xs) (drop n xs ++ ys) n (length-take-le n xs le))

-- after bytes were put behind those that are held
pub held_more : (held n k : ℕ) (bytes now : List ℕ) → held ≤ length bytes → n ≤ length now → take (held + n) (put_mid held k bytes now) ≡ take held bytes ++ take n now
held_more held n k bytes now le few =
    take_both (take held bytes) (now ++ drop k (drop held bytes)) held n (length-take-le held bytes le)
    ∙ ap (λ (l : List ℕ). take held bytes ++ l) (take_within now (drop k (drop held bytes)) n few)

-- what is left behind a line, once it stands in front
pub behind_line : (held e : ℕ) (bytes : List ℕ) → held ≤ length bytes → e < held → get_or (take held bytes) e 0 ≡ 10
    → take held bytes ≡ take e (take held bytes) ++ 10 ∷ take (held - (e + 1)) (paste bytes 0 (drop (e + 1) bytes) (held - (e + 1)))
behind_line held e bytes le lt feed =
    let xs : List ℕ = take held bytes in
    let m : ℕ = held - (e + 1) in
    let rest : List ℕ = drop (e + 1) bytes in
    let long : length xs ≡ held = length-take-le held bytes le in
    let size : length rest ≡ length bytes - (e + 1) = length-drop (e + 1) bytes in
    let all : held ≡ (e + 1) + m = omega arith in
    let left : drop (e + 1) xs ≡ take m rest = ap (λ (n : ℕ). drop (e + 1) (take n bytes)) all ∙ drop-take (e + 1) m bytes in
    let moved : take m (take m rest ++ drop (0 + m) bytes) ≡ take m rest = take_at (take m rest) (drop (0 + m) bytes) m (length-take-le m rest (omega arith)) in
    sym (take-append-drop e xs)
    ∙ ap (λ (l : List ℕ). take e xs ++ l) (drop_more xs e 0 (omega arith)
    ∙ (ap (λ (b : ℕ). b ∷ drop (e + 1) xs) feed ∙ ap (λ (l : List ℕ). 10 ∷ l) (left ∙ sym moved)))

-- a line that names something
pub named_line : (front name : List ℕ) → length front + length name < 72
    → take (length front + length name + 1) (take (length front) (take 0 (replicate 72 10) ++ (front ++ drop (0 + length front) (replicate 72 10))) ++ (name ++ drop (length front + length name) (take 0 (replicate 72 10) ++ (front ++ drop (0 + length front) (replicate 72 10)))))
    ≡ ended (front ++ name)
named_line front name lt =
    let f : ℕ = length front in
    let n : ℕ = length name in
    let room : List ℕ = replicate 72 10 in
    let rest : List ℕ = drop (0 + f) room in
    let head : take f (front ++ rest) ≡ front = take_at front rest f refl in
    let tail : drop (f + n) (front ++ rest) ≡ drop n rest = drop-append-add front rest n in
    let one : take 1 (drop n rest) ≡ 10 ∷ [] = last f n (omega arith) in
    ap (λ (l : List ℕ). take (f + n + 1) (l ++ (name ++ drop (f + n) (front ++ rest)))) head
    ∙ (ap (λ (l : List ℕ). take (f + n + 1) (front ++ (name ++ l))) tail
    ∙ (ap (λ (k : ℕ). take k (front ++ (name ++ drop n rest))) (sum f n)
    ∙ (take-append-add front (name ++ drop n rest) (n + 1)
    ∙ (ap (λ (l : List ℕ). front ++ l) (take-append-add name (drop n rest) 1 ∙ ap (λ (l : List ℕ). name ++ l) one)
    ∙ sym (append_assoc front name (10 ∷ []))))))
  where
    sum : (f n : ℕ) → f + n + 1 ≡ f + (n + 1)
    sum f n = omega arith

    last : (f n : ℕ) → f + n < 72 → take 1 (drop n (drop (0 + f) (replicate {A = ℕ} 72 10))) ≡ 10 ∷ []
    last f n lt =
        let k : ℕ = 0 + f + n in
        ap (λ (l : List ℕ). take 1 l) (drop-drop n (0 + f) (replicate {A = ℕ} 72 10) ∙ drop-replicate {X = ℕ} k 72 10)
        ∙ take-replicate {X = ℕ} 1 (72 - k) 10 (omega arith)
