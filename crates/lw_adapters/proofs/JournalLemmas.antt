-- What is looked for in a journal.
use Rattle.std.proofs.Common.{◌≡◌, ℕ, ◌+◌, ◌<◌, ◌==◌, List, [], ◌∷◌, ◌++◌, length, get_or, drop, Bool, true, false, None, Some, Option, IfSome, ◌∙◌, ap, sym, if◌then◌else◌}
use Rattle.std.proofs.lemmas.List.{drop_more}
use Rattle.std.specs.Io.KnownBytes.{Consumes, IsAtEnd}
use Rattle.lw_adapters.specs.Journal.{ends_run, has_run, next_place}

-- a byte that ends the line of a run, and one that doesn't
run_at : (place : ℕ) (b : ℕ) (bs : List ℕ) (t : Bool) → ends_run place b ≡ t → has_run place (b ∷ bs) ≡ (if t then true else has_run (next_place place b) bs)
unfolding has_run
run_at place b bs t is = ap (λ (t : Bool). if t then true else has_run (next_place place b) bs) is

-- the bytes from a place on are gone through one by one
pub run_found : (start place : ℕ) (xs rest : List ℕ) (i d : ℕ) → i < length xs → has_run start (xs ++ rest) ≡ has_run place (drop i xs ++ rest) → ends_run place (get_or xs i d) ≡ true → has_run start (xs ++ rest) ≡ true
run_found start place xs rest i d lt so_far is =
    so_far ∙ (ap (λ (l : List ℕ). has_run place (l ++ rest)) (drop_more xs i d lt) ∙ run_at place (get_or xs i d) (drop (i + 1) xs ++ rest) true is)

pub run_later : (start place : ℕ) (xs rest : List ℕ) (i d : ℕ) → i < length xs → has_run start (xs ++ rest) ≡ has_run place (drop i xs ++ rest) → ends_run place (get_or xs i d) ≡ false → has_run start (xs ++ rest) ≡ has_run (next_place place (get_or xs i d)) (drop (i + 1) xs ++ rest)
run_later start place xs rest i d lt so_far is =
    so_far ∙ (ap (λ (l : List ℕ). has_run place (l ++ rest)) (drop_more xs i d lt) ∙ run_at place (get_or xs i d) (drop (i + 1) xs ++ rest) false is)

-- what is left of a stream has a run where all that it had does
abbrev pub HasLeft : Option (List ℕ) → Option (List ℕ) → ℕ → Type 0
HasLeft None now place = Unit {0}
HasLeft (Some xs) None place = ⊥
HasLeft (Some xs) (Some ys) place = has_run 0 xs ≡ has_run place ys

pub left_none : (a b c : Option (List ℕ)) (place : ℕ) → HasLeft a b place → Consumes b c [] → IsAtEnd c → IfSome a (λ xs. false ≡ has_run 0 xs)
unfolding has_run
left_none None b c place h used at = tt
left_none (Some xs) None c place h used at = absurd h
left_none (Some xs) (Some ys) None place h used at = absurd used
left_none (Some xs) (Some ys) (Some zs) place h used at = sym (h ∙ ap (has_run place) (used ∙ at))
