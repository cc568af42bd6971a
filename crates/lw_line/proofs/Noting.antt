-- Letters that are noted are below their number.
use Rattle.std.proofs.Common.{◌≡◌, ◌⊎◌, inl, inr, ℕ, ◌<◌, List, [], ◌∷◌, ◌++◌, Option, Some, None, IfSome, option_map, sym, subst, arith}
use Rattle.std.proofs.lemmas.List.Elements.{All-push}
use Rattle.lw_words.specs.Word.{IsWord}

-- where nothing is noted
pub none_noted : (n : ℕ) (held : Option (List ℕ)) → held ≡ None → IfSome held (IsWord n)
none_noted n held is = subst (λ (o : Option (List ℕ)). IfSome o (IsWord n)) (sym is) tt

no_letters : (n : ℕ) (was : Option (List ℕ)) → IfSome (option_map (λ _. let w : List ℕ = [] in w) was) (IsWord n)
no_letters n None = tt
no_letters n (Some w) = λ i d lt. absurd (omega (arith, lt))

-- a run begins, and something is received
pub run_begun : (n : ℕ) (was mid now : Option (List ℕ)) → mid ≡ option_map (λ _. []) was → now ≡ mid → IfSome now (IsWord n)
run_begun n was mid now begun same = subst (λ (o : Option (List ℕ)). IfSome o (IsWord n)) (sym same) (subst (λ (o : Option (List ℕ)). IfSome o (IsWord n)) (sym begun) (no_letters n was))

one_more : (n x : ℕ) (was : Option (List ℕ)) → x < n → IfSome was (IsWord n) → IfSome (option_map (λ w. w ++ x ∷ []) was) (IsWord n)
one_more n x None lt are = tt
one_more n x (Some w) lt are = All-push (λ y. y < n) w x are lt

added : (n x : ℕ) (was now : Option (List ℕ)) → x < n → (now ≡ None) ⊎ (now ≡ option_map (λ w. w ++ x ∷ []) was) → IfSome was (IsWord n) → IfSome now (IsWord n)
added n x was now lt (inl none) are = none_noted n now none
added n x was now lt (inr more) are = subst (λ (o : Option (List ℕ)). IfSome o (IsWord n)) (sym more) (one_more n x was lt are)

-- a letter is added, and something is received
pub letter_added : (n x : ℕ) (was mid now : Option (List ℕ)) → x < n → (mid ≡ None) ⊎ (mid ≡ option_map (λ w. w ++ x ∷ []) was) → now ≡ mid → IfSome was (IsWord n) → IfSome now (IsWord n)
letter_added n x was mid now lt by same are = subst (λ (o : Option (List ℕ)). IfSome o (IsWord n)) (sym same) (added n x was mid lt by are)
