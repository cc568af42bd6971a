-- Texts without one character at their end.
use Rattle.std.proofs.Common.{◌≡◌, ◌≢◌, ℕ, ◌+◌, ◌-◌, ◌<◌, ◌&&◌, ◌==◌, List, [], ◌∷◌, ◌++◌, Bool, true, false, Bor, cond, length, take, nat_lt, refl, ap, ap₂, sym, ◌∙◌, arith, Option, Some, None, MatchOption}
use Rattle.std.specs.List.{slice_index}
use Rattle.std.specs.Option.{unwrap_or}
use Rattle.std.specs.Io.BufRead.{ends_with_byte, strip_last}
use Rattle.std.proofs.Math.Seq.{get_or-append_seam}
use Rattle.std.proofs.lemmas.Bool.Decides.{Decides-eqb, Decides-ltb}
use Rattle.std.proofs.lemmas.List.{length-append, take_all, take_at, take_more}

-- a text that ends in the character
stripped : (c : ℕ) (front : List ℕ) → strip_last c (front ++ c ∷ []) ≡ front
stripped c front =
    let text : List ℕ = front ++ c ∷ [] in
    let last : length text - 1 ≡ length front = omega (arith, length-append front (c ∷ [])) in
    let some : nat_lt 0 (length text) ≡ true = (Decides-ltb 0 (length text)).1 (omega (arith, length-append front (c ∷ []))) in
    let is : slice_index text (length text - 1) ≡ c = ap (slice_index text) last ∙ get_or-append_seam front c [] 0 in
    let ends : ends_with_byte c text ≡ true = ap₂ (λ (a b : Bool). a && b) some ((Decides-eqb (slice_index text (length text - 1)) c).1 is) in
    ap (λ (b : Bool). cond b (take (length text - 1) text) text) ends ∙ (ap (λ (k : ℕ). take k text) last ∙ take_at front (c ∷ []) (length front) refl)

-- one that doesn't
unstripped : (c : ℕ) (text : List ℕ) → ((front : List ℕ) → text ≢ front ++ c ∷ []) → text ≡ strip_last c text
unstripped c text not = by (ends_with_byte c text) refl
  where
    ends : (a b : Bool) → nat_lt 0 (length text) ≡ a → (slice_index text (length text - 1) == c) ≡ b → (a && b) ≡ true → text ≡ take (length text - 1) text ++ c ∷ []
    ends false b some is e = absurd (cc)
    ends true false some is e = absurd (cc)
    ends true true some is e =
        let lt : 0 < length text = (Decides-ltb 0 (length text)).0 some in
        sym (take_all (length text - 1 + 1) text (omega (arith, lt)))
        ∙ (take_more text (length text - 1) 0 (omega (arith, lt)) ∙ ap (λ (x : ℕ). take (length text - 1) text ++ x ∷ []) ((Decides-eqb (slice_index text (length text - 1)) c).0 is))

    by : (b : Bool) → ends_with_byte c text ≡ b → text ≡ strip_last c text
    by false e = ap (λ (b : Bool). cond b (take (length text - 1) text) text) (sym e)
    by true e = absurd (not (take (length text - 1) text) (ends (nat_lt 0 (length text)) (slice_index text (length text - 1) == c) refl refl e))

-- what stripping one found, or the text itself
pub strips : (c : ℕ) (text : Bor (List ℕ)) (found : Option (Bor (List ℕ))) → MatchOption found ((front : List ℕ) → text.now ≢ front ++ c ∷ []) (λ x. text.now ≡ x.now ++ c ∷ []) → (unwrap_or found text).now ≡ strip_last c text.now
strips c text None not = unstripped c text.now not
strips c text (Some x) is = sym (ap (strip_last c) is ∙ stripped c x.now)
