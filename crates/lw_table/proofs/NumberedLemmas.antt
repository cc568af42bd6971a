-- Lists whose elements are found by look-up.
use Rattle.std.proofs.Common.{◌≡◌, ℕ, ◌+◌, ◌<◌, List, [], ◌∷◌, ◌++◌, length, map, take, get_or, Option, Some, None, Bool, true, false, cond, refl, ap, sym, ◌∙◌, subst, arith}
use Rattle.std.specs.List.{All}
use Rattle.std.proofs.Math.ListN.{get_or-append}
use Rattle.std.proofs.Math.Seq.{get_or-append_seam}
use Rattle.std.proofs.lemmas.List.{length-append, take_more, map-append}
use Rattle.std.proofs.lemmas.List.Elements.{All-nil, All-push}
use Rattle.lw_table.specs.bodies.Numbered.{IsNumberOf, AreNumbered}

module _ {K : Type 0} (eq : K → K → Bool) where
  pub numbered_none : (find : K → Option ℕ) → ((q : K) → find q ≡ None) → AreNumbered eq [] find
  numbered_none find none q = subst (IsNumberOf eq [] q) (sym (none q)) (All-nil (λ x. eq x q ≡ false))

  pub found_at : (keys : List K) (find : K → Option ℕ) (k : K) (n : ℕ) → AreNumbered eq keys find → Some n ≡ find k → (n < length keys) × (eq (get_or keys n k) k ≡ true)
  found_at keys find k n are is = subst (IsNumberOf eq keys k) (sym is) (are k)

  pub not_found : (keys : List K) (find : K → Option ℕ) (k : K) → AreNumbered eq keys find → None ≡ find k → All (λ x. eq x k ≡ false) keys
  not_found keys find k are is = subst (IsNumberOf eq keys k) (sym is) (are k)

  -- a key more, which is found as the last element
  pub numbered_more : (keys : List K) (find now : K → Option ℕ) (k last : K) → AreNumbered eq keys find → ((q : K) → eq k q ≡ eq last q) → ((q : K) → now q ≡ cond (eq k q) (Some (length keys)) (find q)) → AreNumbered eq (keys ++ last ∷ []) now
  numbered_more keys find now k last are same is q = by (eq k q) refl
    where
      long : length (keys ++ last ∷ []) ≡ length keys + 1
      long = length-append keys (last ∷ [])

      old : (found : Option ℕ) → eq last q ≡ false → IsNumberOf eq keys q found → IsNumberOf eq (keys ++ last ∷ []) q found
      old None other none = All-push (λ x. eq x q ≡ false) keys last none other
      old (Some n) other some = (let lt = some.0 in omega (arith, long, lt), ap (λ (x : K). eq x q) (get_or-append keys (last ∷ []) q n some.0) ∙ some.1)

      by : (b : Bool) → eq k q ≡ b → IsNumberOf eq (keys ++ last ∷ []) q (now q)
      by true here =
          subst (IsNumberOf eq (keys ++ last ∷ []) q) (sym (is q ∙ ap (λ (b : Bool). cond b (Some (length keys)) (find q)) here))
          (omega (arith, long), ap (λ (x : K). eq x q) (get_or-append_seam keys last [] q) ∙ (sym (same q) ∙ here))
      by false other =
          subst (IsNumberOf eq (keys ++ last ∷ []) q) (sym (is q ∙ ap (λ (b : Bool). cond b (Some (length keys)) (find q)) other))
          (old (find q) (sym (same q) ∙ other) (are q))

-- the first elements and the next one
pub mapped_more : (f : ℕ → ℕ) (xs : List ℕ) (i d : ℕ) → i < length xs → map f (take i xs) ++ f (get_or xs i d) ∷ [] ≡ map f (take (i + 1) xs)
mapped_more f xs i d lt = sym (map-append f (take i xs) (get_or xs i d ∷ [])) ∙ ap (map f) (sym (take_more xs i d lt))
