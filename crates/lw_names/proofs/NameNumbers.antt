-- Numbers of names in lists that grow.
use Rattle.std.proofs.Common.{◌≡◌, inl, ⊎_elim, ℕ, ◌<◌, ◌≤◌, List, [], ◌∷◌, ◌++◌, length, get_or, Bool, true, cond, Option, Some, None, unwrap_or, refl, ap, sym, ◌∙◌, subst, arith, append_assoc, append-nil, length-append}
use Rattle.std.specs.Str.{bytes_eq}
use Rattle.std.specs.List.{position_or_len}
use Rattle.std.proofs.lemmas.Bool.{true≢false, cases_lt}
use Rattle.std.proofs.lemmas.Bool.Decides.{Decides-ltb}
use Rattle.std.proofs.lemmas.Slice.Eq.{bytes_eq-Decides}
use Rattle.std.proofs.lemmas.List.{get_or_append_left, get_or_default}
use Rattle.std.proofs.lemmas.List.Sums.{fails_before_first, passes_at_first}
use Rattle.std.proofs.lemmas.Option.{slice_get_within, get_or_from_slice_get}
use Rattle.lw_words.proofs.NumberLemmas.{name_at_number}
use Rattle.lw_words.specs.Word.{number_of, name_at, number_in}
use Rattle.lw_names.specs.Names.{added_name, with_name, with_names}
use Rattle.lw_names.proofs.Members.{In, in_contains, contains_in, in_left, in_right}

-- a name that is in the list has a number there, and the number is the name's
pub record IsNumbered (names : List (List ℕ)) (n : List ℕ) : Type 0 where
  pub found : number_of n names ≡ Some (number_in names n)
  pub within : number_in names n < length names
  pub is : name_at names (number_in names n) ≡ n

pub numbered : (names : List (List ℕ)) (n : List ℕ) → In n names → IsNumbered names n
numbered names n i =
    let c = in_contains n names i in
    let here : bytes_eq n (get_or names c.0 []) ≡ true = (bytes_eq-Decides n (get_or names c.0 [])).1 (sym (get_or_default names c.0 [] n c.1 ∙ c.2)) in
    let within : position_or_len (bytes_eq n) names < length names =
    ⊎_elim
    (λ (less : c.0 < position_or_len (bytes_eq n) names). absurd (true≢false (sym here ∙ fails_before_first (bytes_eq n) names c.0 [] less)))
    (λ (le : position_or_len (bytes_eq n) names ≤ c.0). let lt : c.0 < length names = c.1 in omega (arith, le, lt))
    (cases_lt c.0 (position_or_len (bytes_eq n) names)) in
    let found : number_of n names ≡ Some (position_or_len (bytes_eq n) names) = ap (λ (b : Bool). cond b (Some (position_or_len (bytes_eq n) names)) None) ((Decides-ltb (position_or_len (bytes_eq n) names) (length names)).1 within) in
    let number : number_in names n ≡ position_or_len (bytes_eq n) names = ap (λ (o : Option ℕ). unwrap_or o 0) found in
    let same : name_at names (position_or_len (bytes_eq n) names) ≡ n = sym ((bytes_eq-Decides n (get_or names (position_or_len (bytes_eq n) names) [])).0 (passes_at_first (bytes_eq n) names [] within)) in
    record {
      found = found ∙ ap (λ (k : ℕ). Some k) (sym number);
      within = subst (λ (k : ℕ). k < length names) (sym number) within;
      is = ap (name_at names) number ∙ same;
    }

-- a list that grew at its end
abbrev pub Grew : List (List ℕ) → List (List ℕ) → Type 0
Grew was now = (more : List (List ℕ)) × (now ≡ was ++ more)

pub grew_not : (xs : List (List ℕ)) → Grew xs xs
grew_not xs = ([], sym (append-nil xs))

pub grew_both : (xs ys zs : List (List ℕ)) → Grew xs ys → Grew ys zs → Grew xs zs
grew_both xs ys zs g h = (g.0 ++ h.0, h.1 ∙ (ap (λ (l : List (List ℕ)). l ++ h.0) g.1 ∙ append_assoc xs g.0 h.0))

pub grew_name : (was now : List (List ℕ)) (y : ℕ) → Grew was now → y < length was → name_at now y ≡ name_at was y
grew_name was now y g lt = ap (λ (l : List (List ℕ)). name_at l y) g.1 ∙ get_or_append_left was g.0 [] y lt

pub grew_length : (was now : List (List ℕ)) → Grew was now → length was ≤ length now
grew_length was now g = omega (arith, ap (λ (l : List (List ℕ)). length l) g.1, length-append was g.0)

-- one name, and more of them
added_name_grew : (names : List (List ℕ)) (n : List ℕ) (o : Option ℕ) → Grew names (added_name names n o)
added_name_grew names n None = (n ∷ [], refl)
added_name_grew names n (Some k) = grew_not names

pub with_names_grew : (names ns : List (List ℕ)) → Grew names (with_names names ns)
with_names_grew names [] = grew_not names
with_names_grew names (n ∷ ns) = grew_both names (with_name names n) (with_names (with_name names n) ns) (added_name_grew names n (number_of n names)) (with_names_grew (with_name names n) ns)

pub in_grew : (was now : List (List ℕ)) (n : List ℕ) → Grew was now → In n was → In n now
in_grew was now n g i = subst (In n) (sym g.1) (in_left n was g.0 i)

at_found : (names : List (List ℕ)) (n : List ℕ) (k : ℕ) → number_of n names ≡ Some k → In n names
at_found names n k e =
    let at = name_at_number n names k e in
    contains_in n names (k, slice_get_within names k n at, get_or_from_slice_get names k n n at)

in_added : (names : List (List ℕ)) (n : List ℕ) (o : Option ℕ) → number_of n names ≡ o → In n (added_name names n o)
in_added names n None e = in_right n names (n ∷ []) (inl refl)
in_added names n (Some k) e = at_found names n k e

pub in_with_names : (names ns : List (List ℕ)) (n : List ℕ) → In n ns → In n (with_names names ns)
in_with_names names [] n i = absurd i
in_with_names names (m ∷ ns) n i =
    ⊎_elim
    (λ (same : n ≡ m). in_grew (with_name names m) (with_names (with_name names m) ns) n (with_names_grew (with_name names m) ns) (subst (λ (x : List ℕ). In x (with_name names m)) (sym same) (in_added names m (number_of m names) refl)))
    (λ (j : In n ns). in_with_names (with_name names m) ns n j)
    i
