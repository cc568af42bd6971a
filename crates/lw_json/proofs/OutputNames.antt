-- Texts that are put into a set one after the other stand there once each, where they first came.
use Rattle.std.proofs.Common.{◌≡◌, ◌∙◌, inl, inr, ℕ, List, [], ◌∷◌, ◌++◌, Bool, true, false, not, ◌&&◌, ◌||◌, ◌==◌, cond, if◌then◌else◌, Option, Bor, length, map, refl, sym, ap, subst, append_assoc, append-nil, true≢false}
use Rattle.std.specs.Iterator.{Drains}
use Rattle.std.specs.List.{filter, list_any, slice_split}
use Rattle.std.specs.Result.{MatchResult, OnOk}
use Rattle.std.specs.Str.{bytes_eq}
use Rattle.std.specs.declared.result.Result.{Result}
use Rattle.std.specs.declared.result.Result.TheVariants.{Ok, Err}
use Rattle.std.proofs.lemmas.Bool.{cases_Bool}
use Rattle.std.proofs.lemmas.Iterator.{YieldsList, items_from_drains}
use Rattle.std.proofs.lemmas.List.{map-append}
use Rattle.std.proofs.lemmas.List.Folds.{list_any-append}
use Rattle.std.proofs.lemmas.Slice.Eq.{bytes_eq-Decides}
use Rattle.indexmap.specs.IndexSet.{insert_all, insert_key}
use Rattle.lw_json.specs.Formats.{names_of_text, without_repeats}

-- a filter after another
module _ {X : Type 0} (p q r : X → Bool) (both : (y : X) → r y ≡ (p y && q y)) where
  half : (b : Bool) (x : X) (l : List X) → filter p (cond b (x ∷ l) l) ≡ cond b (cond (p x) (x ∷ filter p l) (filter p l)) (filter p l)
  half true x l = refl
  half false x l = refl

  joined : (a b : Bool) (u v : List X) → cond b (cond a u v) v ≡ cond (a && b) u v
  joined true true u v = refl
  joined true false u v = refl
  joined false true u v = refl
  joined false false u v = refl

  filter_both : (l : List X) → filter p (filter q l) ≡ filter r l
  filter_both [] = refl
  filter_both (x ∷ l) =
      half (q x) x (filter q l)
      ∙ (joined (p x) (q x) (x ∷ filter p (filter q l)) (filter p (filter q l))
      ∙ (ap (λ (b : Bool). cond b (x ∷ filter p (filter q l)) (filter p (filter q l))) (sym (both x)) ∙ ap (λ (m : List X). cond (r x) (x ∷ m) m) (filter_both l)))

all_pass : {X : Type 0} (l : List X) → filter (λ _. true) l ≡ l
all_pass [] = refl
all_pass (x ∷ l) = ap (λ (m : List _). x ∷ m) (all_pass l)

and_true : (b : Bool) → b ≡ (b && true)
and_true true = refl
and_true false = refl

not_or : (a b : Bool) → not (a || (b || false)) ≡ (not a && not b)
not_or true b = refl
not_or false true = refl
not_or false false = refl

abbrev stands_in : List (List ℕ) → List ℕ → Bool
stands_in ks y = list_any (bytes_eq y) ks

-- a text that stands there is none of those that don't
apart : (ks : List (List ℕ)) (x y : List ℕ) → stands_in ks x ≡ true → not (stands_in ks y) ≡ (not (stands_in ks y) && not (bytes_eq y x))
apart ks x y there =
    elim (cases_Bool (bytes_eq y x)) [
      | inl same ↦
          let is : y ≡ x = (bytes_eq-Decides y x).0 same in
          let stands : stands_in ks y ≡ true = ap (stands_in ks) is ∙ there in
          rw (stands) refl
      | inr other ↦ and_true (not (stands_in ks y)) ∙ ap (λ (b : Bool). not (stands_in ks y) && not b) (sym other)
    ]

apart_more : (ks : List (List ℕ)) (x y : List ℕ) → not (stands_in (ks ++ x ∷ []) y) ≡ (not (stands_in ks y) && not (bytes_eq y x))
apart_more ks x y = ap not (list_any-append (bytes_eq y) ks (x ∷ [])) ∙ not_or (stands_in ks y) (bytes_eq y x)

-- what is put behind texts
pub inserted : (ks xs : List (List ℕ)) → insert_all bytes_eq ks xs ≡ ks ++ filter (λ y. not (stands_in ks y)) (without_repeats xs)
inserted ks [] = sym (append-nil ks)
inserted ks (x ∷ xs) =
    let new = λ (y : List ℕ). not (stands_in ks y) in
    let other = λ (y : List ℕ). not (bytes_eq y x) in
    let rest : List (List ℕ) = filter new (filter other (without_repeats xs)) in
    elim (cases_Bool (stands_in ks x)) [
      | inl there ↦
          ap (λ (b : Bool). insert_all bytes_eq (if b then ks else ks ++ x ∷ []) xs) there
          ∙ (inserted ks xs
          ∙ (ap (λ (l : List (List ℕ)). ks ++ l) (sym (filter_both new other new (λ y. apart ks x y there) (without_repeats xs)))
          ∙ ap (λ (b : Bool). ks ++ cond (not b) (x ∷ rest) rest) (sym there)))
      | inr none ↦
          ap (λ (b : Bool). insert_all bytes_eq (if b then ks else ks ++ x ∷ []) xs) none
          ∙ (inserted (ks ++ x ∷ []) xs
          ∙ (append_assoc ks (x ∷ []) (filter (λ y. not (stands_in (ks ++ x ∷ []) y)) (without_repeats xs))
          ∙ (ap (λ (l : List (List ℕ)). ks ++ x ∷ l) (sym (filter_both new other (λ y. not (stands_in (ks ++ x ∷ []) y)) (λ y. apart_more ks x y) (without_repeats xs)))
          ∙ ap (λ (b : Bool). ks ++ cond (not b) (x ∷ rest) rest) (sym none))))
    ]

pub all_inserted : (xs : List (List ℕ)) → insert_all bytes_eq [] xs ≡ without_repeats xs
all_inserted xs = inserted [] xs ∙ all_pass (without_repeats xs)

-- the texts of references
abbrev text : Bor (List ℕ) → List ℕ
text t = t.now

abbrev same_text : Bor (List ℕ) → Bor (List ℕ) → Bool
same_text a b = bytes_eq a.now b.now

any-texts : (name : List ℕ) (ks : List (Bor (List ℕ))) → list_any (λ k. bytes_eq name k.now) ks ≡ list_any (bytes_eq name) (map text ks)
any-texts name [] = refl
any-texts name (k ∷ ks) = ap (λ (b : Bool). bytes_eq name k.now || b) (any-texts name ks)

key-texts : (b : Bool) (ks : List (Bor (List ℕ))) (k : Bor (List ℕ)) → map text (if b then ks else ks ++ k ∷ []) ≡ (if b then map text ks else map text ks ++ k.now ∷ [])
key-texts true ks k = refl
key-texts false ks k = map-append text ks (k ∷ [])

all-texts : (ks xs : List (Bor (List ℕ))) → map text (insert_all same_text ks xs) ≡ insert_all bytes_eq (map text ks) (map text xs)
all-texts ks [] = refl
all-texts ks (x ∷ xs) =
    all-texts (insert_key same_text ks x) xs
    ∙ ap (λ (l : List (List ℕ)). insert_all bytes_eq l (map text xs))
    (key-texts (list_any (same_text x) ks) ks x ∙ ap (λ (b : Bool). if b then map text ks else map text ks ++ x.now ∷ []) (any-texts x.now ks))

-- what an iterator of references gave was put behind the others
pub extended : {S E : Type 0} (steps : S → Option (Bor (List ℕ)) → S → Type 0) (Q : E → Type 0) (start it : S) (xs old new : List (Bor (List ℕ))) (all : List (List ℕ)) (r : Result (Unit {0}) E)
    → it ≡ start → new ≡ insert_all same_text old xs → MatchResult r (λ _. Drains steps it xs) Q → YieldsList steps (λ x. x.now) start all → OnOk r (map (λ n. n.now) new ≡ insert_all bytes_eq (map (λ n. n.now) old) all)
extended {S} steps Q start it xs old new all (Err e) is gains drains yields = tt
extended {S} steps Q start it xs old new all (Ok u) is gains drains yields =
    let here : YieldsList steps (λ x. x.now) it all = subst (λ (s : S). YieldsList steps (λ x. x.now) s all) (sym is) yields in
    let given : map text xs ≡ all = items_from_drains xs (drains.1.0, drains.1.1, λ _. (drains.0, drains.1.2)) here in
    ap (map text) gains ∙ (all-texts old xs ∙ ap (insert_all bytes_eq (map text old)) given)

-- the names of a text that isn't empty
pub some_names : (text : List ℕ) → (length text == 0) ≡ false → names_of_text text ≡ slice_split (λ c. c == 32) text
some_names [] e = absurd (true≢false e)
some_names (b ∷ text) e = refl
