-- Outputs that are compared by their names.
use Rattle.std.proofs.Common.{◌≡◌, ◌∙◌, ℕ, ◌+◌, ◌<◌, ◌≤◌, List, [], ◌∷◌, ◌++◌, length, map, take, drop, get_or, slice_get, string_bytes, Option, Some, unwrap_or, refl, ap, ap₂, sym, subst, subst₂, arith}
use Rattle.std.specs.Prelude.{String}
use Rattle.std.specs.declared.alloc.Global.{Global}
use Rattle.std.proofs.lemmas.Option.{get_or_from_slice_get}
use Rattle.std.specs.List.{All}
use Rattle.std.proofs.lemmas.List.{append-nil, get_or-map, length-map, map-append, take_all, take_more}
use Rattle.std.proofs.lemmas.List.Elements.{All-head, All-tail}
use Rattle.lw_words.specs.Word.{AllDiffer, number_of, name_at, named}
use Rattle.lw_names.specs.Names.{IsGrown}
use Rattle.lw_names.proofs.NameLemmas.{number_of-name_at}
use Rattle.lw_recheck.specs.Again.{NamesDifferAt}

-- the name of the output at a place
named_at : (names : List (List ℕ)) (outs : List ℕ) (i : ℕ) → i < length outs → get_or (named names outs) i [] ≡ name_at names (get_or outs i 0)
named_at names outs i lt = get_or-map (name_at names) outs i 0 [] lt

pub named_length : (names : List (List ℕ)) (outs : List ℕ) → length (named names outs) ≡ length outs
named_length names outs = length-map outs (name_at names)

-- the outputs of an answer and those of a run, which are the same up to a place
module _ (outputs own : List (List ℕ)) (known given : List ℕ) (even : length given ≡ length known) (i : ℕ) (so_far : take i (named own given) ≡ take i (named outputs known)) where
  module_less : i < length known → i < length given
  module_less lt = omega (arith, lt, even)

  here_known : (a : ℕ) → i < length known → a ≡ get_or known i 0 → get_or (named outputs known) i [] ≡ name_at outputs a
  here_known a lt is = named_at outputs known i lt ∙ ap (λ (y : ℕ). name_at outputs y) (sym is)

  here_given : (b : ℕ) → i < length known → b ≡ get_or given i 0 → get_or (named own given) i [] ≡ name_at own b
  here_given b lt is = named_at own given i (module_less lt) ∙ ap (λ (y : ℕ). name_at own y) (sym is)

  pub same_more : (a b : ℕ) → i < length known → a ≡ get_or known i 0 → b ≡ get_or given i 0 → name_at outputs a ≡ name_at own b → take (i + 1) (named own given) ≡ take (i + 1) (named outputs known)
  same_more a b lt is is' same =
      let lt_known : i < length (named outputs known) = omega (arith, lt, named_length outputs known) in
      let lt_given : i < length (named own given) = omega (arith, lt, even, named_length own given) in
      let here : get_or (named own given) i [] ≡ get_or (named outputs known) i [] = here_given b lt is' ∙ (sym same ∙ sym (here_known a lt is)) in
      take_more (named own given) i [] lt_given
      ∙ (ap₂ (λ (l : List (List ℕ)) (n : List ℕ). l ++ n ∷ []) so_far here ∙ sym (take_more (named outputs known) i [] lt_known))

  pub differs_here : (a b : ℕ) → i < length known → a ≡ get_or known i 0 → b ≡ get_or given i 0 → ¬ (name_at outputs a ≡ name_at own b) → NamesDifferAt (named outputs known) (named own given) i
  differs_here a b lt is is' other = record {
    within = omega (arith, lt, named_length outputs known);
    other = omega (arith, lt, even, named_length own given);
    before = sym so_far;
    here = λ same. other (sym (here_known a lt is) ∙ (same ∙ here_given b lt is'));
  }

  pub same_all : length known ≤ i → named own given ≡ named outputs known
  same_all all =
      let long : length (named own given) ≤ i = omega (arith, all, even, named_length own given) in
      let long' : length (named outputs known) ≤ i = omega (arith, all, named_length outputs known) in
      sym (take_all i (named own given) long) ∙ (so_far ∙ take_all i (named outputs known) long')

-- outputs of the same names are the same, where names differ
one_number : (names : List (List ℕ)) → AllDiffer names → (x y : ℕ) → x < length names → y < length names → name_at names x ≡ name_at names y → x ≡ y
one_number names differ x y lt lt' same =
    ap (λ (o : Option ℕ). unwrap_or o 0) (sym (number_of-name_at names x differ lt) ∙ (ap (λ (n : List ℕ). number_of n names) same ∙ number_of-name_at names y differ lt'))

pub one_naming : (names : List (List ℕ)) → AllDiffer names → (xs ys : List ℕ) → All (λ y. y < length names) xs → All (λ y. y < length names) ys → named names xs ≡ named names ys → xs ≡ ys
one_naming names differ [] [] within within' same = refl
one_naming names differ [] (y ∷ ys) within within' same = let long : 0 ≡ length (named names (y ∷ ys)) = ap (λ (l : List (List ℕ)). length l) same in absurd (omega (arith, long))
one_naming names differ (x ∷ xs) [] within within' same = let long : length (named names (x ∷ xs)) ≡ 0 = ap (λ (l : List (List ℕ)). length l) same in absurd (omega (arith, long))
one_naming names differ (x ∷ xs) (y ∷ ys) within within' same =
    let first = one_number names differ x y (All-head (λ z. z < length names) x xs within) (All-head (λ z. z < length names) y ys within') (ap (λ (l : List (List ℕ)). get_or l 0 []) same) in
    let rest = one_naming names differ xs ys (All-tail (λ z. z < length names) x xs within) (All-tail (λ z. z < length names) y ys within') (ap (λ (l : List (List ℕ)). drop 1 l) same) in
    ap₂ (λ (n : ℕ) (l : List ℕ). n ∷ l) first rest

-- names behind others
pub grown_none : (names : List (List ℕ)) → IsGrown names names
grown_none names = ([], sym (append-nil names))

-- an output more
pub named_more : (names own : List (List ℕ)) (word outs : List ℕ) (i n y : ℕ) → i < length outs → y ≡ get_or outs i 0 → named names word ≡ named own (take i outs) → name_at names n ≡ name_at own y → named names (word ++ n ∷ []) ≡ named own (take (i + 1) outs)
named_more names own word outs i n y lt is so_far here =
    map-append (name_at names) word (n ∷ [])
    ∙ (ap₂ (λ (l : List (List ℕ)) (m : List ℕ). l ++ m ∷ []) so_far (here ∙ ap (λ (z : ℕ). name_at own z) is)
    ∙ (sym (map-append (name_at own) (take i outs) (get_or outs i 0 ∷ [])) ∙ ap (λ (l : List ℕ). named own l) (sym (take_more outs i 0 lt))))

-- the same of lists that are equal
pub differs_as : (outputs own own' : List (List ℕ)) (known known' given given' : List ℕ) (place : ℕ) → own ≡ own' → known ≡ known' → given ≡ given' → NamesDifferAt (named outputs known) (named own given) place → NamesDifferAt (named outputs known') (named own' given') place
differs_as outputs own own' known known' given given' place is known_is given_is differs =
    subst (λ (n : List (List ℕ)). NamesDifferAt (named outputs known') (named n given') place) is
    (subst₂ (λ (k g : List ℕ). NamesDifferAt (named outputs k) (named own g) place) known_is given_is differs)

pub same_as : (outputs own own' : List (List ℕ)) (known known' given given' : List ℕ) → own ≡ own' → known ≡ known' → given ≡ given' → named own given ≡ named outputs known → named own' given' ≡ named outputs known'
same_as outputs own own' known known' given given' is known_is given_is same =
    subst (λ (n : List (List ℕ)). named n given' ≡ named outputs known') is (subst₂ (λ (k g : List ℕ). named own g ≡ named outputs k) known_is given_is same)

-- a name as a text more
pub texts_more : (names : List (List ℕ)) (texts now : List (String Global)) (s : String Global) (n : ℕ) (name : List ℕ) → n < length names → slice_get names n ≡ Some name → string_bytes s ≡ name → now ≡ texts ++ s ∷ [] → map (λ t. string_bytes t) texts ≡ take n names → map (λ t. string_bytes t) now ≡ take (n + 1) names
texts_more names texts now s n name lt at is more so_far =
    let here : string_bytes s ≡ get_or names n [] = is ∙ sym (get_or_from_slice_get names n name [] at) in
    ap (λ (l : List (String Global)). map (λ t. string_bytes t) l) more
    ∙ (map-append (λ (t : String Global). string_bytes t) texts (s ∷ [])
    ∙ (ap₂ (λ (l : List (List ℕ)) (m : List ℕ). l ++ m ∷ []) so_far here ∙ sym (take_more names n [] lt)))

pub one_more : (texts now : List (String Global)) (s : String Global) → now ≡ texts ++ s ∷ [] → IsGrown (map (λ t. string_bytes t) texts) (map (λ t. string_bytes t) now)
one_more texts now s more = (
  string_bytes s ∷ [],
  ap (λ (l : List (String Global)). map (λ t. string_bytes t) l) more ∙ map-append (λ (t : String Global). string_bytes t) texts (s ∷ []),
)
