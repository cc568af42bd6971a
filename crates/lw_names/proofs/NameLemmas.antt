-- What the names of a system keep as they grow.
use Rattle.std.proofs.Common.{◌≡◌, ◌≢◌, ◌⊎◌, inl, inr, ℕ, ◌+◌, ◌-◌, ◌<◌, ◌≤◌, List, [], ◌∷◌, ◌++◌, true, false, cond, ltb, length, get_or, slice_get, drop, Option, Some, None, refl, ap, sym, ◌∙◌, subst, arith, append_assoc, length-append, length-drop}
use Rattle.std.specs.Str.{bytes_eq}
use Rattle.std.specs.List.{All, Contains, position_or_len}
use Rattle.std.proofs.lemmas.Bool.Decides.{nat_tests}
use Rattle.std.proofs.lemmas.Slice.Eq.{bytes_eq-Decides}
use Rattle.std.proofs.lemmas.List.{append-nil, get_or_append_left, get_or_push, map-append}
use Rattle.std.proofs.lemmas.List.Elements.{All-push, All-head, All-tail, All-weaker, All-nil, All-contains_itself}
use Rattle.std.proofs.lemmas.List.Quantifiers.{position-Some, all_pairs_push}
use Rattle.std.proofs.lemmas.List.Sums.{fails_before_first}
use Rattle.std.proofs.lemmas.Option.{slice_get-get_or, slice_get_within, get_or_from_slice_get}
use Rattle.std.proofs.lemmas.Grind.{common_steps}
use Rattle.lw_words.specs.Word.{IsName, number_of, AllDiffer, name_at, named}
use Rattle.lw_words.proofs.NumberLemmas.{number_at_place}
use Rattle.lw_names.specs.Names.{added_name, with_name, with_names, Brings, IsGrown}

-- the number of the name with a number is that number
pub number_of-name_at : (names : List (List ℕ)) (y : ℕ) → AllDiffer names → y < length names → number_of (name_at names y) names ≡ Some y
number_of-name_at names y differ lt = number_at_place names y (name_at names y) differ (slice_get-get_or names y [] lt)

-- a name that has no number stands nowhere
pub lacks_name : (names : List (List ℕ)) (n : List ℕ) → number_of n names ≡ None → (k : ℕ) (d : List ℕ) → k < length names → get_or names k d ≢ n
lacks_name names n none k d lt same =
    let p : ℕ = position_or_len (bytes_eq n) names in
    let misses : bytes_eq n (get_or names k d) ≡ false = fails_before_first (bytes_eq n) names k d (far p none) in
    let is : bytes_eq n (get_or names k d) ≡ true = (bytes_eq-Decides n (get_or names k d)).1 (sym same) in
    cc
  where
    far : (p : ℕ) → cond (ltb p (length names)) (Some p) None ≡ None → k < p
    far p e = grind (arith, nat_tests)

-- a name that stands nowhere has no number
pub lacks_number : (names : List (List ℕ)) (n : List ℕ) → ((k : ℕ) → k < length names → get_or names k n ≢ n) → number_of n names ≡ None
lacks_number names n nowhere = go (number_of n names) refl
  where
    go : (o : Option ℕ) → number_of n names ≡ o → o ≡ None
    go None is = refl
    go (Some i) is =
        let h = position-Some (bytes_eq n) names i n is in
        absurd (nowhere i h.0 (sym ((bytes_eq-Decides n (get_or names i n)).0 h.1)))

-- the list with a name that it lacks, and with one that it has
pub with_name-lacks : (names : List (List ℕ)) (n : List ℕ) → number_of n names ≡ None → with_name names n ≡ names ++ n ∷ []
with_name-lacks names n is = ap (added_name names n) is

pub with_name-has : (names : List (List ℕ)) (n : List ℕ) (y : ℕ) → number_of n names ≡ Some y → with_name names n ≡ names
with_name-has names n y is = ap (added_name names n) is

module _ (names : List (List ℕ)) (n : List ℕ) where
  -- what holds of both outcomes holds of the list with one name more
  added_by : (P : List (List ℕ) → Type 0) → P names → (number_of n names ≡ None → P (names ++ n ∷ [])) → P (with_name names n)
  added_by P has lacks = go (number_of n names) refl
    where
      go : (o : Option ℕ) → number_of n names ≡ o → P (added_name names n o)
      go None is = lacks is
      go (Some y) is = has

grown_twice : (a b c : List (List ℕ)) → IsGrown a b → IsGrown b c → IsGrown a c
grown_twice a b c g h = (g.0 ++ h.0, h.1 ∙ (ap (λ l. l ++ h.0) g.1 ∙ append_assoc a g.0 h.0))

pub with_name-grows : (names : List (List ℕ)) (n : List ℕ) → IsGrown names (with_name names n)
with_name-grows names n = added_by names n (IsGrown names) ([], sym (append-nil names)) (λ _. (n ∷ [], refl))

-- the list only grows at its end
pub with_names-grows : (names ns : List (List ℕ)) → IsGrown names (with_names names ns)
with_names-grows names [] = ([], sym (append-nil names))
with_names-grows names (n ∷ ns) = grown_twice names (with_name names n) (with_names (with_name names n) ns) (with_name-grows names n) (with_names-grows (with_name names n) ns)

pub with_names-append : (names ns ms : List (List ℕ)) → with_names names (ns ++ ms) ≡ with_names (with_names names ns) ms
with_names-append names [] ms = refl
with_names-append names (n ∷ ns) ms = with_names-append (with_name names n) ns ms

-- what holds of the old names and of the new ones
pub All-with_names : (P : List ℕ → Type 0) (names ns : List (List ℕ)) → All P names → All P ns → All P (with_names names ns)
All-with_names P names [] old new = old
All-with_names P names (n ∷ ns) old new =
    All-with_names P (with_name names n) ns
    (added_by names n (λ l. All P l) old (λ _. All-push P names n old (All-head P n ns new)))
    (All-tail P n ns new)

-- each name is an old one or one of the new ones
pub with_names-from : (names ns : List (List ℕ)) → All (λ n. Contains names n ⊎ Contains ns n) (with_names names ns)
with_names-from names ns =
    All-with_names (λ n. Contains names n ⊎ Contains ns n) names ns
    (All-weaker (Contains names) (λ n. Contains names n ⊎ Contains ns n) (λ n h. inl h) names (All-contains_itself names))
    (All-weaker (Contains ns) (λ n. Contains names n ⊎ Contains ns n) (λ n h. inr h) ns (All-contains_itself ns))

-- the names stay different
pub AllDiffer-with_names : (names ns : List (List ℕ)) → AllDiffer names → AllDiffer (with_names names ns)
AllDiffer-with_names names [] differ = differ
AllDiffer-with_names names (n ∷ ns) differ =
    AllDiffer-with_names (with_name names n) ns
    (added_by names n (λ l. AllDiffer l) differ (λ lacks. all_pairs_push (λ a b. a ≢ b) names n differ (lacks_name names n lacks)))

-- numbers below a length have the same names once the list grew
pub name_at-grown : (names more : List (List ℕ)) (y : ℕ) → y < length names → name_at (names ++ more) y ≡ name_at names y
name_at-grown names more y lt = get_or_append_left names more [] y lt

pub named-grown : (names more : List (List ℕ)) (outs : List ℕ) → All (λ y. y < length names) outs → named (names ++ more) outs ≡ named names outs
named-grown names more [] all = refl
named-grown names more (y ∷ outs) all =
    rw (name_at-grown names more y (All-head (λ y. y < length names) y outs all), named-grown names more outs (All-tail (λ y. y < length names) y outs all)) refl

-- the name at the end
pub name_at_end : (names : List (List ℕ)) (n : List ℕ) → name_at (names ++ n ∷ []) (length names) ≡ n
name_at_end names n = get_or_push names n [] (length names) refl

-- a name that a list without repeats has at its end is lacked by what stands before it
last_is_new : (names : List (List ℕ)) (n : List ℕ) → AllDiffer (names ++ n ∷ []) → number_of n names ≡ None
last_is_new names n differ = lacks_number names n (λ k lt same.
    let long : length (names ++ n ∷ []) ≡ length names + 1 = length-append names (n ∷ []) in
    differ k (length names) n lt (omega arith) (name_before k lt ∙ (same ∙ sym (name_last names n))))
  where
    name_before : (k : ℕ) → k < length names → get_or (names ++ n ∷ []) k n ≡ get_or names k n
    name_before k lt = get_or_append_left names (n ∷ []) n k lt

    name_last : (names : List (List ℕ)) (n : List ℕ) → get_or (names ++ n ∷ []) (length names) n ≡ n
    name_last names n = get_or_push names n n (length names) refl

-- The outputs so far, by names: the names are those at the start and those that came up, in order, and each output has one.
pub record IsNaming (start now : List (List ℕ)) (came : List (List ℕ)) (outs : List ℕ) : Type 0 where
  pub gained : now ≡ start ++ came
  pub brought : now ≡ with_names start (named now outs)
  pub numbers : All (λ y. y < length now) outs

pub naming_begins : (start : List (List ℕ)) → IsNaming start start [] []
naming_begins start = record { gained = sym (append-nil start); brought = refl; numbers = All-nil (λ y. y < length start) }

-- one output more
pub naming_more : (start before now came more : List (List ℕ)) (outs : List ℕ) (y : ℕ) → IsNaming start before came outs → Brings before now y → AllDiffer now → now ≡ before ++ more
    → IsNaming start now (came ++ more) (outs ++ y ∷ [])
naming_more start before now came more outs y was brings differ is =
    let n : List ℕ = name_at now y in
    let longer : length now ≡ length before + length more = ap (λ (l : List (List ℕ)). length l) is ∙ length-append before more in
    let numbers : All (λ y. y < length now) outs = All-weaker (λ y. y < length before) (λ y. y < length now) (λ y lt. omega arith) outs was.numbers in
    let so_far : with_names start (named now outs) ≡ before =
    ap (λ (l : List (List ℕ)). with_names start (named l outs)) is ∙ (ap (with_names start) (named-grown before more outs was.numbers) ∙ sym was.brought) in
    let here : (y < length now) × (with_name before n ≡ now) = one_more brings in
    let split : with_names start (named now (outs ++ y ∷ [])) ≡ with_name (with_names start (named now outs)) n =
    ap (with_names start) (map-append (name_at now) outs (y ∷ [])) ∙ with_names-append start (named now outs) (n ∷ []) in
    record {
      gained = is ∙ (ap (λ (l : List (List ℕ)). l ++ more) was.gained ∙ append_assoc start came more);
      brought = sym (split ∙ (ap (λ (l : List (List ℕ)). with_name l n) so_far ∙ here.1));
      numbers = All-push (λ y. y < length now) outs y numbers here.0;
    }
  where
    one_more : Brings before now y → (y < length now) × (with_name before (name_at now y) ≡ now)
    one_more (inl h) =
        let differ_before : AllDiffer before = subst (λ (l : List (List ℕ)). AllDiffer l) h.1 differ in (
          subst (λ (l : List (List ℕ)). y < length l) (sym h.1) h.0,
          ap (λ (l : List (List ℕ)). with_name before (name_at l y)) h.1 ∙ (with_name-has before (name_at before y) y (number_of-name_at before y differ_before h.0) ∙ sym h.1),
        )
    one_more (inr h) =
        let n : List ℕ = h.1.0 in
        let grown : now ≡ before ++ n ∷ [] = h.1.1 in
        let longer : length now ≡ length before + 1 = ap (λ (l : List (List ℕ)). length l) grown ∙ length-append before (n ∷ []) in
        let called : name_at now y ≡ n = ap (λ (l : List (List ℕ)). name_at l y) grown ∙ (ap (name_at (before ++ n ∷ [])) h.0 ∙ name_at_end before n) in
        let is_new : number_of n before ≡ None = last_is_new before n (subst (λ (l : List (List ℕ)). AllDiffer l) grown differ) in
        (omega arith, ap (with_name before) called ∙ (with_name-lacks before n is_new ∙ sym grown))

-- after a step the names are those before it, and what the list gained
pub brings_rest : (before now : List (List ℕ)) (y known : ℕ) → known ≡ length before → Brings before now y → now ≡ before ++ drop known now
brings_rest before now y known count (inl h) = grind (arith, common_steps)
brings_rest before now y known count (inr h) = grind (arith, common_steps)

-- how many names there are after a step
pub brings_one : (before now : List (List ℕ)) (y known : ℕ) → known ≡ length before → Brings before now y → (length now ≡ known) ⊎ ((length now ≡ known + 1) × (y ≡ known))
brings_one before now y known count (inl h) = inl (ap (λ (l : List (List ℕ)). length l) h.1 ∙ sym count)
brings_one before now y known count (inr h) = inr (ap (λ (l : List (List ℕ)). length l) h.1.1 ∙ (length-append before (h.1.0 ∷ []) ∙ ap (λ (n : ℕ). n + 1) (sym count)), h.0 ∙ sym count)

-- the list that is noted, where nothing came and where a name came
pub noted_none : (noted names : List (List ℕ)) (known : ℕ) → length names ≡ known → noted ≡ noted ++ drop known names
noted_none noted names known is = grind (arith, common_steps)

pub noted_one : (noted names : List (List ℕ)) (known y : ℕ) → length names ≡ known + 1 → y ≡ known → noted ++ name_at names y ∷ [] ≡ noted ++ drop known names
noted_one noted names known y is at = grind (arith, common_steps)

-- a step brings one name at most
pub noted_few : (noted came before now : List (List ℕ)) (y known i : ℕ) → noted ≡ came ++ drop known now → known ≡ length before → Brings before now y → length came ≤ i → length noted ≤ i + 1
noted_few noted came before now y known i is count brings few =
    let size : length noted ≡ length came + (length now - known) = ap (λ (l : List (List ℕ)). length l) is ∙ (length-append came (drop known now) ∙ ap (λ (n : ℕ). length came + n) (length-drop known now)) in
    let one = brings_one before now y known count brings in
    omega (arith, one)

-- a name that stands at a number
pub is_name_at : (names : List (List ℕ)) (y : ℕ) (n : List ℕ) → slice_get names y ≡ Some n → name_at names y ≡ n
is_name_at names y n at = get_or_from_slice_get names y n [] at

pub IsName-at : (names : List (List ℕ)) (y : ℕ) (n : List ℕ) → All IsName names → slice_get names y ≡ Some n → IsName n
IsName-at names y n each at = subst IsName (get_or_from_slice_get names y n n at) (each y n (slice_get_within names y n at))

pub ruleset note_steps = (noted_none, noted_one)
