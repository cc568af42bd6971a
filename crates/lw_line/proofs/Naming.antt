-- Numbers of names in a list that gains one.
use Rattle.std.proofs.Common.{◌≡◌, ◌≢◌, inl, inr, ℕ, ◌+◌, ◌<◌, ◌≤◌, List, [], ◌∷◌, ◌++◌, codes, length, get_or, take, drop, Contains, Bool, true, false, cond, Option, Some, None, option_and_then, refl, ap, sym, ◌∙◌, subst, arith, length-append}
use Rattle.std.specs.List.{All}
use Rattle.std.specs.Str.{IsUtf8, bytes_eq}
use Rattle.std.proofs.lemmas.Str.{IsUtf8-from_ascii}
use Rattle.std.proofs.lemmas.Str.Ascii.{IsAscii-from_all}
use Rattle.std.proofs.lemmas.List.{get_or_push, get_or_append_left, take-append-drop}
use Rattle.std.proofs.lemmas.Slice.Eq.{bytes_eq-Decides}
use Rattle.std.proofs.lemmas.List.Elements.{All-push, All-weaker}
use Rattle.std.proofs.lemmas.List.Quantifiers.{all_pairs_push}
use Rattle.std.proofs.lemmas.Option.{slice_get-get_or, slice_get_within, get_or_from_slice_get}
use Rattle.lw_words.specs.Word.{IsName, AllDiffer, number_of}
use Rattle.lw_words.proofs.NumberLemmas.{number_at_place, name_at_number}
use Rattle.lw_names.proofs.NameLemmas.{lacks_name, IsName-at}
use Rattle.lw_names.specs.Names.{AreNamed, Brings}
use Rattle.lw_outside.specs.Protocol.{bytes_behind, out_line}
use Rattle.lw_line.specs.LineState.{IsNaming}
use Rattle.lw_line.specs.Transcripts.{number_behind}
use Rattle.lw_line.specs.bodies.Naming.{naming_of}
use Rattle.lw_line.specs.declared.outputs.OutputList.{OutputList}
use Rattle.lw_line.specs.declared.outputs.OutputList.TheVariants.{Declared, Free}
use Rattle.lw_line.specs.bodies.Exchanges.{NamesNone}

-- a name is text
pub name_is_text : (name : List ℕ) → IsName name → IsUtf8 name
name_is_text name is = IsUtf8-from_ascii name (IsAscii-from_all name (All-weaker (λ b. (33 ≤ b) × (b ≤ 126)) (λ b. b < 128) (λ b h. omega (arith, h.1)) name is.printable))

module _ (names : List (List ℕ)) (name : List ℕ) (lacks : number_of name names ≡ None) where
  -- a name more
  pub lawful_more : (most : ℕ) → AreNamed most names → length names ≢ most → IsName name → AreNamed most (names ++ name ∷ [])
  lawful_more most lawful ne is =
      let long : length (names ++ name ∷ []) ≡ length names + 1 = length-append names (name ∷ []) in
      let few : length names ≤ most = lawful.few in
      record {
        few = omega arith;
        each = All-push IsName names name lawful.each is;
        differ = all_pairs_push (λ a b. a ≢ b) names name lawful.differ (lacks_name names name lacks);
      }

  pub number_more : AllDiffer (names ++ name ∷ []) → number_of name (names ++ name ∷ []) ≡ Some (length names)
  number_more differ =
      let long : length (names ++ name ∷ []) ≡ length names + 1 = length-append names (name ∷ []) in
      number_at_place (names ++ name ∷ []) (length names) name differ
      (slice_get-get_or (names ++ name ∷ []) (length names) name (omega arith) ∙ ap (λ (n : List ℕ). Some n) (get_or_push names name name (length names) refl))

-- a number that a name has stays
pub number_stays : (before now : List (List ℕ)) (y : ℕ) (name : List ℕ) (z : ℕ) → Brings before now y → AllDiffer now → number_of name before ≡ Some z → number_of name now ≡ Some z
number_stays before now y name z (inl h) differ is = ap (number_of name) h.1 ∙ is
number_stays before now y name z (inr h) differ is =
    let at = name_at_number name before z is in
    let lt : z < length before = slice_get_within before z name at in
    let grown : now ≡ before ++ h.1.0 ∷ [] = h.1.1 in
    let long : length now ≡ length before + 1 = ap (λ (l : List (List ℕ)). length l) grown ∙ length-append before (h.1.0 ∷ []) in
    let here : get_or now z name ≡ name =
    ap (λ (l : List (List ℕ)). get_or l z name) grown ∙ (get_or_append_left before (h.1.0 ∷ []) name z lt ∙ get_or_from_slice_get before z name name at) in
    number_at_place now z name differ (slice_get-get_or now z name (omega arith) ∙ ap (λ (n : List ℕ). Some n) here)

-- a name that came
pub record HasComeNew (names now : List (List ℕ)) (name : List ℕ) (count : ℕ) : Type 0 where
  pub lawful : AreNamed 256 now
  pub number : number_of name now ≡ Some count
  pub brings : Brings names now count
  pub below : count < 256

pub came_new : (names now : List (List ℕ)) (name : List ℕ) (count : ℕ) → AreNamed 256 names → number_of name names ≡ None → count ≡ length names → count ≢ 256 → now ≡ names ++ name ∷ [] → IsName name → HasComeNew names now name count
came_new names now name count lawful lacks is ne grown is_name =
    let few : length names ≤ 256 = lawful.few in
    let more : AreNamed 256 (names ++ name ∷ []) = lawful_more names name lacks 256 lawful (λ same. ne (is ∙ same)) is_name in
    record {
      lawful = subst (λ (l : List (List ℕ)). AreNamed 256 l) (sym grown) more;
      number = ap (λ (l : List (List ℕ)). number_of name l) grown ∙ (number_more names name lacks more.differ ∙ ap (λ (n : ℕ). Some n) (sym is));
      brings = inr (is, (name, grown));
      below = omega arith;
    }

-- what is no name has no number
pub no_number : (names : List (List ℕ)) (name : List ℕ) → All IsName names → ¬ IsName name → number_of name names ≡ None
no_number names name each none = go (number_of name names) refl
  where
    go : (o : Option ℕ) → number_of name names ≡ o → o ≡ None
    go None is = refl
    go (Some i) is = absurd (none (IsName-at names i name each (name_at_number name names i is)))

-- a name without a number isn't in the list
pub not_in : (names : List (List ℕ)) (name : List ℕ) → number_of name names ≡ None → ¬ Contains names name
not_in names name lacks c = lacks_name names name lacks c.0 name c.1 c.2

-- what stands behind the front of an answer
pub behind_is : (front answer rest : List ℕ) → bytes_eq (take (length front) answer) front ≡ true → rest ≡ drop (length front) answer → bytes_behind front answer ≡ Some rest
behind_is front answer rest begins is =
    ap (λ (b : Bool). cond b (Some (drop (length front) answer)) None) begins ∙ ap (λ (l : List ℕ). Some l) (sym is)

pub starts_so : (front answer rest : List ℕ) → bytes_eq (take (length front) answer) front ≡ true → rest ≡ drop (length front) answer → answer ≡ front ++ rest
starts_so front answer rest begins is =
    sym (take-append-drop (length front) answer)
    ∙ (ap (λ (l : List ℕ). l ++ drop (length front) answer) ((bytes_eq-Decides (take (length front) answer) front).0 begins) ∙ ap (λ (l : List ℕ). front ++ l) (sym is))

-- an answer whose name has a number names an output
pub has_named : (names : List (List ℕ)) (answer : List ℕ) (y : ℕ) → number_behind (codes "out ") names answer ≡ Some y → (name : List ℕ) × (answer ≡ out_line name) × (number_of name names ≡ Some y)
has_named names answer y is =
    by (bytes_eq (take (length (codes "out ")) answer) (codes "out ")) refl is
  where
    by : (b : Bool) → bytes_eq (take (length (codes "out ")) answer) (codes "out ") ≡ b → option_and_then (λ name. number_of name names) (cond b (Some (drop (length (codes "out ")) answer)) None) ≡ Some y → (name : List ℕ) × (answer ≡ out_line name) × (number_of name names ≡ Some y)
    by true begins is = (drop (length (codes "out ")) answer, starts_so (codes "out ") answer (drop (length (codes "out ")) answer) begins refl, is)
    by false begins is = cc

-- the name that an answer brought is the one that it names
pub brought_is : (before now : List (List ℕ)) (y : ℕ) (n name : List ℕ) → y ≡ length before → now ≡ before ++ n ∷ [] → number_of name now ≡ Some y → name ≡ n
brought_is before now y n name is grown number =
    let at = name_at_number name now y number in
    sym (get_or_from_slice_get now y name name at) ∙ (ap (λ (l : List (List ℕ)). get_or l y name) grown ∙ get_or_push before n name y (sym is))

-- an answer that names no output
pub names_no_output : (names : List (List ℕ)) (most : ℕ) (answer rest : List ℕ) → AreNamed most names → bytes_behind (codes "out ") answer ≡ Some rest → ¬ IsName rest → NamesNone names most answer
names_no_output names most answer rest lawful is none = (
  ap (option_and_then (λ name. number_of name names)) is ∙ no_number names rest lawful.each none,
  inl (λ name is_name same. none (subst IsName (named name same) is_name)),
)
  where
    named : (name : List ℕ) → answer ≡ out_line name → name ≡ rest
    named name same = let both : ◌≡◌ {A = Option (List ℕ)} (Some name) (Some rest) = sym (ap (λ (l : List ℕ). bytes_behind (codes "out ") l) same) ∙ is in cc

-- an answer that names an output which isn't known
pub names_unknown : (names : List (List ℕ)) (most : ℕ) (answer rest : List ℕ) → bytes_behind (codes "out ") answer ≡ Some rest → answer ≡ out_line rest → IsName rest → number_of rest names ≡ None → length names ≡ most → NamesNone names most answer
names_unknown names most answer rest is same is_name lacks full = (
  ap (option_and_then (λ name. number_of name names)) is ∙ lacks,
  inr (rest, is_name, same, not_in names rest lacks, full),
)

pub names_known : (names : List (List ℕ)) (answer rest : List ℕ) (y : ℕ) → bytes_behind (codes "out ") answer ≡ Some rest → number_of rest names ≡ Some y → number_behind (codes "out ") names answer ≡ Some y
names_known names answer rest y is number = ap (option_and_then (λ name. number_of name names)) is ∙ number

-- how many names a list of outputs may have, and how many numbers
pub naming_is : (list : OutputList) → IsNaming (naming_of list).names (naming_of list).most (naming_of list).range
naming_is (Declared names) = inr (refl, refl)
naming_is (Free names) = inl (refl, refl)
