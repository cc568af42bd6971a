-- Each name that is brought comes up in the answer that brings it.
use Rattle.std.proofs.Common.{◌≡◌, inl, inr, ⊎_elim, ℕ, ◌+◌, ◌<◌, ◌≤◌, List, [], ◌∷◌, ◌++◌, length, get_or, Bool, Option, Some, None, is_some, refl, ap, sym, ◌∙◌, subst, subst₂, arith, length-append}
use Rattle.std.specs.Str.{bytes_eq}
use Rattle.std.proofs.lemmas.Bool.{true≢false, false≢true, cases_lt}
use Rattle.std.proofs.lemmas.List.{get_or_default, get_or-append-add}
use Rattle.std.proofs.lemmas.List.Quantifiers.{position-Some}
use Rattle.std.proofs.lemmas.Slice.Eq.{bytes_eq-Decides}
use Rattle.lw_words.specs.Word.{number_of, name_at, named, number_in}
use Rattle.lw_words.specs.declared.kept.KeptAnswer.{KeptAnswer}
use Rattle.lw_names.specs.Names.{added_name, with_names}
use Rattle.lw_turn.specs.declared.shared.Entry.{Entry}
use Rattle.lw_names.specs.Naming.{Naming, IsFree, own_names, bring, shared, MayBring, HasLists}
use Rattle.lw_desk.specs.Step.{DeskState, kept_of, GivesAll}
use Rattle.lw_desk.specs.History.{DeskOpening, opened, MayGiveAll, Makes, Replays}
use Rattle.lw_desk.specs.Ending.{ComeUp, FreeComeUp}
use Rattle.lw_desk.specs.declared.ask.Ask.{Ask}
use Rattle.lw_desk.specs.declared.ask.Reply.{Reply}
use Rattle.lw_desk.specs.declared.ask.Give.{Give}
use Rattle.lw_names.proofs.Members.{In, in_contains, contains_in, in_left, in_right, in_map, in_mapped}
use Rattle.lw_desk.specs.lemmas.StepLemmas.{end_naming, end_kept}
use Rattle.lw_names.proofs.NameNumbers.{IsNumbered, numbered, Grew, grew_name, in_grew, with_names_grew}
use Rattle.lw_desk.proofs.NamingLemmas.{OwnMore, own_more}
use Rattle.lw_desk.proofs.SeatLemmas.{Stands, makes_stands, opened_stands, replays_stands}

no_number : (names : List (List ℕ)) (n : List ℕ) → In n names → number_of n names ≡ None → ⊥
no_number names n i none = false≢true (ap is_some (sym none ∙ (numbered names n i).found))

at_place : (names : List (List ℕ)) (y : ℕ) → y < length names → In (name_at names y) names
at_place names y lt = contains_in (name_at names y) names (y, lt, get_or_default names y (name_at names y) [] lt)

-- a name that has no number yet gets the next one, and keeps it as more come
next_number : (names now : List (List ℕ)) (n : List ℕ) → number_of n names ≡ None → Grew (names ++ n ∷ []) now → (name_at now (length names) ≡ n) × (number_in now n ≡ length names)
next_number names now n none grew = (there, number)
  where
    long : length (names ++ n ∷ []) ≡ length names + 1
    long = length-append names (n ∷ [])

    there : name_at now (length names) ≡ n
    there =
        grew_name (names ++ n ∷ []) now (length names) grew (omega (arith, long))
        ∙ (ap (λ (k : ℕ). get_or (names ++ n ∷ []) k []) (omega arith) ∙ get_or-append-add names (n ∷ []) 0 [])

    is : IsNumbered now n
    is = numbered now n (in_grew (names ++ n ∷ []) now n grew (in_right n names (n ∷ []) (inl refl)))

    earlier : number_in now n < length names → ⊥
    earlier lt =
        no_number names n
        (subst (λ (m : List ℕ). In m names)
        (sym (grew_name names now (number_in now n) (n ∷ grew.0, grew.1 ∙ joined names (n ∷ []) grew.0) lt) ∙ is.is)
        (at_place names (number_in now n) lt))
        none
      where
        joined : (xs ys zs : List (List ℕ)) → (xs ++ ys) ++ zs ≡ xs ++ (ys ++ zs)
        joined [] ys zs = refl
        joined (x ∷ xs) ys zs = ap (λ (l : List (List ℕ)). x ∷ l) (joined xs ys zs)

    later : length names < number_in now n → ⊥
    later lt =
        true≢false
        (sym ((bytes_eq-Decides n (get_or now (length names) [])).1 (sym there))
        ∙ (position-Some (bytes_eq n) now (number_in now n) [] is.found).2 (length names) lt)

    number : number_in now n ≡ length names
    number =
        ⊎_elim
        (λ (lt : number_in now n < length names). absurd (earlier lt))
        (λ (le : length names ≤ number_in now n). ⊎_elim
        (λ (lt : length names < number_in now n). absurd (later lt))
        (λ (ge : number_in now n ≤ length names). omega (arith, le, ge))
        (cases_lt (length names) (number_in now n)))
        (cases_lt (number_in now n) (length names))

-- a place behind the old names has one of those that came, and is its number
pub record IsNew (came now : List (List ℕ)) (y : ℕ) : Type 0 where
  pub among : In (name_at now y) came
  pub number : number_in now (name_at now y) ≡ y

one_more : (n : List ℕ) (ns now : List (List ℕ)) (y : ℕ) → IsNew ns now y → IsNew (n ∷ ns) now y
one_more n ns now y is = record { among = inr is.among; number = is.number }

pub new_name : (names ns : List (List ℕ)) (y : ℕ) → length names ≤ y → y < length (with_names names ns) → IsNew ns (with_names names ns) y
new_name names [] y le lt = absurd (omega (arith, le, lt))
new_name names (n ∷ ns) y le lt = by (number_of n names) refl (λ l. new_name l ns y) lt
  where
    by : (o : Option ℕ) → number_of n names ≡ o → ((l : List (List ℕ)) → length l ≤ y → y < length (with_names l ns) → IsNew ns (with_names l ns) y) → y < length (with_names (added_name names n o) ns) → IsNew (n ∷ ns) (with_names (added_name names n o) ns) y
    by (Some k) e rest lt = one_more n ns (with_names names ns) y (rest names le lt)
    by None e rest lt =
        ⊎_elim
        (λ (here : y < length (names ++ n ∷ [])).
        let next = next_number names (with_names (names ++ n ∷ []) ns) n e (with_names_grew (names ++ n ∷ []) ns) in
        let at : length names ≡ y = omega (arith, le, here, length-append names (n ∷ [])) in
        subst (IsNew (n ∷ ns) (with_names (names ++ n ∷ []) ns)) at (record {
          among = inl next.0;
          number = ap (number_in (with_names (names ++ n ∷ []) ns)) next.0 ∙ next.1;
        }))
        (λ (behind : length (names ++ n ∷ []) ≤ y). one_more n ns (with_names (names ++ n ∷ []) ns) y (rest (names ++ n ∷ []) behind lt))
        (cases_lt y (length (names ++ n ∷ [])))

-- a name that an instance brings is that of one of its outputs
named_by : (free : Bool) (own names : List (List ℕ)) (outs : List ℕ) (n : List ℕ) → MayBring free own names outs → In n names → (z : ℕ) × In z outs × (name_at (own ++ names) z ≡ n)
named_by free own names outs n may i =
    let c = in_contains n names i in
    let q : ℕ = length own + c.0 in
    let all : List (List ℕ) = with_names own (named (own ++ names) outs) in
    let within : c.0 < length names = c.1 in
    let at : name_at (own ++ names) q ≡ n = get_or-append-add own names c.0 [] ∙ (get_or_default names c.0 [] n within ∙ c.2) in
    let new : IsNew (named (own ++ names) outs) all q = new_name own (named (own ++ names) outs) q (omega arith) (omega (arith, within, length-append own names, ap (λ (l : List (List ℕ)). length l) may.new)) in
    let here : name_at all q ≡ n = ap (λ (l : List (List ℕ)). name_at l q) (sym may.new) ∙ at in
    in_mapped (name_at (own ++ names)) n outs (subst (λ (m : List ℕ). In m (named (own ++ names) outs)) here new.among)

-- an answer that is given has the outputs of all the names that it brings
module _ (batch : List (List ℕ)) (actor : ℕ) (g : Give) (s : DeskState) where
  abbrev now : Naming
  now = bring s.naming actor g.names

  abbrev answer : KeptAnswer
  answer = kept_of batch now actor g

  abbrev shared_one : ℕ → ℕ
  shared_one y = number_in now.names (name_at (own_names now actor) y)

  come_up_given : (free : Bool) (own : List (List ℕ)) → own_names now actor ≡ own ++ g.names → MayBring free own g.names g.outs → ComeUp s.kept s.naming.names → ComeUp (s.kept ++ answer ∷ []) now.names
  come_up_given free own owns may was y lt =
      ⊎_elim
      (λ (old : y < length s.naming.names).
      let c = was y old in (c.0, in_contains c.0 (s.kept ++ answer ∷ []) (in_left c.0 s.kept (answer ∷ []) (contains_in c.0 s.kept c.1)), c.2))
      (λ (behind : length s.naming.names ≤ y).
      let new : IsNew g.names now.names y = new_name s.naming.names g.names y behind lt in
      let z = named_by free own g.names g.outs (name_at now.names y) may new.among in
      let same : shared_one z.0 ≡ y = ap (λ (l : List (List ℕ)). number_in now.names (name_at l z.0)) owns ∙ (ap (number_in now.names) z.2 ∙ new.number) in (
        answer,
        in_contains answer (s.kept ++ answer ∷ []) (in_right answer s.kept (answer ∷ []) (inl refl)),
        in_contains y (shared now actor g.outs) (subst (λ (x : ℕ). In x (shared now actor g.outs)) same (in_map shared_one z.0 g.outs z.1)),
      ))
      (cases_lt y (length s.naming.names))

module _ (o : DeskOpening) where
  come_up_gives : (maker : ℕ) (gs : List Give) (s t : DeskState) (free : Bool) (own : List (List ℕ)) → maker < o.actors → HasLists s.naming.brought o.actors → is_some s.naming.brought ≡ free → own ≡ own_names s.naming maker → MayGiveAll o.batch free own gs → GivesAll o.batch maker gs s t → ComeUp s.kept s.naming.names
      → ComeUp t.kept t.naming.names
  come_up_gives maker [] s t free own lt lists kind mine may same was = subst (λ (x : DeskState). ComeUp x.kept x.naming.names) (sym same) was
  come_up_gives maker (g ∷ gs) s t free own lt lists kind mine may gives was =
      let more : OwnMore o.actors maker g.names s.naming (bring s.naming maker g.names) = own_more s.naming maker o.actors g.names lists lt (λ declared. may.0.declared (sym kind ∙ declared)) in
      let here : gives.0.naming ≡ bring s.naming maker g.names = ap (λ (x : DeskState). x.naming) gives.1.after in
      let owns : own_names (bring s.naming maker g.names) maker ≡ own ++ g.names = more.own ∙ ap (λ (l : List (List ℕ)). l ++ g.names) (sym mine) in
      let one : ComeUp gives.0.kept gives.0.naming.names = subst (λ (x : DeskState). ComeUp x.kept x.naming.names) (sym gives.1.after) (come_up_given o.batch maker g s free own owns may.0 was) in
      come_up_gives maker gs gives.0 t free (own ++ g.names) lt (subst (λ (n : Naming). HasLists n.brought o.actors) (sym here) more.lists) (ap (λ (n : Naming). is_some n.brought) here ∙ (more.kind ∙ kind))
      (sym (ap (λ (n : Naming). own_names n maker) here ∙ owns)) may.2 gives.2 one

  -- entries bring no name that doesn't come up
  pub come_up : (s t : DeskState) (es : List (Entry Ask Reply)) → Replays o s es t → Stands o s → ComeUp s.kept s.naming.names → ComeUp t.kept t.naming.names
  come_up s t [] same is was = subst (λ (x : DeskState). ComeUp x.kept x.naming.names) (sym same) was
  come_up s t (e ∷ es) r is was =
      let m : Makes o s e r.0 = r.1 in
      let given : ComeUp m.given.kept m.given.naming.names = come_up_gives e.actor e.ask.gives.items s m.given (is_some o.naming.brought) (own_names s.naming e.actor) m.actor is.lists is.kind refl m.may.gives m.gives was in
      come_up r.0 t es r.2 (makes_stands o s r.0 e m is)
      (subst₂ (λ (ks : List KeptAnswer) (n : Naming). ComeUp ks n.names) (sym (end_kept o s r.0 e m)) (sym (end_naming o s r.0 e m)) given)

pub free_kind : (one other : Option (List (List (List ℕ)))) → is_some one ≡ is_some other → IsFree one → IsFree other
free_kind None other same free = absurd free
free_kind (Some b) None same free = absurd (true≢false same)
free_kind (Some b) (Some c) same free = tt

-- where each free name of the opening came up, each does
pub free_come_up : (o : DeskOpening) (t : DeskState) (es : List (Entry Ask Reply)) → HasLists o.naming.brought o.actors → Replays o (opened o) es t → FreeComeUp o.kept o.naming → FreeComeUp t.kept t.naming
free_come_up o t es lists r was free =
    let is : Stands o (opened o) = opened_stands o lists in
    come_up o (opened o) t es r is (was (free_kind t.naming.brought o.naming.brought (replays_stands o (opened o) t es is r).kind free))
