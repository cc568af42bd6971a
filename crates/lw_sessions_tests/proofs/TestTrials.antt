-- Desks whose actors' standings are kept beside them.
use Rattle.std.proofs.Common.{◌≡◌, ◌≢◌, ◌⊎◌, ⊎_elim, inl, ℕ, zero, suc, ◌+◌, ◌-◌, ◌<◌, ◌≤◌, ◌==◌, ◌||◌, List, [], ◌∷◌, ◌++◌, length, map, take, set, slice_get, All, Bool, false, cond, Option, Some, None, is_some, refl, ap, sym, ◌∙◌, subst, arith, append-nil, append_assoc}
use Rattle.std.proofs.lemmas.Bool.{cases_eq, true≢false}
use Rattle.std.proofs.lemmas.List.{get_or-set_same, get_or-set_other, get_or-take, length-set, length-take-le, take_more}
use Rattle.std.proofs.lemmas.List.Elements.{filter-append, All-head, All-tail}
use Rattle.std.proofs.lemmas.Option.{slice_get-get_or, get_or_from_slice_get}
use Rattle.lw_words.specs.Word.{AllDiffer, number_of, name_at, named}
use Rattle.lw_words.proofs.NumberLemmas.{number_at_place, name_at_number, slice_get-take}
use Rattle.lw_names.specs.Names.{added_name, with_name, with_names}
use Rattle.lw_turn.specs.declared.shared.Entry.{Entry}
use Rattle.lw_turn.specs.History.{entries_of}
use Rattle.lw_names.specs.Naming.{own_names, HasLists}
use Rattle.lw_desk.specs.Desk.{DeskHistory}
use Rattle.lw_desk.specs.Step.{Claimed, DeskState, ActorTakesAll, after_take, without_place, without_places}
use Rattle.lw_desk.specs.History.{DeskOpening, opened, Seat, seat_of, seat_from, seat_after, actor_of, Replays, May, MayMake, names_given}
use Rattle.lw_sessions_tests.specs.TestTrial.{seat_by, seat_at, IsDeskTrial}
use Rattle.lw_desk.specs.declared.ask.Ask.{Ask}
use Rattle.lw_desk.specs.declared.ask.Reply.{Reply}
use Rattle.lw_desk.specs.declared.ask.Give.{Give}
use Rattle.lw_names.proofs.Members.{In, in_either, is_same, is_other}
use Rattle.lw_desk.specs.lemmas.ClaimLists.{places_of, place_is, in_without}
use Rattle.lw_desk.specs.lemmas.StepLemmas.{between, between_claims, end_claims}
use Rattle.lw_desk.proofs.SeatLemmas.{opened_stands, seat_after_all}
use Rattle.lw_names.proofs.Bringing.{with_names-append, with_name_differ}

-- one entry more
seat_from_more : (seat : Seat) (es : List (Entry Ask Reply)) (e : Entry Ask Reply) → seat_from seat (es ++ e ∷ []) ≡ seat_after (seat_from seat es) e
seat_from_more seat [] e = refl
seat_from_more seat (f ∷ es) e = seat_from_more (seat_after seat f) es e

seat_of_more : (o : DeskOpening) → ((a : ℕ) → own_names o.naming a ≡ own_names o.naming 0) → (mine : List (Entry Ask Reply)) (e : Entry Ask Reply) → seat_of o (mine ++ e ∷ []) ≡ seat_after (seat_of o mine) e
seat_of_more o alike [] e = ap (λ (own : List (List ℕ)). seat_after (record { held = []; ended = false; own = own }) e) (alike e.actor)
seat_of_more o alike (f ∷ mine) e = seat_from_more (record { held = []; ended = false; own = own_names o.naming f.actor }) (f ∷ mine) e

entries_own : (a : ℕ) (es : List (Entry Ask Reply)) (e : Entry Ask Reply) → e.actor ≡ a → entries_of a (es ++ e ∷ []) ≡ entries_of a es ++ e ∷ []
entries_own a es e same = filter-append (λ (x : Entry Ask Reply). x.actor == a) es (e ∷ []) ∙ ap (λ (b : Bool). entries_of a es ++ cond b (e ∷ []) []) (is_same e.actor a same)

entries_other : (a : ℕ) (es : List (Entry Ask Reply)) (e : Entry Ask Reply) → e.actor ≢ a → entries_of a (es ++ e ∷ []) ≡ entries_of a es
entries_other a es e other = filter-append (λ (x : Entry Ask Reply). x.actor == a) es (e ∷ []) ∙ (ap (λ (b : Bool). entries_of a es ++ cond b (e ∷ []) []) (is_other e.actor a other) ∙ append-nil (entries_of a es))

pub trial_may : (d : DeskHistory) (batch : List (List ℕ)) (free : Bool) (seats : List Seat) (actor : ℕ) (ask : Ask) → IsDeskTrial d batch free seats → actor < length seats → MayMake batch free (seat_at seats actor) ask → May d.opening (entries_of actor d.entries) ask
trial_may d batch free seats actor ask is lt may =
    subst (λ (l : List (List ℕ)). MayMake l (is_some d.opening.naming.brought) (seat_of d.opening (entries_of actor d.entries)) ask) (sym is.batch_is)
    (subst (λ (f : Bool). MayMake batch f (seat_of d.opening (entries_of actor d.entries)) ask) (sym is.kind)
    (subst (λ (x : Seat). MayMake batch free x ask) (sym (is.stand actor lt)) may))

pub trial_more : (d now : DeskHistory) (batch : List (List ℕ)) (free : Bool) (seats : List Seat) (e : Entry Ask Reply) (seat : Seat) → IsDeskTrial d batch free seats → e.actor < length seats → now.opening ≡ d.opening → now.entries ≡ d.entries ++ e ∷ [] → seat ≡ seat_after (seat_at seats e.actor) e → IsDeskTrial now batch free (set seats e.actor seat)
trial_more d now batch free seats e seat is lt same more standing = record {
  batch_is = ap (λ (o : DeskOpening). o.batch) same ∙ is.batch_is;
  kind = ap (λ (o : DeskOpening). is_some o.naming.brought) same ∙ is.kind;
  actors = ap (λ (o : DeskOpening). o.actors) same ∙ (is.actors ∙ sym (length-set seats e.actor seat));
  alike = subst (λ (o : DeskOpening). (a : ℕ) → own_names o.naming a ≡ own_names o.naming 0) (sym same) is.alike;
  stand = λ a below. ⊎_elim
      (λ (here : e.actor ≡ a). subst (λ (b : ℕ). seat_of now.opening (entries_of b now.entries) ≡ seat_at (set seats e.actor seat) b) here own)
      (λ (other : e.actor ≡ a → ⊥).
      ap (λ (o : DeskOpening). seat_of o (entries_of a now.entries)) same
      ∙ (ap (λ (es : List (Entry Ask Reply)). seat_of d.opening (entries_of a es)) more
      ∙ (ap (seat_of d.opening) (entries_other a d.entries e other)
      ∙ (is.stand a (omega (arith, below, length-set seats e.actor seat))
      ∙ sym (get_or-set_other seats e.actor a seat (record { held = []; ended = false; own = [] }) (λ q. other (sym q)))))))
      (cases_eq e.actor a);
}
  where
    own : seat_of now.opening (entries_of e.actor now.entries) ≡ seat_at (set seats e.actor seat) e.actor
    own =
        ap (λ (o : DeskOpening). seat_of o (entries_of e.actor now.entries)) same
        ∙ (ap (λ (es : List (Entry Ask Reply)). seat_of d.opening (entries_of e.actor es)) more
        ∙ (ap (seat_of d.opening) (entries_own e.actor d.entries e refl)
        ∙ (seat_of_more d.opening is.alike (entries_of e.actor d.entries) e
        ∙ (ap (λ (x : Seat). seat_after x e) (is.stand e.actor lt)
        ∙ (sym standing ∙ sym (get_or-set_same seats e.actor seat (record { held = []; ended = false; own = [] }) lt))))))

-- claims are of actors that there are
abbrev pub AllBelow : ℕ → List Claimed → Type 0
AllBelow n cs = (c : Claimed) → In c cs → c.actor < n

takes_below : (batch : List (List ℕ)) (n actor wanted : ℕ) (ps : List ℕ) (s t : DeskState) → actor < n → ActorTakesAll batch actor wanted ps s t → AllBelow n s.claims → AllBelow n t.claims
takes_below batch n actor wanted [] s t lt takes below = subst (λ (x : DeskState). AllBelow n x.claims) (sym takes.0) below
takes_below batch n actor wanted (p ∷ ps) s t lt takes below =
    let new : Claimed = record { actor = actor; place = p } in
    takes_below batch n actor (wanted - 1) ps (after_take actor p s) t lt takes.3 (λ c i. ⊎_elim
    (λ (old : In c s.claims). below c old)
    (λ (added : In c (new ∷ [])). ⊎_elim (λ (same : c ≡ new). subst (λ (x : Claimed). x.actor < n) (sym same) lt) (λ (none : ⊥). absurd none) added)
    (in_either c s.claims (new ∷ []) i))

without_below : (n : ℕ) (ps : List ℕ) (cs : List Claimed) → AllBelow n cs → AllBelow n (without_places ps cs)
without_below n [] cs below = below
without_below n (p ∷ ps) cs below = without_below n ps (without_place p cs) (λ c i. below c (in_without p cs c i).0)

replays_below : (o : DeskOpening) (s t : DeskState) (es : List (Entry Ask Reply)) → Replays o s es t → AllBelow o.actors s.claims → AllBelow o.actors t.claims
replays_below o s t [] same below = subst (λ (x : DeskState). AllBelow o.actors x.claims) (sym same) below
replays_below o s t (e ∷ es) r below =
    let m = r.1 in
    replays_below o r.0 t es r.2
    (subst (AllBelow o.actors) (sym (end_claims o s r.0 e m))
    (takes_below o.batch o.actors e.actor e.ask.wanted e.reply.places (between o s r.0 e m) m.taken m.actor m.takes
    (subst (AllBelow o.actors) (sym (between_claims o s r.0 e m)) (without_below o.actors (places_of e.actor s.claims) s.claims below))))

none_of_any : (n : ℕ) (cs : List Claimed) → AllBelow n cs → ((a : ℕ) → a < n → places_of a cs ≡ []) → cs ≡ []
none_of_any n [] below none = refl
none_of_any n (c ∷ cs) below none =
    absurd (subst (In c.place) (none c.actor (below c (inl refl))) (place_is c.actor c (c ∷ cs) (inl refl) (is_same c.actor c.actor refl)))

-- where no actor holds a place, nothing is claimed
pub trial_idle : (d : DeskHistory) (batch : List (List ℕ)) (free : Bool) (seats : List Seat) → IsDeskTrial d batch free seats → HasLists d.opening.naming.brought d.opening.actors → ((a : ℕ) → a < length seats → (seat_at seats a).held ≡ []) → (t : DeskState) → Replays d.opening (opened d.opening) d.entries t → t.claims ≡ []
trial_idle d batch free seats is lists none t r =
    none_of_any d.opening.actors t.claims (replays_below d.opening (opened d.opening) t d.entries r (λ c i. absurd i)) (λ a lt.
    let o : DeskOpening = d.opening in
    let mine : List (Entry Ask Reply) = entries_of a d.entries in
    let own : own_names o.naming a ≡ own_names o.naming (actor_of mine) = is.alike a ∙ sym (is.alike (actor_of mine)) in
    let inside : a < length seats = omega (arith, lt, is.actors) in
    ap (λ (x : Seat). x.held)
    (seat_after_all o (opened o) t d.entries a (opened_stands o lists) r
    ∙ (ap (λ (l : List (List ℕ)). seat_from (record { held = []; ended = false; own = l }) mine) own ∙ is.stand a inside))
    ∙ none a inside)

-- a trial begins
pub trial_new : (d : DeskHistory) (batch own : List (List ℕ)) (free : Bool) (seats : List Seat) → d.opening.batch ≡ batch → is_some d.opening.naming.brought ≡ free → d.opening.actors ≡ length seats → d.entries ≡ [] → ((a : ℕ) → own_names d.opening.naming a ≡ own) → ((a : ℕ) → a < length seats → seat_at seats a ≡ seat_by [] false own) → IsDeskTrial d batch free seats
trial_new d batch own free seats same kind actors none alike blank = record {
  batch_is = same;
  kind = kind;
  actors = actors;
  alike = λ a. alike a ∙ sym (alike 0);
  stand = λ a lt.
      ap (λ (es : List (Entry Ask Reply)). seat_of d.opening (entries_of a es)) none
      ∙ (ap (λ (l : List (List ℕ)). seat_by [] false l) (alike 0) ∙ sym (blank a lt));
}

-- names given in turn
pub given_more : (gs : List Give) (g : Give) → names_given (gs ++ g ∷ []) ≡ names_given gs ++ g.names
given_more [] g = append-nil g.names
given_more (h ∷ gs) g = ap (λ (l : List (List ℕ)). h.names ++ l) (given_more gs g) ∙ sym (append_assoc h.names (names_given gs) g.names)

-- names that come in order
pub comes_again : (all : List (List ℕ)) (seen y : ℕ) → AllDiffer all → seen ≤ length all → y < seen → with_name (take seen all) (name_at all y) ≡ take seen all
comes_again all seen y differ le lt =
    let inside : y < length (take seen all) = omega (arith, lt, length-take-le seen all le) in
    let front : AllDiffer (take seen all) = differ_take all seen differ le in
    let at : slice_get (take seen all) y ≡ Some (name_at all y) = slice_get-get_or (take seen all) y [] inside ∙ ap (λ n. Some n) (get_or-take seen all y [] lt) in
    ap (added_name (take seen all) (name_at all y)) (number_at_place (take seen all) y (name_at all y) front at)
  where
    differ_take : (xs : List (List ℕ)) (n : ℕ) → AllDiffer xs → n ≤ length xs → AllDiffer (take n xs)
    differ_take xs n d le' i j e before within same =
        let lj : j < n = omega (arith, within, length-take-le n xs le') in
        d i j e before (omega arith) (sym (get_or-take n xs i e (omega arith)) ∙ (same ∙ get_or-take n xs j e lj))

pub comes_first : (all : List (List ℕ)) (seen : ℕ) → AllDiffer all → seen < length all → with_name (take seen all) (name_at all seen) ≡ take (seen + 1) all
comes_first all seen differ lt =
    by (number_of (name_at all seen) (take seen all)) refl ∙ sym (take_more all seen [] lt)
  where
    by : (o : Option ℕ) → number_of (name_at all seen) (take seen all) ≡ o → added_name (take seen all) (name_at all seen) o ≡ take seen all ++ name_at all seen ∷ []
    by None e = refl
    by (Some k) e =
        let at = slice_get-take all seen k (name_at all seen) (name_at_number (name_at all seen) (take seen all) k e) in
        absurd (differ k seen [] at.0 lt (get_or_from_slice_get all k (name_at all seen) [] at.1))

pub names_more : (own : List (List ℕ)) (all : List (List ℕ)) (ys : List ℕ) (y : ℕ) → with_names own (named all (ys ++ y ∷ [])) ≡ with_name (with_names own (named all ys)) (name_at all y)
names_more own all ys y = ap (with_names own) (split ys) ∙ with_names-append own (named all ys) (name_at all y ∷ [])
  where
    split : (l : List ℕ) → named all (l ++ y ∷ []) ≡ named all l ++ name_at all y ∷ []
    split [] = refl
    split (z ∷ l) = ap (λ (ns : List (List ℕ)). name_at all z ∷ ns) (split l)

-- a name that the list lacks
pub lacks : (names : List (List ℕ)) (name : List ℕ) → number_of name names ≡ None → with_name names name ≡ names ++ name ∷ []
lacks names name none = ap (added_name names name) none

pub order_more : (all own : List (List ℕ)) (ys : List ℕ) (y seen now : ℕ) → AllDiffer all → y < length all → y ≤ seen → seen ≤ length all → with_names own (named all ys) ≡ take seen all → ((y ≡ seen) × (now ≡ seen + 1)) ⊎ ((y ≢ seen) × (now ≡ seen)) → (with_names own (named all (ys ++ y ∷ [])) ≡ take now all) × (now ≤ length all)
order_more all own ys y seen now differ lt le within was step =
    ⊎_elim
    (λ (r : (y ≡ seen) × (now ≡ seen + 1)).
    let inside : seen < length all = omega (arith, lt, r.0) in (
      names_more own all ys y
          ∙ (ap (λ (l : List (List ℕ)). with_name l (name_at all y)) was
          ∙ (ap (λ (n : ℕ). with_name (take seen all) (name_at all n)) r.0
          ∙ (comes_first all seen differ inside ∙ ap (λ (n : ℕ). take n all) (sym r.1)))),
      omega (arith, inside, r.1),
    ))
    (λ (r : (y ≢ seen) × (now ≡ seen)).
    let before : y < seen = omega (arith, le, r.0) in (
      names_more own all ys y
          ∙ (ap (λ (l : List (List ℕ)). with_name l (name_at all y)) was
          ∙ (comes_again all seen y differ within before ∙ ap (λ (n : ℕ). take n all) (sym r.1))),
      omega (arith, within, r.1),
    ))
    step

-- what holds of each element holds of each seat
pub none_held : {X : Type 0} (f : X → Seat) (xs : List X) → All (λ x. (f x).held ≡ []) xs → (a : ℕ) → a < length (map f xs) → (seat_at (map f xs) a).held ≡ []
none_held f [] all a lt = absurd (omega arith)
none_held f (x ∷ xs) all zero lt = All-head (λ y. (f y).held ≡ []) x xs all
none_held f (x ∷ xs) all (suc a) lt = none_held f xs (All-tail (λ y. (f y).held ≡ []) x xs all) a (omega arith)

pub new_differ : (names : List (List ℕ)) (i : ℕ) → i < length names → AllDiffer (take i names) → number_of (name_at names i) (take i names) ≡ None → AllDiffer (take (i + 1) names)
new_differ names i lt differ none =
    subst AllDiffer (lacks (take i names) (name_at names i) none ∙ sym (take_more names i [] lt)) (with_name_differ (take i names) (name_at names i) differ)

pub none_of : (o : Option ℕ) → is_some o ≡ false → o ≡ None
none_of None e = refl
none_of (Some n) e = absurd (true≢false e)

-- how an actor stands after its ask
pub stands_after : (was : Seat) (e : Entry Ask Reply) (ended : Bool) (own : List (List ℕ)) → ended ≡ (e.reply.done || is_some e.ask.failed) → own ≡ was.own ++ names_given e.ask.gives.items → seat_by e.reply.places ended own ≡ seat_after was e
stands_after was e ended own is more = ap (λ (b : Bool). seat_by e.reply.places b own) is ∙ ap (seat_by e.reply.places (e.reply.done || is_some e.ask.failed)) more
