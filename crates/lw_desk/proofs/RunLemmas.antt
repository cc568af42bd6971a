-- The answers of an instance among the kept ones are those that its actor gave.
use Rattle.std.proofs.Common.{◌≡◌, inl, inr, ⊎_elim, ℕ, zero, suc, ◌+◌, ◌<◌, ◌≤◌, ◌==◌, List, [], ◌∷◌, ◌++◌, length, map, filter, Contains, All, Bool, true, false, cond, is_some, refl, ap, sym, ◌∙◌, subst, arith, append_assoc, append-nil, length-append}
use Rattle.std.proofs.lemmas.Bool.{cases_eq, cases_lt}
use Rattle.lw_words.specs.declared.kept.KeptAnswer.{KeptAnswer}
use Rattle.lw_names.specs.Names.{with_names}
use Rattle.lw_words.specs.Word.{name_at, named, number_in}
use Rattle.lw_turn.specs.declared.shared.Entry.{Entry}
use Rattle.lw_turn.specs.History.{entries_of}
use Rattle.lw_names.specs.Naming.{Naming, own_names, bring, shared, HasLists}
use Rattle.lw_desk.specs.Step.{DeskState, word_at_place, kept_of, ActorGives, GivesAll}
use Rattle.lw_desk.specs.History.{DeskOpening, opened, MayGiveAll, Makes, Replays, gives_of}
use Rattle.lw_desk.specs.Ending.{NamedRun, kept_runs, IsShared}
use Rattle.lw_desk.specs.bodies.Outcome.{given_runs}
use Rattle.lw_desk.specs.declared.ask.Ask.{Ask}
use Rattle.lw_desk.specs.declared.ask.Reply.{Reply}
use Rattle.lw_desk.specs.declared.ask.Give.{Give}
use Rattle.lw_names.proofs.Members.{In, in_contains, contains_in, in_either, in_mapped, same_number}
use Rattle.lw_names.proofs.NameNumbers.{IsNumbered, numbered, Grew, grew_not, grew_both, grew_name, grew_length, with_names_grew, in_grew, in_with_names}
use Rattle.lw_desk.proofs.NamingLemmas.{OwnMore, own_more}
use Rattle.lw_desk.proofs.SeatLemmas.{Stands, makes_stands}
use Rattle.lw_desk.specs.lemmas.StepLemmas.{end_naming, end_kept}

-- names that came later
pub record Later (was now : Naming) : Type 0 where
  pub names : Grew was.names now.names
  pub own : (actor : ℕ) → Grew (own_names was actor) (own_names now actor)

pub later_not : (naming : Naming) → Later naming naming
later_not naming = record { names = grew_not naming.names; own = λ actor. grew_not (own_names naming actor) }

pub later_both : (a b c : Naming) → Later a b → Later b c → Later a c
later_both a b c l m = record {
  names = grew_both a.names b.names c.names l.names m.names;
  own = λ actor. grew_both (own_names a actor) (own_names b actor) (own_names c actor) (l.own actor) (m.own actor);
}

all_in : {X : Type 0} (P : X → Type 0) (xs : List X) (x : X) → All P xs → In x xs → P x
all_in P xs x all i = let c = in_contains x xs i in subst P c.2 (all c.0 x c.1)

-- outputs by their shared numbers have the names that they have by the instance's own
same_names : (at later : Naming) (actor : ℕ) (outs : List ℕ) → Later at later → IsShared at → ((y : ℕ) → In y outs → y < length (own_names at actor)) → named later.names (shared at actor outs) ≡ named (own_names later actor) outs
same_names at later actor [] l is below = refl
same_names at later actor (y ∷ ys) l is below =
    let lt : y < length (own_names at actor) = below y (inl refl) in
    let n : IsNumbered at.names (name_at (own_names at actor) y) = numbered at.names (name_at (own_names at actor) y) (contains_in (name_at (own_names at actor) y) at.names (is actor y lt)) in
    let first : name_at later.names (number_in at.names (name_at (own_names at actor) y)) ≡ name_at (own_names later actor) y =
    grew_name at.names later.names (number_in at.names (name_at (own_names at actor) y)) l.names n.within
    ∙ (n.is ∙ sym (grew_name (own_names at actor) (own_names later actor) y (l.own actor) lt)) in
    subst (λ (x : List ℕ). x ∷ named later.names (shared at actor ys) ≡ name_at (own_names later actor) y ∷ named (own_names later actor) ys) (sym first)
    (ap (λ (xs : List (List ℕ)). name_at (own_names later actor) y ∷ xs) (same_names at later actor ys l is (λ x i. below x (inr i))))

-- and those numbers are numbers of the list
shared_below : (at : Naming) (actor : ℕ) (outs : List ℕ) → IsShared at → ((y : ℕ) → In y outs → y < length (own_names at actor)) → (z : ℕ) → In z (shared at actor outs) → z < length at.names
shared_below at actor outs is below z i =
    let y = in_mapped (λ (y : ℕ). number_in at.names (name_at (own_names at actor) y)) z outs i in
    let n : IsNumbered at.names (name_at (own_names at actor) y.0) = numbered at.names (name_at (own_names at actor) y.0) (contains_in (name_at (own_names at actor) y.0) at.names (is actor y.0 (below y.0 y.1))) in
    subst (λ (x : ℕ). x < length at.names) y.2 n.within

-- one answer more
more_own : (names : List (List ℕ)) (actor : ℕ) (kept : List KeptAnswer) (k : KeptAnswer) → (k.instance == actor) ≡ true → kept_runs names actor (kept ++ k ∷ []) ≡ kept_runs names actor kept ++ record { run = k.run; word = k.word; names = named names k.outs } ∷ []
more_own names actor [] k own = ap (λ (b : Bool). map (λ (k : KeptAnswer). let r : NamedRun = record { run = k.run; word = k.word; names = named names k.outs } in r) (cond b (k ∷ []) [])) own
more_own names actor (x ∷ kept) k own = by (x.instance == actor) (more_own names actor kept k own)
  where
    by : (b : Bool) → kept_runs names actor (kept ++ k ∷ []) ≡ kept_runs names actor kept ++ record { run = k.run; word = k.word; names = named names k.outs } ∷ []
        → map (λ k. record { run = k.run; word = k.word; names = named names k.outs }) (cond b (x ∷ filter (λ k. k.instance == actor) (kept ++ k ∷ [])) (filter (λ k. k.instance == actor) (kept ++ k ∷ [])))
        ≡ map (λ k. record { run = k.run; word = k.word; names = named names k.outs }) (cond b (x ∷ filter (λ k. k.instance == actor) kept) (filter (λ k. k.instance == actor) kept)) ++ (let r : NamedRun = record { run = k.run; word = k.word; names = named names k.outs } in r) ∷ []
    by true rest = ap (λ (l : List NamedRun). record { run = x.run; word = x.word; names = named names x.outs } ∷ l) rest
    by false rest = rest

more_other : (names : List (List ℕ)) (actor : ℕ) (kept : List KeptAnswer) (k : KeptAnswer) → (k.instance == actor) ≡ false → kept_runs names actor (kept ++ k ∷ []) ≡ kept_runs names actor kept
more_other names actor [] k other = ap (λ (b : Bool). map (λ (k : KeptAnswer). let r : NamedRun = record { run = k.run; word = k.word; names = named names k.outs } in r) (cond b (k ∷ []) [])) other
more_other names actor (x ∷ kept) k other = by (x.instance == actor) (more_other names actor kept k other)
  where
    by : (b : Bool) → kept_runs names actor (kept ++ k ∷ []) ≡ kept_runs names actor kept
        → map (λ k. record { run = k.run; word = k.word; names = named names k.outs }) (cond b (x ∷ filter (λ k. k.instance == actor) (kept ++ k ∷ [])) (filter (λ k. k.instance == actor) (kept ++ k ∷ [])))
        ≡ (let l : List NamedRun = map (λ k. record { run = k.run; word = k.word; names = named names k.outs }) (cond b (x ∷ filter (λ k. k.instance == actor) kept) (filter (λ k. k.instance == actor) kept)) in l)
    by true rest = ap (λ (l : List NamedRun). record { run = x.run; word = x.word; names = named names x.outs } ∷ l) rest
    by false rest = rest

given_more : (batch own : List (List ℕ)) (gs : List Give) (g : Give) → given_runs batch own (gs ++ g ∷ []) ≡ given_runs batch own gs ++ record { run = g.run; word = word_at_place batch g.place; names = named own g.outs } ∷ []
given_more batch own [] g = refl
given_more batch own (h ∷ gs) g = ap (λ (l : List NamedRun). record { run = h.run; word = word_at_place batch h.place; names = named own h.outs } ∷ l) (given_more batch own gs g)

abbrev of_actor : ℕ → ℕ → List Give → List Give
of_actor maker actor gs = cond (maker == actor) gs []

module _ (o : DeskOpening) where
  -- the answers since the opening, and those of an actor are these, whatever names come later
  pub record Running (s : DeskState) (actor : ℕ) (gs : List Give) : Type 0 where
    pub gained : List KeptAnswer
    pub at_end : s.kept ≡ o.kept ++ gained
    pub actors : (k : KeptAnswer) → In k gained → k.instance < o.actors
    pub below : (k : KeptAnswer) → In k gained → (y : ℕ) → In y k.outs → y < length s.naming.names
    pub runs : (later : Naming) → Later s.naming later → kept_runs later.names actor gained ≡ given_runs o.batch (own_names later actor) gs

  -- names stay shared as one actor brings more
  shared_more : (maker : ℕ) (ns : List (List ℕ)) (was : Naming) → IsShared was → OwnMore o.actors maker ns was (bring was maker ns) → IsShared (bring was maker ns)
  shared_more maker ns was is more actor y lt =
      ⊎_elim
      (λ (own : actor ≡ maker).
      let at : own_names (bring was maker ns) actor ≡ own_names was maker ++ ns = ap (own_names (bring was maker ns)) own ∙ more.own in
      subst (λ (l : List (List ℕ)). Contains (with_names was.names ns) (name_at l y)) (sym at)
      (⊎_elim
      (λ (old : y < length (own_names was maker)).
      let n : List ℕ = name_at (own_names was maker) y in
      let e : name_at (own_names was maker ++ ns) y ≡ n = grew_name (own_names was maker) (own_names was maker ++ ns) y (ns, refl) old in
      subst (λ (x : List ℕ). Contains (with_names was.names ns) x) (sym e) (in_contains n (with_names was.names ns) (in_grew was.names (with_names was.names ns) n (with_names_grew was.names ns) (contains_in n was.names (is maker y old)))))
      (λ (new : length (own_names was maker) ≤ y).
      let long : y < length (own_names was maker) + length ns = omega (arith, subst (λ (l : List (List ℕ)). y < length l) at lt, length-append (own_names was maker) ns) in
      in_contains (name_at (own_names was maker ++ ns) y) (with_names was.names ns) (in_with_names was.names ns (name_at (own_names was maker ++ ns) y) (in_right_part (own_names was maker) ns y new long)))
      (cases_lt y (length (own_names was maker)))))
      (λ (other : actor ≡ maker → ⊥).
      let at : own_names (bring was maker ns) actor ≡ own_names was actor = more.others actor other in
      let n : List ℕ = name_at (own_names was actor) y in
      subst (λ (l : List (List ℕ)). Contains (with_names was.names ns) (name_at l y)) (sym at)
      (in_contains n (with_names was.names ns) (in_grew was.names (with_names was.names ns) n (with_names_grew was.names ns) (contains_in n was.names (is actor y (subst (λ (l : List (List ℕ)). y < length l) at lt))))))
      (cases_eq actor maker)
    where
      in_right_part : (xs ys : List (List ℕ)) (y : ℕ) → length xs ≤ y → y < length xs + length ys → In (name_at (xs ++ ys) y) ys
      in_right_part [] ys y le lt = here ys y (omega arith)
        where
          here : (ys : List (List ℕ)) (y : ℕ) → y < length ys → In (name_at ys y) ys
          here [] y lt = absurd (omega arith)
          here (x ∷ ys) zero lt = inl refl
          here (x ∷ ys) (suc y) lt = inr (here ys y (omega arith))
      in_right_part (x ∷ xs) ys zero le lt = absurd (omega arith)
      in_right_part (x ∷ xs) ys (suc y) le lt = in_right_part xs ys y (omega arith) (omega arith)

  later_more : (maker : ℕ) (ns : List (List ℕ)) (was : Naming) → OwnMore o.actors maker ns was (bring was maker ns) → Later was (bring was maker ns)
  later_more maker ns was more = record {
    names = with_names_grew was.names ns;
    own = λ actor. ⊎_elim
        (λ (own : actor ≡ maker). subst (λ (a : ℕ). Grew (own_names was a) (own_names (bring was maker ns) a)) (sym own) (ns, more.own))
        (λ (other : actor ≡ maker → ⊥). ([], more.others actor other ∙ sym (append-nil (own_names was actor))))
        (cases_eq actor maker);
  }

  -- an answer that is given
  running_give : (maker actor : ℕ) (g : Give) (s t : DeskState) (gs : List Give) → maker < o.actors → ActorGives o.batch maker g s t → OwnMore o.actors maker g.names s.naming (bring s.naming maker g.names) → IsShared (bring s.naming maker g.names)
      → ((y : ℕ) → In y g.outs → y < length (own_names (bring s.naming maker g.names) maker)) → Running s actor gs → Running t actor (gs ++ of_actor maker actor (g ∷ []))
  running_give maker actor g s t gs lt gives more is below was =
      record {
        gained = was.gained ++ kept_of o.batch (bring s.naming maker g.names) maker g ∷ [];
        at_end = ap (λ (x : DeskState). x.kept) gives.after ∙ (ap (λ (l : List KeptAnswer). l ++ kept_of o.batch (bring s.naming maker g.names) maker g ∷ []) was.at_end ∙ append_assoc o.kept was.gained (kept_of o.batch (bring s.naming maker g.names) maker g ∷ []));
        actors = λ k i. ⊎_elim
            (λ (l : In k was.gained). was.actors k l)
            (λ (r : In k (kept_of o.batch (bring s.naming maker g.names) maker g ∷ [])). ⊎_elim
            (λ (same : k ≡ kept_of o.batch (bring s.naming maker g.names) maker g). subst (λ (x : KeptAnswer). x.instance < o.actors) (sym same) lt)
            (λ (no_one : ⊥). absurd no_one)
            r)
            (in_either k was.gained (kept_of o.batch (bring s.naming maker g.names) maker g ∷ []) i);
        below = λ k i y j. ⊎_elim
            (λ (l : In k was.gained). subst (λ (n : Naming). y < length n.names) (sym (ap (λ (x : DeskState). x.naming) gives.after)) (omega (arith, was.below k l y j, grew_length s.naming.names (with_names s.naming.names g.names) (with_names_grew s.naming.names g.names))))
            (λ (r : In k (kept_of o.batch (bring s.naming maker g.names) maker g ∷ [])). ⊎_elim
            (λ (same : k ≡ kept_of o.batch (bring s.naming maker g.names) maker g).
            subst (λ (n : Naming). y < length n.names) (sym (ap (λ (x : DeskState). x.naming) gives.after))
            (shared_below (bring s.naming maker g.names) maker g.outs is below y (subst (λ (x : KeptAnswer). In y x.outs) same j)))
            (λ (no_one : ⊥). absurd no_one)
            r)
            (in_either k was.gained (kept_of o.batch (bring s.naming maker g.names) maker g ∷ []) i);
        runs = λ later l. by (maker == actor) refl later (subst (λ (n : Naming). Later n later) (ap (λ (x : DeskState). x.naming) gives.after) l);
      }
    where
      by : (b : Bool) → (maker == actor) ≡ b → (later : Naming) → Later (bring s.naming maker g.names) later
          → kept_runs later.names actor (was.gained ++ kept_of o.batch (bring s.naming maker g.names) maker g ∷ []) ≡ given_runs o.batch (own_names later actor) (gs ++ cond b (g ∷ []) [])
      by true own later l =
          more_own later.names actor was.gained (kept_of o.batch (bring s.naming maker g.names) maker g) own
          ∙ (ap (λ (rs : List NamedRun). rs ++ record { run = g.run; word = word_at_place o.batch g.place; names = named later.names (shared (bring s.naming maker g.names) maker g.outs) } ∷ []) (was.runs later (later_both s.naming (bring s.naming maker g.names) later (later_more maker g.names s.naming more) l))
          ∙ (ap (λ (ns : List (List ℕ)). given_runs o.batch (own_names later actor) gs ++ record { run = g.run; word = word_at_place o.batch g.place; names = ns } ∷ [])
          (same_names (bring s.naming maker g.names) later maker g.outs l is below ∙ ap (λ (a : ℕ). named (own_names later a) g.outs) (same_number maker actor own))
          ∙ sym (given_more o.batch (own_names later actor) gs g)))
      by false other later l =
          more_other later.names actor was.gained (kept_of o.batch (bring s.naming maker g.names) maker g) other
          ∙ (was.runs later (later_both s.naming (bring s.naming maker g.names) later (later_more maker g.names s.naming more) l)
          ∙ ap (λ (x : List Give). given_runs o.batch (own_names later actor) x) (sym (append-nil gs)))

  actor_both : (maker actor : ℕ) (gs : List Give) (xs ys : List Give) → (gs ++ of_actor maker actor xs) ++ of_actor maker actor ys ≡ gs ++ of_actor maker actor (xs ++ ys)
  actor_both maker actor gs xs ys = by (maker == actor)
    where
      by : (b : Bool) → (gs ++ cond b xs []) ++ cond b ys [] ≡ gs ++ cond b (xs ++ ys) []
      by true = append_assoc gs xs ys
      by false = append-nil (gs ++ [])

  -- the answers of one ask
  running_gives : (maker actor : ℕ) (now : List Give) (s t : DeskState) (gs : List Give) (free : Bool) (own : List (List ℕ)) → maker < o.actors → HasLists s.naming.brought o.actors → is_some s.naming.brought ≡ free → own ≡ own_names s.naming maker → MayGiveAll o.batch free own now
      → GivesAll o.batch maker now s t → IsShared s.naming → Running s actor gs → IsShared t.naming × Running t actor (gs ++ of_actor maker actor now)
  running_gives maker actor [] s t gs free own lt lists kind mine may same is was = (
    subst (λ (x : DeskState). IsShared x.naming) (sym same) is,
    subst (λ (l : List Give). Running t actor l) (nothing (maker == actor)) (subst (λ (x : DeskState). Running x actor gs) (sym same) was),
  )
    where
      nothing : (b : Bool) → gs ≡ gs ++ cond b [] []
      nothing true = sym (append-nil gs)
      nothing false = sym (append-nil gs)
  running_gives maker actor (g ∷ now) s t gs free own lt lists kind mine may gives is was =
      let more : OwnMore o.actors maker g.names s.naming (bring s.naming maker g.names) = own_more s.naming maker o.actors g.names lists lt (λ declared. may.0.declared (sym kind ∙ declared)) in
      let here : gives.0.naming ≡ bring s.naming maker g.names = ap (λ (x : DeskState). x.naming) gives.1.after in
      let owns : own_names (bring s.naming maker g.names) maker ≡ own ++ g.names = more.own ∙ ap (λ (l : List (List ℕ)). l ++ g.names) (sym mine) in
      let next : IsShared (bring s.naming maker g.names) = shared_more maker g.names s.naming is more in
      let below : (y : ℕ) → In y g.outs → y < length (own_names (bring s.naming maker g.names) maker) = λ y i. subst (λ (l : List (List ℕ)). y < length l) (sym owns) (all_in (λ y. y < length (own ++ g.names)) g.outs y may.0.numbers i) in
      let one : Running gives.0 actor (gs ++ of_actor maker actor (g ∷ [])) = running_give maker actor g s gives.0 gs lt gives.1 more next below was in
      let rest = running_gives maker actor now gives.0 t (gs ++ of_actor maker actor (g ∷ [])) free (own ++ g.names) lt (subst (λ (n : Naming). HasLists n.brought o.actors) (sym here) more.lists) (ap (λ (n : Naming). is_some n.brought) here ∙ (more.kind ∙ kind))
      (sym (ap (λ (n : Naming). own_names n maker) here ∙ owns)) may.2 gives.2 (subst IsShared (sym here) next) one in
      (rest.0, subst (λ (l : List Give). Running t actor l) (actor_both maker actor gs (g ∷ []) now) rest.1)

  running_as : (actor : ℕ) (gs : List Give) (s t : DeskState) → t.naming ≡ s.naming → t.kept ≡ s.kept → Running s actor gs → Running t actor gs
  running_as actor gs s t names kept was = record {
    gained = was.gained;
    at_end = kept ∙ was.at_end;
    actors = was.actors;
    below = λ k i y j. subst (λ (n : Naming). y < length n.names) (sym names) (was.below k i y j);
    runs = λ later l. was.runs later (subst (λ (n : Naming). Later n later) names l);
  }

  running_makes : (actor : ℕ) (s t : DeskState) (e : Entry Ask Reply) (gs : List Give) → Makes o s e t → Stands o s → IsShared s.naming → Running s actor gs → IsShared t.naming × Running t actor (gs ++ of_actor e.actor actor e.ask.gives.items)
  running_makes actor s t e gs m is shares was =
      let given = running_gives e.actor actor e.ask.gives.items s m.given gs (is_some o.naming.brought) (own_names s.naming e.actor) m.actor is.lists is.kind refl m.may.gives m.gives shares was in
      (subst IsShared (sym (end_naming o s t e m)) given.0, running_as actor (gs ++ of_actor e.actor actor e.ask.gives.items) m.given t (end_naming o s t e m) (end_kept o s t e m) given.1)

  gives_of_own : (actor : ℕ) (e : Entry Ask Reply) (es : List (Entry Ask Reply)) → of_actor e.actor actor e.ask.gives.items ++ gives_of (entries_of actor es) ≡ gives_of (entries_of actor (e ∷ es))
  gives_of_own actor e es = by (e.actor == actor)
    where
      by : (b : Bool) → cond b e.ask.gives.items [] ++ gives_of (entries_of actor es) ≡ gives_of (cond b (e ∷ entries_of actor es) (entries_of actor es))
      by true = refl
      by false = refl

  pub running_replays : (actor : ℕ) (s t : DeskState) (es : List (Entry Ask Reply)) (gs : List Give) → Replays o s es t → Stands o s → IsShared s.naming → Running s actor gs → IsShared t.naming × Running t actor (gs ++ gives_of (entries_of actor es))
  running_replays actor s t [] gs same is shares was = (
    subst (λ (x : DeskState). IsShared x.naming) (sym same) shares,
    subst (λ (l : List Give). Running t actor l) (sym (append-nil gs)) (subst (λ (x : DeskState). Running x actor gs) (sym same) was),
  )
  running_replays actor s t (e ∷ es) gs r is shares was =
      let here = running_makes actor s r.0 e gs r.1 is shares was in
      let rest = running_replays actor r.0 t es (gs ++ of_actor e.actor actor e.ask.gives.items) r.2 (makes_stands o s r.0 e r.1 is) here.0 here.1 in
      (rest.0, subst (λ (l : List Give). Running t actor l) (append_assoc gs (of_actor e.actor actor e.ask.gives.items) (gives_of (entries_of actor es)) ∙ ap (λ (l : List Give). gs ++ l) (gives_of_own actor e es)) rest.1)

  pub running_opened : (actor : ℕ) → Running (opened o) actor []
  running_opened actor = record { gained = []; at_end = sym (append-nil o.kept); actors = λ k i. absurd i; below = λ k i. absurd i; runs = λ later l. refl }
