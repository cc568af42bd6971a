-- How an actor stands in a state is how its own entries say.
use Rattle.std.proofs.Common.{◌≡◌, ◌⊎◌, inl, inr, ⊎_elim, ℕ, ◌==◌, ◌||◌, eqb, List, [], ◌∷◌, ◌++◌, length, map, Bool, true, false, cond, Option, Some, None, is_some, refl, ap, sym, ◌∙◌, subst, arith}
use Rattle.std.specs.List.{list_any}
use Rattle.lw_turn.specs.declared.shared.Entry.{Entry}
use Rattle.lw_turn.specs.History.{entries_of}
use Rattle.lw_names.specs.Naming.{own_names, HasLists}
use Rattle.lw_desk.specs.Step.{DeskState, after_fail, after_done}
use Rattle.lw_desk.specs.History.{DeskOpening, opened, Seat, MayGiveAll, MayMake, May, seat_in, seat_after, seat_from, actor_of, Makes, Replays, names_given, failed_places}
use Rattle.lw_desk.specs.declared.ask.Ask.{Ask}
use Rattle.lw_desk.specs.declared.ask.Reply.{Reply}
use Rattle.lw_desk.specs.declared.ask.Give.{Give}
use Rattle.lw_desk.specs.declared.ask.Failed.{Failed}
use Rattle.lw_names.proofs.Members.{same_number, is_same, is_other, other_number}
use Rattle.lw_desk.specs.lemmas.ClaimLists.{EachOnce, places_of}
use Rattle.lw_desk.specs.lemmas.StepLemmas.{gives_ended, takes_only, makes_once, makes_own, makes_other, end_naming}
use Rattle.lw_desk.proofs.NamingLemmas.{OwnMore, gives_names}

-- what holds between entries: each place is claimed once, there is a list for each actor, and the names are of the kind that
-- they were
pub record Stands (o : DeskOpening) (s : DeskState) : Type 0 where
  pub once : EachOnce s.claims
  pub lists : HasLists s.naming.brought o.actors
  pub kind : is_some s.naming.brought ≡ is_some o.naming.brought

abbrev ended_in : DeskState → ℕ → Bool
ended_in s actor = list_any (eqb actor) s.ended

-- who has ended after what failed, and after what was told
fail_own : (actor : ℕ) (f : Option Failed) (s : DeskState) → ended_in s actor ≡ false → ended_in (after_fail actor f s) actor ≡ is_some f
fail_own actor None s live = live
fail_own actor (Some f) s live = ap (λ (b : Bool). b || ended_in s actor) (is_same actor actor refl)

fail_other : (actor other : ℕ) (f : Option Failed) (s : DeskState) → (other == actor) ≡ false → ended_in (after_fail actor f s) other ≡ ended_in s other
fail_other actor other None s differ = refl
fail_other actor other (Some f) s differ = ap (λ (b : Bool). b || ended_in s other) differ

done_own : (actor : ℕ) (done : Bool) (s : DeskState) → ended_in (after_done actor done s) actor ≡ (done || ended_in s actor)
done_own actor false s = refl
done_own actor true s = ap (λ (b : Bool). b || ended_in s actor) (is_same actor actor refl)

done_other : (actor other : ℕ) (done : Bool) (s : DeskState) → (other == actor) ≡ false → ended_in (after_done actor done s) other ≡ ended_in s other
done_other actor other false s differ = refl
done_other actor other true s differ = ap (λ (b : Bool). b || ended_in s other) differ

seat_is : (held more : List ℕ) (ended again : Bool) (own names : List (List ℕ)) → held ≡ more → ended ≡ again → own ≡ names → record { held = held; ended = ended; own = own } ≡ (let s : Seat = record { held = more; ended = again; own = names } in s)
seat_is held more ended again own names h e n = subst (λ (l : List ℕ). record { held = held; ended = ended; own = own } ≡ (let s : Seat = record { held = l; ended = again; own = names } in s)) h
    (subst (λ (b : Bool). record { held = held; ended = ended; own = own } ≡ (let s : Seat = record { held = held; ended = b; own = names } in s)) e
    (subst (λ (l : List (List ℕ)). record { held = held; ended = ended; own = own } ≡ (let s : Seat = record { held = held; ended = ended; own = l } in s)) n refl))

module _ (o : DeskOpening) (s t : DeskState) (e : Entry Ask Reply) (m : Makes o s e t) (is : Stands o s) where
  names : OwnMore o.actors e.actor (names_given e.ask.gives.items) s.naming t.naming
  names =
      subst (OwnMore o.actors e.actor (names_given e.ask.gives.items) s.naming) (sym (end_naming o s t e m))
      (gives_names o.batch e.actor o.actors e.ask.gives.items s m.given (is_some o.naming.brought) (own_names s.naming e.actor) is.lists m.actor is.kind m.may.gives m.gives)

  pub makes_stands : Stands o t
  makes_stands = record { once = makes_once o s t e m is.once; lists = names.lists; kind = names.kind ∙ is.kind }

  given_ended : (actor : ℕ) → ended_in m.given actor ≡ ended_in s actor
  given_ended actor = ap (list_any (eqb actor)) (gives_ended o.batch e.actor e.ask.gives.items s m.given m.gives)

  taken_ended : (actor : ℕ) → ended_in m.taken actor ≡ ended_in (after_fail e.actor e.ask.failed m.given) actor
  taken_ended actor = ap (list_any (eqb actor)) (takes_only o.batch e.actor e.ask.wanted e.reply.places (after_fail e.actor e.ask.failed m.given) m.taken m.takes).ended

  -- the actor of the entry stands as the entry says
  pub own_seat : seat_in t e.actor ≡ seat_after (seat_in s e.actor) e
  own_seat =
      seat_is (places_of e.actor t.claims) e.reply.places (ended_in t e.actor) (e.reply.done || is_some e.ask.failed) (own_names t.naming e.actor) (own_names s.naming e.actor ++ names_given e.ask.gives.items)
      (makes_own o s t e m)
      (ap (λ (x : DeskState). ended_in x e.actor) m.after
      ∙ (done_own e.actor e.reply.done m.taken
      ∙ ap (λ (b : Bool). e.reply.done || b) (taken_ended e.actor ∙ fail_own e.actor e.ask.failed m.given (given_ended e.actor ∙ m.may.live))))
      names.own

  -- and any other actor as before
  pub other_seat : (other : ℕ) → (e.actor == other) ≡ false → seat_in t other ≡ seat_in s other
  other_seat other differ =
      let back : (other == e.actor) ≡ false = is_other other e.actor (λ same. other_number e.actor other differ (sym same)) in
      seat_is (places_of other t.claims) (places_of other s.claims) (ended_in t other) (ended_in s other) (own_names t.naming other) (own_names s.naming other)
      (makes_other o s t e m other differ is.once)
      (ap (λ (x : DeskState). ended_in x other) m.after
      ∙ (done_other e.actor other e.reply.done m.taken back
      ∙ (taken_ended other ∙ (fail_other e.actor other e.ask.failed m.given back ∙ given_ended other))))
      (names.others other (other_number other e.actor back))

pub opened_stands : (o : DeskOpening) → HasLists o.naming.brought o.actors → Stands o (opened o)
opened_stands o lists = record { once = tt; lists = lists; kind = refl }

pub replays_stands : (o : DeskOpening) (s t : DeskState) (es : List (Entry Ask Reply)) → Stands o s → Replays o s es t → Stands o t
replays_stands o s t [] is same = subst (Stands o) (sym same) is
replays_stands o s t (e ∷ es) is r = replays_stands o r.0 t es (makes_stands o s r.0 e r.1 is) r.2

-- an actor stands as its own entries say, from any state on
pub seat_after_all : (o : DeskOpening) (s t : DeskState) (es : List (Entry Ask Reply)) (actor : ℕ) → Stands o s → Replays o s es t → seat_in t actor ≡ seat_from (seat_in s actor) (entries_of actor es)
seat_after_all o s t [] actor is same = ap (λ (x : DeskState). seat_in x actor) same
seat_after_all o s t (e ∷ es) actor is r =
    by (e.actor == actor) refl (seat_after_all o r.0 t es actor (makes_stands o s r.0 e r.1 is) r.2)
  where
    by : (b : Bool) → (e.actor == actor) ≡ b → seat_in t actor ≡ seat_from (seat_in r.0 actor) (entries_of actor es) → seat_in t actor ≡ seat_from (seat_in s actor) (cond b (e ∷ entries_of actor es) (entries_of actor es))
    by true same rest =
        let own : seat_in r.0 actor ≡ seat_after (seat_in s actor) e = subst (λ (a : ℕ). seat_in r.0 a ≡ seat_after (seat_in s a) e) (same_number e.actor actor same) (own_seat o s r.0 e r.1 is) in
        rest ∙ ap (λ (x : Seat). seat_from x (entries_of actor es)) own
    by false differ rest = rest ∙ ap (λ (x : Seat). seat_from x (entries_of actor es)) (other_seat o s r.0 e r.1 is actor differ)

-- the first of an actor's own entries is its own
own_entry : (actor : ℕ) (es : List (Entry Ask Reply)) → (entries_of actor es ≡ []) ⊎ (actor_of (entries_of actor es) ≡ actor)
own_entry actor [] = inl refl
own_entry actor (e ∷ es) = by (e.actor == actor) refl (own_entry actor es)
  where
    by : (b : Bool) → (e.actor == actor) ≡ b → (entries_of actor es ≡ []) ⊎ (actor_of (entries_of actor es) ≡ actor) → (cond b (e ∷ entries_of actor es) (entries_of actor es) ≡ []) ⊎ (actor_of (cond b (e ∷ entries_of actor es) (entries_of actor es)) ≡ actor)
    by true same rest = inr (same_number e.actor actor same)
    by false differ rest = rest

-- who holds no place gives none, so its names don't matter
nothing_held : (batch : List (List ℕ)) (free : Bool) (own other : List (List ℕ)) (ended : Bool) (ask : Ask) → MayMake batch free (record { held = []; ended = ended; own = own }) ask → MayMake batch free (record { held = []; ended = ended; own = other }) ask
nothing_held batch free own other ended ask may = record {
  live = may.live;
  places = may.places;
  gives = none ask.gives.items (failed_places ask.failed) may.places;
  fails = may.fails;
  some = may.some;
  few = may.few;
}
  where
    none : (gs : List Give) (ps : List ℕ) → map (λ g. g.place) gs ++ ps ≡ [] → MayGiveAll batch free other gs
    none [] ps same = tt
    none (g ∷ gs) ps same = absurd (omega (arith, ap (λ (l : List ℕ). length l) same))

-- what an actor may ask by its own entries it may ask in the state
pub may_is : (o : DeskOpening) (es : List (Entry Ask Reply)) (t : DeskState) (actor : ℕ) (ask : Ask) → HasLists o.naming.brought o.actors → Replays o (opened o) es t → May o (entries_of actor es) ask → MayMake o.batch (is_some o.naming.brought) (seat_in t actor) ask
may_is o es t actor ask lists r may =
    let seat : seat_in t actor ≡ seat_from (seat_in (opened o) actor) (entries_of actor es) = seat_after_all o (opened o) t es actor (opened_stands o lists) r in
    subst (λ (x : Seat). MayMake o.batch (is_some o.naming.brought) x ask) (sym seat)
    (⊎_elim
    (λ (none : entries_of actor es ≡ []).
    subst (λ (l : List (Entry Ask Reply)). MayMake o.batch (is_some o.naming.brought) (seat_from (seat_in (opened o) actor) l) ask) (sym none)
    (nothing_held o.batch (is_some o.naming.brought) (own_names o.naming 0) (own_names o.naming actor) false ask
    (subst (λ (l : List (Entry Ask Reply)). May o l ask) none may)))
    (λ (own : actor_of (entries_of actor es) ≡ actor).
    subst (λ (a : ℕ). MayMake o.batch (is_some o.naming.brought) (seat_from (record { held = []; ended = false; own = own_names o.naming a }) (entries_of actor es)) ask) own may)
    (own_entry actor es))
