-- How a worker's turns go on.
use Rattle.std.proofs.Common.{◌≡◌, ◌⊎◌, inl, inr, ⊎_elim, ℕ, ◌<◌, ◌≤◌, ◌||◌, ◌↔◌, List, [], ◌∷◌, ◌++◌, length, map, Contains, All, Bool, true, false, Option, Some, None, is_some, refl, ap, ap₂, sym, ◌∙◌, subst, arith, append_assoc, append-nil, length-append}
use Rattle.std.proofs.lemmas.Bool.{false≢true}
use Rattle.lw_words.specs.Word.{IsName, AllDiffer, named}
use Rattle.lw_words.specs.declared.stop.SulStop.{SulStop}
use Rattle.lw_words.specs.declared.stop.RunStop.{RunStop}
use Rattle.lw_words.specs.declared.stop.RunStop.TheVariants as Run
use Rattle.lw_names.specs.Names.{with_names}
use Rattle.lw_turn.specs.declared.shared.Entry.{Entry}
use Rattle.lw_turn.specs.declared.view.View.{View}
use Rattle.lw_turn.specs.Views.{IsTurned}
use Rattle.lw_names.specs.Naming.{own_names}
use Rattle.lw_desk.specs.Step.{DeskState, ActorTakesAll, after_fail}
use Rattle.lw_desk.specs.History.{DeskOpening, opened, Seat, MayGiveAll, May, seat_after, seat_from, seat_of, actor_of, Makes, Replays, Legal, names_given, failed_places, gives_of}
use Rattle.lw_desk.specs.declared.ask.Ask.{Ask}
use Rattle.lw_desk.specs.declared.ask.Reply.{Reply}
use Rattle.lw_desk.specs.declared.ask.Give.{Give}
use Rattle.lw_desk.specs.declared.ask.Failed.{Failed}
use Rattle.lw_names.proofs.Members.{In, in_contains, contains_in, in_left, in_right, in_either}
use Rattle.lw_desk.specs.lemmas.Bounds.{AreNew, all_new, taken}
use Rattle.lw_desk.proofs.Endings.{all_of}
use Rattle.lw_pool.specs.Pool.{Seen}
use Rattle.lw_pool.specs.bodies.Working.{FailsAfter, HasAnswered}
use Rattle.lw_pool.specs.Working.{HasGiven, IsUnanswered, GivesBetween}
use Rattle.lw_pool.specs.bodies.Engaged.{Working, IsReady, NobodyFailed}
use Rattle.lw_pool.proofs.GiveLemmas.{gives_both}

-- the entries of a pass, with one more
gives_of_more : (es : List (Entry Ask Reply)) (e : Entry Ask Reply) → gives_of (es ++ e ∷ []) ≡ gives_of es ++ e.ask.gives.items
gives_of_more [] e = append-nil e.ask.gives.items
gives_of_more (f ∷ es) e = ap (λ (l : List Give). f.ask.gives.items ++ l) (gives_of_more es e) ∙ sym (append_assoc f.ask.gives.items (gives_of es) e.ask.gives.items)

names_given_both : (gs hs : List Give) → names_given (gs ++ hs) ≡ names_given gs ++ names_given hs
names_given_both [] hs = refl
names_given_both (g ∷ gs) hs = ap (λ (l : List (List ℕ)). g.names ++ l) (names_given_both gs hs) ∙ sym (append_assoc g.names (names_given gs) (names_given hs))

seat_more : (seat : Seat) (es : List (Entry Ask Reply)) (e : Entry Ask Reply) → seat_from seat (es ++ e ∷ []) ≡ seat_after (seat_from seat es) e
seat_more seat [] e = refl
seat_more seat (f ∷ es) e = seat_more (seat_after seat f) es e

actor_more : (es : List (Entry Ask Reply)) (e : Entry Ask Reply) → 0 < length es → actor_of (es ++ e ∷ []) ≡ actor_of es
actor_more [] e some = absurd (omega arith)
actor_more (f ∷ es) e some = refl

seat_of_more : (o : DeskOpening) (es : List (Entry Ask Reply)) (e : Entry Ask Reply) → 0 < length es → seat_of o (es ++ e ∷ []) ≡ seat_after (seat_of o es) e
seat_of_more o [] e some = absurd (omega arith)
seat_of_more o (f ∷ es) e some = seat_more (seat_after (record { held = []; ended = false; own = own_names o.naming f.actor }) f) es e

replays_split : (o : DeskOpening) (s t : DeskState) (es : List (Entry Ask Reply)) (e : Entry Ask Reply) → Replays o s (es ++ e ∷ []) t → (u : DeskState) × Replays o s es u × Makes o u e t
replays_split o s t [] e r = (s, refl, subst (Makes o s e) (sym r.2) r.1)
replays_split o s t (f ∷ es) e r = let rest = replays_split o r.0 t es e r.2 in (rest.0, (r.0, r.1, rest.1), rest.2)

taken_more : (es : List (Entry Ask Reply)) (e : Entry Ask Reply) (p : ℕ) → In p e.reply.places → In p (taken (es ++ e ∷ []))
taken_more [] e p i = in_left p e.reply.places [] i
taken_more (f ∷ es) e p i = in_right p f.reply.places (taken (es ++ e ∷ [])) (taken_more es e p i)

takes_wanted : (batch : List (List ℕ)) (actor wanted : ℕ) (places : List ℕ) (s t : DeskState) → ActorTakesAll batch actor wanted places s t → 0 < length places → 0 < wanted
takes_wanted batch actor wanted [] s t takes some = absurd (omega arith)
takes_wanted batch actor wanted (p ∷ ps) s t takes some = takes.0

-- what the history says of its last entry
pub legal_last : (o : DeskOpening) (es : List (Entry Ask Reply)) (e : Entry Ask Reply) → Legal o (es ++ e ∷ []) → All (λ p. p < length o.batch) e.reply.places × (((e.reply.done ≡ true) ↔ ((0 < e.ask.wanted) × (e.reply.places ≡ []))) × (0 < length e.reply.places → 0 < e.ask.wanted))
legal_last o es e legal =
    let r = replays_split o (opened o) legal.state es e legal.replays in
    let fresh : AreNew o.batch [] (taken (es ++ e ∷ [])) = all_new o (opened o) legal.state (es ++ e ∷ []) [] legal.replays (λ none p i. absurd i) in
    (all_of (λ p. p < length o.batch) e.reply.places (λ p i. fresh.within p (taken_more es e p i)), (r.2.done, takes_wanted o.batch e.actor e.ask.wanted e.reply.places (after_fail e.actor e.ask.failed r.2.given) r.2.taken r.2.takes))

empty_rest : (xs ys : List (List ℕ)) → length (xs ++ ys) ≤ length xs → ys ≡ []
empty_rest xs [] le = refl
empty_rest xs (y ∷ ys) le = absurd (omega (arith, le, length-append xs (y ∷ ys)))

all_right : (P : List ℕ → Type 0) (xs ys : List (List ℕ)) → All P (xs ++ ys) → All P ys
all_right P xs ys all = all_of P ys (λ y i.
    let c = in_contains y (xs ++ ys) (in_right y xs ys i) in
    subst P c.2 (all c.0 y c.1))

-- the answers of a live session are such as its actor may give
pub may_give : (batch : List (List ℕ)) (free : Bool) (was now : Seen) (gs : List Give) (own : List (List ℕ)) → was.names ≡ own → (free ≡ false → was.most ≤ length was.names) → (free ≡ true → was.most ≤ 256) → GivesBetween batch was now gs → MayGiveAll batch free own gs
may_give batch free was now [] own mine declared few gives = tt
may_give batch free was now (g ∷ gs) own mine declared few gives =
    let h : HasGiven batch was gives.0 g = gives.1 in
    let names : gives.0.names ≡ own ++ g.names = h.names ∙ ap (λ (l : List (List ℕ)). l ++ g.names) mine in (
      record {
        numbers = subst (λ (l : List (List ℕ)). All (λ y. y < length l) g.outs) names h.numbers;
        new = sym names ∙ (h.brought ∙ (ap (λ (l : List (List ℕ)). with_names l (named gives.0.names g.outs)) mine ∙ ap (λ (l : List (List ℕ)). with_names own (named l g.outs)) names));
        each = all_right IsName own g.names (subst (All IsName) names h.each);
        differ = subst AllDiffer names h.differ;
        declared = λ e. empty_rest own g.names (omega (arith, h.few, declared e, ap (λ (l : List (List ℕ)). length l) names, ap (λ (l : List (List ℕ)). length l) mine));
        few = λ e. omega (arith, h.few, few e, ap (λ (l : List (List ℕ)). length l) names);
      },
      h.long,
      may_give batch free gives.0 now gs (own ++ g.names) names
          (λ e. omega (arith, h.few, declared e, h.same.most, ap (λ (l : List (List ℕ)). length l) h.names, length-append was.names g.names))
          (λ e. omega (arith, h.same.most, few e)) gives.2,
    )

-- a session that gave anything was live
pub first_live : (batch : List (List ℕ)) (was now : Seen) (gs : List Give) → GivesBetween batch was now gs → (gs ≡ []) ⊎ (was.stop ≡ None)
first_live batch was now [] same = inl refl
first_live batch was now (g ∷ gs) gives = inr gives.1.was_live

pub gives_names : (batch : List (List ℕ)) (was now : Seen) (gs : List Give) → GivesBetween batch was now gs → now.names ≡ was.names ++ names_given gs
gives_names batch was now [] same = ap (λ (s : Seen). s.names) same ∙ sym (append-nil was.names)
gives_names batch was now (g ∷ gs) gives =
    gives_names batch gives.0 now gs gives.2
    ∙ (ap (λ (l : List (List ℕ)). l ++ names_given gs) gives.1.names ∙ append_assoc was.names g.names (names_given gs))

pub gives_most : (batch : List (List ℕ)) (was now : Seen) (gs : List Give) → GivesBetween batch was now gs → now.most ≡ was.most
gives_most batch was now [] same = ap (λ (s : Seen). s.most) same
gives_most batch was now (g ∷ gs) gives = gives_most batch gives.0 now gs gives.2 ∙ gives.1.same.most

module _ (start now next : Seen) (v w : View DeskOpening Ask Reply) (reply again : Reply) (ask : Ask) (free : Bool) (is : Working start now v reply) (ready : IsReady free (own_names v.opening.naming v.number) start) (some : 0 < length reply.places) (answered : HasAnswered v.opening.batch reply.places now next ask) where
  now_is : now ≡ is.mid
  now_is = ⊎_elim (λ (e : now ≡ is.mid). e) (λ (r : (stop : RunStop) × IsUnanswered is.mid now stop × (reply.places ≡ [])). absurd (omega (arith, some, ap (λ (l : List ℕ). length l) r.2))) is.after

  gives_now : GivesBetween v.opening.batch now answered.mid ask.gives.items
  gives_now = answered.gives

  gives_all : GivesBetween v.opening.batch start answered.mid (gives_of v.mine ++ ask.gives.items)
  gives_all = gives_both v.opening.batch start is.mid answered.mid (gives_of v.mine) ask.gives.items is.gives (subst (λ (s : Seen). GivesBetween v.opening.batch s answered.mid ask.gives.items) now_is answered.gives)

  -- it may make this ask
  pub working_may : free ≡ is_some v.opening.naming.brought → May v.opening v.mine ask
  working_may kind = record {
    live = is.going some;
    places = answered.places ∙ sym is.held;
    gives = ⊎_elim
        (λ (none : gives_of v.mine ++ ask.gives.items ≡ []). subst (MayGiveAll v.opening.batch (is_some v.opening.naming.brought) (seat_of v.opening v.mine).own) (sym (right_nil (gives_of v.mine) ask.gives.items none)) tt)
        (λ (live : start.stop ≡ None).
        let names : now.names ≡ (seat_of v.opening v.mine).own =
        ap (λ (s : Seen). s.names) now_is ∙ (gives_names v.opening.batch start is.mid (gives_of v.mine) is.gives ∙ (ap (λ (l : List (List ℕ)). l ++ names_given (gives_of v.mine)) (ready.names live) ∙ sym is.names)) in
        let most : now.most ≡ start.most = ap (λ (s : Seen). s.most) now_is ∙ gives_most v.opening.batch start is.mid (gives_of v.mine) is.gives in
        let longer : length start.names ≤ length now.names = omega (arith, ap (λ (l : List (List ℕ)). length l) (ap (λ (s : Seen). s.names) now_is ∙ gives_names v.opening.batch start is.mid (gives_of v.mine) is.gives), length-append start.names (names_given (gives_of v.mine))) in
        may_give v.opening.batch (is_some v.opening.naming.brought) now answered.mid ask.gives.items (seat_of v.opening v.mine).own names
        (λ e. omega (arith, ready.declared (kind ∙ e), most, longer)) (λ e. omega (arith, ready.few (kind ∙ e), most)) answered.gives)
        (first_live v.opening.batch start answered.mid (gives_of v.mine ++ ask.gives.items) gives_all);
    fails = answered.none;
    some = omega (arith, some, ap (λ (l : List ℕ). length l) answered.places);
    few = answered.few;
  }
    where
      right_nil : (xs ys : List Give) → xs ++ ys ≡ [] → ys ≡ []
      right_nil [] ys e = e
      right_nil (x ∷ xs) ys e = absurd (omega (arith, ap (λ (l : List Give). length l) e))

  -- and after its turn it is as far as the reply says
  module _ (turned : IsTurned Legal v ask again w) where
    abbrev entry : Entry Ask Reply
    entry = record { actor = v.number; ask = ask; reply = again }

    pub last : All (λ p. p < length v.opening.batch) again.places × (((again.done ≡ true) ↔ ((0 < ask.wanted) × (again.places ≡ []))) × (0 < length again.places → 0 < ask.wanted))
    last = legal_last v.opening (v.seen ++ turned.between) entry (subst (Legal v.opening) turned.seen turned.lawful)

    same_opening : w.opening ≡ v.opening
    same_opening = ap (λ (x : View DeskOpening Ask Reply). x.opening) turned.same

    same_number : w.number ≡ v.number
    same_number = ap (λ (x : View DeskOpening Ask Reply). x.number) turned.same

    seat : seat_of v.opening w.mine ≡ seat_after (seat_of v.opening v.mine) entry
    seat = ap (seat_of v.opening) turned.mine ∙ seat_of_more v.opening v.mine entry is.begun

    given : gives_of w.mine ≡ gives_of v.mine ++ ask.gives.items
    given = ap gives_of turned.mine ∙ gives_of_more v.mine entry

    after_done : again.places ≡ [] → (again.done || is_some ask.failed) ≡ true
    after_done none = by ask.failed refl
      where
        by : (f : Option Failed) → ask.failed ≡ f → (again.done || is_some f) ≡ true
        by None e = ap (λ (b : Bool). b || false) (last.1.0.1 (answered.some e, none))
        by (Some f) e = or_true again.done
          where
            or_true : (b : Bool) → (b || true) ≡ true
            or_true true = refl
            or_true false = refl

    not_done : 0 < length again.places → (again.done || is_some ask.failed) ≡ false
    not_done more = by again.done refl ask.failed refl
      where
        by : (b : Bool) → again.done ≡ b → (f : Option Failed) → ask.failed ≡ f → (b || is_some f) ≡ false
        by true e f g = absurd (omega (arith, more, ap (λ (l : List ℕ). length l) (last.1.0.0 e).1))
        by false e None g = refl
        by false e (Some f) g = absurd (omega (arith, last.1.1 more, (answered.none (ap is_some g)).1))

    nobody : NobodyFailed w.mine → NobodyFailed v.mine × (ask.failed ≡ None)
    nobody all = (
      all_of (λ (e : Entry Ask Reply). e.ask.failed ≡ None) v.mine (λ e i. all_in_mine e (in_left e v.mine (entry ∷ []) i)),
      all_in_mine entry (in_right entry v.mine (entry ∷ []) (inl refl)),
    )
      where
        all_in_mine : (e : Entry Ask Reply) → In e (v.mine ++ entry ∷ []) → e.ask.failed ≡ None
        all_in_mine e i =
            let c = in_contains e w.mine (subst (In e) (sym turned.mine) i) in
            subst (λ (x : Entry Ask Reply). x.ask.failed ≡ None) c.2 (all c.0 e c.1)

    -- a failed entry leaves no place, and its session as it refused
    pub working_more : Working start next w again
    working_more = record {
      own = ap actor_of turned.mine ∙ (actor_more v.mine entry is.begun ∙ (is.own ∙ sym same_number));
      begun = omega (arith, ap (λ (l : List (Entry Ask Reply)). length l) turned.mine, length-append v.mine (entry ∷ []));
      held = ap (λ (o : DeskOpening). (seat_of o w.mine).held) same_opening ∙ ap (λ (s : Seat). s.held) seat;
      going = λ more. ap (λ (o : DeskOpening). (seat_of o w.mine).ended) same_opening ∙ (ap (λ (s : Seat). s.ended) seat ∙ not_done more);
      ended = λ none. ap (λ (o : DeskOpening). (seat_of o w.mine).ended) same_opening ∙ (ap (λ (s : Seat). s.ended) seat ∙ after_done none);
      names = ap (λ (o : DeskOpening). (seat_of o w.mine).own) same_opening
          ∙ (ap (λ (s : Seat). s.own) seat
          ∙ (ap (λ (l : List (List ℕ)). l ++ names_given ask.gives.items) is.names
          ∙ (append_assoc (own_names v.opening.naming v.number) (names_given (gives_of v.mine)) (names_given ask.gives.items)
          ∙ (ap (λ (l : List (List ℕ)). own_names v.opening.naming v.number ++ l) (sym (names_given_both (gives_of v.mine) ask.gives.items) ∙ ap names_given (sym given))
          ∙ ap (λ (x : View DeskOpening Ask Reply). own_names x.opening.naming x.number ++ names_given (gives_of w.mine)) (sym turned.same)))));
      within = subst (λ (o : DeskOpening). All (λ p. p < length o.batch) again.places) (sym same_opening) last.0;
      mid = answered.mid;
      gives = subst (λ (o : DeskOpening). GivesBetween o.batch start answered.mid (gives_of w.mine)) (sym same_opening) (subst (GivesBetween v.opening.batch start answered.mid) (sym given) gives_all);
      after = by ask.failed refl answered.fails;
      failed = λ e f stop c is_failed run. ⊎_elim
          (λ (old : In e v.mine). old_failed e f stop old is_failed run)
          (λ (new : In e (entry ∷ [])). ⊎_elim
          (λ (same : e ≡ entry). new_failed f stop (ap (λ (x : Entry Ask Reply). x.ask.failed) (sym same) ∙ is_failed) run)
          (λ (no_one : ⊥). absurd no_one)
          new)
          (in_either e v.mine (entry ∷ []) (subst (In e) turned.mine (contains_in e w.mine c)));
      unfailed = λ more. subst NobodyFailed (sym turned.mine) (all_of (λ (e : Entry Ask Reply). e.ask.failed ≡ None) (v.mine ++ entry ∷ []) (λ e i. ⊎_elim
          (λ (old : In e v.mine). let c = in_contains e v.mine old in subst (λ (x : Entry Ask Reply). x.ask.failed ≡ None) c.2 (is.unfailed some c.0 e c.1))
          (λ (new : In e (entry ∷ [])). ⊎_elim
          (λ (same : e ≡ entry). ap (λ (x : Entry Ask Reply). x.ask.failed) same ∙ kept_on more)
          (λ (no_one : ⊥). absurd no_one)
          new)
          (in_either e v.mine (entry ∷ []) i)));
      live = λ all. subst (FailsAfter answered.mid next) (nobody all).1 answered.fails;
    }
      where
        by : (f : Option Failed) → ask.failed ≡ f → FailsAfter answered.mid next f → (next ≡ answered.mid) ⊎ ((stop : RunStop) × IsUnanswered answered.mid next stop × (again.places ≡ []))
        by None e same = inl same
        by (Some f) e refused = inr (f.stop, refused, nothing again.places refl)
          where
            nothing : (ps : List ℕ) → again.places ≡ ps → ps ≡ []
            nothing [] same = refl
            nothing (p ∷ ps) same = absurd (omega (arith, last.1.1 (omega (arith, ap (λ (l : List ℕ). length l) same)), (answered.none (ap is_some e)).1))

        -- no earlier entry has failed, since the worker went on
        old_failed : (e : Entry Ask Reply) (f : Failed) (stop : SulStop) → In e v.mine → e.ask.failed ≡ Some f → f.stop ≡ Run.Sul stop → next.stop ≡ Some stop
        old_failed e f stop i is_failed run =
            let c = in_contains e v.mine i in
            let none : e.ask.failed ≡ None = subst (λ (x : Entry Ask Reply). x.ask.failed ≡ None) c.2 (is.unfailed some c.0 e c.1) in
            absurd (false≢true (ap is_some (sym none ∙ is_failed)))

        kept_on : 0 < length again.places → ask.failed ≡ None
        kept_on more = none ask.failed refl
          where
            none : (f : Option Failed) → ask.failed ≡ f → f ≡ None
            none None same = refl
            none (Some f) same = absurd (omega (arith, last.1.1 more, (answered.none (ap is_some same)).1))

        new_failed : (f : Failed) (stop : SulStop) → ask.failed ≡ Some f → f.stop ≡ Run.Sul stop → next.stop ≡ Some stop
        new_failed f stop is_failed run = (subst (FailsAfter answered.mid next) is_failed answered.fails).sul stop run

-- the first turn of a worker, which takes places alone
module _ (start : Seen) (v w : View DeskOpening Ask Reply) (ask : Ask) (reply : Reply) (fresh : v.mine ≡ []) (gives : ask.gives.items ≡ []) (failed : ask.failed ≡ None) (wanted : (0 < ask.wanted) × (ask.wanted ≤ 16)) where
  pub first_may : May v.opening v.mine ask
  first_may = subst (λ (l : List (Entry Ask Reply)). May v.opening l ask) (sym fresh)
      (record {
        live = refl;
        places = ap (λ (gs : List Give). map (λ (g : Give). g.place) gs ++ failed_places ask.failed) gives ∙ ap failed_places failed;
        gives = subst (MayGiveAll v.opening.batch (is_some v.opening.naming.brought) (own_names v.opening.naming 0)) (sym gives) tt;
        fails = λ e. absurd (false≢true (sym (ap is_some failed) ∙ e));
        some = omega (arith, wanted.0);
        few = wanted.1;
      })

  module _ (turned : IsTurned Legal v ask reply w) where
    abbrev first : Entry Ask Reply
    first = record { actor = v.number; ask = ask; reply = reply }

    mine : w.mine ≡ first ∷ []
    mine = turned.mine ∙ ap (λ (l : List (Entry Ask Reply)). l ++ first ∷ []) fresh

    told : All (λ p. p < length v.opening.batch) reply.places × (((reply.done ≡ true) ↔ ((0 < ask.wanted) × (reply.places ≡ []))) × (0 < length reply.places → 0 < ask.wanted))
    told = legal_last v.opening (v.seen ++ turned.between) first (subst (Legal v.opening) turned.seen turned.lawful)

    opening_same : w.opening ≡ v.opening
    opening_same = ap (λ (x : View DeskOpening Ask Reply). x.opening) turned.same

    none_failed : is_some ask.failed ≡ false
    none_failed = ap is_some failed

    or_false : (a b : Bool) → b ≡ false → (a || b) ≡ a
    or_false a b e = ap (λ (x : Bool). a || x) e ∙ by a
      where
        by : (a : Bool) → (a || false) ≡ a
        by true = refl
        by false = refl

    given_none : gives_of w.mine ≡ []
    given_none = ap gives_of mine ∙ (append-nil ask.gives.items ∙ gives)

    going_on : 0 < length reply.places → reply.done ≡ false
    going_on more = by reply.done refl
      where
        by : (b : Bool) → reply.done ≡ b → b ≡ false
        by true e = absurd (omega (arith, more, ap (λ (l : List ℕ). length l) (told.1.0.0 e).1))
        by false e = refl

    pub first_working : Working start start w reply
    first_working = record {
      own = ap actor_of mine ∙ sym (ap (λ (x : View DeskOpening Ask Reply). x.number) turned.same);
      begun = omega (arith, ap (λ (l : List (Entry Ask Reply)). length l) mine);
      held = ap (λ (l : List (Entry Ask Reply)). (seat_of w.opening l).held) mine;
      going = λ more. ap (λ (l : List (Entry Ask Reply)). (seat_of w.opening l).ended) mine ∙ (or_false reply.done (is_some ask.failed) none_failed ∙ going_on more);
      ended = λ none. ap (λ (l : List (Entry Ask Reply)). (seat_of w.opening l).ended) mine ∙ (or_false reply.done (is_some ask.failed) none_failed ∙ told.1.0.1 (wanted.0, none));
      names = ap (λ (l : List (Entry Ask Reply)). (seat_of w.opening l).own) mine
          ∙ ap₂ (λ (n : ℕ) (gs : List Give). own_names w.opening.naming n ++ names_given gs) (sym (ap (λ (x : View DeskOpening Ask Reply). x.number) turned.same)) (gives ∙ sym given_none);
      within = subst (λ (o : DeskOpening). All (λ p. p < length o.batch) reply.places) (sym opening_same) told.0;
      mid = start;
      gives = subst (GivesBetween w.opening.batch start start) (sym given_none) refl;
      after = inl refl;
      failed = λ e f stop c is_failed run. absurd (only e c f is_failed);
      unfailed = λ more. subst NobodyFailed (sym mine) (all_of (λ (e : Entry Ask Reply). e.ask.failed ≡ None) (first ∷ []) (λ e i. ⊎_elim (λ (same : e ≡ first). ap (λ (x : Entry Ask Reply). x.ask.failed) same ∙ failed) (λ (no_one : ⊥). absurd no_one) i));
      live = λ all. refl;
    }
      where
        only : (e : Entry Ask Reply) → Contains w.mine e → (f : Failed) → e.ask.failed ≡ Some f → ⊥
        only e c f is_failed =
            ⊎_elim
            (λ (same : e ≡ first). false≢true (sym none_failed ∙ ap is_some (ap (λ (x : Entry Ask Reply). x.ask.failed) (sym same) ∙ is_failed)))
            (λ (no_one : ⊥). no_one)
            (contains_in e (first ∷ []) (subst (λ (l : List (Entry Ask Reply)). Contains l e) mine c))
