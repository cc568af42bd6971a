-- What the calls of a board do, as steps of a desk.
use Rattle.std.proofs.Common.{◌≡◌, ◌⊎◌, inl, inr, ⊎_elim, ℕ, ◌-◌, ◌<◌, ◌≤◌, ◌==◌, not, List, [], ◌∷◌, ◌++◌, length, map, filter, Contains, Bool, true, false, Option, Some, None, Result, Ok, Err, OnOk, IfErr, refl, ap, sym, ◌∙◌, subst, arith, cond, get_or}
use Rattle.std.specs.Bool.{⊤}
use Rattle.std.proofs.lemmas.List.{map_push, length-map, length-append, get_or-map, get_or_default}
use Rattle.lw_words.specs.Word.{answer_of, answers_of, IsPrefix, AllDiffer}
use Rattle.lw_words.specs.declared.kept.KeptAnswer.{KeptAnswer}
use Rattle.lw_cache.specs.Caching.{Claim}
use Rattle.lw_cache.specs.Clash.{IsClearAfter}
use Rattle.lw_cache.specs.FirstClash.{ClashesFirst}
use Rattle.lw_cache.specs.Known.{IsKnown}
use Rattle.lw_cache.specs.declared.stops.AskStop.{AskStop}
use Rattle.lw_cache.specs.declared.stops.AskStop.TheVariants as Ask
use Rattle.lw_cache.specs.declared.stops.Clash.{Clash}
use Rattle.lw_cache.proofs.GainLemmas.{known_new}
use Rattle.lw_names.specs.Naming.{Naming, bring}
use Rattle.lw_desk.specs.Step.{Claimed, DeskState, word_at_place, IsCovered, ComesBefore, IsFirstFree, NothingToTake, IsLeft, AreLeft, CountsLeft, ActorTakesAll, ActorGives, GivesAll, StopsBy, after_take, after_give, after_fail, kept_of, without_place, without_places, first_stop, stop_of, after_done}
use Rattle.lw_desk.specs.bodies.Board.{BoardState, Agrees, IsTaken, AreApart, AreHeld, BeginsOne, Waits, numbers_of, IsBoard, stop_after, without_number, without_numbers}
use Rattle.lw_desk.specs.declared.ask.Give.{Give}
use Rattle.lw_desk.specs.declared.ask.Failed.{Failed}
use Rattle.std.proofs.lemmas.List.Elements.{All-contains, Contains-get_or}
use Rattle.lw_desk.specs.lemmas.StepLemmas.{done_only, prefix_whole}
use Rattle.lw_names.proofs.Members.{in_filter, In, in_contains, contains_in, in_map, in_mapped}
use Rattle.lw_desk.specs.lemmas.CoverLemmas.{some_none, prefix_of_prefix}
use Rattle.lw_desk.proofs.BoardLemmas.{map-filter, taken_prefix, prefix_alike, whole_words, whole_pairs}

module _ (b : BoardState) (s : DeskState) (agrees : Agrees b s) where
  pub covered_is : (w : List ℕ) → IsCovered b.batch s w → IsTaken b.batch b.kept b.claimed w
  covered_is w covered =
      ⊎_elim
      (λ (known : IsKnown (answers_of s.kept) w). inl (subst (λ (l : List KeptAnswer). IsKnown (answers_of l) w) agrees.kept known))
      (λ (r : (c : Claimed) × Contains s.claims c × IsPrefix w (word_at_place b.batch c.place)).
      inr ((r.0).place, subst (λ (l : List ℕ). Contains l (r.0).place) agrees.claims (in_contains (r.0).place (map (λ (c : Claimed). c.place) s.claims) (in_map (λ (c : Claimed). c.place) r.0 s.claims (contains_in r.0 s.claims r.1))), r.2))
      covered

  pub taken_is : (w : List ℕ) → IsTaken b.batch b.kept b.claimed w → IsCovered b.batch s w
  taken_is w taken =
      ⊎_elim
      (λ (known : IsKnown (answers_of b.kept) w). inl (subst (λ (l : List KeptAnswer). IsKnown (answers_of l) w) (sym agrees.kept) known))
      (λ (r : (p : ℕ) × Contains b.claimed p × IsPrefix w (word_at_place b.batch p)).
      let m = in_mapped (λ (c : Claimed). c.place) r.0 s.claims (contains_in r.0 (map (λ (c : Claimed). c.place) s.claims) (subst (λ (l : List ℕ). Contains l r.0) (sym agrees.claims) r.1)) in
      inr (m.0, in_contains m.0 s.claims m.1, subst (λ (p : ℕ). IsPrefix w (word_at_place b.batch p)) (sym m.2) r.2))
      taken

  pub first_is : (p : ℕ) → p < length b.batch → ¬ IsTaken b.batch b.kept b.claimed (word_at_place b.batch p) → ((other : ℕ) → other < length b.batch → ComesBefore b.batch other p → IsTaken b.batch b.kept b.claimed (word_at_place b.batch other)) → IsFirstFree b.batch s p
  first_is p within free first = record {
    within = within;
    free = λ covered. free (covered_is (word_at_place b.batch p) covered);
    first = λ other below before. taken_is (word_at_place b.batch other) (first other below before);
  }

  pub nothing_is : (b.stop ≡ None → (p : ℕ) → p < length b.batch → IsTaken b.batch b.kept b.claimed (word_at_place b.batch p)) → NothingToTake b.batch s
  nothing_is all = by b.stop refl
    where
      by : (o : Option AskStop) → b.stop ≡ o → NothingToTake b.batch s
      by None e = inr (λ p below. taken_is (word_at_place b.batch p) (all e p below))
      by (Some stop) e = inl (stop, agrees.stop ∙ e)

  -- a place is taken
  pub agrees_take : (now : BoardState) (actor p : ℕ) → now.naming ≡ b.naming → now.kept ≡ b.kept → now.claimed ≡ b.claimed ++ p ∷ [] → now.stop ≡ b.stop → Agrees now (after_take actor p s)
  agrees_take now actor p naming kept claimed stop =
      let new : Claimed = record { actor = actor; place = p } in
      record {
        naming = agrees.naming ∙ sym naming;
        kept = agrees.kept ∙ sym kept;
        claims = map_push (λ (c : Claimed). c.place) s.claims new ∙ (ap (λ (l : List ℕ). l ++ p ∷ []) agrees.claims ∙ sym claimed);
        stop = agrees.stop ∙ sym stop;
      }

  -- an answer is given
  pub agrees_give : (now : BoardState) (actor : ℕ) (g : Give) → now.naming ≡ bring b.naming actor g.names → now.kept ≡ b.kept ++ kept_of b.batch (bring b.naming actor g.names) actor g ∷ [] → now.claimed ≡ without_number g.place b.claimed
      → StopsBy b.stop (answers_of b.kept) (answer_of (kept_of b.batch (bring b.naming actor g.names) actor g)) now.stop → (t : DeskState) × ActorGives b.batch actor g s t × Agrees now t
  agrees_give now actor g naming kept claimed stops =
      let new : Naming → KeptAnswer = λ n. kept_of b.batch (bring n actor g.names) actor g in (
        after_give b.batch actor g s now.stop,
        record {
          stop = subst (λ (o : Option AskStop). StopsBy o (answers_of s.kept) (answer_of (new s.naming)) now.stop) (sym agrees.stop)
              (subst (λ (l : List KeptAnswer). StopsBy b.stop (answers_of l) (answer_of (new s.naming)) now.stop) (sym agrees.kept)
              (subst (λ (n : Naming). StopsBy b.stop (answers_of b.kept) (answer_of (new n)) now.stop) (sym agrees.naming) stops));
          after = refl;
        },
        record {
          naming = ap (λ (n : Naming). bring n actor g.names) agrees.naming ∙ sym naming;
          kept = ap (λ (l : List KeptAnswer). l ++ new s.naming ∷ []) agrees.kept ∙ (ap (λ (n : Naming). b.kept ++ new n ∷ []) agrees.naming ∙ sym kept);
          claims = map-filter (λ (c : Claimed). c.place) (λ n. not (n == g.place)) s.claims ∙ (ap (without_number g.place) agrees.claims ∙ sym claimed);
          stop = refl;
        },
      )

  -- one who failed gives its places up
  pub agrees_fail : (now : BoardState) (actor : ℕ) (f : Failed) → now.naming ≡ b.naming → now.kept ≡ b.kept → now.claimed ≡ without_numbers f.places b.claimed → now.stop ≡ first_stop b.stop (stop_of actor f.stop) → Agrees now (after_fail actor (Some f) s)
  agrees_fail now actor f naming kept claimed stop = record {
    naming = agrees.naming ∙ sym naming;
    kept = agrees.kept ∙ sym kept;
    claims = places_left f.places s.claims ∙ (ap (without_numbers f.places) agrees.claims ∙ sym claimed);
    stop = ap (λ (o : Option AskStop). first_stop o (stop_of actor f.stop)) agrees.stop ∙ sym stop;
  }
    where
      places_left : (ps : List ℕ) (cs : List Claimed) → map (λ c. c.place) (without_places ps cs) ≡ without_numbers ps (map (λ c. c.place) cs)
      places_left [] cs = refl
      places_left (p ∷ ps) cs = places_left ps (without_place p cs) ∙ ap (without_numbers ps) (map-filter (λ (c : Claimed). c.place) (λ n. not (n == p)) cs)

-- what comes of an answer, as the stop says
pub stops_by : (stop : Option AskStop) (filled : Result ⊤ Clash) (kept : List KeptAnswer) (k : KeptAnswer) → OnOk filled (IsClearAfter (answers_of kept) (length kept) (answer_of k)) → IfErr filled (ClashesFirst (answers_of kept) (answer_of k)) → StopsBy stop (answers_of kept) (answer_of k) (stop_after stop filled)
stops_by (Some first) filled kept k ok err = refl
stops_by None (Ok done) kept k ok err = inl (subst (λ (n : ℕ). IsClearAfter (answers_of kept) n (answer_of k)) (sym (length-map kept answer_of)) ok, refl)
stops_by None (Err clash) kept k ok err = inr (clash, err, refl)

pub known_by : (stop : Option AskStop) (filled : Result ⊤ Clash) (kept : List KeptAnswer) (k : KeptAnswer) → OnOk filled (IsClearAfter (answers_of kept) (length kept) (answer_of k)) → stop_after stop filled ≡ None → (stop ≡ None) × IsKnown (answers_of (kept ++ k ∷ [])) k.word
known_by (Some first) filled kept k ok live = absurd (some_none first live)
known_by None (Ok done) kept k ok live = (refl, known_new kept k ok (length-map kept answer_of))
known_by None (Err clash) kept k ok live = absurd (some_none (Ask.Clash clash) live)

-- whoever failed, there is a stop
pub stopped_by : (stop : Option AskStop) (last : AskStop) → first_stop stop last ≡ None → ⊥
stopped_by None last live = some_none last live
stopped_by (Some first) last live = some_none first live

-- answers one after the other
pub gives_more : (batch : List (List ℕ)) (actor : ℕ) (gs : List Give) (g : Give) (s t u : DeskState) → GivesAll batch actor gs s t → ActorGives batch actor g t u → GivesAll batch actor (gs ++ g ∷ []) s u
gives_more batch actor [] g s t u same gives = (u, subst (λ (x : DeskState). ActorGives batch actor g x u) same gives, refl)
gives_more batch actor (h ∷ gs) g s t u all gives = (all.0, all.1, gives_more batch actor gs g all.0 t u all.2 gives)

pub without_numbers_more : (ps : List ℕ) (p : ℕ) (ns : List ℕ) → without_numbers (ps ++ p ∷ []) ns ≡ without_number p (without_numbers ps ns)
without_numbers_more [] p ns = refl
without_numbers_more (q ∷ ps) p ns = without_numbers_more ps p (without_number q ns)

-- places that are taken, before it is said why no more are
abbrev pub TakesFront : List (List ℕ) → ℕ → ℕ → List ℕ → DeskState → DeskState → Type 0
TakesFront batch actor wanted [] s t = t ≡ s
TakesFront batch actor wanted (p ∷ ps) s t = (0 < wanted) × (s.stop ≡ None) × IsFirstFree batch s p × TakesFront batch actor (wanted - 1) ps (after_take actor p s) t

pub front_more : (batch : List (List ℕ)) (actor wanted : ℕ) (ps : List ℕ) (p : ℕ) (s t : DeskState) → TakesFront batch actor wanted ps s t → length ps < wanted → t.stop ≡ None → IsFirstFree batch t p → TakesFront batch actor wanted (ps ++ p ∷ []) s (after_take actor p t)
front_more batch actor wanted [] p s t same less live first = (
  omega arith,
  ap (λ (x : DeskState). x.stop) (sym same) ∙ live,
  subst (λ (x : DeskState). IsFirstFree batch x p) same first,
  ap (after_take actor p) same,
)
front_more batch actor wanted (q ∷ ps) p s t takes less live first = (
  takes.0,
  takes.1,
  takes.2,
  front_more batch actor (wanted - 1) ps p (after_take actor q s) t takes.3 (omega arith) live first,
)

pub front_all : (batch : List (List ℕ)) (actor wanted : ℕ) (ps : List ℕ) (s t : DeskState) → TakesFront batch actor wanted ps s t → (wanted ≤ length ps) ⊎ NothingToTake batch t → ActorTakesAll batch actor wanted ps s t
front_all batch actor wanted [] s t same end = (
  same,
  ⊎_elim
      (λ (le : wanted ≤ 0). inl (omega arith))
      (λ (none : NothingToTake batch t). inr (subst (NothingToTake batch) same none))
      end,
)
front_all batch actor wanted (p ∷ ps) s t takes end = (
  takes.0,
  takes.1,
  takes.2,
  front_all batch actor (wanted - 1) ps (after_take actor p s) t takes.3
      (⊎_elim
      (λ (le : wanted ≤ length (p ∷ ps)). inl (omega arith))
      (λ (none : NothingToTake batch t). inr none)
      end),
)

-- where no place waits nothing is left to take
pub none_waits : (b : BoardState) (naming : Naming) (batch : List (List ℕ)) (kept : List KeptAnswer) (claims : List Claim) (stop : Option AskStop) (words : List (List ℕ)) (waiting : List ℕ) (room letters : ℕ) → (let v : BoardState = record { naming = naming; kept = kept; claimed = numbers_of claims; stop = stop; batch = batch; waiting = waiting } in v) ≡ b
    → IsBoard batch kept claims stop words waiting room letters → length waiting ≡ 0 → (s : DeskState) → Agrees b s → NothingToTake b.batch s
none_waits b naming batch kept claims stop words waiting room letters view is none =
    subst (λ (v : BoardState). (s : DeskState) → Agrees v s → NothingToTake v.batch s) view (λ s agrees.
    nothing_is (record { naming = naming; kept = kept; claimed = numbers_of claims; stop = stop; batch = batch; waiting = waiting }) s agrees (λ live p below.
    ⊎_elim
    (λ (r : BeginsOne batch waiting (word_at_place batch p)). absurd (omega (arith, r.1.1, none)))
    (λ (t : IsTaken batch kept (numbers_of claims) (word_at_place batch p)). t)
    (is.covered live p below)))

-- the words of the places that wait are those that are left
module _ (naming : Naming) (batch : List (List ℕ)) (kept : List KeptAnswer) (claims : List Claim) (stop : Option AskStop) (words : List (List ℕ)) (waiting : List ℕ) (room letters : ℕ) (is : IsBoard batch kept claims stop words waiting room letters) where
  abbrev board : BoardState
  board = record { naming = naming; kept = kept; claimed = numbers_of claims; stop = stop; batch = batch; waiting = waiting }

  abbrev left_words : List (List ℕ)
  left_words = map (word_at_place batch) waiting

  waits_at : (q : ℕ) → In q waiting → Waits batch words kept claims q
  waits_at q i = All-contains (Waits batch words kept claims) waiting q is.waits (in_contains q waiting i)

  in_batch : (q : ℕ) → q < length batch → Contains batch (word_at_place batch q)
  in_batch q lt = Contains-get_or batch q [] lt

  word_found : (v : List ℕ) (c : Contains batch v) → word_at_place batch c.0 ≡ v
  word_found v c = get_or_default batch c.0 [] v c.1 ∙ c.2

  module _ (s : DeskState) (agrees : Agrees board s) (live : stop ≡ None) where
    is_left : (q : ℕ) → In q waiting → IsLeft batch s (word_at_place batch q)
    is_left q i = record {
      within = in_batch q (waits_at q i).at_hand.within;
      free = λ covered. (waits_at q i).free (covered_is board s agrees (word_at_place batch q) covered);
      whole = λ v c pre. whole v (c.0) c.1 (word_found v c) pre;
    }
      where
        whole : (v : List ℕ) (r : ℕ) → r < length batch → word_at_place batch r ≡ v → IsPrefix (word_at_place batch q) v → v ≡ word_at_place batch q
        whole v r lt found pre =
            ⊎_elim
            (λ (b : BeginsOne batch waiting (word_at_place batch r)).
            let more : IsPrefix v (word_at_place batch b.0) = subst (λ (w : List ℕ). IsPrefix w (word_at_place batch b.0)) found b.2 in
            let same : word_at_place batch q ≡ word_at_place batch b.0 = whole_words batch waiting is.order is.whole q b.0 i (contains_in b.0 waiting b.1) (prefix_of_prefix (word_at_place batch q) v (word_at_place batch b.0) pre more) in
            prefix_alike v (word_at_place batch q) (subst (IsPrefix v) (sym same) more) (omega (arith, ap (λ (l : List ℕ). length l) pre.1, length-append (word_at_place batch q) pre.0)))
            (λ (t : IsTaken batch kept (numbers_of claims) (word_at_place batch r)).
            absurd ((waits_at q i).free (taken_prefix batch kept (numbers_of claims) (word_at_place batch q) (word_at_place batch r) (subst (IsPrefix (word_at_place batch q)) (sym found) pre) t)))
            (is.covered live r lt)

    left_is : (w : List ℕ) → IsLeft batch s w → Contains left_words w
    left_is w left =
        let c : Contains batch w = left.within in
        let found : word_at_place batch c.0 ≡ w = word_found w c in
        ⊎_elim
        (λ (b : BeginsOne batch waiting (word_at_place batch c.0)).
        let i : In b.0 waiting = contains_in b.0 waiting b.1 in
        let same : word_at_place batch b.0 ≡ w = left.whole (word_at_place batch b.0) (in_batch b.0 (waits_at b.0 i).at_hand.within) (subst (λ (v : List ℕ). IsPrefix v (word_at_place batch b.0)) found b.2) in
        subst (Contains left_words) same (in_contains (word_at_place batch b.0) left_words (in_map (word_at_place batch) b.0 waiting i)))
        (λ (t : IsTaken batch kept (numbers_of claims) (word_at_place batch c.0)). absurd (left.free (taken_is board s agrees w (subst (IsTaken batch kept (numbers_of claims)) found t))))
        (is.covered live c.0 c.1)

    left_once : AllDiffer left_words
    left_once i j d lt within same =
        let long : length left_words ≡ length waiting = length-map waiting (word_at_place batch) in
        let second : j < length waiting = omega (arith, within, long) in
        let first : i < length waiting = omega (arith, lt, second) in
        whole_pairs batch waiting is.whole i j lt second
        (subst (λ (w : List ℕ). IsPrefix w (word_at_place batch (get_or waiting i 0)))
        (sym (get_or-map (word_at_place batch) waiting i 0 d first) ∙ (same ∙ get_or-map (word_at_place batch) waiting j 0 d second))
        (prefix_whole (word_at_place batch (get_or waiting i 0))))

    pub are_left : AreLeft batch s left_words
    are_left = record {
      exactly = λ w. (
        λ c.
            let m = in_mapped (word_at_place batch) w waiting (contains_in w left_words c) in
            subst (IsLeft batch s) m.2 (is_left m.0 m.1),
        λ left. left_is w left,
      );
      once = left_once;
    }

-- and so many they are
pub counts_waiting : (b : BoardState) (naming : Naming) (batch : List (List ℕ)) (kept : List KeptAnswer) (claims : List Claim) (stop : Option AskStop) (words : List (List ℕ)) (waiting : List ℕ) (room letters left : ℕ) → (let v : BoardState = record { naming = naming; kept = kept; claimed = numbers_of claims; stop = stop; batch = batch; waiting = waiting } in v) ≡ b
    → IsBoard batch kept claims stop words waiting room letters → length waiting ≡ left → (s : DeskState) → Agrees b s → CountsLeft b.batch s left
counts_waiting b naming batch kept claims stop words waiting room letters left view is long =
    subst (λ (v : BoardState). (s : DeskState) → Agrees v s → CountsLeft v.batch s left) view (λ s agrees live. (
      map (word_at_place batch) waiting,
      are_left naming batch kept claims stop words waiting room letters is s agrees (sym agrees.stop ∙ live),
      length-map waiting (word_at_place batch) ∙ long,
    ))

-- the places that an actor holds are claimed, each once
apart_filter : (q : Claimed → Bool) (cs : List Claimed) → AreApart (map (λ c. c.place) cs) → AreApart (map (λ c. c.place) (filter q cs))
apart_filter q [] apart = tt
apart_filter q (c ∷ cs) apart = by (q c) (apart_filter q cs apart.1)
  where
    by : (b : Bool) → AreApart (map (λ c. c.place) (filter q cs)) → AreApart (map (λ c. c.place) (cond b (c ∷ filter q cs) (filter q cs)))
    by true rest = (
      λ i.
          let m = in_mapped (λ (d : Claimed). d.place) c.place (filter q cs) (contains_in c.place (map (λ (d : Claimed). d.place) (filter q cs)) i) in
          apart.0 (in_contains c.place (map (λ (d : Claimed). d.place) cs) (subst (λ (p : ℕ). In p (map (λ (d : Claimed). d.place) cs)) m.2 (in_map (λ (d : Claimed). d.place) m.0 cs (in_filter q m.0 cs m.1).0))),
      rest,
    )
    by false rest = rest

pub seat_held : (b : BoardState) (s : DeskState) (actor : ℕ) → Agrees b s → AreApart b.claimed → AreHeld b.claimed (map (λ c. c.place) (filter (λ c. c.actor == actor) s.claims))
seat_held b s actor agrees apart =
    let own : List Claimed = filter (λ c. c.actor == actor) s.claims in
    let place : Claimed → ℕ = λ c. c.place in (
      λ k d lt.
          let p : ℕ = get_or (map place own) k d in
          let m = in_mapped place p own (contains_in p (map place own) (Contains-get_or (map place own) k d lt)) in
          let i : In p (map place s.claims) = subst (λ (n : ℕ). In n (map place s.claims)) m.2 (in_map place m.0 s.claims (in_filter (λ c. c.actor == actor) m.0 s.claims m.1).0) in
          subst (λ (l : List ℕ). Contains l p) agrees.claims (in_contains p (map place s.claims) i),
      apart_filter (λ c. c.actor == actor) s.claims (subst AreApart (sym agrees.claims) apart),
    )

-- who is told that nothing is left changes nothing on the board
pub agrees_done : (b : BoardState) (actor : ℕ) (done : Bool) (s : DeskState) → Agrees b s → Agrees b (after_done actor done s)
agrees_done b actor done s agrees =
    let d = done_only actor done s in
    record {
      naming = d.0 ∙ agrees.naming;
      kept = d.1 ∙ agrees.kept;
      claims = ap (λ (l : List Claimed). map (λ (c : Claimed). c.place) l) d.2 ∙ agrees.claims;
      stop = d.3 ∙ agrees.stop;
    }
