-- A history has at most two entries for each word of the batch, and one more for each actor.
use Rattle.std.proofs.Common.{◌≡◌, ◌⊎◌, ◌≢◌, inl, inr, ⊎_elim, ℕ, zero, suc, ◌+◌, ◌-◌, ◌*◌, ◌^◌, ◌<◌, ◌≤◌, ◌==◌, ◌||◌, eqb, List, [], ◌∷◌, ◌++◌, length, map, filter, get_or, All, AllPairs, Bool, true, false, not, cond, Option, Some, None, is_some, refl, ap, sym, ◌∙◌, subst, arith, length-append}
use Rattle.std.specs.List.{list_any}
use Rattle.std.proofs.lemmas.Bool.{true≢false, cases_eq}
use Rattle.lw_words.proofs.Pigeonhole.{no_more_than}
use Rattle.lw_turn.specs.declared.shared.Entry.{Entry}
use Rattle.lw_desk.specs.Step.{Claimed, DeskState, word_at_place, IsCovered, ActorTakesAll, after_take, after_fail, after_done, without_place, without_places}
use Rattle.lw_desk.specs.History.{DeskOpening, opened, Makes, Replays, Legal, most_entries, settled_places}
use Rattle.lw_desk.specs.declared.ask.Ask.{Ask}
use Rattle.lw_desk.specs.declared.ask.Reply.{Reply}
use Rattle.lw_desk.specs.declared.ask.Failed.{Failed}
use Rattle.lw_names.proofs.Members.{In, in_left, in_right, in_either, is_same}
use Rattle.lw_desk.specs.lemmas.ClaimLists.{places_of, place_is}
use Rattle.lw_desk.specs.lemmas.StepLemmas.{gives_ended, takes_only, end_claims, between_claims, end_stop, takes_length}
use Rattle.lw_desk.specs.lemmas.CoverLemmas.{cover_take, taken_covered, cover_between, cover_done, makes_none}

-- no number twice
abbrev pub NoneTwice : List ℕ → Type 0
NoneTwice [] = Unit {0}
NoneTwice (x ∷ xs) = (In x xs → ⊥) × NoneTwice xs

in_at : (xs : List ℕ) (k d : ℕ) → k < length xs → In (get_or xs k d) xs
in_at [] k d lt = absurd (omega arith)
in_at (x ∷ xs) zero d lt = inl refl
in_at (x ∷ xs) (suc k) d lt = inr (in_at xs k d (omega arith))

pairs_differ : (xs : List ℕ) → NoneTwice xs → AllPairs (λ x y. x ≢ y) xs
pairs_differ [] none i j d before lt = absurd (omega arith)
pairs_differ (x ∷ xs) none i zero d before lt = absurd (omega arith)
pairs_differ (x ∷ xs) none zero (suc j) d before lt = λ same. none.0 (subst (λ y. In y xs) (sym same) (in_at xs j d (omega arith)))
pairs_differ (x ∷ xs) none (suc i) (suc j) d before lt = pairs_differ xs none.1 i j d (omega arith) (omega arith)

all_at : (n : ℕ) (xs : List ℕ) → ((x : ℕ) → In x xs → x < n) → All (λ x. x < n) xs
all_at n xs below k d lt = below (get_or xs k d) (in_at xs k d lt)

at_most : (n : ℕ) (xs : List ℕ) → NoneTwice xs → ((x : ℕ) → In x xs → x < n) → length xs ≤ n
at_most n xs none below = no_more_than n xs (all_at n xs below) (pairs_differ xs none)

none_twice_both : (xs ys : List ℕ) → NoneTwice xs → NoneTwice ys → ((x : ℕ) → In x xs → In x ys → ⊥) → NoneTwice (xs ++ ys)
none_twice_both [] ys one other apart = other
none_twice_both (x ∷ xs) ys one other apart =
    (λ i. ⊎_elim (λ (l : In x xs). one.0 l) (λ (r : In x ys). apart x (inl refl) r) (in_either x xs ys i), none_twice_both xs ys one.1 other (λ y l r. apart y (inr l) r))

-- the claims that are left when an actor gives up its places, and those places, are no more than the claims
left_out : (p : ℕ) (c : Claimed) (cs : List Claimed) → (without_place p (c ∷ cs) ≡ c ∷ without_place p cs) ⊎ (without_place p (c ∷ cs) ≡ without_place p cs)
left_out p c cs = by (not (c.place == p)) refl
  where
    by : (b : Bool) → not (c.place == p) ≡ b → (without_place p (c ∷ cs) ≡ c ∷ without_place p cs) ⊎ (without_place p (c ∷ cs) ≡ without_place p cs)
    by true e = inl (ap (λ (b : Bool). cond b (c ∷ without_place p cs) (without_place p cs)) e)
    by false e = inr (ap (λ (b : Bool). cond b (c ∷ without_place p cs) (without_place p cs)) e)

left_out_here : (p : ℕ) (c : Claimed) (cs : List Claimed) → c.place ≡ p → without_place p (c ∷ cs) ≡ without_place p cs
left_out_here p c cs same = ap (λ (b : Bool). cond (not b) (c ∷ without_place p cs) (without_place p cs)) (is_same c.place p same)

one_longer : (ps : List ℕ) (c : Claimed) (cs : List Claimed) → length (without_places ps (c ∷ cs)) ≤ suc (length (without_places ps cs))
one_longer [] c cs = omega arith
one_longer (p ∷ ps) c cs =
    ⊎_elim
    (λ (e : without_place p (c ∷ cs) ≡ c ∷ without_place p cs). subst (λ (l : List Claimed). length (without_places ps l) ≤ suc (length (without_places ps (without_place p cs)))) (sym e) (one_longer ps c (without_place p cs)))
    (λ (e : without_place p (c ∷ cs) ≡ without_place p cs). omega (arith, ap (λ (l : List Claimed). length (without_places ps l)) e))
    (left_out p c cs)

no_longer : (ps : List ℕ) (c : Claimed) (cs : List Claimed) → In c.place ps → length (without_places ps (c ∷ cs)) ≤ length (without_places ps cs)
no_longer [] c cs i = absurd i
no_longer (p ∷ ps) c cs i =
    ⊎_elim
    (λ (same : c.place ≡ p). omega (arith, ap (λ (l : List Claimed). length (without_places ps l)) (left_out_here p c cs same)))
    (λ (r : In c.place ps). ⊎_elim
    (λ (e : without_place p (c ∷ cs) ≡ c ∷ without_place p cs). subst (λ (l : List Claimed). length (without_places ps l) ≤ length (without_places ps (without_place p cs))) (sym e) (no_longer ps c (without_place p cs) r))
    (λ (e : without_place p (c ∷ cs) ≡ without_place p cs). omega (arith, ap (λ (l : List Claimed). length (without_places ps l)) e))
    (left_out p c cs))
    i

without_own : (actor : ℕ) (ps : List ℕ) (cs : List Claimed) → ((c : Claimed) → In c cs → (c.actor == actor) ≡ true → In c.place ps) → length (without_places ps cs) + length (places_of actor cs) ≤ length cs
without_own actor ps [] all = omega (arith, nothing ps)
  where
    nothing : (ps : List ℕ) → length (without_places ps []) ≡ 0
    nothing [] = refl
    nothing (p ∷ ps) = nothing ps
without_own actor ps (c ∷ cs) all = by (c.actor == actor) refl (without_own actor ps cs (λ d i own. all d (inr i) own))
  where
    by : (b : Bool) → (c.actor == actor) ≡ b → length (without_places ps cs) + length (places_of actor cs) ≤ length cs
        → length (without_places ps (c ∷ cs)) + length (map (λ d. d.place) (cond b (c ∷ filter (λ d. d.actor == actor) cs) (filter (λ d. d.actor == actor) cs))) ≤ suc (length cs)
    by true own rest = omega (arith, no_longer ps c cs (all c (inl refl) own), rest)
    by false other rest = omega (arith, one_longer ps c cs, rest)

-- all the places that were taken
abbrev pub taken : List (Entry Ask Reply) → List ℕ
taken [] = []
taken (e ∷ es) = e.reply.places ++ taken es

fail_ended : (actor : ℕ) (f : Option Failed) (s : DeskState) → ((is_some f ≡ true) × ((after_fail actor f s).ended ≡ actor ∷ s.ended)) ⊎ ((is_some f ≡ false) × ((after_fail actor f s).ended ≡ s.ended))
fail_ended actor None s = inr (refl, refl)
fail_ended actor (Some f) s = inl (refl, refl)

done_ended : (actor : ℕ) (done : Bool) (s : DeskState) → ((done ≡ true) × ((after_done actor done s).ended ≡ actor ∷ s.ended)) ⊎ ((done ≡ false) × ((after_done actor done s).ended ≡ s.ended))
done_ended actor true s = inl (refl, refl)
done_ended actor false s = inr (refl, refl)

module _ (o : DeskOpening) (s t : DeskState) (e : Entry Ask Reply) (m : Makes o s e t) where
  between_ended : (after_fail e.actor e.ask.failed m.given).ended ≡ m.taken.ended
  between_ended = sym (takes_only o.batch e.actor e.ask.wanted e.reply.places (after_fail e.actor e.ask.failed m.given) m.taken m.takes).ended

  given_ended : m.given.ended ≡ s.ended
  given_ended = gives_ended o.batch e.actor e.ask.gives.items s m.given m.gives

  -- the actor ends once at most: it was told so, or it failed, or it goes on
  pub ends : (t.ended ≡ e.actor ∷ s.ended) ⊎ ((t.ended ≡ s.ended) × (e.reply.done ≡ false))
  ends =
      let after : t.ended ≡ (after_done e.actor e.reply.done m.taken).ended = ap (λ (x : DeskState). x.ended) m.after in
      ⊎_elim
      (λ (d : (e.reply.done ≡ true) × ((after_done e.actor e.reply.done m.taken).ended ≡ e.actor ∷ m.taken.ended)). ⊎_elim
      (λ (f : (is_some e.ask.failed ≡ true) × ((after_fail e.actor e.ask.failed m.given).ended ≡ e.actor ∷ m.given.ended)). absurd (omega (arith, (m.may.fails f.0).1, (m.done.0 d.0).0)))
      (λ (f : (is_some e.ask.failed ≡ false) × ((after_fail e.actor e.ask.failed m.given).ended ≡ m.given.ended)).
      inl (after ∙ (d.1 ∙ ap (λ (l : List ℕ). e.actor ∷ l) (sym between_ended ∙ (f.1 ∙ given_ended)))))
      (fail_ended e.actor e.ask.failed m.given))
      (λ (d : (e.reply.done ≡ false) × ((after_done e.actor e.reply.done m.taken).ended ≡ m.taken.ended)). ⊎_elim
      (λ (f : (is_some e.ask.failed ≡ true) × ((after_fail e.actor e.ask.failed m.given).ended ≡ e.actor ∷ m.given.ended)).
      inl (after ∙ (d.1 ∙ (sym between_ended ∙ (f.1 ∙ ap (λ (l : List ℕ). e.actor ∷ l) given_ended)))))
      (λ (f : (is_some e.ask.failed ≡ false) × ((after_fail e.actor e.ask.failed m.given).ended ≡ m.given.ended)).
      inr (after ∙ (d.1 ∙ (sym between_ended ∙ (f.1 ∙ given_ended))), d.0))
      (fail_ended e.actor e.ask.failed m.given))
      (done_ended e.actor e.reply.done m.taken)

  claims_count : length t.claims + length (settled_places e.ask) ≤ length s.claims + length e.reply.places
  claims_count =
      let l : length m.taken.claims ≡ length (after_fail e.actor e.ask.failed m.given).claims + length e.reply.places = takes_length o.batch e.actor e.ask.wanted e.reply.places (after_fail e.actor e.ask.failed m.given) m.taken m.takes in
      let w : length (without_places (places_of e.actor s.claims) s.claims) + length (places_of e.actor s.claims) ≤ length s.claims = without_own e.actor (places_of e.actor s.claims) s.claims (λ c i own. place_is e.actor c s.claims i own) in
      omega (arith, l, w, ap (λ (x : List Claimed). length x) (between_claims o s t e m), ap (λ (x : List Claimed). length x) (end_claims o s t e m), ap (λ (x : List ℕ). length x) m.may.places)

  pub one_entry : 1 + length t.claims + length s.ended ≤ length s.claims + 2 * length e.reply.places + length t.ended
  one_entry =
      ⊎_elim
      (λ (r : t.ended ≡ e.actor ∷ s.ended). omega (arith, claims_count, ap (λ (x : List ℕ). length x) r))
      (λ (r : (t.ended ≡ s.ended) × (e.reply.done ≡ false)). omega (arith, claims_count, ap (λ (x : List ℕ). length x) r.0, busy r.1))
      ends
    where
      busy : e.reply.done ≡ false → 0 < length (settled_places e.ask) + length e.reply.places
      busy going = by e.reply.places refl
        where
          by : (ps : List ℕ) → e.reply.places ≡ ps → 0 < length (settled_places e.ask) + length ps
          by (p ∷ ps) same = omega arith
          by [] same =
              ⊎_elim
              (λ (w : e.ask.wanted ≡ 0). omega (arith, m.may.some, w))
              (λ (w : e.ask.wanted ≡ 0 → ⊥). absurd (true≢false (sym (m.done.1 (omega (arith, w), same)) ∙ going)))
              (cases_eq e.ask.wanted 0)

pub all_entries : (o : DeskOpening) (s t : DeskState) (es : List (Entry Ask Reply)) → Replays o s es t → length es + length t.claims + length s.ended ≤ length s.claims + 2 * length (taken es) + length t.ended
all_entries o s t [] same = omega (arith, ap (λ (x : DeskState). length x.claims) same, ap (λ (x : DeskState). length x.ended) same)
all_entries o s t (e ∷ es) r =
    omega (arith, one_entry o s r.0 e r.1, all_entries o r.0 t es r.2, length-append e.reply.places (taken es))

-- those that have ended are actors, each once
in_any : (x : ℕ) (xs : List ℕ) → In x xs → list_any (eqb x) xs ≡ true
in_any x [] i = absurd i
in_any x (y ∷ ys) i =
    ⊎_elim
    (λ (same : x ≡ y). ap (λ (b : Bool). b || list_any (eqb x) ys) (is_same x y same))
    (λ (r : In x ys). or_true (eqb x y) (list_any (eqb x) ys) (in_any x ys r))
    i
  where
    or_true : (a b : Bool) → b ≡ true → (a || b) ≡ true
    or_true true b e = refl
    or_true false b e = e

pub record Ended (n : ℕ) (xs : List ℕ) : Type 0 where
  pub once : NoneTwice xs
  pub below : (x : ℕ) → In x xs → x < n

pub makes_ended : (o : DeskOpening) (s t : DeskState) (e : Entry Ask Reply) → Makes o s e t → Ended o.actors s.ended → Ended o.actors t.ended
makes_ended o s t e m was =
    ⊎_elim
    (λ (r : t.ended ≡ e.actor ∷ s.ended). subst (Ended o.actors) (sym r)
    (record {
      once = (λ i. true≢false (sym (in_any e.actor s.ended i) ∙ m.may.live), was.once);
      below = λ x i. ⊎_elim (λ (same : x ≡ e.actor). subst (λ y. y < o.actors) (sym same) m.actor) (λ (r : In x s.ended). was.below x r) i;
    }))
    (λ (r : (t.ended ≡ s.ended) × (e.reply.done ≡ false)). subst (Ended o.actors) (sym r.0) was)
    (ends o s t e m)

pub replays_ended : (o : DeskOpening) (s t : DeskState) (es : List (Entry Ask Reply)) → Replays o s es t → Ended o.actors s.ended → Ended o.actors t.ended
replays_ended o s t [] same was = subst (λ (x : DeskState). Ended o.actors x.ended) (sym same) was
replays_ended o s t (e ∷ es) r was = replays_ended o r.0 t es r.2 (makes_ended o s r.0 e r.1 was)

-- these places are covered, where nothing has stopped the desk
abbrev pub AllCovered : List (List ℕ) → DeskState → List ℕ → Type 0
AllCovered batch s ps = s.stop ≡ None → (p : ℕ) → In p ps → IsCovered batch s (word_at_place batch p)

-- new places: none twice, none of the earlier ones, all of the batch
pub record AreNew (batch : List (List ℕ)) (earlier ps : List ℕ) : Type 0 where
  pub once : NoneTwice ps
  pub others : (p : ℕ) → In p ps → In p earlier → ⊥
  pub within : (p : ℕ) → In p ps → p < length batch

takes_new : (batch : List (List ℕ)) (actor wanted : ℕ) (ps : List ℕ) (s t : DeskState) (earlier : List ℕ) → ActorTakesAll batch actor wanted ps s t → AllCovered batch s earlier → AreNew batch earlier ps × AllCovered batch t (earlier ++ ps)
takes_new batch actor wanted [] s t earlier takes covered = (
  record { once = tt; others = λ p i. absurd i; within = λ p i. absurd i },
  subst (λ (x : DeskState). AllCovered batch x (earlier ++ [])) (sym takes.0)
      (λ none p i. covered none p (⊎_elim (λ (l : In p earlier). l) (λ (r : ⊥). absurd r) (in_either p earlier [] i))),
)
takes_new batch actor wanted (q ∷ qs) s t earlier takes covered =
    let more : AllCovered batch (after_take actor q s) (earlier ++ q ∷ []) =
    λ none p i. ⊎_elim
    (λ (l : In p earlier). cover_take batch actor q s (word_at_place batch p) (covered takes.1 p l))
    (λ (r : In p (q ∷ [])). ⊎_elim
    (λ (same : p ≡ q). subst (λ (x : ℕ). IsCovered batch (after_take actor q s) (word_at_place batch x)) (sym same) (taken_covered batch actor q s))
    (λ (no_one : ⊥). absurd no_one)
    r)
    (in_either p earlier (q ∷ []) i) in
    let rest = takes_new batch actor (wanted - 1) qs (after_take actor q s) t (earlier ++ q ∷ []) takes.3 more in
    let fresh : AreNew batch (earlier ++ q ∷ []) qs = rest.0 in (
      record {
        once = (λ i. fresh.others q i (in_right q earlier (q ∷ []) (inl refl)), fresh.once);
        others = λ p i e. ⊎_elim
            (λ (same : p ≡ q). takes.2.free (covered takes.1 q (subst (λ x. In x earlier) same e)))
            (λ (r : In p qs). fresh.others p r (in_left p earlier (q ∷ []) e))
            i;
        within = λ p i. ⊎_elim (λ (same : p ≡ q). subst (λ x. x < length batch) (sym same) takes.2.within) (λ (r : In p qs). fresh.within p r) i;
      },
      λ none p i. rest.1 none p (⊎_elim
          (λ (l : In p earlier). in_left p (earlier ++ q ∷ []) qs (in_left p earlier (q ∷ []) l))
          (λ (r : In p (q ∷ qs)). ⊎_elim
          (λ (same : p ≡ q). in_left p (earlier ++ q ∷ []) qs (in_right p earlier (q ∷ []) (inl same)))
          (λ (j : In p qs). in_right p (earlier ++ q ∷ []) qs j)
          r)
          (in_either p earlier (q ∷ qs) i)),
    )

pub makes_new : (o : DeskOpening) (s t : DeskState) (e : Entry Ask Reply) (earlier : List ℕ) → Makes o s e t → AllCovered o.batch s earlier → AreNew o.batch earlier e.reply.places × AllCovered o.batch t (earlier ++ e.reply.places)
makes_new o s t e earlier m covered =
    let at : DeskState = after_fail e.actor e.ask.failed m.given in
    let r = takes_new o.batch e.actor e.ask.wanted e.reply.places at m.taken earlier m.takes between in
    (r.0, subst (λ (x : DeskState). AllCovered o.batch x (earlier ++ e.reply.places)) (sym m.after) (after e.reply.done (earlier ++ e.reply.places) r.1))
  where
    between : AllCovered o.batch (after_fail e.actor e.ask.failed m.given) earlier
    between none p i =
        let ended : t.stop ≡ None = end_stop o s t e m ∙ none in
        cover_between o s t e m ended (word_at_place o.batch p) (covered (makes_none o s t e m ended) p i)

    after : (done : Bool) (ps : List ℕ) → AllCovered o.batch m.taken ps → AllCovered o.batch (after_done e.actor done m.taken) ps
    after false ps c = c
    after true ps c = λ none p i. cover_done o.batch e.actor true m.taken (word_at_place o.batch p) (c none p i)

pub all_new : (o : DeskOpening) (s t : DeskState) (es : List (Entry Ask Reply)) (earlier : List ℕ) → Replays o s es t → AllCovered o.batch s earlier → AreNew o.batch earlier (taken es)
all_new o s t [] earlier same covered = record { once = tt; others = λ p i. absurd i; within = λ p i. absurd i }
all_new o s t (e ∷ es) earlier r covered =
    let here = makes_new o s r.0 e earlier r.1 covered in
    let rest : AreNew o.batch (earlier ++ e.reply.places) (taken es) = all_new o r.0 t es (earlier ++ e.reply.places) r.2 here.1 in
    record {
      once = none_twice_both e.reply.places (taken es) here.0.once rest.once (λ p l i. rest.others p i (in_right p earlier e.reply.places l));
      others = λ p i e'. ⊎_elim
          (λ (l : In p e.reply.places). here.0.others p l e')
          (λ (j : In p (taken es)). rest.others p j (in_left p earlier e.reply.places e'))
          (in_either p e.reply.places (taken es) i);
      within = λ p i. ⊎_elim (λ (l : In p e.reply.places). here.0.within p l) (λ (j : In p (taken es)). rest.within p j) (in_either p e.reply.places (taken es) i);
    }

pub bounded : (o : DeskOpening) (es : List (Entry Ask Reply)) → Legal o es → (length es ≤ most_entries o) × (most_entries o + o.actors < 2 ^ 64)
bounded o es legal =
    let entries = all_entries o (opened o) legal.state es legal.replays in
    let fresh : AreNew o.batch [] (taken es) = all_new o (opened o) legal.state es [] legal.replays (λ none p i. absurd i) in
    let places : length (taken es) ≤ length o.batch = at_most (length o.batch) (taken es) fresh.once fresh.within in
    let ended : Ended o.actors legal.state.ended = replays_ended o (opened o) legal.state es legal.replays (record { once = tt; below = λ x i. absurd i }) in
    let actors : length legal.state.ended ≤ o.actors = at_most o.actors legal.state.ended ended.once ended.below in
    (omega (arith, entries, places, actors), omega (arith, legal.few_actors, legal.few_words))
