-- What a history of a desk has come to.
use Rattle.std.proofs.Common.{◌≡◌, ◌⊎◌, inl, inr, ⊎_elim, ℕ, ◌<◌, List, [], ◌∷◌, ◌++◌, length, map, get_or, Contains, All, true, None, refl, ap, sym, ◌∙◌, subst, append_assoc, append-nil, ◌-◌}
use Rattle.std.proofs.lemmas.List.{append_cancel_left, get_or_default}
use Rattle.lw_words.specs.Word.{answers_of, IsPrefix}
use Rattle.lw_words.specs.declared.kept.KeptAnswer.{KeptAnswer}
use Rattle.lw_cache.specs.Asked.{IsAsked}
use Rattle.lw_cache.specs.Known.{IsKnown}
use Rattle.lw_turn.specs.declared.shared.Entry.{Entry}
use Rattle.lw_turn.specs.History.{entries_of}
use Rattle.lw_names.specs.Naming.{Naming, own_names, HasLists}
use Rattle.lw_desk.specs.Step.{Claimed, DeskState, word_at_place, ActorTakesAll, GivesAll, after_take, after_fail}
use Rattle.lw_desk.specs.History.{DeskOpening, opened, Replays, gives_of}
use Rattle.lw_desk.specs.Ending.{kept_runs, IsShared}
use Rattle.lw_desk.specs.bodies.Outcome.{given_runs, Brought, Settled}
use Rattle.lw_desk.specs.declared.ask.Ask.{Ask}
use Rattle.lw_desk.specs.declared.ask.Reply.{Reply}
use Rattle.lw_names.proofs.Members.{In, in_contains, contains_in, in_either, in_map, in_mapped, is_same}
use Rattle.lw_desk.specs.lemmas.ClaimLists.{places_of, place_is}
use Rattle.lw_desk.specs.lemmas.CoverLemmas.{nobody_failed}
use Rattle.lw_desk.specs.lemmas.StepLemmas.{between_claims, end_claims, end_naming}
use Rattle.lw_desk.specs.declared.ask.Give.{Give}
use Rattle.lw_names.proofs.NameNumbers.{Grew, grew_not, grew_both, with_names_grew}
use Rattle.lw_desk.proofs.SeatLemmas.{opened_stands}
use Rattle.lw_desk.proofs.TidyLemmas.{Tidy, since_opening, all_covered, known_in_more, at_place, in_without_all, replays_none}
use Rattle.lw_desk.proofs.RunLemmas.{later_not, Running, running_replays, running_opened}

pub all_of : {X : Type 0} (P : X → Type 0) (xs : List X) → ((x : X) → In x xs → P x) → All P xs
all_of P xs each k d lt = each (get_or xs k d) (contains_in (get_or xs k d) xs (k, lt, get_or_default xs k (get_or xs k d) d lt))

module _ (o : DeskOpening) (es : List (Entry Ask Reply)) (t : DeskState) (r : Replays o (opened o) es t) where
  pub brought : HasLists o.naming.brought o.actors → IsShared o.naming → Brought o es t
  brought lists shares =
      let tidy = since_opening o t es r in
      let is : Tidy o t tidy.0 = tidy.1 in
      let same : (actor : ℕ) → (running actor lists shares).gained ≡ tidy.0 = λ actor. append_cancel_left o.kept (running actor lists shares).gained tidy.0 (sym (running actor lists shares).at_end ∙ is.grown) in
      record {
        gained = tidy.0;
        at_end = is.grown;
        asked = all_of (λ k. IsAsked o.batch (answers_of o.kept) k.word) tidy.0 is.answered;
        once = is.differ;
        fresh = is.fresh;
        actors = all_of (λ k. k.instance < o.actors) tidy.0 (λ k i. (running 0 lists shares).actors k (subst (In k) (sym (same 0)) i));
        below = all_of (λ k. All (λ y. y < length t.naming.names) k.outs) tidy.0 (λ k i. all_of (λ y. y < length t.naming.names) k.outs (λ y j. (running 0 lists shares).below k (subst (In k) (sym (same 0)) i) y j));
        runs = λ actor. subst (λ (l : List KeptAnswer). kept_runs t.naming.names actor l ≡ given_runs o.batch (own_names t.naming actor) (gives_of (entries_of actor es))) (same actor) ((running actor lists shares).runs t.naming (later_not t.naming));
        clear = is.clear;
      }
    where
      running : (actor : ℕ) → HasLists o.naming.brought o.actors → IsShared o.naming → Running o t actor (gives_of (entries_of actor es))
      running actor lists shares = (running_replays o actor (opened o) t es [] r (opened_stands o lists) shares (running_opened o actor)).1

  pub stays_shared : HasLists o.naming.brought o.actors → IsShared o.naming → IsShared t.naming
  stays_shared lists shares = (running_replays o 0 (opened o) t es [] r (opened_stands o lists) shares (running_opened o 0)).0

  known_gained : (gained kept : List KeptAnswer) (w : List ℕ) → IsKnown (answers_of (kept ++ gained)) w → IsKnown (answers_of kept) w ⊎ ((k : KeptAnswer) × In k gained × IsPrefix w k.word)
  known_gained [] kept w known = inl (subst (λ (l : List KeptAnswer). IsKnown (answers_of l) w) (append-nil kept) known)
  known_gained (k ∷ gained) kept w known =
      ⊎_elim
      (λ (old : IsKnown (answers_of (kept ++ k ∷ [])) w). ⊎_elim
      (λ (before : IsKnown (answers_of kept) w). inl before)
      (λ (here : IsPrefix w k.word). inr (k, inl refl, here))
      (known_in_more kept k w old))
      (λ (later : (l : KeptAnswer) × In l gained × IsPrefix w l.word). inr (later.0, inr later.1, later.2))
      (known_gained gained (kept ++ k ∷ []) w (subst (λ (l : List KeptAnswer). IsKnown (answers_of l) w) (sym (append_assoc kept (k ∷ []) gained)) known))

  pub settled : (e : Entry Ask Reply) → (b : Brought o es t) → t.stop ≡ None → t.claims ≡ [] → In e es → e.reply.done ≡ true → Settled o t b.gained
  settled e b none nobody i done =
      record {
        known = λ k d lt. subst (IsKnown (answers_of t.kept)) (get_or_default o.batch k [] d lt) (known_at k lt);
        exactly = record { exactly = λ w. (was_asked w, answered w); once = b.once };
      }
    where
      known_at : (p : ℕ) → p < length o.batch → IsKnown (answers_of t.kept) (word_at_place o.batch p)
      known_at p lt =
          ⊎_elim
          (λ (known : IsKnown (answers_of t.kept) (word_at_place o.batch p)). known)
          (λ (c : (c : Claimed) × Contains t.claims c × IsPrefix (word_at_place o.batch p) (word_at_place o.batch c.place)). absurd (subst (In c.0) nobody (contains_in c.0 t.claims c.1)))
          (all_covered o (opened o) t es e r none i done p lt)

      was_asked : (w : List ℕ) → Contains (map (λ k. k.word) b.gained) w → IsAsked o.batch (answers_of o.kept) w
      was_asked w c =
          let k = in_mapped (λ (k : KeptAnswer). k.word) w b.gained (contains_in w (map (λ k. k.word) b.gained) c) in
          let at = in_contains k.0 b.gained k.1 in
          subst (IsAsked o.batch (answers_of o.kept)) (ap (λ (x : KeptAnswer). x.word) at.2 ∙ k.2) (b.asked at.0 k.0 at.1)

      answered : (w : List ℕ) → IsAsked o.batch (answers_of o.kept) w → Contains (map (λ k. k.word) b.gained) w
      answered w asked =
          let p = at_place o.batch w asked.within in
          let known : IsKnown (answers_of (o.kept ++ b.gained)) w = subst (λ (l : List KeptAnswer). IsKnown (answers_of l) w) b.at_end (subst (IsKnown (answers_of t.kept)) p.2 (known_at p.0 p.1)) in
          ⊎_elim
          (λ (old : IsKnown (answers_of o.kept) w). absurd (asked.unknown old))
          (λ (new : (k : KeptAnswer) × In k b.gained × IsPrefix w k.word).
          let at = in_contains new.0 b.gained new.1 in
          let whole : IsAsked o.batch (answers_of o.kept) (new.0).word = subst (λ (x : KeptAnswer). IsAsked o.batch (answers_of o.kept) x.word) at.2 (b.asked at.0 new.0 at.1) in
          let same : (new.0).word ≡ w = asked.whole (new.0).word whole.within new.2 in
          subst (Contains (map (λ k. k.word) b.gained)) same (in_contains (new.0).word (map (λ k. k.word) b.gained) (in_map (λ (k : KeptAnswer). k.word) new.0 b.gained new.1)))
          (known_gained b.gained o.kept w known)

-- whose the claims are
takes_actors : (batch : List (List ℕ)) (actor wanted : ℕ) (places : List ℕ) (s t : DeskState) (c : Claimed) → ActorTakesAll batch actor wanted places s t → In c t.claims → In c s.claims ⊎ (c.actor ≡ actor)
takes_actors batch actor wanted [] s t c takes i = inl (subst (λ (x : DeskState). In c x.claims) takes.0 i)
takes_actors batch actor wanted (p ∷ ps) s t c takes i =
    ⊎_elim
    (λ (old : In c (s.claims ++ record { actor = actor; place = p } ∷ [])). ⊎_elim
    (λ (l : In c s.claims). inl l)
    (λ (n : In c (record { actor = actor; place = p } ∷ [])). ⊎_elim
    (λ (same : c ≡ record { actor = actor; place = p }). inr (ap (λ (x : Claimed). x.actor) same))
    (λ (no_one : ⊥). absurd no_one)
    n)
    (in_either c s.claims (record { actor = actor; place = p } ∷ []) old))
    (λ (own : c.actor ≡ actor). inr own)
    (takes_actors batch actor (wanted - 1) ps (after_take actor p s) t c takes.3 i)

pub claims_actors : (o : DeskOpening) (s t : DeskState) (es : List (Entry Ask Reply)) → Replays o s es t → ((c : Claimed) → In c s.claims → c.actor < o.actors) → (c : Claimed) → In c t.claims → c.actor < o.actors
claims_actors o s t [] same below c i = below c (subst (λ (x : DeskState). In c x.claims) same i)
claims_actors o s t (e ∷ es) r below c i =
    claims_actors o r.0 t es r.2
    (λ d j. ⊎_elim
    (λ (old : In d (after_fail e.actor e.ask.failed r.1.given).claims). below d (in_without_all (places_of e.actor s.claims) s.claims d (subst (In d) (between_claims o s r.0 e r.1) old)))
    (λ (own : d.actor ≡ e.actor). subst (λ (x : ℕ). x < o.actors) (sym own) r.1.actor)
    (takes_actors o.batch e.actor e.ask.wanted e.reply.places (after_fail e.actor e.ask.failed r.1.given) r.1.taken d r.1.takes (subst (In d) (end_claims o s r.0 e r.1) j)))
    c i

-- where each actor holds nothing, nothing is claimed
pub nothing_claimed : (o : DeskOpening) (t : DeskState) (es : List (Entry Ask Reply)) → Replays o (opened o) es t → ((i : ℕ) → i < o.actors → places_of i t.claims ≡ []) → t.claims ≡ []
nothing_claimed o t es r none = by t.claims refl
  where
    by : (cs : List Claimed) → t.claims ≡ cs → cs ≡ []
    by [] same = refl
    by (c ∷ cs) same =
        let here : In c t.claims = subst (In c) (sym same) (inl refl) in
        let lt : c.actor < o.actors = claims_actors o (opened o) t es r (λ d j. absurd j) c here in
        absurd (subst (In c.place) (none c.actor lt) (place_is c.actor c t.claims here (is_same c.actor c.actor refl)))

-- where nothing stopped the desk, nobody failed
pub nobody_has_failed : (o : DeskOpening) (s t : DeskState) (es : List (Entry Ask Reply)) → Replays o s es t → t.stop ≡ None → (e : Entry Ask Reply) → In e es → e.ask.failed ≡ None
nobody_has_failed o s t [] same none e i = absurd i
nobody_has_failed o s t (f ∷ es) r none e i =
    ⊎_elim
    (λ (same : e ≡ f). ap (λ (x : Entry Ask Reply). x.ask.failed) same ∙ nobody_failed o s r.0 f r.1 (replays_none o r.0 t es r.2 none))
    (λ (j : In e es). nobody_has_failed o r.0 t es r.2 none e j)
    i

-- the shared names only grow at their end
gives_grew : (batch : List (List ℕ)) (maker : ℕ) (gs : List Give) (s t : DeskState) → GivesAll batch maker gs s t → Grew s.naming.names t.naming.names
gives_grew batch maker [] s t same = subst (λ (x : DeskState). Grew s.naming.names x.naming.names) (sym same) (grew_not s.naming.names)
gives_grew batch maker (g ∷ gs) s t gives =
    grew_both s.naming.names gives.0.naming.names t.naming.names
    (subst (λ (x : DeskState). Grew s.naming.names x.naming.names) (sym gives.1.after) (with_names_grew s.naming.names g.names))
    (gives_grew batch maker gs gives.0 t gives.2)

pub names_grew : (o : DeskOpening) (s t : DeskState) (es : List (Entry Ask Reply)) → Replays o s es t → Grew s.naming.names t.naming.names
names_grew o s t [] same = subst (λ (x : DeskState). Grew s.naming.names x.naming.names) (sym same) (grew_not s.naming.names)
names_grew o s t (e ∷ es) r =
    grew_both s.naming.names r.0.naming.names t.naming.names
    (subst (λ (n : Naming). Grew s.naming.names n.names) (sym (end_naming o s r.0 e r.1)) (gives_grew o.batch e.actor e.ask.gives.items s r.1.given r.1.gives))
    (names_grew o r.0 t es r.2)
