-- What a desk asks is what has to be asked: no claimed word is known, none begins another, and each was asked for once.
use Rattle.std.proofs.Common.{◌≡◌, ◌⊎◌, ◌≢◌, inl, inr, ⊎_elim, ℕ, zero, suc, ◌-◌, ◌<◌, ◌==◌, List, [], ◌∷◌, ◌++◌, length, map, get_or, Contains, Bool, true, false, not, cond, Option, Some, None, refl, ap, sym, ◌∙◌, subst, arith, append_assoc, append-nil, length-append}
use Rattle.std.proofs.lemmas.List.{get_or_default, length-map, map_push}
use Rattle.std.proofs.lemmas.List.Quantifiers.{all_pairs_push}
use Rattle.lw_words.specs.Word.{Answer, answer_at, answer_of, answers_of, IsPrefix, AllDiffer}
use Rattle.lw_cache.proofs.AnswerLemmas.{clear_push, at_kept, at_last}
use Rattle.lw_words.specs.declared.kept.KeptAnswer.{KeptAnswer}
use Rattle.lw_cache.specs.Asked.{IsAsked}
use Rattle.lw_cache.specs.Clash.{IsClear, IsClearAfter, NothingClashes}
use Rattle.lw_cache.specs.Known.{IsKnown}
use Rattle.lw_cache.specs.declared.stops.AskStop.{AskStop}
use Rattle.lw_cache.proofs.GainLemmas.{known_stays, nothing_more}
use Rattle.lw_turn.specs.declared.shared.Entry.{Entry}
use Rattle.lw_names.specs.Naming.{bring}
use Rattle.lw_desk.specs.Step.{Claimed, DeskState, word_at_place, ComesBefore, IsCovered, IsFirstFree, NothingToTake, ActorTakesAll, ActorGives, GivesAll, kept_of, after_take, after_fail, after_done, without_place, without_places}
use Rattle.lw_desk.specs.bodies.Outcome.{FreshFrom}
use Rattle.lw_desk.specs.History.{DeskOpening, opened, Makes, Replays, failed_places}
use Rattle.lw_desk.specs.declared.ask.Ask.{Ask}
use Rattle.lw_desk.specs.declared.ask.Reply.{Reply}
use Rattle.lw_desk.specs.declared.ask.Give.{Give}
use Rattle.lw_desk.specs.declared.ask.Failed.{Failed}
use Rattle.lw_names.proofs.Members.{In, in_contains, in_either, in_mapped, is_same, is_other, removed}
use Rattle.lw_desk.specs.lemmas.ClaimLists.{EachOnce, once_more, places_of, at_none, once_without, once_without_all, in_without, own_without, place_of_actor, places_own, places_other}
use Rattle.lw_desk.specs.lemmas.StepLemmas.{prefix_whole, free_unclaimed, end_stop}
use Rattle.lw_desk.specs.lemmas.CoverLemmas.{some_none, stops_none, cover_prefix, cover_take, cover_give, give_known, fail_none, cover_done, cover_makes, makes_none}
use Rattle.lw_desk.specs.lemmas.Bounds.{NoneTwice}

fresh_more : (kept gained : List KeptAnswer) (k : KeptAnswer) → FreshFrom kept gained → (IsKnown (answers_of (kept ++ gained)) k.word → ⊥) → FreshFrom kept (gained ++ k ∷ [])
fresh_more kept [] k fresh new = (λ known. new (subst (λ (l : List KeptAnswer). IsKnown (answers_of l) k.word) (sym (append-nil kept)) known), tt)
fresh_more kept (x ∷ gained) k fresh new = (fresh.0, fresh_more (kept ++ x ∷ []) gained k fresh.1 (λ known. new (subst (λ (l : List KeptAnswer). IsKnown (answers_of l) k.word) (append_assoc kept (x ∷ []) gained) known)))

-- what holds of a state whose answers since the opening are these
pub record Tidy (o : DeskOpening) (s : DeskState) (gained : List KeptAnswer) : Type 0 where
  pub once : EachOnce s.claims
  pub grown : s.kept ≡ o.kept ++ gained
  -- each claimed word has to be asked, isn't known yet, and begins no other claimed word
  pub asked : (c : Claimed) → In c s.claims → IsAsked o.batch (answers_of o.kept) (word_at_place o.batch c.place)
  pub unknown : (c : Claimed) → In c s.claims → IsKnown (answers_of s.kept) (word_at_place o.batch c.place) → ⊥
  pub apart : (c d : Claimed) → In c s.claims → In d s.claims → c.place ≢ d.place → IsPrefix (word_at_place o.batch c.place) (word_at_place o.batch d.place) → ⊥
  pub longer : s.stop ≡ None → (c : Claimed) → In c s.claims → (p : ℕ) → p < length o.batch → ComesBefore o.batch p c.place → IsCovered o.batch s (word_at_place o.batch p)
  -- and so had each word that was answered
  pub answered : (k : KeptAnswer) → In k gained → IsAsked o.batch (answers_of o.kept) k.word
  pub differ : AllDiffer (map (λ k. k.word) gained)
  pub others : (c : Claimed) → In c s.claims → In (word_at_place o.batch c.place) (map (λ k. k.word) gained) → ⊥
  pub fresh : FreshFrom o.kept gained
  pub known : s.stop ≡ None → (k : KeptAnswer) → In k gained → IsKnown (answers_of s.kept) k.word
  pub clear : s.stop ≡ None → NothingClashes (answers_of o.kept) → NothingClashes (answers_of s.kept)

word_in : (xs : List (List ℕ)) (k : ℕ) (d : List ℕ) → k < length xs → In (get_or xs k d) xs
word_in [] k d lt = absurd (omega arith)
word_in (x ∷ xs) zero d lt = inl refl
word_in (x ∷ xs) (suc k) d lt = inr (word_in xs k d (omega arith))

pub differ_more : (ws : List (List ℕ)) (w : List ℕ) → AllDiffer ws → (In w ws → ⊥) → AllDiffer (ws ++ w ∷ [])
differ_more ws w differ new = all_pairs_push (λ a b. a ≢ b) ws w differ (λ k d lt same. new (subst (λ v. In v ws) same (word_in ws k d lt)))

pub in_batch : (batch : List (List ℕ)) (p : ℕ) → p < length batch → Contains batch (word_at_place batch p)
in_batch batch p lt = (p, lt, get_or_default batch p (word_at_place batch p) [] lt)

-- a word that is in the batch stands at a place
pub at_place : (batch : List (List ℕ)) (w : List ℕ) → Contains batch w → (p : ℕ) × (p < length batch) × (word_at_place batch p ≡ w)
at_place batch w c = (c.0, c.1, get_or_default batch c.0 [] w c.1 ∙ c.2)

-- a proper prefix is shorter
pub longer_word : (u v : List ℕ) → IsPrefix u v → (v ≡ u) ⊎ (length u < length v)
longer_word u v p = by p.0 p.1
  where
    by : (x : List ℕ) → v ≡ u ++ x → (v ≡ u) ⊎ (length u < length v)
    by [] e = inl (e ∙ append-nil u)
    by (y ∷ x) e = inr (omega (arith, ap (λ (l : List ℕ). length l) e, length-append u (y ∷ x)))

pub all_stay : (more kept : List KeptAnswer) (w : List ℕ) → IsKnown (answers_of kept) w → IsKnown (answers_of (kept ++ more)) w
all_stay [] kept w k = subst (λ (l : List KeptAnswer). IsKnown (answers_of l) w) (sym (append-nil kept)) k
all_stay (x ∷ more) kept w k = subst (λ (l : List KeptAnswer). IsKnown (answers_of l) w) (append_assoc kept (x ∷ []) more) (all_stay more (kept ++ x ∷ []) w (known_stays kept x w k))

-- what is known with one answer more was known, or begins its word
pub known_in_more : (kept : List KeptAnswer) (k : KeptAnswer) (w : List ℕ) → IsKnown (answers_of (kept ++ k ∷ [])) w → IsKnown (answers_of kept) w ⊎ IsPrefix w k.word
known_in_more kept k w known =
    ⊎_elim
    (λ (e : w ≡ []). inl (inl e))
    (λ (r : (i : ℕ) × IsClear (answers_of kept ++ answer_of k ∷ []) i × IsPrefix w (answer_at (answers_of kept ++ answer_of k ∷ []) i).word). ⊎_elim
    (λ (old : IsClear (answers_of kept) r.0). inl (inr (r.0, old, subst (λ (a : Answer). IsPrefix w a.word) (at_kept (answers_of kept) (answer_of k) r.0 old.0) r.2)))
    (λ (new : (r.0 ≡ length (answers_of kept)) × IsClearAfter (answers_of kept) (length (answers_of kept)) (answer_of k)).
    inr (subst (λ (a : Answer). IsPrefix w a.word) (ap (answer_at (answers_of kept ++ answer_of k ∷ [])) new.0 ∙ at_last (answers_of kept) (answer_of k)) r.2))
    (clear_push (answers_of kept) (answer_of k) r.0 r.1))
    (subst (λ (l : List Answer). IsKnown l w) (map_push answer_of kept k) known)

module _ (o : DeskOpening) where
  -- a place that is taken
  pub tidy_take : (actor p : ℕ) (s : DeskState) (gained : List KeptAnswer) → Tidy o s gained → s.stop ≡ None → IsFirstFree o.batch s p → Tidy o (after_take actor p s) gained
  tidy_take actor p s gained is none free =
      let c : Claimed = record { actor = actor; place = p } in
      record {
        once = once_more s.claims c is.once (free_unclaimed o.batch actor s p free);
        grown = is.grown;
        asked = λ d i. ⊎_elim (λ (l : In d s.claims). is.asked d l) (λ (r : In d (c ∷ [])). subst (λ (x : Claimed). IsAsked o.batch (answers_of o.kept) (word_at_place o.batch x.place)) (sym (only d c r)) new) (in_either d s.claims (c ∷ []) i);
        unknown = λ d i k. ⊎_elim (λ (l : In d s.claims). is.unknown d l k) (λ (r : In d (c ∷ [])). free.free (inl (subst (λ (x : Claimed). IsKnown (answers_of s.kept) (word_at_place o.batch x.place)) (only d c r) k))) (in_either d s.claims (c ∷ []) i);
        apart = λ d e i j other pre. ⊎_elim
            (λ (l : In d s.claims). ⊎_elim
            (λ (m : In e s.claims). is.apart d e l m other pre)
            (λ (m : In e (c ∷ [])). begins_new d l (subst (λ (x : Claimed). IsPrefix (word_at_place o.batch d.place) (word_at_place o.batch x.place)) (only e c m) pre))
            (in_either e s.claims (c ∷ []) j))
            (λ (l : In d (c ∷ [])). ⊎_elim
            (λ (m : In e s.claims). free.free (inr (e, in_contains e s.claims m, subst (λ (x : Claimed). IsPrefix (word_at_place o.batch x.place) (word_at_place o.batch e.place)) (only d c l) pre)))
            (λ (m : In e (c ∷ [])). other (ap (λ (x : Claimed). x.place) (only d c l ∙ sym (only e c m))))
            (in_either e s.claims (c ∷ []) j))
            (in_either d s.claims (c ∷ []) i);
        longer = λ still d i q lt before. cover_take o.batch actor p s (word_at_place o.batch q) (⊎_elim
            (λ (l : In d s.claims). is.longer none d l q lt before)
            (λ (r : In d (c ∷ [])). free.first q lt (subst (λ (x : Claimed). ComesBefore o.batch q x.place) (only d c r) before))
            (in_either d s.claims (c ∷ []) i));
        answered = is.answered;
        differ = is.differ;
        fresh = is.fresh;
        others = λ d i w. ⊎_elim
            (λ (l : In d s.claims). is.others d l w)
            (λ (r : In d (c ∷ [])).
            let k = in_mapped (λ (k : KeptAnswer). k.word) (word_at_place o.batch p) gained (subst (λ (x : Claimed). In (word_at_place o.batch x.place) (map (λ (k : KeptAnswer). k.word) gained)) (only d c r) w) in
            free.free (inl (subst (IsKnown (answers_of s.kept)) k.2 (is.known none k.0 k.1))))
            (in_either d s.claims (c ∷ []) i);
        known = is.known;
        clear = is.clear;
      }
    where
      only : (d c : Claimed) → In d (c ∷ []) → d ≡ c
      only d c r = ⊎_elim (λ (e : d ≡ c). e) (λ (no_one : ⊥). absurd no_one) r

      -- a claimed word that begins the new one would be the same, or shorter, and then the new one was covered before
      begins_new : (d : Claimed) → In d s.claims → IsPrefix (word_at_place o.batch d.place) (word_at_place o.batch p) → ⊥
      begins_new d i pre =
          ⊎_elim
          (λ (same : word_at_place o.batch p ≡ word_at_place o.batch d.place). free.free (inr (d, in_contains d s.claims i, subst (λ (w : List ℕ). IsPrefix w (word_at_place o.batch d.place)) (sym same) (prefix_whole (word_at_place o.batch d.place)))))
          (λ (less : length (word_at_place o.batch d.place) < length (word_at_place o.batch p)). free.free (is.longer none d i p free.within (inl less)))
          (longer_word (word_at_place o.batch d.place) (word_at_place o.batch p) pre)

      old_known : IsKnown (answers_of o.kept) (word_at_place o.batch p) → IsKnown (answers_of s.kept) (word_at_place o.batch p)
      old_known k = subst (λ (l : List KeptAnswer). IsKnown (answers_of l) (word_at_place o.batch p)) (sym is.grown) (all_stay gained o.kept (word_at_place o.batch p) k)

      new : IsAsked o.batch (answers_of o.kept) (word_at_place o.batch p)
      new = record {
        within = in_batch o.batch p free.within;
        unknown = λ k. free.free (inl (old_known k));
        whole = λ v there pre. ⊎_elim
            (λ (same : v ≡ word_at_place o.batch p). same)
            (λ (less : length (word_at_place o.batch p) < length v).
            let q = at_place o.batch v there in
            absurd (free.free (cover_prefix o.batch s (word_at_place o.batch p) (word_at_place o.batch q.0) (subst (IsPrefix (word_at_place o.batch p)) (sym q.2) pre)
            (free.first q.0 q.1 (inl (subst (λ (w : List ℕ). length (word_at_place o.batch p) < length w) (sym q.2) less))))))
            (longer_word (word_at_place o.batch p) v pre);
      }

  -- an answer that is given
  module _ (actor : ℕ) (g : Give) (s t : DeskState) (gained : List KeptAnswer) (c : Claimed) (is : Tidy o s gained) (i : In c s.claims) (here : c.place ≡ g.place) (gives : ActorGives o.batch actor g s t) where
    abbrev new : KeptAnswer
    new = kept_of o.batch (bring s.naming actor g.names) actor g

    grown : t.kept ≡ s.kept ++ new ∷ []
    grown = ap (λ (x : DeskState). x.kept) gives.after

    claims : t.claims ≡ without_place g.place s.claims
    claims = ap (λ (x : DeskState). x.claims) gives.after

    was : (d : Claimed) → In d t.claims → In d s.claims × (d.place ≢ g.place)
    was d j = in_without g.place s.claims d (subst (In d) claims j)

    live : t.stop ≡ None → s.stop ≡ None
    live none = (stops_none s.stop t.stop (answers_of s.kept) (answer_of new) gives.stop none).0

    only : (k : KeptAnswer) → In k (new ∷ []) → k ≡ new
    only k r = ⊎_elim (λ (e : k ≡ new). e) (λ (no_one : ⊥). absurd no_one) r

    asked_new : IsAsked o.batch (answers_of o.kept) (word_at_place o.batch g.place)
    asked_new = subst (λ (p : ℕ). IsAsked o.batch (answers_of o.kept) (word_at_place o.batch p)) here (is.asked c i)

    pub tidy_give : Tidy o t (gained ++ new ∷ [])
    tidy_give =
        record {
          once = subst EachOnce (sym claims) (once_without g.place s.claims is.once);
          grown = grown ∙ (ap (λ (l : List KeptAnswer). l ++ new ∷ []) is.grown ∙ append_assoc o.kept gained (new ∷ []));
          asked = λ d j. is.asked d (was d j).0;
          unknown = λ d j known. ⊎_elim
              (λ (old : IsKnown (answers_of s.kept) (word_at_place o.batch d.place)). is.unknown d (was d j).0 old)
              (λ (pre : IsPrefix (word_at_place o.batch d.place) (word_at_place o.batch g.place)).
              is.apart d c (was d j).0 i (λ same. (was d j).1 (same ∙ here)) (subst (λ (p : ℕ). IsPrefix (word_at_place o.batch d.place) (word_at_place o.batch p)) (sym here) pre))
              (known_in_more s.kept new (word_at_place o.batch d.place) (subst (λ (l : List KeptAnswer). IsKnown (answers_of l) (word_at_place o.batch d.place)) grown known));
          apart = λ d e j k other pre. is.apart d e (was d j).0 (was e k).0 other pre;
          longer = λ none d j q lt before. cover_give o.batch actor g s t gives none (word_at_place o.batch q) (is.longer (live none) d (was d j).0 q lt before);
          answered = λ k j. ⊎_elim (λ (l : In k gained). is.answered k l) (λ (r : In k (new ∷ [])). subst (λ (x : KeptAnswer). IsAsked o.batch (answers_of o.kept) x.word) (sym (only k r)) asked_new) (in_either k gained (new ∷ []) j);
          differ = subst AllDiffer (sym (map_push (λ (k : KeptAnswer). k.word) gained new))
              (differ_more (map (λ (k : KeptAnswer). k.word) gained) (word_at_place o.batch g.place) is.differ (λ w. is.others c i (subst (λ (p : ℕ). In (word_at_place o.batch p) (map (λ (k : KeptAnswer). k.word) gained)) (sym here) w)));
          fresh = fresh_more o.kept gained new is.fresh (λ known. is.unknown c i (subst (λ (p : ℕ). IsKnown (answers_of s.kept) (word_at_place o.batch p)) (sym here) (subst (λ (l : List KeptAnswer). IsKnown (answers_of l) (word_at_place o.batch g.place)) (sym is.grown) known)));
          others = λ d j w. ⊎_elim
              (λ (l : In (word_at_place o.batch d.place) (map (λ (k : KeptAnswer). k.word) gained)). is.others d (was d j).0 l)
              (λ (r : In (word_at_place o.batch d.place) (word_at_place o.batch g.place ∷ [])). ⊎_elim
              (λ (same : word_at_place o.batch d.place ≡ word_at_place o.batch g.place).
              is.apart d c (was d j).0 i (λ e. (was d j).1 (e ∙ here)) (subst (IsPrefix (word_at_place o.batch d.place)) (same ∙ ap (word_at_place o.batch) (sym here)) (prefix_whole (word_at_place o.batch d.place))))
              (λ (no_one : ⊥). absurd no_one)
              r)
              (in_either (word_at_place o.batch d.place) (map (λ (k : KeptAnswer). k.word) gained) (word_at_place o.batch g.place ∷ []) (subst (In (word_at_place o.batch d.place)) (map_push (λ (k : KeptAnswer). k.word) gained new) w));
          known = λ none k j. ⊎_elim
              (λ (l : In k gained). subst (λ (x : List KeptAnswer). IsKnown (answers_of x) k.word) (sym grown) (known_stays s.kept new k.word (is.known (live none) k l)))
              (λ (r : In k (new ∷ [])). subst (λ (x : KeptAnswer). IsKnown (answers_of t.kept) x.word) (sym (only k r)) (give_known o.batch actor g s t gives none))
              (in_either k gained (new ∷ []) j);
          clear = λ none nothing. subst (λ (l : List KeptAnswer). NothingClashes (answers_of l)) (sym grown)
              (nothing_more s.kept new (subst (λ (n : ℕ). IsClearAfter (answers_of s.kept) n (answer_of new)) (length-map s.kept answer_of) (stops_none s.stop t.stop (answers_of s.kept) (answer_of new) gives.stop none).1) (length-map s.kept answer_of) (is.clear (live none) nothing));
        }

-- the places of an actor are none twice
pub places_once : (actor : ℕ) (cs : List Claimed) → EachOnce cs → NoneTwice (places_of actor cs)
places_once actor [] once = tt
places_once actor (c ∷ cs) once = by (c.actor == actor) refl (places_once actor cs once.1)
  where
    by : (b : Bool) → (c.actor == actor) ≡ b → NoneTwice (places_of actor cs) → NoneTwice (places_of actor (c ∷ cs))
    by true own rest =
        subst NoneTwice (sym (places_own actor c cs own))
        (λ i. let r = place_of_actor actor c.place cs i in at_none c.place cs once.0 r.0 r.1 r.3, rest)
    by false other rest = subst NoneTwice (sym (places_other actor c cs other)) rest

removed_none : (p : ℕ) (xs : List ℕ) → (In p xs → ⊥) → removed p xs ≡ xs
removed_none p [] none = refl
removed_none p (x ∷ xs) none =
    ap (λ (b : Bool). cond (not b) (x ∷ removed p xs) (removed p xs)) (is_other x p (λ same. none (inl (sym same))))
    ∙ ap (λ (l : List ℕ). x ∷ l) (removed_none p xs (λ i. none (inr i)))

removed_first : (p : ℕ) (xs : List ℕ) → NoneTwice (p ∷ xs) → removed p (p ∷ xs) ≡ xs
removed_first p xs none = ap (λ (b : Bool). cond (not b) (p ∷ removed p xs) (removed p xs)) (is_same p p refl) ∙ removed_none p xs none.0

pub in_without_all : (ps : List ℕ) (cs : List Claimed) (c : Claimed) → In c (without_places ps cs) → In c cs
in_without_all [] cs c i = i
in_without_all (p ∷ ps) cs c i = (in_without p cs c (in_without_all ps (without_place p cs) c i)).0

module _ (o : DeskOpening) where
  -- tidy, and the answers that were gained
  abbrev pub GoesOn : DeskState → List KeptAnswer → Type 0
  GoesOn t gained = (more : List KeptAnswer) × Tidy o t (gained ++ more)

  tidy_gives : (actor : ℕ) (gs : List Give) (rest : List ℕ) (s t : DeskState) (gained : List KeptAnswer) → Tidy o s gained → map (λ g. g.place) gs ++ rest ≡ places_of actor s.claims → GivesAll o.batch actor gs s t → GoesOn t gained
  tidy_gives actor [] rest s t gained is held same =
      ([], subst (λ (l : List KeptAnswer). Tidy o t l) (sym (append-nil gained)) (subst (λ (x : DeskState). Tidy o x gained) (sym same) is))
  tidy_gives actor (g ∷ gs) rest s t gained is held gives =
      let here : In g.place (places_of actor s.claims) = subst (In g.place) held (inl refl) in
      let c = place_of_actor actor g.place s.claims here in
      let next = tidy_give o actor g s gives.0 gained c.0 is c.1 c.3 gives.1 in
      let others : places_of actor gives.0.claims ≡ map (λ (h : Give). h.place) gs ++ rest =
      ap (λ (x : DeskState). places_of actor x.claims) gives.1.after
      ∙ (own_without actor g.place s.claims
      ∙ (ap (removed g.place) (sym held) ∙ removed_first g.place (map (λ (h : Give). h.place) gs ++ rest) (subst NoneTwice (sym held) (places_once actor s.claims is.once)))) in
      let more = tidy_gives actor gs rest gives.0 t (gained ++ kept_of o.batch (bring s.naming actor g.names) actor g ∷ []) next (sym others) gives.2 in (
        kept_of o.batch (bring s.naming actor g.names) actor g ∷ more.0,
        subst (Tidy o t) (append_assoc gained (kept_of o.batch (bring s.naming actor g.names) actor g ∷ []) more.0) more.1,
      )

  tidy_fail : (actor : ℕ) (f : Option Failed) (s : DeskState) (gained : List KeptAnswer) → Tidy o s gained → Tidy o (after_fail actor f s) gained
  tidy_fail actor None s gained is = is
  tidy_fail actor (Some f) s gained is = record {
    once = once_without_all f.places s.claims is.once;
    grown = is.grown;
    asked = λ c i. is.asked c (was c i);
    unknown = λ c i. is.unknown c (was c i);
    apart = λ c d i j. is.apart c d (was c i) (was d j);
    longer = λ none c i p lt before. absurd (some_none f (fail_none actor (Some f) s none).0);
    answered = is.answered;
    differ = is.differ;
    fresh = is.fresh;
    others = λ c i. is.others c (was c i);
    known = λ none k i. absurd (some_none f (fail_none actor (Some f) s none).0);
    clear = λ none nothing. absurd (some_none f (fail_none actor (Some f) s none).0);
  }
    where
      was : (c : Claimed) → In c (without_places f.places s.claims) → In c s.claims
      was c i = in_without_all f.places s.claims c i

  tidy_takes : (actor wanted : ℕ) (ps : List ℕ) (s t : DeskState) (gained : List KeptAnswer) → Tidy o s gained → ActorTakesAll o.batch actor wanted ps s t → Tidy o t gained
  tidy_takes actor wanted [] s t gained is takes = subst (λ (x : DeskState). Tidy o x gained) (sym takes.0) is
  tidy_takes actor wanted (p ∷ ps) s t gained is takes = tidy_takes actor (wanted - 1) ps (after_take actor p s) t gained (tidy_take o actor p s gained is takes.1 takes.2) takes.3

  tidy_done : (actor : ℕ) (done : Bool) (s : DeskState) (gained : List KeptAnswer) → Tidy o s gained → Tidy o (after_done actor done s) gained
  tidy_done actor false s gained is = is
  tidy_done actor true s gained is = record {
    once = is.once;
    grown = is.grown;
    asked = is.asked;
    unknown = is.unknown;
    apart = is.apart;
    longer = λ none c i p lt before. cover_done o.batch actor true s (word_at_place o.batch p) (is.longer none c i p lt before);
    answered = is.answered;
    differ = is.differ;
    fresh = is.fresh;
    others = is.others;
    known = is.known;
    clear = is.clear;
  }

  pub tidy_makes : (s t : DeskState) (e : Entry Ask Reply) (gained : List KeptAnswer) → Makes o s e t → Tidy o s gained → GoesOn t gained
  tidy_makes s t e gained m is =
      let given = tidy_gives e.actor e.ask.gives.items (failed_places e.ask.failed) s m.given gained is m.may.places m.gives in (
        given.0,
        subst (λ (x : DeskState). Tidy o x (gained ++ given.0)) (sym m.after)
            (tidy_done e.actor e.reply.done m.taken (gained ++ given.0)
            (tidy_takes e.actor e.ask.wanted e.reply.places (after_fail e.actor e.ask.failed m.given) m.taken (gained ++ given.0) (tidy_fail e.actor e.ask.failed m.given (gained ++ given.0) given.1) m.takes)),
      )

  pub tidy_opened : Tidy o (opened o) []
  tidy_opened = record {
    once = tt;
    grown = sym (append-nil o.kept);
    asked = λ c i. absurd i;
    unknown = λ c i known. i;
    apart = λ c d i j other pre. i;
    longer = λ none c i p lt before. absurd i;
    answered = λ k i. absurd i;
    differ = λ i j d before lt. absurd (omega arith);
    fresh = tt;
    others = λ c i w. i;
    known = λ none k i. absurd i;
    clear = λ none nothing. nothing;
  }

  pub tidy_replays : (s t : DeskState) (es : List (Entry Ask Reply)) (gained : List KeptAnswer) → Replays o s es t → Tidy o s gained → GoesOn t gained
  tidy_replays s t [] gained same is =
      ([], subst (λ (l : List KeptAnswer). Tidy o t l) (sym (append-nil gained)) (subst (λ (x : DeskState). Tidy o x gained) (sym same) is))
  tidy_replays s t (e ∷ es) gained r is =
      let here = tidy_makes s r.0 e gained r.1 is in
      let rest = tidy_replays r.0 t es (gained ++ here.0) r.2 here.1 in
      (here.0 ++ rest.0, subst (Tidy o t) (append_assoc gained here.0 rest.0) rest.1)

  -- the answers since the opening
  pub since_opening : (t : DeskState) (es : List (Entry Ask Reply)) → Replays o (opened o) es t → (gained : List KeptAnswer) × Tidy o t gained
  since_opening t es r = tidy_replays (opened o) t es [] r tidy_opened

  pub replays_none : (s t : DeskState) (es : List (Entry Ask Reply)) → Replays o s es t → t.stop ≡ None → s.stop ≡ None
  replays_none s t [] same none = ap (λ (x : DeskState). x.stop) (sym same) ∙ none
  replays_none s t (e ∷ es) r none = makes_none o s r.0 e r.1 (replays_none r.0 t es r.2 none)

  cover_replays : (s t : DeskState) (es : List (Entry Ask Reply)) (w : List ℕ) → Replays o s es t → t.stop ≡ None → IsCovered o.batch s w → IsCovered o.batch t w
  cover_replays s t [] w same none covered = subst (λ (x : DeskState). IsCovered o.batch x w) (sym same) covered
  cover_replays s t (e ∷ es) w r none covered = cover_replays r.0 t es w r.2 none (cover_makes o s r.0 e r.1 (replays_none r.0 t es r.2 none) w covered)

  -- an actor that is told that nothing is left is told so when all is covered
  done_covers : (s t : DeskState) (e : Entry Ask Reply) → Makes o s e t → t.stop ≡ None → e.reply.done ≡ true → (p : ℕ) → p < length o.batch → IsCovered o.batch t (word_at_place o.batch p)
  done_covers s t e m none done p lt =
      let told = m.done.0 done in
      let at : DeskState = after_fail e.actor e.ask.failed m.given in
      let takes : ActorTakesAll o.batch e.actor e.ask.wanted [] at m.taken = subst (λ (ps : List ℕ). ActorTakesAll o.batch e.actor e.ask.wanted ps at m.taken) told.1 m.takes in
      let live : at.stop ≡ None = sym (end_stop o s t e m) ∙ none in
      let all : IsCovered o.batch at (word_at_place o.batch p) =
      ⊎_elim
      (λ (zero_wanted : e.ask.wanted ≡ 0). absurd (omega (arith, told.0, zero_wanted)))
      (λ (nothing : NothingToTake o.batch at). ⊎_elim
      (λ (r : (stop : AskStop) × (at.stop ≡ Some stop)). absurd (some_none r.0 (sym r.1 ∙ live)))
      (λ (covered : (q : ℕ) → q < length o.batch → IsCovered o.batch at (word_at_place o.batch q)). covered p lt)
      nothing)
      takes.1 in
      subst (λ (x : DeskState). IsCovered o.batch x (word_at_place o.batch p)) (sym m.after)
      (cover_done o.batch e.actor e.reply.done m.taken (word_at_place o.batch p) (subst (λ (x : DeskState). IsCovered o.batch x (word_at_place o.batch p)) (sym takes.0) all))

  pub all_covered : (s t : DeskState) (es : List (Entry Ask Reply)) (e : Entry Ask Reply) → Replays o s es t → t.stop ≡ None → In e es → e.reply.done ≡ true → (p : ℕ) → p < length o.batch → IsCovered o.batch t (word_at_place o.batch p)
  all_covered s t [] e r none i done p lt = absurd i
  all_covered s t (f ∷ es) e r none i done p lt =
      ⊎_elim
      (λ (same : e ≡ f). cover_replays r.0 t es (word_at_place o.batch p) r.2 none (done_covers s r.0 f r.1 (replays_none r.0 t es r.2 none) (ap (λ (x : Entry Ask Reply). x.reply.done) (sym same) ∙ done) p lt))
      (λ (j : In e es). all_covered r.0 t es e r.2 none j done p lt)
      i
