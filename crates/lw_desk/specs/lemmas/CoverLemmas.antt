-- What is covered stays covered while nothing stops the desk.
use Rattle.std.proofs.Common.{◌≡◌, inl, inr, ⊎_elim, ℕ, ◌-◌, List, [], ◌∷◌, ◌++◌, length, Contains, Bool, true, false, Option, Some, None, is_some, refl, ap, sym, ◌∙◌, subst, arith, append_assoc}
use Rattle.std.proofs.lemmas.Bool.{true≢false, cases_eq}
use Rattle.std.proofs.lemmas.List.{length-map}
use Rattle.lw_words.specs.Word.{Answer, answer_at, answer_of, answers_of, IsPrefix}
use Rattle.lw_words.specs.declared.kept.KeptAnswer.{KeptAnswer}
use Rattle.lw_cache.specs.Clash.{IsClear, IsClearAfter}
use Rattle.lw_cache.specs.Known.{IsKnown}
use Rattle.lw_cache.specs.declared.stops.AskStop.{AskStop}
use Rattle.lw_cache.proofs.GainLemmas.{known_new, known_stays}
use Rattle.lw_turn.specs.declared.shared.Entry.{Entry}
use Rattle.lw_names.specs.Naming.{bring}
use Rattle.lw_desk.specs.Step.{Claimed, DeskState, word_at_place, IsCovered, ActorTakesAll, ActorGives, GivesAll, StopsBy, kept_of, after_take, after_fail, after_done, without_place, first_stop, stop_of}
use Rattle.lw_desk.specs.History.{DeskOpening, Makes}
use Rattle.lw_desk.specs.declared.ask.Ask.{Ask}
use Rattle.lw_desk.specs.declared.ask.Reply.{Reply}
use Rattle.lw_desk.specs.declared.ask.Give.{Give}
use Rattle.lw_desk.specs.declared.ask.Failed.{Failed}
use Rattle.lw_names.proofs.Members.{In, in_contains, contains_in, in_left, in_right}
use Rattle.lw_desk.specs.lemmas.ClaimLists.{in_without_of}
use Rattle.lw_desk.specs.lemmas.StepLemmas.{prefix_whole, end_stop}

pub some_none : {X : Type 0} (x : X) → Some x ≡ None → ⊥
some_none x e = true≢false (ap is_some e)

pub prefix_of_prefix : (u v w : List ℕ) → IsPrefix u v → IsPrefix v w → IsPrefix u w
prefix_of_prefix u v w p q = (p.0 ++ q.0, q.1 ∙ (ap (λ (l : List ℕ). l ++ q.0) p.1 ∙ append_assoc u p.0 q.0))

prefix_nothing : (u v : List ℕ) → IsPrefix u v → v ≡ [] → u ≡ []
prefix_nothing [] v p e = refl
prefix_nothing (x ∷ u) v p e = absurd (omega (arith, ap (λ (l : List ℕ). length l) (sym p.1 ∙ e)))

pub known_prefix : (ks : List Answer) (u v : List ℕ) → IsPrefix u v → IsKnown ks v → IsKnown ks u
known_prefix ks u v p known =
    ⊎_elim
    (λ (e : v ≡ []). inl (prefix_nothing u v p e))
    (λ (r : (i : ℕ) × IsClear ks i × IsPrefix v (answer_at ks i).word). inr (r.0, r.1, prefix_of_prefix u v (answer_at ks r.0).word p r.2))
    known

-- a desk that isn't stopped wasn't, and the new answer is clear
pub stops_none : (was now : Option AskStop) (ks : List Answer) (k : Answer) → StopsBy was ks k now → now ≡ None → (was ≡ None) × IsClearAfter ks (length ks) k
stops_none (Some stop) now ks k by none = absurd (some_none stop (sym by ∙ none))
stops_none None now ks k by none =
    ⊎_elim
    (λ (r : IsClearAfter ks (length ks) k × (now ≡ None)). (refl, r.0))
    (λ (r : (clash : _) × _ × (now ≡ Some _)). absurd (some_none _ (sym r.2 ∙ none)))
    by

module _ (batch : List (List ℕ)) where
  pub cover_prefix : (s : DeskState) (u v : List ℕ) → IsPrefix u v → IsCovered batch s v → IsCovered batch s u
  cover_prefix s u v p covered =
      ⊎_elim
      (λ (known : IsKnown (answers_of s.kept) v). inl (known_prefix (answers_of s.kept) u v p known))
      (λ (r : (c : Claimed) × Contains s.claims c × IsPrefix v (word_at_place batch c.place)). inr (r.0, r.1, prefix_of_prefix u v (word_at_place batch (r.0).place) p r.2))
      covered

  -- a claim more
  pub cover_take : (actor place : ℕ) (s : DeskState) (w : List ℕ) → IsCovered batch s w → IsCovered batch (after_take actor place s) w
  cover_take actor place s w covered =
      ⊎_elim
      (λ (known : IsKnown (answers_of s.kept) w). inl known)
      (λ (r : (c : Claimed) × Contains s.claims c × IsPrefix w (word_at_place batch c.place)). inr (r.0, in_contains r.0 (s.claims ++ record { actor = actor; place = place } ∷ []) (in_left r.0 s.claims (record { actor = actor; place = place } ∷ []) (contains_in r.0 s.claims r.1)), r.2))
      covered

  pub taken_covered : (actor place : ℕ) (s : DeskState) → IsCovered batch (after_take actor place s) (word_at_place batch place)
  taken_covered actor place s =
      let c : Claimed = record { actor = actor; place = place } in
      inr (c, in_contains c (s.claims ++ c ∷ []) (in_right c s.claims (c ∷ []) (inl refl)), prefix_whole (word_at_place batch place))

  pub cover_takes : (actor wanted : ℕ) (places : List ℕ) (s t : DeskState) (w : List ℕ) → ActorTakesAll batch actor wanted places s t → IsCovered batch s w → IsCovered batch t w
  cover_takes actor wanted [] s t w takes covered = subst (λ (x : DeskState). IsCovered batch x w) (sym takes.0) covered
  cover_takes actor wanted (p ∷ ps) s t w takes covered = cover_takes actor (wanted - 1) ps (after_take actor p s) t w takes.3 (cover_take actor p s w covered)

  -- an answer more, to a claimed word
  module _ (actor : ℕ) (g : Give) (s t : DeskState) (gives : ActorGives batch actor g s t) (none : t.stop ≡ None) where
    abbrev new : KeptAnswer
    new = kept_of batch (bring s.naming actor g.names) actor g

    grown : t.kept ≡ s.kept ++ new ∷ []
    grown = ap (λ (x : DeskState). x.kept) gives.after

    clear : IsClearAfter (answers_of s.kept) (length s.kept) (answer_of new)
    clear = subst (λ (n : ℕ). IsClearAfter (answers_of s.kept) n (answer_of new)) (length-map s.kept answer_of) (stops_none s.stop t.stop (answers_of s.kept) (answer_of new) gives.stop none).1

    pub give_known : IsKnown (answers_of t.kept) (word_at_place batch g.place)
    give_known = subst (λ (l : List KeptAnswer). IsKnown (answers_of l) (word_at_place batch g.place)) (sym grown) (known_new s.kept new clear (length-map s.kept answer_of))

    pub cover_give : (w : List ℕ) → IsCovered batch s w → IsCovered batch t w
    cover_give w covered =
        ⊎_elim
        (λ (known : IsKnown (answers_of s.kept) w). inl (subst (λ (l : List KeptAnswer). IsKnown (answers_of l) w) (sym grown) (known_stays s.kept new w known)))
        (λ (r : (c : Claimed) × Contains s.claims c × IsPrefix w (word_at_place batch c.place)). ⊎_elim
        (λ (same : (r.0).place ≡ g.place). inl (known_prefix (answers_of t.kept) w (word_at_place batch g.place) (subst (λ (p : ℕ). IsPrefix w (word_at_place batch p)) same r.2) give_known))
        (λ (other : (r.0).place ≡ g.place → ⊥).
        let i : In r.0 (without_place g.place s.claims) = in_without_of g.place s.claims r.0 (contains_in r.0 s.claims r.1) other in
        inr (r.0, in_contains r.0 t.claims (subst (In r.0) (sym (ap (λ (x : DeskState). x.claims) gives.after)) i), r.2))
        (cases_eq (r.0).place g.place))
        covered

  pub gives_none : (actor : ℕ) (gs : List Give) (s t : DeskState) → GivesAll batch actor gs s t → t.stop ≡ None → s.stop ≡ None
  gives_none actor [] s t same none = ap (λ (x : DeskState). x.stop) (sym same) ∙ none
  gives_none actor (g ∷ gs) s t gives none =
      let later : gives.0.stop ≡ None = gives_none actor gs gives.0 t gives.2 none in
      (stops_none s.stop gives.0.stop (answers_of s.kept) (answer_of (kept_of batch (bring s.naming actor g.names) actor g)) gives.1.stop later).0

  pub cover_gives : (actor : ℕ) (gs : List Give) (s t : DeskState) (w : List ℕ) → GivesAll batch actor gs s t → t.stop ≡ None → IsCovered batch s w → IsCovered batch t w
  cover_gives actor [] s t w same none covered = subst (λ (x : DeskState). IsCovered batch x w) (sym same) covered
  cover_gives actor (g ∷ gs) s t w gives none covered =
      cover_gives actor gs gives.0 t w gives.2 none (cover_give actor g s gives.0 gives.1 (gives_none actor gs gives.0 t gives.2 none) w covered)

-- who failed stops the desk
pub fail_none : (actor : ℕ) (f : Option Failed) (s : DeskState) → (after_fail actor f s).stop ≡ None → (f ≡ None) × (s.stop ≡ None)
fail_none actor None s none = (refl, none)
fail_none actor (Some f) s none = absurd (by s.stop none)
  where
    by : (o : Option AskStop) → first_stop o (stop_of actor f.stop) ≡ None → ⊥
    by None e = some_none _ e
    by (Some x) e = some_none _ e

pub cover_fail : (batch : List (List ℕ)) (actor : ℕ) (f : Option Failed) (s : DeskState) (w : List ℕ) → f ≡ None → IsCovered batch s w → IsCovered batch (after_fail actor f s) w
cover_fail batch actor None s w e covered = covered
cover_fail batch actor (Some f) s w e covered = absurd (some_none f e)

pub cover_done : (batch : List (List ℕ)) (actor : ℕ) (done : Bool) (s : DeskState) (w : List ℕ) → IsCovered batch s w → IsCovered batch (after_done actor done s) w
cover_done batch actor false s w covered = covered
cover_done batch actor true s w covered = covered

-- an entry
module _ (o : DeskOpening) (s t : DeskState) (e : Entry Ask Reply) (m : Makes o s e t) (none : t.stop ≡ None) where
  failed_none : (e.ask.failed ≡ None) × (m.given.stop ≡ None)
  failed_none = fail_none e.actor e.ask.failed m.given (sym (end_stop o s t e m) ∙ none)

  pub makes_none : s.stop ≡ None
  makes_none = gives_none o.batch e.actor e.ask.gives.items s m.given m.gives failed_none.1

  pub nobody_failed : e.ask.failed ≡ None
  nobody_failed = failed_none.0

  pub cover_between : (w : List ℕ) → IsCovered o.batch s w → IsCovered o.batch (after_fail e.actor e.ask.failed m.given) w
  cover_between w covered = cover_fail o.batch e.actor e.ask.failed m.given w nobody_failed (cover_gives o.batch e.actor e.ask.gives.items s m.given w m.gives failed_none.1 covered)

  pub cover_makes : (w : List ℕ) → IsCovered o.batch s w → IsCovered o.batch t w
  cover_makes w covered =
      subst (λ (x : DeskState). IsCovered o.batch x w) (sym m.after)
      (cover_done o.batch e.actor e.reply.done m.taken w
      (cover_takes o.batch e.actor e.ask.wanted e.reply.places (after_fail e.actor e.ask.failed m.given) m.taken w m.takes (cover_between w covered)))
