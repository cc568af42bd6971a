-- What the parts of an ask leave as it was, and the claims after them.
use Rattle.std.proofs.Common.{◌≡◌, inr, ℕ, ◌-◌, length, ◌+◌, List, [], ◌∷◌, ◌++◌, map, Bool, true, false, ◌==◌, Option, Some, None, refl, ap, sym, ◌∙◌, subst, append_assoc, append-nil, length-append, arith}
use Rattle.lw_words.specs.Word.{IsPrefix}
use Rattle.lw_turn.specs.declared.shared.Entry.{Entry}
use Rattle.lw_desk.specs.Step.{Claimed, DeskState, word_at_place, IsFirstFree, ActorTakesAll, GivesAll, after_take, after_fail, after_done, without_place, without_places}
use Rattle.lw_desk.specs.History.{DeskOpening, Makes, failed_places}
use Rattle.lw_desk.specs.declared.ask.Ask.{Ask}
use Rattle.lw_desk.specs.declared.ask.Reply.{Reply}
use Rattle.lw_desk.specs.declared.ask.Give.{Give}
use Rattle.lw_desk.specs.declared.ask.Failed.{Failed}
use Rattle.lw_names.proofs.Members.{in_contains, is_same, is_other, other_number}
use Rattle.lw_desk.specs.lemmas.ClaimLists.{NotAt, EachOnce, places_of, not_at_of, once_without_all, once_more, gives_up, others_keep, places_more, places_same}

pub prefix_whole : (w : List ℕ) → IsPrefix w w
prefix_whole w = ([], sym (append-nil w))

pub without_both : (ps qs : List ℕ) (cs : List Claimed) → without_places (ps ++ qs) cs ≡ without_places qs (without_places ps cs)
without_both [] qs cs = refl
without_both (p ∷ ps) qs cs = without_both ps qs (without_place p cs)

module _ (batch : List (List ℕ)) (actor : ℕ) where
  pub gives_claims : (gs : List Give) (s t : DeskState) → GivesAll batch actor gs s t → t.claims ≡ without_places (map (λ g. g.place) gs) s.claims
  gives_claims [] s t same = ap (λ (x : DeskState). x.claims) same
  gives_claims (g ∷ gs) s t all = gives_claims gs all.0 t all.2 ∙ ap (λ (x : DeskState). without_places (map (λ (h : Give). h.place) gs) x.claims) all.1.after

  pub gives_ended : (gs : List Give) (s t : DeskState) → GivesAll batch actor gs s t → t.ended ≡ s.ended
  gives_ended [] s t same = ap (λ (x : DeskState). x.ended) same
  gives_ended (g ∷ gs) s t all = gives_ended gs all.0 t all.2 ∙ ap (λ (x : DeskState). x.ended) all.1.after

  -- taking changes claims alone
  pub record OnlyClaims (s t : DeskState) : Type 0 where
    pub naming : t.naming ≡ s.naming
    pub kept : t.kept ≡ s.kept
    pub ended : t.ended ≡ s.ended
    pub stop : t.stop ≡ s.stop

  pub takes_only : (wanted : ℕ) (places : List ℕ) (s t : DeskState) → ActorTakesAll batch actor wanted places s t → OnlyClaims s t
  takes_only wanted [] s t takes = record {
    naming = ap (λ (x : DeskState). x.naming) takes.0;
    kept = ap (λ (x : DeskState). x.kept) takes.0;
    ended = ap (λ (x : DeskState). x.ended) takes.0;
    stop = ap (λ (x : DeskState). x.stop) takes.0;
  }
  takes_only wanted (p ∷ ps) s t takes =
      let r = takes_only (wanted - 1) ps (after_take actor p s) t takes.3 in
      record { naming = r.naming; kept = r.kept; ended = r.ended; stop = r.stop }

  pub takes_own : (wanted : ℕ) (places : List ℕ) (s t : DeskState) → ActorTakesAll batch actor wanted places s t → places_of actor t.claims ≡ places_of actor s.claims ++ places
  takes_own wanted [] s t takes = ap (λ (x : DeskState). places_of actor x.claims) takes.0 ∙ sym (append-nil (places_of actor s.claims))
  takes_own wanted (p ∷ ps) s t takes =
      takes_own (wanted - 1) ps (after_take actor p s) t takes.3
      ∙ (ap (λ (l : List ℕ). l ++ ps) (places_more actor s.claims (record { actor = actor; place = p }) (is_same actor actor refl))
      ∙ append_assoc (places_of actor s.claims) (p ∷ []) ps)

  pub takes_length : (wanted : ℕ) (places : List ℕ) (s t : DeskState) → ActorTakesAll batch actor wanted places s t → length t.claims ≡ length s.claims + length places
  takes_length wanted [] s t takes = omega (arith, ap (λ (x : DeskState). length x.claims) takes.0)
  takes_length wanted (p ∷ ps) s t takes =
      omega (arith, takes_length (wanted - 1) ps (after_take actor p s) t takes.3, length-append s.claims (record { actor = actor; place = p } ∷ []))

  pub takes_other : (other wanted : ℕ) (places : List ℕ) (s t : DeskState) → (actor == other) ≡ false → ActorTakesAll batch actor wanted places s t → places_of other t.claims ≡ places_of other s.claims
  takes_other other wanted [] s t differ takes = ap (λ (x : DeskState). places_of other x.claims) takes.0
  takes_other other wanted (p ∷ ps) s t differ takes =
      takes_other other (wanted - 1) ps (after_take actor p s) t differ takes.3
      ∙ places_same other s.claims (record { actor = actor; place = p }) differ

  -- a free place is nobody's
  pub free_unclaimed : (s : DeskState) (p : ℕ) → IsFirstFree batch s p → NotAt p s.claims
  free_unclaimed s p free = not_at_of p s.claims (λ c i. λ same.
      free.free (inr (c, in_contains c s.claims i, subst (λ (q : ℕ). IsPrefix (word_at_place batch p) (word_at_place batch q)) (sym same) (prefix_whole (word_at_place batch p)))))

  pub takes_once : (wanted : ℕ) (places : List ℕ) (s t : DeskState) → ActorTakesAll batch actor wanted places s t → EachOnce s.claims → EachOnce t.claims
  takes_once wanted [] s t takes once = subst (λ (x : DeskState). EachOnce x.claims) (sym takes.0) once
  takes_once wanted (p ∷ ps) s t takes once =
      takes_once (wanted - 1) ps (after_take actor p s) t takes.3 (once_more s.claims (record { actor = actor; place = p }) once (free_unclaimed s p takes.2))

pub fail_claims : (actor : ℕ) (f : Option Failed) (s : DeskState) → (after_fail actor f s).claims ≡ without_places (failed_places f) s.claims
fail_claims actor None s = refl
fail_claims actor (Some f) s = refl

pub fail_naming : (actor : ℕ) (f : Option Failed) (s : DeskState) → (after_fail actor f s).naming ≡ s.naming
fail_naming actor None s = refl
fail_naming actor (Some f) s = refl

pub fail_kept : (actor : ℕ) (f : Option Failed) (s : DeskState) → (after_fail actor f s).kept ≡ s.kept
fail_kept actor None s = refl
fail_kept actor (Some f) s = refl

pub done_only : (actor : ℕ) (done : Bool) (s : DeskState) → ((after_done actor done s).naming ≡ s.naming) × ((after_done actor done s).kept ≡ s.kept) × ((after_done actor done s).claims ≡ s.claims) × ((after_done actor done s).stop ≡ s.stop)
done_only actor false s = (refl, refl, refl, refl)
done_only actor true s = (refl, refl, refl, refl)

-- an entry
module _ (o : DeskOpening) (s t : DeskState) (e : Entry Ask Reply) (m : Makes o s e t) where
  -- the state between what is settled and what is taken
  abbrev pub between : DeskState
  between = after_fail e.actor e.ask.failed m.given

  pub between_claims : between.claims ≡ without_places (places_of e.actor s.claims) s.claims
  between_claims =
      fail_claims e.actor e.ask.failed m.given
      ∙ (ap (without_places (failed_places e.ask.failed)) (gives_claims o.batch e.actor e.ask.gives.items s m.given m.gives)
      ∙ (sym (without_both (map (λ (g : Give). g.place) e.ask.gives.items) (failed_places e.ask.failed) s.claims)
      ∙ ap (λ (ps : List ℕ). without_places ps s.claims) m.may.places))

  pub end_claims : t.claims ≡ m.taken.claims
  end_claims = ap (λ (x : DeskState). x.claims) m.after ∙ (done_only e.actor e.reply.done m.taken).2

  pub end_naming : t.naming ≡ m.given.naming
  end_naming =
      ap (λ (x : DeskState). x.naming) m.after
      ∙ ((done_only e.actor e.reply.done m.taken).0
      ∙ ((takes_only o.batch e.actor e.ask.wanted e.reply.places between m.taken m.takes).naming ∙ fail_naming e.actor e.ask.failed m.given))

  pub end_kept : t.kept ≡ m.given.kept
  end_kept =
      ap (λ (x : DeskState). x.kept) m.after
      ∙ ((done_only e.actor e.reply.done m.taken).1
      ∙ ((takes_only o.batch e.actor e.ask.wanted e.reply.places between m.taken m.takes).kept ∙ fail_kept e.actor e.ask.failed m.given))

  pub end_stop : t.stop ≡ between.stop
  end_stop =
      ap (λ (x : DeskState). x.stop) m.after
      ∙ ((done_only e.actor e.reply.done m.taken).3 ∙ (takes_only o.batch e.actor e.ask.wanted e.reply.places between m.taken m.takes).stop)

  pub makes_once : EachOnce s.claims → EachOnce t.claims
  makes_once once =
      subst EachOnce (sym end_claims)
      (takes_once o.batch e.actor e.ask.wanted e.reply.places between m.taken m.takes
      (subst EachOnce (sym between_claims) (once_without_all (places_of e.actor s.claims) s.claims once)))

  -- the actor holds the places of the reply, and the others those that they held
  pub makes_own : places_of e.actor t.claims ≡ e.reply.places
  makes_own =
      ap (places_of e.actor) end_claims
      ∙ (takes_own o.batch e.actor e.ask.wanted e.reply.places between m.taken m.takes
      ∙ ap (λ (l : List ℕ). l ++ e.reply.places) (ap (places_of e.actor) between_claims ∙ gives_up e.actor s.claims))

  pub makes_other : (other : ℕ) → (e.actor == other) ≡ false → EachOnce s.claims → places_of other t.claims ≡ places_of other s.claims
  makes_other other differ once =
      ap (places_of other) end_claims
      ∙ (takes_other o.batch e.actor other e.ask.wanted e.reply.places between m.taken differ m.takes
      ∙ (ap (places_of other) between_claims ∙ others_keep e.actor other s.claims once (back other differ)))
    where
      back : (other : ℕ) → (e.actor == other) ≡ false → (other == e.actor) ≡ false
      back other differ = is_other other e.actor (λ same. other_number e.actor other differ (sym same))
