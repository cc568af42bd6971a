-- Where the first stop of a history comes from.
use Rattle.std.proofs.Common.{◌≡◌, ◌⊎◌, inl, inr, ⊎_elim, ℕ, ◌<◌, ◌≤◌, List, [], ◌∷◌, ◌++◌, length, take, Bool, true, false, Option, Some, None, unwrap_or, refl, ap, ap₂, sym, ◌∙◌, subst, subst₂, arith}
use Rattle.std.proofs.lemmas.Bool.{false≢true, cases_lt}
use Rattle.std.proofs.lemmas.List.{map_push, length_push, length-map, take_all, take-append-le}
use Rattle.lw_words.specs.Word.{Answer, answer_at, answer_of, answers_of}
use Rattle.lw_words.specs.declared.kept.KeptAnswer.{KeptAnswer}
use Rattle.lw_words.specs.declared.stop.SulStop.{SulStop}
use Rattle.lw_words.specs.declared.stop.SulStop.TheVariants.{Failed as SulFailed}
use Rattle.lw_words.specs.declared.stop.RunStop.{RunStop}
use Rattle.lw_words.specs.declared.stop.RunStop.TheVariants as Run
use Rattle.lw_cache.specs.Clash.{IsClear, IsClearAfter}
use Rattle.lw_cache.specs.FirstClash.{AreClear, ClashedWhenKept, ClashesFirst, IsNewClash}
use Rattle.lw_cache.specs.declared.stops.Clash.{Clash}
use Rattle.lw_cache.specs.declared.stops.AskStop.{AskStop}
use Rattle.lw_cache.specs.declared.stops.AskStop.TheVariants as Stop
use Rattle.lw_cache.proofs.AnswerLemmas.{at_kept, at_last, clear_kept}
use Rattle.lw_cache.proofs.GrowLemmas.{after_stays}
use Rattle.lw_turn.specs.declared.shared.Entry.{Entry}
use Rattle.lw_names.specs.Naming.{bring}
use Rattle.lw_desk.specs.Step.{DeskState, GivesAll, StopsBy, kept_of, after_fail, first_stop, stop_of}
use Rattle.lw_desk.specs.History.{DeskOpening, opened, Replays}
use Rattle.lw_desk.specs.bodies.Outcome.{StopIs}
use Rattle.lw_desk.specs.declared.ask.Ask.{Ask}
use Rattle.lw_desk.specs.declared.ask.Reply.{Reply}
use Rattle.lw_desk.specs.declared.ask.Give.{Give}
use Rattle.lw_desk.specs.declared.ask.Failed.{Failed}
use Rattle.lw_names.proofs.Members.{In, in_contains}
use Rattle.lw_desk.specs.lemmas.CoverLemmas.{some_none}
use Rattle.lw_desk.specs.lemmas.StepLemmas.{end_stop, end_kept}

-- an answer that clashes with no clear one is clear
clear_last : (ks : List Answer) (k : Answer) → IsClearAfter ks (length ks) k → IsClear (ks ++ k ∷ []) (length ks)
clear_last ks k clear = (
  omega (arith, length_push ks k),
  subst (λ (a : Answer). IsClearAfter (ks ++ k ∷ []) (length ks) a) (sym (at_last ks k)) ((after_stays ks (k ∷ []) (length ks) k (omega arith)).1 clear),
)

abbrev is_sul : AskStop → Bool
is_sul (Stop.Sul i s) = true
is_sul (Stop.Clash c) = false
is_sul Stop.NoMemory = false

abbrev is_clash : AskStop → Bool
is_clash (Stop.Sul i s) = false
is_clash (Stop.Clash c) = true
is_clash Stop.NoMemory = false

abbrev instance_of : AskStop → ℕ
instance_of (Stop.Sul i s) = i
instance_of (Stop.Clash c) = 0
instance_of Stop.NoMemory = 0

abbrev sul_stop_of : AskStop → SulStop
sul_stop_of (Stop.Sul i s) = s
sul_stop_of (Stop.Clash c) = SulFailed
sul_stop_of Stop.NoMemory = SulFailed

some_is : {X : Type 0} (x y : X) → Some x ≡ Some y → x ≡ y
some_is x y e = ap (λ o. unwrap_or o x) e

-- what is given stops no desk for a system
give_sul : (was now : Option AskStop) (ks : List Answer) (k : Answer) (actor : ℕ) (stop : SulStop) → StopsBy was ks k now → now ≡ Some (Stop.Sul actor stop) → was ≡ Some (Stop.Sul actor stop)
give_sul (Some x) now ks k actor stop by is = sym by ∙ is
give_sul None now ks k actor stop by is =
    ⊎_elim
    (λ (r : IsClearAfter ks (length ks) k × (now ≡ None)). absurd (some_none (Stop.Sul actor stop) (sym is ∙ r.1)))
    (λ (r : (clash : Clash) × ClashesFirst ks k clash × (now ≡ Some (Stop.Clash clash))). absurd (false≢true (ap is_sul (some_is (Stop.Clash r.0) (Stop.Sul actor stop) (sym r.2 ∙ is)))))
    by

gives_sul : (batch : List (List ℕ)) (maker : ℕ) (gs : List Give) (s t : DeskState) (actor : ℕ) (stop : SulStop) → GivesAll batch maker gs s t → t.stop ≡ Some (Stop.Sul actor stop) → s.stop ≡ Some (Stop.Sul actor stop)
gives_sul batch maker [] s t actor stop same is = ap (λ (x : DeskState). x.stop) (sym same) ∙ is
gives_sul batch maker (g ∷ gs) s t actor stop gives is =
    give_sul s.stop gives.0.stop (answers_of s.kept) (answer_of (kept_of batch (bring s.naming maker g.names) maker g)) actor stop gives.1.stop (gives_sul batch maker gs gives.0 t actor stop gives.2 is)

abbrev FailedWith : ℕ → Option Failed → ℕ → SulStop → Type 0
FailedWith maker failed actor stop = (maker ≡ actor) × ((f : Failed) × (failed ≡ Some f) × (f.stop ≡ Run.Sul stop))

fail_sul : (maker : ℕ) (failed : Option Failed) (s : DeskState) (actor : ℕ) (stop : SulStop) → (after_fail maker failed s).stop ≡ Some (Stop.Sul actor stop) → (s.stop ≡ Some (Stop.Sul actor stop)) ⊎ FailedWith maker failed actor stop
fail_sul maker None s actor stop is = inl is
fail_sul maker (Some f) s actor stop is = by s.stop refl is
  where
    from_run : (r : RunStop) → f.stop ≡ r → stop_of maker r ≡ Stop.Sul actor stop → (maker ≡ actor) × ((h : Failed) × (Some f ≡ Some h) × (h.stop ≡ Run.Sul stop))
    from_run (Run.Sul x) here same = (ap instance_of same, (f, refl, here ∙ ap (λ (y : SulStop). Run.Sul y) (ap sul_stop_of same)))
    from_run Run.NoMemory here same = absurd (false≢true (ap is_sul same))

    by : (o : Option AskStop) → s.stop ≡ o → first_stop o (stop_of maker f.stop) ≡ Some (Stop.Sul actor stop) → (s.stop ≡ Some (Stop.Sul actor stop)) ⊎ ((maker ≡ actor) × ((h : Failed) × (Some f ≡ Some h) × (h.stop ≡ Run.Sul stop)))
    by None here e = inr (from_run f.stop refl (some_is (stop_of maker f.stop) (Stop.Sul actor stop) e))
    by (Some x) here e = inl (here ∙ e)

module _ (o : DeskOpening) where
  replays_sul : (s t : DeskState) (es : List (Entry Ask Reply)) (actor : ℕ) (stop : SulStop) → Replays o s es t → t.stop ≡ Some (Stop.Sul actor stop) → (s.stop ≡ Some (Stop.Sul actor stop)) ⊎ ((e : Entry Ask Reply) × In e es × FailedWith e.actor e.ask.failed actor stop)
  replays_sul s t [] actor stop same is = inl (ap (λ (x : DeskState). x.stop) (sym same) ∙ is)
  replays_sul s t (e ∷ es) actor stop r is =
      ⊎_elim
      (λ (here : r.0.stop ≡ Some (Stop.Sul actor stop)). ⊎_elim
      (λ (before : r.1.given.stop ≡ Some (Stop.Sul actor stop)). inl (gives_sul o.batch e.actor e.ask.gives.items s r.1.given actor stop r.1.gives before))
      (λ (f : FailedWith e.actor e.ask.failed actor stop). inr (e, inl refl, f))
      (fail_sul e.actor e.ask.failed r.1.given actor stop (sym (end_stop o s r.0 e r.1) ∙ here)))
      (λ (later : (f : Entry Ask Reply) × In f es × FailedWith f.actor f.ask.failed actor stop). inr (later.0, inr later.1, later.2))
      (replays_sul r.0 t es actor stop r.2 is)

  -- a clash that is told is one of an answer that came since
  abbrev CameSince : List KeptAnswer → Clash → Type 0
  CameSince kept c = IsNewClash (length o.kept) kept c

  -- and until a stop all that came are clear
  abbrev ClashIs : List KeptAnswer → Option AskStop → Type 0
  ClashIs kept stop = (length o.kept ≤ length kept) × ((c : Clash) → stop ≡ Some (Stop.Clash c) → CameSince kept c) × (stop ≡ None → AreClear kept (length o.kept) (length kept))

  still_clear : (kept : List KeptAnswer) (k : KeptAnswer) (first end : ℕ) → AreClear kept first end → AreClear (kept ++ k ∷ []) first end
  still_clear kept k first end clear i from below =
      subst (λ (ks : List Answer). IsClear ks i) (sym (map_push answer_of kept k)) (clear_kept (answers_of kept) (answer_of k) i (clear i from below))

  one_clear : (kept : List KeptAnswer) (k : KeptAnswer) (first : ℕ) → IsClearAfter (answers_of kept) (length (answers_of kept)) (answer_of k) → AreClear kept first (length kept) → AreClear (kept ++ k ∷ []) first (length (kept ++ k ∷ []))
  one_clear kept k first new clear i from below =
      ⊎_elim
      (λ (lt : i < length kept). still_clear kept k first (length kept) clear i from lt)
      (λ (le : length kept ≤ i).
      let here : length (answers_of kept) ≡ i = omega (arith, le, below, length_push kept k, length-map kept answer_of) in
      subst (λ (ks : List Answer). IsClear ks i) (sym (map_push answer_of kept k))
      (subst (IsClear (answers_of kept ++ answer_of k ∷ [])) here (clear_last (answers_of kept) (answer_of k) new)))
      (cases_lt i (length kept))

  -- the answers before a place, and the one at it, with one more behind them
  front_stays : (kept : List KeptAnswer) (k : KeptAnswer) (n : ℕ) → n ≤ length kept → take n (kept ++ k ∷ []) ≡ take n kept
  front_stays kept k n le = take-append-le n kept (k ∷ []) le

  answer_stays : (kept : List KeptAnswer) (k : KeptAnswer) (n : ℕ) → n < length kept → answer_at (answers_of (kept ++ k ∷ [])) n ≡ answer_at (answers_of kept) n
  answer_stays kept k n lt = ap (λ (ks : List Answer). answer_at ks n) (map_push answer_of kept k) ∙ at_kept (answers_of kept) (answer_of k) n (omega (arith, lt, length-map kept answer_of))

  came_before : (kept : List KeptAnswer) (k : KeptAnswer) (c : Clash) → ClashedWhenKept kept c → ClashedWhenKept (kept ++ k ∷ []) c
  came_before kept k c was = record {
    within = omega (arith, was.within, length_push kept k);
    came = subst₂ (λ (ks : List KeptAnswer) (a : Answer). ClashesFirst (answers_of ks) a c) (sym (front_stays kept k c.second (omega (arith, was.within)))) (sym (answer_stays kept k c.second was.within)) was.came;
  }

  came_now : (kept : List KeptAnswer) (k : KeptAnswer) (c : Clash) → ClashesFirst (answers_of kept) (answer_of k) c → ClashedWhenKept (kept ++ k ∷ []) c
  came_now kept k c first =
      let here : c.second ≡ length kept = first.second ∙ length-map kept answer_of in
      let last : answer_at (answers_of (kept ++ k ∷ [])) c.second ≡ answer_of k = ap₂ answer_at (map_push answer_of kept k) first.second ∙ at_last (answers_of kept) (answer_of k) in
      let front : take c.second (kept ++ k ∷ []) ≡ kept = front_stays kept k c.second (omega (arith, here)) ∙ take_all c.second kept (omega (arith, here)) in
      record {
        within = omega (arith, here, length_push kept k);
        came = subst₂ (λ (ks : List KeptAnswer) (a : Answer). ClashesFirst (answers_of ks) a c) (sym front) (sym last) first;
      }

  give_clash : (kept : List KeptAnswer) (k : KeptAnswer) (was now : Option AskStop) → StopsBy was (answers_of kept) (answer_of k) now → ClashIs kept was → ClashIs (kept ++ k ∷ []) now
  give_clash kept k was now by is = (omega (arith, is.0, length_push kept k), λ c told. from was by is.1 is.2 c told, λ none. all_clear was by is.2 none)
    where
      clash_in : Option AskStop → Clash → Clash
      clash_in None d = d
      clash_in (Some (Stop.Clash x)) d = x
      clash_in (Some (Stop.Sul i s)) d = d
      clash_in (Some Stop.NoMemory) d = d

      from : (was : Option AskStop) → StopsBy was (answers_of kept) (answer_of k) now → ((c : Clash) → was ≡ Some (Stop.Clash c) → CameSince kept c) → (was ≡ None → AreClear kept (length o.kept) (length kept)) → (c : Clash) → now ≡ Some (Stop.Clash c) → CameSince (kept ++ k ∷ []) c
      from (Some x) b i clear c told = let r : CameSince kept c = i c (sym b ∙ told) in record { new = r.new; came = came_before kept k c r.came; clear = still_clear kept k (length o.kept) c.second r.clear }
      from None b i clear c told =
          ⊎_elim
          (λ (r : IsClearAfter (answers_of kept) (length (answers_of kept)) (answer_of k) × (now ≡ None)). absurd (some_none (Stop.Clash c) (sym told ∙ r.1)))
          (λ (r : (clash : Clash) × ClashesFirst (answers_of kept) (answer_of k) clash × (now ≡ Some (Stop.Clash clash))).
          let first : ClashesFirst (answers_of kept) (answer_of k) c = subst (ClashesFirst (answers_of kept) (answer_of k)) (ap (λ (o : Option AskStop). clash_in o c) (sym r.2 ∙ told)) r.1 in
          let here : length kept ≡ c.second = omega (arith, first.second, length-map kept answer_of) in
          record { new = omega (arith, is.0, here); came = came_now kept k c first; clear = still_clear kept k (length o.kept) c.second (subst (AreClear kept (length o.kept)) here (clear refl)) })
          b

      all_clear : (was : Option AskStop) → StopsBy was (answers_of kept) (answer_of k) now → (was ≡ None → AreClear kept (length o.kept) (length kept)) → now ≡ None → AreClear (kept ++ k ∷ []) (length o.kept) (length (kept ++ k ∷ []))
      all_clear (Some x) b clear none = absurd (some_none x (sym b ∙ none))
      all_clear None b clear none =
          ⊎_elim
          (λ (r : IsClearAfter (answers_of kept) (length (answers_of kept)) (answer_of k) × (now ≡ None)). one_clear kept k (length o.kept) r.0 (clear refl))
          (λ (r : (clash : Clash) × ClashesFirst (answers_of kept) (answer_of k) clash × (now ≡ Some (Stop.Clash clash))). absurd (some_none (Stop.Clash r.0) (sym r.2 ∙ none)))
          b

  gives_clash : (maker : ℕ) (gs : List Give) (s t : DeskState) → GivesAll o.batch maker gs s t → ClashIs s.kept s.stop → ClashIs t.kept t.stop
  gives_clash maker [] s t same is = subst (λ (x : DeskState). ClashIs x.kept x.stop) (sym same) is
  gives_clash maker (g ∷ gs) s t gives is =
      gives_clash maker gs gives.0 t gives.2
      (subst (λ (l : List KeptAnswer). ClashIs l gives.0.stop) (sym (ap (λ (x : DeskState). x.kept) gives.1.after))
      (give_clash s.kept (kept_of o.batch (bring s.naming maker g.names) maker g) s.stop gives.0.stop gives.1.stop is))

  fail_clash : (maker : ℕ) (failed : Option Failed) (s : DeskState) → ClashIs s.kept s.stop → ClashIs s.kept (after_fail maker failed s).stop
  fail_clash maker None s is = is
  fail_clash maker (Some f) s is = by s.stop is
    where
      no_clash : (r : RunStop) (c : Clash) → stop_of maker r ≡ Stop.Clash c → ⊥
      no_clash (Run.Sul x) c e = false≢true (ap is_clash e)
      no_clash Run.NoMemory c e = false≢true (ap is_clash e)

      by : (o : Option AskStop) → ClashIs s.kept o → ClashIs s.kept (first_stop o (stop_of maker f.stop))
      by None i = (i.0, λ c told. absurd (no_clash f.stop c (some_is (stop_of maker f.stop) (Stop.Clash c) told)), λ none. absurd (some_none (stop_of maker f.stop) none))
      by (Some x) i = i

  replays_clash : (s t : DeskState) (es : List (Entry Ask Reply)) → Replays o s es t → ClashIs s.kept s.stop → ClashIs t.kept t.stop
  replays_clash s t [] same is = subst (λ (x : DeskState). ClashIs x.kept x.stop) (sym same) is
  replays_clash s t (e ∷ es) r is =
      let given : ClashIs r.1.given.kept (after_fail e.actor e.ask.failed r.1.given).stop = fail_clash e.actor e.ask.failed r.1.given (gives_clash e.actor e.ask.gives.items s r.1.given r.1.gives is) in
      replays_clash r.0 t es r.2
      (subst (λ (l : List KeptAnswer). ClashIs l r.0.stop) (sym (end_kept o s r.0 e r.1)) (subst (ClashIs r.1.given.kept) (sym (end_stop o s r.0 e r.1)) given))

  pub stop_is : (t : DeskState) (es : List (Entry Ask Reply)) → Replays o (opened o) es t → StopIs o es t
  stop_is t es r = record {
    sul = λ actor stop told. ⊎_elim
        (λ (begun : None ≡ Some (Stop.Sul actor stop)). absurd (some_none (Stop.Sul actor stop) (sym begun)))
        (λ (f : (e : Entry Ask Reply) × In e es × FailedWith e.actor e.ask.failed actor stop). (f.0, in_contains f.0 es f.1, f.2.0, f.2.1))
        (replays_sul (opened o) t es actor stop r told);
    clash = (replays_clash (opened o) t es r (omega arith, λ d begun. absurd (some_none (Stop.Clash d) (sym begun)), λ none i from below. absurd (omega (arith, from, below)))).1;
  }
