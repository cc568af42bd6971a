-- What a batch leaves of a pool.
use Rattle.std.proofs.Common.{◌≡◌, ◌⊎◌, inl, inr, ⊎_elim, ℕ, zero, suc, ◌+◌, ◌<◌, ◌≤◌, ◌==◌, ◌||◌, List, [], ◌∷◌, ◌++◌, length, filter, get_or, take, Contains, All, Bool, true, false, cond, Option, Some, None, is_some, refl, ap, ap₂, sym, ◌∙◌, subst, arith, append_assoc, append-nil, length-append, ◌-◌, drop, unwrap_or, get_or-append-add, option_and_then}
use Rattle.std.proofs.lemmas.Bool.{true≢false, false≢true, cases_lt}
use Rattle.std.proofs.lemmas.List.{get_or_append_left, length-map, get_or-map, take-append-le}
use Rattle.std.proofs.lemmas.List.Elements.{All-append, All-head, All-tail, All-weaker}
use Rattle.lw_words.specs.Word.{answer_of, answers_of, IsAnswer, IsWhole, IsWord, AllDiffer, number_of, name_at, named}
use Rattle.lw_words.specs.declared.kept.KeptAnswer.{KeptAnswer}
use Rattle.lw_words.specs.declared.stop.RunStop.{RunStop}
use Rattle.lw_words.specs.declared.stop.RunStop.TheVariants as Run
use Rattle.lw_mealy.specs.Origin.{Origin}
use Rattle.lw_mealy.specs.Machine.{Rows, answer}
use Rattle.std.proofs.lemmas.Option.{slice_get-get_or}
use Rattle.lw_cache.specs.declared.stops.AskStop.TheVariants as Stop
use Rattle.lw_cache.specs.declared.stops.Clash.{Clash}
use Rattle.lw_names.specs.Names.{IsGrown}
use Rattle.lw_sul.specs.Told.{Answers}
use Rattle.lw_names.proofs.NameLemmas.{number_of-name_at}
use Rattle.lw_sul.specs.declared.runs.Run.{Run}
use Rattle.lw_cache.specs.Asked.{IsAsked}
use Rattle.lw_cache.specs.FirstClash.{IsNewClash}
use Rattle.lw_cache.specs.Known.{IsKnown}
use Rattle.lw_cache.specs.Settling.{KeepsAnswers, IsOf, told_machine}
use Rattle.lw_cache.specs.declared.stops.AskStop.{AskStop}
use Rattle.lw_turn.specs.declared.shared.Entry.{Entry}
use Rattle.lw_turn.specs.History.{entries_of}
use Rattle.lw_names.specs.Naming.{Naming, own_by, own_names, HasLists}
use Rattle.lw_desk.specs.Step.{DeskState, word_at_place}
use Rattle.lw_desk.specs.History.{DeskOpening, opened, Seat, seat_in, seat_after, seat_from, seat_of, actor_of, Replays, names_given, gives_of}
use Rattle.lw_desk.specs.Ending.{NamedRun, kept_runs}
use Rattle.lw_desk.specs.bodies.Outcome.{given_runs, Brought, Settled, FailedBy, StopIs, FreshFrom}
use Rattle.lw_desk.specs.declared.ask.Ask.{Ask}
use Rattle.lw_desk.specs.declared.ask.Reply.{Reply}
use Rattle.lw_desk.specs.declared.ask.Give.{Give}
use Rattle.lw_names.proofs.Members.{In, in_contains, contains_in, in_filter, in_filter_of, in_map, in_mapped, in_right, is_same}
use Rattle.lw_desk.specs.lemmas.ClaimLists.{places_of}
use Rattle.lw_desk.proofs.ComingUp.{free_come_up}
use Rattle.lw_desk.proofs.Endings.{brought, stays_shared, settled, nothing_claimed, nobody_has_failed, names_grew, all_of}
use Rattle.lw_desk.proofs.SeatLemmas.{opened_stands, seat_after_all, replays_stands}
use Rattle.lw_desk.proofs.StopLemmas.{stop_is}
use Rattle.lw_pool.specs.Fitting.{Fits, FitsBy}
use Rattle.lw_pool.specs.Pool.{Seen, WentOn, nobody, seen_at, journal_runs, StandsFor, AskedOnce, IsStopOf, origins_of}
use Rattle.lw_pool.specs.Working.{IsUnanswered, GivesBetween}
use Rattle.lw_pool.specs.bodies.Engaged.{NobodyFailed}
use Rattle.lw_pool.specs.bodies.Crew.{HasWorkedOff}
use Rattle.lw_pool.specs.Standing.{IsPoolMember, IsPool}
use Rattle.lw_pool.proofs.GiveLemmas.{gives_same, gives_stopped, gives_few, gives_live, refused_few, each_given}
use Rattle.lw_pool.proofs.JournalLemmas.{grown_not, grown_both, runs_both, runs_grown, kept_grown, kept_both, runs_given, gives_journal, gives_grown, gives_below, gives_runs}
use Rattle.lw_pool.proofs.WorkLemmas.{gives_names, first_live}

-- an entry of an actor is one of its own
own_entry : (i : ℕ) (e : Entry Ask Reply) (es : List (Entry Ask Reply)) → In e es → e.actor ≡ i → In e (entries_of i es)
own_entry i e [] h own = absurd h
own_entry i e (f ∷ es) h own = by (λ j. own_entry i e es j own) (f.actor == i) refl h
  where
    by : (In e es → In e (entries_of i es)) → (b : Bool) → (f.actor == i) ≡ b → In e (f ∷ es) → In e (cond b (f ∷ entries_of i es) (entries_of i es))
    by rest true same j = ⊎_elim (λ (s : e ≡ f). inl s) (λ (k : In e es). inr (rest k)) j
    by rest false other j =
        ⊎_elim
        (λ (s : e ≡ f). absurd (true≢false (sym (is_same f.actor i (ap (λ (x : Entry Ask Reply). x.actor) (sym s) ∙ own)) ∙ other)))
        (λ (k : In e es). rest k)
        j

of_history : (i : ℕ) (e : Entry Ask Reply) (es : List (Entry Ask Reply)) → In e (entries_of i es) → In e es
of_history i e es h = (in_filter (λ (x : Entry Ask Reply). x.actor == i) e es h).0

-- an actor that has ended without a failure was told that nothing is left
last_done : (seat : Seat) (es : List (Entry Ask Reply)) → (seat_from seat es).ended ≡ true → seat.ended ≡ false → ((e : Entry Ask Reply) → In e es → e.ask.failed ≡ None) → (e : Entry Ask Reply) × In e es × (e.reply.done ≡ true)
last_done seat [] ended going none = absurd (true≢false (sym ended ∙ going))
last_done seat (e ∷ es) ended going none = by (λ still. last_done (seat_after seat e) es ended still (λ f i. none f (inr i))) e.reply.done refl
  where
    no_fail : is_some e.ask.failed ≡ false
    no_fail = ap is_some (none e (inl refl))

    by : ((seat_after seat e).ended ≡ false → (f : Entry Ask Reply) × In f es × (f.reply.done ≡ true)) → (b : Bool) → e.reply.done ≡ b → (f : Entry Ask Reply) × In f (e ∷ es) × (f.reply.done ≡ true)
    by rest true told = (e, inl refl, told)
    by rest false told =
        let r = rest (ap (λ (x : Bool). x || is_some e.ask.failed) told ∙ no_fail) in
        (r.0, inr r.1, r.2)

module _ (o : DeskOpening) (es : List (Entry Ask Reply)) (start now : List Seen) (long : length now ≡ length start) (crew : o.actors ≡ length start) (lists : HasLists o.naming.brought o.actors)
    (worked : (i : ℕ) → i < length start → HasWorkedOff o es i (seen_at start i) (seen_at now i)) (others : (n : ℕ) → length start ≤ n → entries_of n es ≡ []) where
  -- how a worker stands at the end
  seat_end : (t : DeskState) → Replays o (opened o) es t → (i : ℕ) → (lt : i < length start) → seat_in t i ≡ seat_of o (entries_of i es)
  seat_end t r i lt =
      let w : HasWorkedOff o es i (seen_at start i) (seen_at now i) = worked i lt in
      let own : actor_of (entries_of i es) ≡ i = ap actor_of (sym w.mine) ∙ (w.working.own ∙ w.number_is) in
      seat_after_all o (opened o) t es i (opened_stands o lists) r
      ∙ ap (λ (a : ℕ). seat_from (record { held = []; ended = false; own = own_names o.naming a }) (entries_of i es)) (sym own)

  as_seen : (i : ℕ) (lt : i < length start) → seat_of (worked i lt).view.opening (worked i lt).view.mine ≡ seat_of o (entries_of i es)
  as_seen i lt = ap (λ (x : DeskOpening). seat_of x (worked i lt).view.mine) (worked i lt).opening ∙ ap (seat_of o) (worked i lt).mine

  end_held : (t : DeskState) → Replays o (opened o) es t → (i : ℕ) → i < length start → places_of i t.claims ≡ []
  end_held t r i lt = ap (λ (s : Seat). s.held) (seat_end t r i lt ∙ sym (as_seen i lt)) ∙ ((worked i lt).working.held ∙ (worked i lt).idle)

  end_own : (t : DeskState) → Replays o (opened o) es t → (i : ℕ) → i < length start → own_names t.naming i ≡ own_names o.naming i ++ names_given (gives_of (entries_of i es))
  end_own t r i lt =
      let w : HasWorkedOff o es i (seen_at start i) (seen_at now i) = worked i lt in
      ap (λ (s : Seat). s.own) (seat_end t r i lt ∙ sym (as_seen i lt))
      ∙ (w.working.names
      ∙ (ap (λ (x : DeskOpening). own_names x.naming w.view.number ++ names_given (gives_of w.view.mine)) w.opening
      ∙ (ap (λ (n : ℕ). own_names o.naming n ++ names_given (gives_of w.view.mine)) w.number_is
      ∙ ap (λ (l : List (Entry Ask Reply)). own_names o.naming i ++ names_given (gives_of l)) w.mine)))

  pub end_idle : (t : DeskState) → Replays o (opened o) es t → t.claims ≡ []
  end_idle t r = nothing_claimed o t es r (λ i lt. end_held t r i (omega (arith, lt, crew)))

  -- the answers of a worker, as its session gave them
  end_gives : (i : ℕ) (lt : i < length start) → GivesBetween o.batch (seen_at start i) (worked i lt).working.mid (gives_of (entries_of i es))
  end_gives i lt =
      let w : HasWorkedOff o es i (seen_at start i) (seen_at now i) = worked i lt in
      subst (λ (l : List (Entry Ask Reply)). GivesBetween o.batch (seen_at start i) w.working.mid (gives_of l)) w.mine
      (subst (λ (x : DeskOpening). GivesBetween x.batch (seen_at start i) w.working.mid (gives_of w.view.mine)) w.opening w.working.gives)

  end_journal : (i : ℕ) (lt : i < length start) → (seen_at now i).journal ≡ (worked i lt).working.mid.journal
  end_journal i lt =
      ⊎_elim
      (λ (same : seen_at now i ≡ (worked i lt).working.mid). ap (λ (s : Seen). s.journal) same)
      (λ (r : (stop : _) × IsUnanswered (worked i lt).working.mid (seen_at now i) stop × ((worked i lt).reply.places ≡ [])). r.1.journal)
      (worked i lt).working.after

  end_grown : (i : ℕ) (lt : i < length start) → IsGrown (worked i lt).working.mid.names (seen_at now i).names
  end_grown i lt =
      ⊎_elim
      (λ (same : seen_at now i ≡ (worked i lt).working.mid). subst (λ (s : Seen). IsGrown (worked i lt).working.mid.names s.names) (sym same) (grown_not (worked i lt).working.mid.names))
      (λ (r : (stop : _) × IsUnanswered (worked i lt).working.mid (seen_at now i) stop × ((worked i lt).reply.places ≡ [])). r.1.names)
      (worked i lt).working.after

  module _ (prior : List KeptAnswer) (stop0 : Option AskStop) (refused0 : Bool) (inputs outputs : ℕ) (is : IsPool start o.naming prior o.kept stop0 refused0 inputs outputs) (t : DeskState) (r : Replays o (opened o) es t) where
    pub b : Brought o es t
    b = brought o es t r lists is.shared

    member : (i : ℕ) → i < length start → IsPoolMember o.naming inputs outputs i (seen_at start i)
    member i lt = is.members i lt

    -- the names of a session that answered anything are those that the desk has of it
    mid_own : (i : ℕ) (lt : i < length start) → (gives_of (entries_of i es) ≡ []) ⊎ ((worked i lt).working.mid.names ≡ own_names t.naming i)
    mid_own i lt =
        ⊎_elim
        (λ (none : gives_of (entries_of i es) ≡ []). inl none)
        (λ (live : (seen_at start i).stop ≡ None).
        inr (gives_names o.batch (seen_at start i) (worked i lt).working.mid (gives_of (entries_of i es)) (end_gives i lt)
        ∙ (ap (λ (l : List (List ℕ)). l ++ names_given (gives_of (entries_of i es))) ((member i lt).live live) ∙ sym (end_own t r i lt))))
        (first_live o.batch (seen_at start i) (worked i lt).working.mid (gives_of (entries_of i es)) (end_gives i lt))

    own_grown : (i : ℕ) → i < length start → IsGrown (own_names o.naming i) (own_names t.naming i)
    own_grown i lt = (names_given (gives_of (entries_of i es)), end_own t r i lt)

    all_grown : (i : ℕ) (lt : i < length start) → IsGrown (own_names t.naming i) (seen_at now i).names
    all_grown i lt =
        ⊎_elim
        (λ (none : gives_of (entries_of i es) ≡ []).
        let same : own_names t.naming i ≡ own_names o.naming i = end_own t r i lt ∙ (ap (λ (gs : List Give). own_names o.naming i ++ names_given gs) none ∙ append-nil (own_names o.naming i)) in
        subst (λ (l : List (List ℕ)). IsGrown l (seen_at now i).names) (sym same)
        (grown_both (own_names o.naming i) (seen_at start i).names (seen_at now i).names (member i lt).grown
        (grown_both (seen_at start i).names (worked i lt).working.mid.names (seen_at now i).names (gives_grown o.batch (seen_at start i) (worked i lt).working.mid (gives_of (entries_of i es)) (end_gives i lt)) (end_grown i lt))))
        (λ (own : (worked i lt).working.mid.names ≡ own_names t.naming i). subst (λ (l : List (List ℕ)). IsGrown l (seen_at now i).names) own (end_grown i lt))
        (mid_own i lt)

    journal_end : (i : ℕ) (lt : i < length start) → (seen_at now i).journal ≡ (seen_at start i).journal ++ runs_given o.batch (gives_of (entries_of i es))
    journal_end i lt = end_journal i lt ∙ gives_journal o.batch (seen_at start i) (worked i lt).working.mid (gives_of (entries_of i es)) (end_gives i lt)

    -- the new runs by the desk's names and by the system's
    new_runs : (i : ℕ) (lt : i < length start) → given_runs o.batch (own_names t.naming i) (gives_of (entries_of i es)) ≡ journal_runs (seen_at now i).names (length (seen_at start i).journal) (runs_given o.batch (gives_of (entries_of i es)))
    new_runs i lt =
        ⊎_elim
        (λ (none : gives_of (entries_of i es) ≡ []). subst (λ (gs : List Give). given_runs o.batch (own_names t.naming i) gs ≡ journal_runs (seen_at now i).names (length (seen_at start i).journal) (runs_given o.batch gs)) (sym none) refl)
        (λ (own : (worked i lt).working.mid.names ≡ own_names t.naming i).
        gives_runs o.batch (seen_at start i) (worked i lt).working.mid (gives_of (entries_of i es)) (own_names t.naming i) (seen_at now i).names (end_gives i lt)
        (subst (IsGrown (worked i lt).working.mid.names) own (grown_not (worked i lt).working.mid.names)) (end_grown i lt))
        (mid_own i lt)

    new_below : (i : ℕ) (lt : i < length start) → All (λ x. All (λ y. y < length (own_names t.naming i)) x.outs) (runs_given o.batch (gives_of (entries_of i es)))
    new_below i lt =
        ⊎_elim
        (λ (none : gives_of (entries_of i es) ≡ []). subst (λ (gs : List Give). All (λ x. All (λ y. y < length (own_names t.naming i)) x.outs) (runs_given o.batch gs)) (sym none) (λ k d le. absurd (omega arith)))
        (λ (own : (worked i lt).working.mid.names ≡ own_names t.naming i). subst (λ (l : List (List ℕ)). All (λ x. All (λ y. y < length l) x.outs) (runs_given o.batch (gives_of (entries_of i es)))) own
        (gives_below o.batch (seen_at start i) (worked i lt).working.mid (gives_of (entries_of i es)) (end_gives i lt)))
        (mid_own i lt)

    longer_list : (xs ys : List (List ℕ)) → IsGrown xs ys → length xs ≤ length ys
    longer_list xs ys g = omega (arith, ap (λ (l : List (List ℕ)). length l) g.1, length-append xs g.0)

    old_below : (i : ℕ) (lt : i < length start) → All (λ x. All (λ y. y < length (own_names t.naming i)) x.outs) (seen_at start i).journal
    old_below i lt =
        All-weaker (λ (x : Run). All (λ y. y < length (own_names o.naming i)) x.outs) (λ (x : Run). All (λ y. y < length (own_names t.naming i)) x.outs)
        (λ x all. All-weaker (λ y. y < length (own_names o.naming i)) (λ y. y < length (own_names t.naming i)) (λ y le. omega (arith, le, longer_list (own_names o.naming i) (own_names t.naming i) (own_grown i lt))) x.outs all)
        (seen_at start i).journal (member i lt).journal

    journal_below : (i : ℕ) (lt : i < length start) → All (λ x. All (λ y. y < length (own_names t.naming i)) x.outs) (seen_at now i).journal
    journal_below i lt = subst (All (λ (x : Run). All (λ y. y < length (own_names t.naming i)) x.outs)) (sym (journal_end i lt)) (All-append (λ (x : Run). All (λ y. y < length (own_names t.naming i)) x.outs) (seen_at start i).journal (runs_given o.batch (gives_of (entries_of i es))) (old_below i lt) (new_below i lt))

    -- the kept answers stand for the journals again
    runs_end : (i : ℕ) (lt : i < length start) → kept_runs t.naming.names i (is.stands.since ++ b.gained) ≡ journal_runs (seen_at now i).names 0 (seen_at now i).journal
    runs_end i lt =
        let names : IsGrown o.naming.names t.naming.names = names_grew o (opened o) t es r in
        let since_below : All (λ k. All (λ y. y < length o.naming.names) k.outs) is.stands.since = all_of (λ k. All (λ y. y < length o.naming.names) k.outs) is.stands.since (λ k j.
        let c = in_contains k o.kept (subst (In k) (sym is.stands.first) (in_right k prior is.stands.since j)) in
        subst (λ (x : KeptAnswer). All (λ y. y < length o.naming.names) x.outs) c.2 (is.below c.0 k c.1)) in
        let old_names : IsGrown (seen_at start i).names (seen_at now i).names = grown_both (seen_at start i).names (worked i lt).working.mid.names (seen_at now i).names (gives_grown o.batch (seen_at start i) (worked i lt).working.mid (gives_of (entries_of i es)) (end_gives i lt)) (end_grown i lt) in
        let start_below : All (λ x. All (λ y. y < length (seen_at start i).names) x.outs) (seen_at start i).journal =
        All-weaker (λ (x : Run). All (λ y. y < length (own_names o.naming i)) x.outs) (λ (x : Run). All (λ y. y < length (seen_at start i).names) x.outs)
        (λ x all. All-weaker (λ y. y < length (own_names o.naming i)) (λ y. y < length (seen_at start i).names) (λ y le. omega (arith, le, longer_list (own_names o.naming i) (seen_at start i).names (member i lt).grown)) x.outs all)
        (seen_at start i).journal (member i lt).journal in
        let old : kept_runs t.naming.names i is.stands.since ≡ journal_runs (seen_at now i).names 0 (seen_at start i).journal =
        kept_grown o.naming.names t.naming.names i is.stands.since names since_below
        ∙ (is.stands.runs i lt ∙ sym (runs_grown (seen_at start i).names (seen_at now i).names 0 (seen_at start i).journal old_names start_below)) in
        let new : kept_runs t.naming.names i b.gained ≡ journal_runs (seen_at now i).names (length (seen_at start i).journal) (runs_given o.batch (gives_of (entries_of i es))) = b.runs i ∙ new_runs i lt in
        kept_both t.naming.names i is.stands.since b.gained
        ∙ (ap (λ (l : List NamedRun). l ++ kept_runs t.naming.names i b.gained) old
        ∙ (ap (λ (l : List NamedRun). journal_runs (seen_at now i).names 0 (seen_at start i).journal ++ l) (new ∙ ap (λ (n : ℕ). journal_runs (seen_at now i).names n (runs_given o.batch (gives_of (entries_of i es)))) (zero_plus (length (seen_at start i).journal)))
        ∙ (sym (runs_both (seen_at now i).names 0 (seen_at start i).journal (runs_given o.batch (gives_of (entries_of i es))))
        ∙ ap (journal_runs (seen_at now i).names 0) (sym (journal_end i lt)))))
      where
        zero_plus : (n : ℕ) → n ≡ 0 + n
        zero_plus n = omega arith

    pub stands_end : StandsFor t.naming prior t.kept now
    stands_end = record {
      since = is.stands.since ++ b.gained;
      first = b.at_end ∙ (ap (λ (l : List KeptAnswer). l ++ b.gained) is.stands.first ∙ append_assoc prior is.stands.since b.gained);
      instances = subst (λ (n : ℕ). All (λ k. k.instance < n) (is.stands.since ++ b.gained)) (sym long) (All-append (λ k. k.instance < length start) is.stands.since b.gained is.stands.instances (subst (λ (n : ℕ). All (λ k. k.instance < n) b.gained) crew b.actors));
      runs = λ i lt. runs_end i (omega (arith, lt, long));
    }

    -- the names of a live session
    live_end : (i : ℕ) (lt : i < length start) → (seen_at now i).stop ≡ None → (seen_at now i).names ≡ own_names t.naming i
    live_end i lt none =
        ⊎_elim
        (λ (same : seen_at now i ≡ (worked i lt).working.mid). ap (λ (s : Seen). s.names) same ∙ from_mid (ap (λ (s : Seen). s.stop) (sym same) ∙ none))
        (λ (x : (stop : RunStop) × IsUnanswered (worked i lt).working.mid (seen_at now i) stop × ((worked i lt).reply.places ≡ [])). by x.0 x.1)
        (worked i lt).working.after
      where
        from_mid : (worked i lt).working.mid.stop ≡ None → (worked i lt).working.mid.names ≡ own_names t.naming i
        from_mid live =
            ⊎_elim
            (λ (nothing : gives_of (entries_of i es) ≡ []).
            let same : (worked i lt).working.mid ≡ seen_at start i = subst (GivesBetween o.batch (seen_at start i) (worked i lt).working.mid) nothing (end_gives i lt) in
            ap (λ (s : Seen). s.names) same
            ∙ ((member i lt).live (ap (λ (s : Seen). s.stop) (sym same) ∙ live)
            ∙ sym (end_own t r i lt ∙ (ap (λ (gs : List Give). own_names o.naming i ++ names_given gs) nothing ∙ append-nil (own_names o.naming i)))))
            (λ (own : (worked i lt).working.mid.names ≡ own_names t.naming i). own)
            (mid_own i lt)

        by : (stop : RunStop) → IsUnanswered (worked i lt).working.mid (seen_at now i) stop → (seen_at now i).names ≡ own_names t.naming i
        by (Run.Sul s) refused = absurd (false≢true (ap is_some (sym none ∙ refused.sul s refl)))
        by Run.NoMemory refused =
            let same : seen_at now i ≡ (worked i lt).working.mid = refused.memory refl in
            ap (λ (s : Seen). s.names) same ∙ from_mid (ap (λ (s : Seen). s.stop) (sym same) ∙ none)

    pub kinds : is_some t.naming.brought ≡ is_some o.naming.brought
    kinds = (replays_stands o (opened o) t es (opened_stands o lists) r).kind

    lists_end : HasLists t.naming.brought (length now)
    lists_end = subst (HasLists t.naming.brought) (crew ∙ sym long) (replays_stands o (opened o) t es (opened_stands o lists) r).lists

    -- a system of declared names still has just these
    fits_end : (i : ℕ) (lt : i < length start) → Fits t.naming (seen_at now i).names (seen_at now i).most (seen_at now i).outputs (seen_at now i).origin.machine
    fits_end i lt = by o.naming.brought refl t.naming.brought refl (member i lt).fits
      where
        by : (a : Option (List (List (List ℕ)))) → o.naming.brought ≡ a → (c : Option (List (List (List ℕ)))) → t.naming.brought ≡ c → FitsBy a o.naming.names (seen_at start i).names (seen_at start i).most (seen_at start i).outputs (seen_at start i).origin.machine
            → FitsBy c t.naming.names (seen_at now i).names (seen_at now i).most (seen_at now i).outputs (seen_at now i).origin.machine
        by None e (Some y) g fits = absurd (true≢false (ap is_some (sym g) ∙ (kinds ∙ ap is_some e)))
        by (Some x) e None g fits = absurd (false≢true (ap is_some (sym g) ∙ (kinds ∙ ap is_some e)))
        by (Some x) e (Some y) g fits = (
          (worked i lt).same.outputs ∙ fits.0,
          omega (arith, (worked i lt).same.most, fits.1),
          ap (λ (z : Origin). z.machine) (worked i lt).same.origin ∙ fits.2,
        )
        by None e None g fits =
            let le : (seen_at start i).most ≤ length (seen_at start i).names = omega (arith, fits.1, ap (λ (l : List (List ℕ)). length l) fits.0) in
            let mid : (worked i lt).working.mid.names ≡ (seen_at start i).names = gives_few o.batch (seen_at start i) (worked i lt).working.mid (gives_of (entries_of i es)) (end_gives i lt) le in
            let mid_le : (worked i lt).working.mid.most ≤ length (worked i lt).working.mid.names = omega (arith, le, (gives_same o.batch (seen_at start i) (worked i lt).working.mid (gives_of (entries_of i es)) (end_gives i lt)).most, ap (λ (l : List (List ℕ)). length l) mid) in
            let names : (seen_at now i).names ≡ (seen_at start i).names =
            ⊎_elim
            (λ (same : seen_at now i ≡ (worked i lt).working.mid). ap (λ (s : Seen). s.names) same ∙ mid)
            (λ (x : (stop : RunStop) × IsUnanswered (worked i lt).working.mid (seen_at now i) stop × ((worked i lt).reply.places ≡ [])). refused_few (worked i lt).working.mid (seen_at now i) x.0 x.1 mid_le ∙ mid)
            (worked i lt).working.after in
            let given : names_given (gives_of (entries_of i es)) ≡ [] = append_nothing (seen_at start i).names (names_given (gives_of (entries_of i es))) (sym (gives_names o.batch (seen_at start i) (worked i lt).working.mid (gives_of (entries_of i es)) (end_gives i lt)) ∙ mid) in
            let shared : t.naming.names ≡ o.naming.names =
            sym (ap (λ (k : Option (List (List (List ℕ)))). own_by t.naming.names k i) g)
            ∙ (end_own t r i lt
            ∙ (ap (λ (l : List (List ℕ)). own_names o.naming i ++ l) given
            ∙ (append-nil (own_names o.naming i) ∙ ap (λ (k : Option (List (List (List ℕ)))). own_by o.naming.names k i) e))) in (
              names ∙ (fits.0 ∙ sym shared),
              (worked i lt).same.most ∙ (fits.1 ∙ ap (λ (l : List (List ℕ)). length l) (sym shared)),
              (worked i lt).same.outputs ∙ (fits.2 ∙ ap (λ (l : List (List ℕ)). length l) (sym shared)),
            )
          where
            append_nothing : (xs ys : List (List ℕ)) → xs ++ ys ≡ xs → ys ≡ []
            append_nothing xs [] same = refl
            append_nothing xs (y ∷ ys) same = absurd (omega (arith, ap (λ (l : List (List ℕ)). length l) same, length-append xs (y ∷ ys)))

    member_end : (i : ℕ) → i < length now → IsPoolMember t.naming inputs outputs i (seen_at now i)
    member_end i within =
        let lt : i < length start = omega (arith, within, long) in
        record {
          instance = (worked i lt).same.instance ∙ (member i lt).instance;
          inputs_is = (worked i lt).same.inputs ∙ (member i lt).inputs_is;
          outputs_is = (worked i lt).same.outputs ∙ (member i lt).outputs_is;
          fits = fits_end i lt;
          grown = all_grown i lt;
          live = live_end i lt;
          journal = journal_below i lt;
        }

    below_end : All (λ k. All (λ y. y < length t.naming.names) k.outs) t.kept
    below_end =
        let names : IsGrown o.naming.names t.naming.names = names_grew o (opened o) t es r in
        subst (All (λ (k : KeptAnswer). All (λ y. y < length t.naming.names) k.outs)) (sym b.at_end)
        (All-append (λ (k : KeptAnswer). All (λ y. y < length t.naming.names) k.outs) o.kept b.gained
        (All-weaker (λ (k : KeptAnswer). All (λ y. y < length o.naming.names) k.outs) (λ (k : KeptAnswer). All (λ y. y < length t.naming.names) k.outs)
        (λ k all. All-weaker (λ y. y < length o.naming.names) (λ y. y < length t.naming.names) (λ y le. omega (arith, le, longer_list o.naming.names t.naming.names names)) k.outs all) o.kept is.below)
        b.below)

    -- why the desk was stopped
    why_end : IsStopOf now t.kept t.stop
    why_end = by t.stop refl
      where
        told : StopIs o es t
        told = stop_is o t es r

        by : (stop : Option AskStop) → t.stop ≡ stop → IsStopOf now t.kept stop
        by None e = tt
        by (Some (Stop.Sul i stop)) e =
            let f : FailedBy es i stop = told.sul i stop e in
            let entry : In f.0 (entries_of i es) = own_entry i f.0 es (contains_in f.0 es f.1) f.2 in
            let lt : i < length start = within i f.0 entry in
            let w : HasWorkedOff o es i (seen_at start i) (seen_at now i) = worked i lt in
            let c : Contains w.view.mine f.0 = in_contains f.0 w.view.mine (subst (In f.0) (sym w.mine) entry) in
            (omega (arith, lt, long), w.working.failed f.0 f.3.0 stop c f.3.1 f.3.2)
          where
            within : (i : ℕ) (x : Entry Ask Reply) → In x (entries_of i es) → i < length start
            within i x j = ⊎_elim (λ (lt : i < length start). lt) (λ (le : length start ≤ i). absurd (subst (In x) (others i le) j)) (cases_lt i (length start))
        by (Some (Stop.Clash c)) e = (told.clash c e).came
        by (Some Stop.NoMemory) e = tt

    pub clash_end : (c : Clash) → t.stop ≡ Some (Stop.Clash c) → IsNewClash (length o.kept) t.kept c
    clash_end c e = (stop_is o t es r).clash c e

    -- the names, and how each session went on
    pub names_end : IsGrown o.naming.names t.naming.names
    names_end = names_grew o (opened o) t es r

    pub declared_end : o.naming.brought ≡ None → t.naming ≡ o.naming
    declared_end none = ap₂ (λ (names : List (List ℕ)) (b : Option (List (List (List ℕ)))). let n : Naming = record { names = names; brought = b } in n) (by t.naming.brought refl (fits_end 0 is.some) o.naming.brought refl (member 0 is.some).fits) (kind t.naming.brought refl ∙ sym none)
      where
        kind : (b : Option (List (List (List ℕ)))) → t.naming.brought ≡ b → t.naming.brought ≡ None
        kind None e = e
        kind (Some x) e = absurd (false≢true (ap is_some (sym none) ∙ (sym kinds ∙ ap is_some e)))

        no_more_names : (xs ys : List (List ℕ)) → IsGrown xs ys → length ys ≤ length xs → ys ≡ xs
        no_more_names xs ys g le = g.1 ∙ (ap (λ (l : List (List ℕ)). xs ++ l) (nothing g.0 (omega (arith, le, ap (λ (l : List (List ℕ)). length l) g.1, length-append xs g.0))) ∙ append-nil xs)
          where
            nothing : (l : List (List ℕ)) → length l ≤ 0 → l ≡ []
            nothing [] few = refl
            nothing (x ∷ l) few = absurd (omega (arith, few))

        by : (c : Option (List (List (List ℕ)))) → t.naming.brought ≡ c → FitsBy c t.naming.names (seen_at now 0).names (seen_at now 0).most (seen_at now 0).outputs (seen_at now 0).origin.machine → (a : Option (List (List (List ℕ)))) → o.naming.brought ≡ a → FitsBy a o.naming.names (seen_at start 0).names (seen_at start 0).most (seen_at start 0).outputs (seen_at start 0).origin.machine → t.naming.names ≡ o.naming.names
        by c f ends (Some x) e begins = absurd (false≢true (ap is_some (sym none) ∙ ap is_some e))
        by (Some y) f ends None e begins = absurd (false≢true (ap is_some (sym (kind t.naming.brought refl)) ∙ ap is_some f))
        by None f ends None e begins = no_more_names o.naming.names t.naming.names names_end (omega (arith, ends.1, begins.1, (worked 0 is.some).same.most))

    pub went_on_end : (i : ℕ) → i < length start → WentOn (seen_at start i) (seen_at now i)
    went_on_end i lt = record {
      same = (worked i lt).same;
      more = runs_given o.batch (gives_of (entries_of i es));
      journal = journal_end i lt;
      names = grown_both (seen_at start i).names (worked i lt).working.mid.names (seen_at now i).names (gives_grown o.batch (seen_at start i) (worked i lt).working.mid (gives_of (entries_of i es)) (end_gives i lt)) (end_grown i lt);
      stopped = λ x told.
          let still : (worked i lt).working.mid ≡ seen_at start i = gives_stopped o.batch (seen_at start i) (worked i lt).working.mid (gives_of (entries_of i es)) x told (end_gives i lt) in
          ⊎_elim
          (λ (same : seen_at now i ≡ (worked i lt).working.mid). same)
          (λ (f : (stop : RunStop) × IsUnanswered (worked i lt).working.mid (seen_at now i) stop × ((worked i lt).reply.places ≡ [])). f.1.again x (ap (λ (s : Seen). s.stop) still ∙ told))
          (worked i lt).working.after
          ∙ still;
    }

    -- no word was known before its answer came
    fresh_at : (kept gained : List KeptAnswer) (j : ℕ) (d : KeptAnswer) → FreshFrom kept gained → j < length gained → IsKnown (answers_of (kept ++ take j gained)) (get_or gained j d).word → ⊥
    fresh_at kept [] j d fresh lt = absurd (omega arith)
    fresh_at kept (k ∷ gained) zero d fresh lt = λ known. fresh.0 (subst (λ (l : List KeptAnswer). IsKnown (answers_of l) k.word) (append-nil kept) known)
    fresh_at kept (k ∷ gained) (suc j) d fresh lt = λ known. fresh_at (kept ++ k ∷ []) gained j d fresh.1 (omega arith) (subst (λ (l : List KeptAnswer). IsKnown (answers_of l) (get_or gained j d).word) (sym (append_assoc kept (k ∷ []) (take j gained))) known)

    once_end : AskedOnce prior t.kept
    once_end i d from within = subst (λ (l : List KeptAnswer). IsKnown (answers_of (take i l)) (get_or l i d).word → ⊥) (sym b.at_end) (by (cases_lt i (length o.kept)))
      where
        many : i < length o.kept + length b.gained
        many = omega (arith, within, ap (λ (l : List KeptAnswer). length l) b.at_end, length-append o.kept b.gained)

        by : (i < length o.kept) ⊎ (length o.kept ≤ i) → IsKnown (answers_of (take i (o.kept ++ b.gained))) (get_or (o.kept ++ b.gained) i d).word → ⊥
        by (inl lt) = λ known. is.once i d from lt (subst (λ (l : List KeptAnswer). IsKnown (answers_of l) (get_or o.kept i d).word) (take-append-le i o.kept b.gained (omega arith)) (subst (λ (k : KeptAnswer). IsKnown (answers_of (take i (o.kept ++ b.gained))) k.word) (get_or_append_left o.kept b.gained d i lt) known))
        by (inr le) = λ known.
            let j : ℕ = i - length o.kept in
            let same : length o.kept + j ≡ i = omega (arith, le) in
            let at : get_or (o.kept ++ b.gained) i d ≡ get_or b.gained j d = ap (λ (n : ℕ). get_or (o.kept ++ b.gained) n d) (sym same) ∙ get_or-append-add o.kept b.gained j d in
            let front : take i (o.kept ++ b.gained) ≡ o.kept ++ take j b.gained = ap (λ (n : ℕ). take n (o.kept ++ b.gained)) (sym same) ∙ take_over o.kept b.gained j in
            fresh_at o.kept b.gained j d b.fresh (omega (arith, many, same))
            (subst (λ (l : List KeptAnswer). IsKnown (answers_of l) (get_or b.gained j d).word) front (subst (λ (k : KeptAnswer). IsKnown (answers_of (take i (o.kept ++ b.gained))) k.word) at known))
          where
            take_over : (xs ys : List KeptAnswer) (n : ℕ) → take (length xs + n) (xs ++ ys) ≡ xs ++ take n ys
            take_over [] ys n = ap (λ (k : ℕ). take k ys) (omega arith)
            take_over (x ∷ xs) ys n =
                let e : length (x ∷ xs) + n ≡ suc (length xs + n) = omega arith in
                ap (λ (k : ℕ). take k (x ∷ (xs ++ ys))) e ∙ ap (λ (l : List KeptAnswer). x ∷ l) (take_over xs ys n)

    -- a kept answer of a told machine is the machine's
    named_once : (names : List (List ℕ)) (xs ys : List ℕ) → AllDiffer names → All (λ y. y < length names) xs → All (λ y. y < length names) ys → named names xs ≡ named names ys → xs ≡ ys
    named_once names [] [] differ below within same = refl
    named_once names [] (y ∷ ys) differ below within same = absurd (omega (arith, ap (λ (l : List (List ℕ)). length l) same))
    named_once names (x ∷ xs) [] differ below within same = absurd (omega (arith, ap (λ (l : List (List ℕ)). length l) same))
    named_once names (x ∷ xs) (y ∷ ys) differ below within same =
        let x_below : x < length names = All-head (λ y. y < length names) x xs below in
        let y_below : y < length names = All-head (λ y. y < length names) y ys within in
        let names_same : name_at names x ≡ name_at names y = ap (λ (l : List (List ℕ)). get_or l 0 []) same in
        let numbers : Some x ≡ Some y = sym (number_of-name_at names x differ x_below) ∙ (ap (λ (n : List ℕ). number_of n names) names_same ∙ number_of-name_at names y differ y_below) in
        let head : x ≡ y = ap (λ (z : Option ℕ). unwrap_or z x) numbers in
        ap (λ (n : ℕ). n ∷ xs) head ∙ ap (λ (l : List ℕ). y ∷ l) (named_once names xs ys differ (All-tail (λ y. y < length names) x xs below) (All-tail (λ y. y < length names) y ys within) (ap (drop 1) same))

    same_list : (xs ys : List Origin) (d : Origin) → length xs ≡ length ys → ((i : ℕ) → i < length xs → get_or xs i d ≡ get_or ys i d) → xs ≡ ys
    same_list [] [] d size each = refl
    same_list [] (y ∷ ys) d size each = absurd (omega (arith, size))
    same_list (x ∷ xs) [] d size each = absurd (omega (arith, size))
    same_list (x ∷ xs) (y ∷ ys) d size each = ap (λ (o : Origin). o ∷ xs) (each 0 (omega arith)) ∙ ap (λ (l : List Origin). y ∷ l) (same_list xs ys d (omega (arith, size)) (λ i lt. each (suc i) (omega arith)))

    pub origins_end : origins_of now ≡ origins_of start
    origins_end = same_list (origins_of now) (origins_of start) (nobody.origin) (length-map now (λ (s : Seen). s.origin) ∙ (long ∙ sym (length-map start (λ (s : Seen). s.origin))))
        (λ i lt.
        let within : i < length now = omega (arith, lt, length-map now (λ (s : Seen). s.origin)) in
        let before : i < length start = omega (arith, within, long) in
        get_or-map (λ (s : Seen). s.origin) now i (nobody) (nobody.origin) within
        ∙ ((worked i before).same.origin ∙ sym (get_or-map (λ (s : Seen). s.origin) start i (nobody) (nobody.origin) before)))

    told_at : (i : ℕ) → i < length start → told_machine (origins_of start) i ≡ (seen_at start i).origin.machine
    told_at i lt =
        let within : i < length (origins_of start) = omega (arith, lt, length-map start (λ (s : Seen). s.origin)) in
        ap (λ (x : Option Origin). option_and_then (λ (o : Origin). o.machine) x) (slice_get-get_or (origins_of start) i (nobody.origin) within)
        ∙ ap (λ (o : Origin). o.machine) (get_or-map (λ (s : Seen). s.origin) start i (nobody) (nobody.origin) lt)

    -- a new answer is one that its instance's session gave
    gave : (k : KeptAnswer) → In k b.gained → (i : ℕ) → k.instance ≡ i → (g : Give) × In g (gives_of (entries_of i es)) × (word_at_place o.batch g.place ≡ k.word) × (named (own_names t.naming i) g.outs ≡ named t.naming.names k.outs)
    gave k j i own =
        let here : In k (filter (λ (x : KeptAnswer). x.instance == i) b.gained) = in_filter_of (λ (x : KeptAnswer). x.instance == i) k b.gained j (is_same k.instance i own) in
        let run : In (run_told k) (kept_runs t.naming.names i b.gained) = in_map (λ (x : KeptAnswer). run_told x) k (filter (λ (x : KeptAnswer). x.instance == i) b.gained) here in
        let given : In (run_told k) (given_runs o.batch (own_names t.naming i) (gives_of (entries_of i es))) = subst (In (run_told k)) (b.runs i) run in
        let g = in_mapped (λ (x : Give). let n : NamedRun = record { run = x.run; word = word_at_place o.batch x.place; names = named (own_names t.naming i) x.outs } in n) (run_told k) (gives_of (entries_of i es)) given in
        (g.0, g.1, ap (λ (n : NamedRun). n.word) g.2, ap (λ (n : NamedRun). n.names) g.2)
      where
        run_told : KeptAnswer → NamedRun
        run_told x = record { run = x.run; word = x.word; names = named t.naming.names x.outs }

    told_end : AllDiffer t.naming.names → (k : KeptAnswer) → In k b.gained → IsOf (told_machine (origins_of start) k.instance) (answer_of k)
    told_end differ k j =
        let c = in_contains k b.gained j in
        let lt : k.instance < length start = subst (λ (n : ℕ). k.instance < n) crew (subst (λ (x : KeptAnswer). x.instance < o.actors) c.2 (b.actors c.0 k c.1)) in
        subst (λ (m : Option Rows). IsOf m (answer_of k)) (sym (told_at k.instance lt)) (by k.instance lt refl (seen_at start k.instance).origin.machine refl)
      where
        by : (i : ℕ) → i < length start → k.instance ≡ i → (m : Option Rows) → (seen_at start i).origin.machine ≡ m → IsOf m (answer_of k)
        by i lt own None e = tt
        by i lt own (Some m) e = declared t.naming.brought refl (fits_end i lt)
          where
            now_machine : (seen_at now i).origin.machine ≡ Some m
            now_machine = ap (λ (z : Origin). z.machine) (worked i lt).same.origin ∙ e

            declared : (c : Option (List (List (List ℕ)))) → t.naming.brought ≡ c → FitsBy c t.naming.names (seen_at now i).names (seen_at now i).most (seen_at now i).outputs (seen_at now i).origin.machine → answer m k.word ≡ k.outs
            declared (Some x) f fits = absurd (false≢true (ap is_some (sym fits.2 ∙ now_machine)))
            declared None f fits =
                let g = gave k j i own in
                let own_is : own_names t.naming i ≡ t.naming.names = ap (λ (z : Option (List (List (List ℕ)))). own_by t.naming.names z i) f in
                let facts : Answers (seen_at start i).origin.machine (word_at_place o.batch (g.0).place) (g.0).outs × All (λ y. y < length (worked i lt).working.mid.names) (g.0).outs = each_given o.batch (seen_at start i) (worked i lt).working.mid (gives_of (entries_of i es)) g.0 (end_gives i lt) g.1 in
                let mid_is : (worked i lt).working.mid.names ≡ t.naming.names =
                ⊎_elim
                (λ (none : gives_of (entries_of i es) ≡ []). absurd (subst (In g.0) none g.1))
                (λ (same : (worked i lt).working.mid.names ≡ own_names t.naming i). same ∙ own_is)
                (mid_own i lt) in
                let kept_outs : All (λ y. y < length t.naming.names) k.outs = (let c = in_contains k b.gained j in subst (λ (x : KeptAnswer). All (λ y. y < length t.naming.names) x.outs) c.2 (b.below c.0 k c.1)) in
                let outs : (g.0).outs ≡ k.outs = named_once t.naming.names (g.0).outs k.outs differ (subst (λ (l : List (List ℕ)). All (λ y. y < length l) (g.0).outs) mid_is facts.1) kept_outs (ap (λ (l : List (List ℕ)). named l (g.0).outs) (sym own_is) ∙ g.3) in
                let given : answer m (word_at_place o.batch (g.0).place) ≡ (g.0).outs = subst (λ (z : Option Rows). Answers z (word_at_place o.batch (g.0).place) (g.0).outs) e facts.0 in
                ap (answer m) (sym g.2) ∙ (given ∙ outs)

    -- the pool after a batch
    module _ (letters : All (IsWord inputs) o.batch) (whole : All IsWhole (answers_of t.kept)) (few : length t.naming.names ≤ 4096) (differ : AllDiffer t.naming.names) where
      first_in : 0 < length start
      first_in = is.some

      outputs_enough : length t.naming.names ≤ outputs
      outputs_enough = by t.naming.brought (fits_end 0 first_in)
        where
          out_is : (seen_at now 0).outputs ≡ outputs
          out_is = (worked 0 first_in).same.outputs ∙ (member 0 first_in).outputs_is

          by : (c : Option (List (List (List ℕ)))) → FitsBy c t.naming.names (seen_at now 0).names (seen_at now 0).most (seen_at now 0).outputs (seen_at now 0).origin.machine → length t.naming.names ≤ outputs
          by None fits = omega (arith, fits.2, out_is)
          by (Some x) fits = omega (arith, fits.0, out_is, few)

      batch_word : (w : List ℕ) → Contains o.batch w → IsWord inputs w
      batch_word w c = subst (IsWord inputs) c.2 (letters c.0 w c.1)

      new_answer : (k : KeptAnswer) → In k b.gained → IsAnswer inputs (answer_of k)
      new_answer k j =
          let c = in_contains k b.gained j in
          let asked : IsAsked o.batch (answers_of o.kept) k.word = subst (λ (x : KeptAnswer). IsAsked o.batch (answers_of o.kept) x.word) c.2 (b.asked c.0 k c.1) in
          let d = in_contains (answer_of k) (answers_of t.kept) (in_map answer_of k t.kept (subst (In k) (sym b.at_end) (in_right k o.kept b.gained j))) in
          (batch_word k.word asked.within, subst IsWhole d.2 (whole d.0 (answer_of k) d.1))

      pub keeps_end : KeepsAnswers inputs outputs (origins_of now) t.kept
      keeps_end = record {
        answers = subst (All (λ (k : KeptAnswer). IsAnswer inputs (answer_of k))) (sym b.at_end) (All-append (λ (k : KeptAnswer). IsAnswer inputs (answer_of k)) o.kept b.gained is.keeps.answers (all_of (λ (k : KeptAnswer). IsAnswer inputs (answer_of k)) b.gained new_answer));
        outputs_below = All-weaker (λ (k : KeptAnswer). All (λ y. y < length t.naming.names) k.outs) (λ (k : KeptAnswer). IsWord outputs k.outs) (λ k all. All-weaker (λ y. y < length t.naming.names) (λ y. y < outputs) (λ y lt. omega (arith, lt, outputs_enough)) k.outs all) t.kept below_end;
        told = subst (λ (l : List Origin). All (λ (k : KeptAnswer). IsOf (told_machine l k.instance) (answer_of k)) t.kept) (sym origins_end)
            (subst (All (λ (k : KeptAnswer). IsOf (told_machine (origins_of start) k.instance) (answer_of k))) (sym b.at_end) (All-append (λ (k : KeptAnswer). IsOf (told_machine (origins_of start) k.instance) (answer_of k)) o.kept b.gained is.keeps.told (all_of (λ (k : KeptAnswer). IsOf (told_machine (origins_of start) k.instance) (answer_of k)) b.gained (told_end differ))));
      }

      nobody_failed_at : t.stop ≡ None → (i : ℕ) → (lt : i < length start) → NobodyFailed (worked i lt).view.mine
      nobody_failed_at none i lt = all_of (λ (e : Entry Ask Reply). e.ask.failed ≡ None) (worked i lt).view.mine (λ e j. nobody_has_failed o (opened o) t es r none e (of_history i e es (subst (In e) (worked i lt).mine j)))

      live_still : refused0 ≡ false → t.stop ≡ None → (i : ℕ) → i < length now → (seen_at now i).stop ≡ None
      live_still unrefused none i within =
          let lt : i < length start = omega (arith, within, long) in
          let same : seen_at now i ≡ (worked i lt).working.mid = (worked i lt).working.live (nobody_failed_at none i lt) in
          ap (λ (s : Seen). s.stop) same ∙ gives_live o.batch (seen_at start i) (worked i lt).working.mid (gives_of (entries_of i es)) (end_gives i lt) ((is.unrefused unrefused).1 i lt)

      pub pool_end : (stop : Option AskStop) (refused : Bool) → stop ≡ t.stop → (refused ≡ false → (refused0 ≡ false) × (t.stop ≡ None)) → IsPool now t.naming prior t.kept stop refused inputs outputs
      pool_end stop refused stop_same flags = record {
        some = omega (arith, is.some, long);
        few = omega (arith, is.few, long);
        members = member_end;
        lists = lists_end;
        shared = stays_shared o es t r lists is.shared;
        come_up = free_come_up o t es lists r is.come_up;
        below = below_end;
        prior_is = is.prior_is;
        stands = stands_end;
        keeps = keeps_end;
        once = once_end;
        why = subst (IsStopOf now t.kept) (sym stop_same) why_end;
        unrefused = λ e. let f = flags e in (stop_same ∙ f.1, live_still f.0 f.1);
      }

      -- where nothing stopped the desk
      pub settled_end : t.stop ≡ None → Settled o t b.gained
      settled_end none =
          let w : HasWorkedOff o es 0 (seen_at start 0) (seen_at now 0) = worked 0 first_in in
          let ended : (seat_of w.view.opening w.view.mine).ended ≡ true = w.working.ended w.idle in
          let own : actor_of w.view.mine ≡ 0 = w.working.own ∙ w.number_is in
          let d = last_done (record { held = []; ended = false; own = own_names w.view.opening.naming (actor_of w.view.mine) }) w.view.mine ended refl
          (λ e j. nobody_has_failed o (opened o) t es r none e (of_history 0 e es (subst (In e) w.mine j))) in
          settled o es t r d.0 b none (end_idle t r) (of_history 0 d.0 es (subst (In d.0) w.mine d.1)) d.2

      pub gained_end : Brought o es t
      gained_end = b
