-- A pool before a batch and after it.
use Rattle.std.proofs.Common.{◌≡◌, ◌⊎◌, inl, inr, ⊎_elim, ℕ, zero, suc, Contains, ◌<◌, ◌≤◌, ◌||◌, List, [], ◌∷◌, ◌++◌, length, map, All, Bool, true, false, Option, Some, None, is_some, Result, Ok, Err, OnOk, IfErr, slice_index_or, option_and_then, take, drop, refl, ap, sym, ◌∙◌, subst, subst₂, arith, append-nil}
use Rattle.std.specs.Bool.{⊤}
use Rattle.std.proofs.lemmas.Bool.{true≢false, false≢true}
use Rattle.lw_words.specs.Word.{answer_of, answers_of, IsWhole, IsWord, AllDiffer}
use Rattle.lw_words.specs.declared.kept.KeptAnswer.{KeptAnswer}
use Rattle.lw_words.specs.declared.stop.SulStop.{SulStop}
use Rattle.lw_words.specs.declared.stop.RunStop.{RunStop}
use Rattle.lw_cache.specs.Clash.{NothingClashes}
use Rattle.lw_cache.specs.FirstClash.{IsNewClash}
use Rattle.lw_cache.specs.Known.{IsKnown}
use Rattle.lw_cache.specs.Settling.{GainsExactly, TellsStop, Settles, IsSettleCause, MayAsk, StopsStay, refused_after, IsOf, told_machine}
use Rattle.lw_cache.specs.declared.stops.AskStop.{AskStop}
use Rattle.lw_cache.specs.declared.stops.AskStop.TheVariants.{Sul, Clash, NoMemory}
use Rattle.lw_names.specs.Names.{IsGrown}
use Rattle.lw_turn.specs.History.{entries_of}
use Rattle.lw_turn.specs.declared.shared.Entry.{Entry}
use Rattle.lw_cache.specs.Caching.{Caching}
use Rattle.lw_desk.specs.Desk.{DeskHistory, Finishes}
use Rattle.lw_desk.specs.declared.ask.Ask.{Ask}
use Rattle.lw_desk.specs.declared.ask.Reply.{Reply}
use Rattle.lw_names.specs.Naming.{Naming, own_names, HasLists}
use Rattle.lw_desk.specs.Step.{DeskState}
use Rattle.lw_desk.specs.History.{DeskOpening, opened, Replays, gives_of}
use Rattle.lw_desk.specs.Ending.{IsShared, FreeComeUp}
use Rattle.lw_desk.specs.bodies.Outcome.{Brought, Settled}
use Rattle.lw_pool.specs.Pool.{Seen, Member, WentOn, PoolState, nobody, seen_at, seen_of, origins_of, journal_runs, IsStopOf}
use Rattle.lw_pool.specs.Opening.{MayBegin, MayJoin}
use Rattle.lw_mealy.specs.Origin.{Origin}
use Rattle.lw_sul.specs.SessionState.{SessionState}
use Rattle.lw_sul.specs.declared.runs.Run.{Run}
use Rattle.std.proofs.lemmas.List.{get_or-map, length-map}
use Rattle.std.proofs.lemmas.Option.{slice_get_past}
use Rattle.lw_pool.specs.Working.{DidItsPart, GivesBetween, IsUnanswered}
use Rattle.lw_pool.specs.Settling.{GainsSome, HasSettled, IsPutOff, IsWorkedOff, desk_of}
use Rattle.lw_pool.specs.Sharing.{oracle_of, declared_by}
use Rattle.lw_pool.specs.declared.hands.Hand.{Hand}
use Rattle.lw_pool.specs.declared.parts.Parts.{Parts}
use Rattle.lw_pool.specs.bodies.Crew.{HasWorkedOff, AllWorkedOff}
use Rattle.lw_pool.specs.bodies.Running.{opening_of, AreWhole, NotBegun, WasRun, AfterBatch}
use Rattle.lw_pool.specs.Standing.{IsPoolMember, IsPool}
use Rattle.lw_pool.specs.bodies.Engaged.{IsReady}
use Rattle.lw_pool.specs.Fitting.{FitsBy}
use Rattle.lw_pool.proofs.BatchLemmas.{b, end_idle, pool_end, settled_end, origins_end, clash_end, names_end, kinds, declared_end, went_on_end}
use Rattle.lw_pool.proofs.GiveLemmas.{went_on_not}
use Rattle.lw_pool.proofs.JournalLemmas.{grown_not}
use Rattle.lw_pool.proofs.HandLemmas.{seen_in, seen_here, seen_long, taken_all, worked_seen}

-- what a session did of a batch, by its own entries
did_its_part : (o : DeskOpening) (es : List (Entry Ask Reply)) (i : ℕ) (was now : Seen) → HasWorkedOff o es i was now → DidItsPart o.batch (entries_of i es) was now
did_its_part o es i was now h = record {
  answered = h.working.mid;
  gives = subst₂ (λ (p : DeskOpening) (mine : List (Entry Ask Reply)). GivesBetween p.batch was h.working.mid (gives_of mine)) h.opening h.mine h.working.gives;
  after = ⊎_elim (λ (same : now ≡ h.working.mid). inl same) (λ (r : (stop : RunStop) × IsUnanswered h.working.mid now stop × (h.reply.places ≡ [])). inr (r.0, r.1)) h.working.after;
  failed = λ e f stop own. h.working.failed e f stop (subst (λ (mine : List (Entry Ask Reply)). Contains mine e) (sym h.mine) own);
  live = λ none. h.working.live (subst (λ (mine : List (Entry Ask Reply)). All (λ e. e.ask.failed ≡ None) mine) (sym h.mine) none);
}

-- a pool as contracts see it
abbrev pub pool_of : {S : Type 0} → List (Hand S) → Naming → List KeptAnswer → List KeptAnswer → Option AskStop → Bool → ℕ → ℕ → PoolState S
pool_of hands naming prior kept stop refused inputs outputs = record { members = map (λ h. h.worker) hands; naming = naming; prior = prior; kept = kept; stop = stop; refused = refused; inputs = inputs; outputs = outputs }

abbrev gains_nothing : (batch : List (List ℕ)) (kept : List KeptAnswer) → GainsSome batch kept kept
gains_nothing batch kept = record { gained = []; at_end = sym (append-nil kept); asked = λ k d lt. absurd (omega arith); once = λ i j d before lt. absurd (omega arith) }

refused_is : (refused : Bool) (stop : Option AskStop) (result : Result ⊤ AskStop) → TellsStop result stop → (refused || is_some stop) ≡ refused_after refused result
refused_is refused stop (Ok x) told = ap (λ (o : Option AskStop). refused || is_some o) told ∙ by refused
  where
    by : (b : Bool) → (b || false) ≡ b
    by true = refl
    by false = refl
refused_is refused stop (Err e) told = ap (λ (o : Option AskStop). refused || is_some o) told ∙ by refused
  where
    by : (b : Bool) → (b || true) ≡ true
    by true = refl
    by false = refl

abbrev is_clash : Option AskStop → Bool
is_clash (Some (Clash c)) = true
is_clash (Some (Sul i x)) = false
is_clash (Some NoMemory) = false
is_clash None = false

err_is : (x y : AskStop) (r : Result ⊤ AskStop) → r ≡ Err x → r ≡ Err y → x ≡ y
err_is x y r one other = ap refusal (sym one ∙ other)
  where
    refusal : Result ⊤ AskStop → AskStop
    refusal (Ok v) = x
    refusal (Err v) = v

stop_told : {stop : Option AskStop} (result : Result ⊤ AskStop) → TellsStop result stop → (x : AskStop) → result ≡ Err x → stop ≡ Some x
stop_told {stop} result told x same = subst (λ (r : Result ⊤ AskStop). TellsStop r stop) same told

flags_of : (refused again : Bool) (stop : Option AskStop) → again ≡ (refused || is_some stop) → again ≡ false → (refused ≡ false) × (stop ≡ None)
flags_of true again stop e f = absurd (true≢false (sym e ∙ f))
flags_of false again None e f = (refl, refl)
flags_of false again (Some x) e f = absurd (true≢false (sym e ∙ f))

module _ {S : Type 0} (batch : List (List ℕ)) where
  -- a pool that answers its stop again
  pub settled_again : (hands : List (Hand S)) (naming : Naming) (prior kept : List KeptAnswer) (stop : Option AskStop) (refused : Bool) (inputs outputs : ℕ) (e : AskStop) → stop ≡ Some e → IsPool (seen_in hands) naming prior kept stop refused inputs outputs
      → HasSettled batch (pool_of hands naming prior kept stop refused inputs outputs) (pool_of hands naming prior kept stop refused inputs outputs) (Err e)
  settled_again hands naming prior kept stop refused inputs outputs e told is = record {
    known = tt;
    exactly = tt;
    unclashed = tt;
    gains = gains_nothing batch kept;
    instances = λ k d lt. absurd (omega arith);
    stands = is;
    stop = told;
    refused = was_refused refused refl;
    sticks = λ no. refl;
    history = λ may. once_more e told may;
    clash = λ may c same. absurd (not_again may c (err_is e (Clash c) (Err e) refl same));
    sessions = refl;
    went_on = λ i lt. went_on_not (seen_at (seen_in hands) i);
    names = grown_not naming.names;
    kind = refl;
    declared = λ none. refl;
    origins = refl;
    inputs = refl;
    outputs = refl;
    prior = refl;
  }
    where
      not_again : MayAsk stop → (c : _) → e ≡ Clash c → ⊥
      not_again may c same = subst MayAsk (told ∙ ap (λ (x : AskStop). Some x) same) may

      again : PoolState S
      again = pool_of hands naming prior kept stop refused inputs outputs

      once_more : (x : AskStop) → stop ≡ Some x → MayAsk stop → IsWorkedOff batch again again ⊎ IsPutOff again again
      once_more NoMemory is may = inr (record { kept = refl; naming = refl; stop = is; sessions = refl })
      once_more (Clash c) is may = absurd (subst MayAsk is may)
      once_more (Sul i x) is may = absurd (subst MayAsk is may)

      was_refused : (r : Bool) → refused ≡ r → refused ≡ true
      was_refused true same = same
      was_refused false same = absurd (false≢true (ap is_some (sym (is.unrefused same).0 ∙ told)))

  module _ (hands after : List (Hand S)) (parts now : Parts) (prior : List KeptAnswer) (was stop : Option AskStop) (refused again : Bool) (inputs outputs : ℕ) (is : IsPool (seen_in hands) parts.names prior parts.cache.kept was refused inputs outputs) (ran : AfterBatch (opening_of parts batch (length hands)) hands after now stop)
      (whole : AreWhole now) (letters : All (IsWord inputs) batch) (again_is : again ≡ (refused || is_some stop)) where
    abbrev IsAfter : Type 0
    IsAfter = IsPool (seen_in after) now.names prior now.cache.kept stop again inputs outputs

    not_begun : NotBegun (opening_of parts batch (length hands)) hands after now stop → IsAfter
    not_begun n =
        subst₂ (λ (names : Naming) (kept : List KeptAnswer). IsPool (seen_in after) names prior kept stop again inputs outputs) (sym n.names) (sym n.kept)
        (subst (λ (hs : List (Hand S)). IsPool (seen_in hs) parts.names prior parts.cache.kept stop again inputs outputs) (sym n.hands)
        (record {
          some = is.some;
          few = is.few;
          members = is.members;
          lists = is.lists;
          shared = is.shared;
          come_up = is.come_up;
          below = is.below;
          prior_is = is.prior_is;
          stands = is.stands;
          keeps = is.keeps;
          once = is.once;
          why = subst (IsStopOf (seen_in hands) parts.cache.kept) (sym n.memory) tt;
          unrefused = λ f. absurd (false≢true (ap is_some (sym (flags_of refused again stop again_is f).1 ∙ n.memory)));
        }))

    module _ (w : WasRun (opening_of parts batch (length hands)) hands after now stop) where
      abbrev o : DeskOpening
      o = opening_of parts batch (length hands)

      long : length (seen_in after) ≡ length (seen_in hands)
      long = seen_long after ∙ (w.long ∙ sym (seen_long hands))

      crew : o.actors ≡ length (seen_in hands)
      crew = sym (seen_long hands)

      lists : HasLists o.naming.brought o.actors
      lists = subst (HasLists parts.names.brought) (seen_long hands) is.lists

      worked : (i : ℕ) → i < length (seen_in hands) → HasWorkedOff o w.entries i (seen_at (seen_in hands) i) (seen_at (seen_in after) i)
      worked = worked_seen o w.entries hands after w.long w.worked

      others : (n : ℕ) → length (seen_in hands) ≤ n → entries_of n w.entries ≡ []
      others n le = w.others n (omega (arith, le, seen_long hands))

      abbrev brings : Brought o w.entries w.state
      brings = b o w.entries (seen_in hands) (seen_in after) long crew lists worked others prior was refused inputs outputs is w.state w.replays

      run_after : IsAfter
      run_after =
          subst₂ (λ (names : Naming) (kept : List KeptAnswer). IsPool (seen_in after) names prior kept stop again inputs outputs) (sym w.names) (sym w.kept)
          (pool_end o w.entries (seen_in hands) (seen_in after) long crew lists worked others prior was refused inputs outputs is w.state w.replays letters
          (subst (λ (l : List KeptAnswer). All IsWhole (answers_of l)) w.kept whole.whole)
          (subst (λ (n : Naming). length n.names ≤ 4096) w.names whole.few)
          (subst (λ (n : Naming). AllDiffer n.names) w.names whole.differ)
          stop again w.stop_is (λ f. let g = flags_of refused again stop again_is f in (g.0, sym w.stop_is ∙ g.1)))

      run_settled : w.state.stop ≡ None → Settled o w.state brings.gained
      run_settled none =
          settled_end o w.entries (seen_in hands) (seen_in after) long crew lists worked others prior was refused inputs outputs is w.state w.replays letters
          (subst (λ (l : List KeptAnswer). All IsWhole (answers_of l)) w.kept whole.whole)
          (subst (λ (n : Naming). length n.names ≤ 4096) w.names whole.few)
          (subst (λ (n : Naming). AllDiffer n.names) w.names whole.differ) none

      run_clash : (c : _) → w.state.stop ≡ Some (Clash c) → IsNewClash (length parts.cache.kept) w.state.kept c
      run_clash = clash_end o w.entries (seen_in hands) (seen_in after) long crew lists worked others prior was refused inputs outputs is w.state w.replays

      run_went_on : (i : ℕ) → i < length (seen_in hands) → WentOn (seen_at (seen_in hands) i) (seen_at (seen_in after) i)
      run_went_on = went_on_end o w.entries (seen_in hands) (seen_in after) long crew lists worked others prior was refused inputs outputs is w.state w.replays

      run_names : IsGrown parts.names.names w.state.naming.names
      run_names = names_end o w.entries (seen_in hands) (seen_in after) long crew lists worked others prior was refused inputs outputs is w.state w.replays

      run_kind : is_some w.state.naming.brought ≡ is_some parts.names.brought
      run_kind = kinds o w.entries (seen_in hands) (seen_in after) long crew lists worked others prior was refused inputs outputs is w.state w.replays

      run_declared : parts.names.brought ≡ None → w.state.naming ≡ parts.names
      run_declared = declared_end o w.entries (seen_in hands) (seen_in after) long crew lists worked others prior was refused inputs outputs is w.state w.replays

      run_origins : origins_of (seen_in after) ≡ origins_of (seen_in hands)
      run_origins = origins_end o w.entries (seen_in hands) (seen_in after) long crew lists worked others prior was refused inputs outputs is w.state w.replays

    pub pool_after : IsAfter
    pool_after = ⊎_elim (λ n. not_begun n) (λ w. run_after w) ran

    module _ (result : Result ⊤ AskStop) (told : TellsStop result stop) (may : MayAsk was) where
      abbrev HasDone : Type 0
      HasDone = HasSettled batch (pool_of hands parts.names prior parts.cache.kept was refused inputs outputs) (pool_of after now.names prior now.cache.kept stop again inputs outputs) result

      by_memory : NotBegun (opening_of parts batch (length hands)) hands after now stop → HasDone
      by_memory n = record {
        known = no_ok result told (All (IsKnown (answers_of now.cache.kept)) batch);
        exactly = no_ok result told (GainsExactly batch parts.cache.kept now.cache.kept);
        unclashed = no_ok result told (NothingClashes (answers_of parts.cache.kept) → NothingClashes (answers_of now.cache.kept));
        gains = record { gained = []; at_end = n.kept ∙ sym (append-nil parts.cache.kept); asked = λ k d lt. absurd (omega arith); once = λ i j d before lt. absurd (omega arith) };
        instances = λ k d lt. absurd (omega arith);
        stands = not_begun n;
        stop = told;
        refused = again_is ∙ refused_is refused stop result told;
        sticks = λ no. absurd (no may);
        history = λ m. inr (record { kept = n.kept; naming = n.names; stop = n.memory; sessions = ap (λ (hs : List (Hand S)). seen_in hs) n.hands });
        clash = λ m c same. absurd (false≢true (ap is_clash (sym n.memory ∙ stop_told result told (Clash c) same)));
        sessions = ap (λ (hs : List (Hand S)). length (seen_in hs)) n.hands;
        went_on = λ i lt. subst (λ (hs : List (Hand S)). WentOn (seen_at (seen_in hands) i) (seen_at (seen_in hs) i)) (sym n.hands) (went_on_not (seen_at (seen_in hands) i));
        names = subst (λ (x : Naming). IsGrown parts.names.names x.names) (sym n.names) (grown_not parts.names.names);
        kind = ap (λ (x : Naming). is_some x.brought) n.names;
        declared = λ none. n.names;
        origins = ap (λ (hs : List (Hand S)). origins_of (seen_in hs)) n.hands;
        inputs = refl;
        outputs = refl;
        prior = refl;
      }
        where
          no_ok : (r : Result ⊤ AskStop) → TellsStop r stop → (P : Type 0) → OnOk r P
          no_ok (Ok x) t P = absurd (false≢true (ap is_some (sym t ∙ n.memory)))
          no_ok (Err e) t P = tt

      by_run : WasRun (opening_of parts batch (length hands)) hands after now stop → HasDone
      by_run w = record {
        known = on_ok result told (All (IsKnown (answers_of now.cache.kept)) batch) (λ none. subst (λ (l : List KeptAnswer). All (IsKnown (answers_of l)) batch) (sym w.kept) (run_settled w none).known);
        exactly = on_ok result told (GainsExactly batch parts.cache.kept now.cache.kept) (λ none. record { gained = (brings w).gained; at_end = w.kept ∙ (brings w).at_end; asked = (run_settled w none).exactly });
        unclashed = on_ok result told (NothingClashes (answers_of parts.cache.kept) → NothingClashes (answers_of now.cache.kept)) (λ none nothing. subst (λ (l : List KeptAnswer). NothingClashes (answers_of l)) (sym w.kept) ((brings w).clear none nothing));
        gains = record { gained = (brings w).gained; at_end = w.kept ∙ (brings w).at_end; asked = (brings w).asked; once = (brings w).once };
        instances = subst (λ (n : ℕ). All (λ k. k.instance < n) (brings w).gained) (crew w) (brings w).actors;
        stands = run_after w;
        stop = told;
        refused = again_is ∙ refused_is refused stop result told;
        sticks = λ no. absurd (no may);
        history = λ m. inl (record { entries = w.entries; state = w.state; replays = replayed; kept = w.kept; naming = w.names; stop = w.stop_is; parts = λ i lt. did_its_part (opening_of parts batch (length hands)) w.entries i _ _ (worked w i lt); others = others w });
        clash = λ m c same. subst (λ (l : List KeptAnswer). IsNewClash (length parts.cache.kept) l c) (sym w.kept) (run_clash w c (sym w.stop_is ∙ stop_told result told (Clash c) same));
        sessions = long w;
        went_on = run_went_on w;
        names = subst (λ (x : Naming). IsGrown parts.names.names x.names) (sym w.names) (run_names w);
        kind = ap (λ (x : Naming). is_some x.brought) w.names ∙ run_kind w;
        declared = λ none. w.names ∙ run_declared w none;
        origins = run_origins w;
        inputs = refl;
        outputs = refl;
        prior = refl;
      }
        where
          -- as many actors as hands
          replayed : Replays (desk_of (pool_of hands parts.names prior parts.cache.kept was refused inputs outputs) batch) (opened (desk_of (pool_of hands parts.names prior parts.cache.kept was refused inputs outputs) batch)) w.entries w.state
          replayed =
              subst (λ (n : ℕ). let d : DeskOpening = record { kept = parts.cache.kept; naming = parts.names; batch = batch; actors = n } in Replays d (opened d) w.entries w.state)
              (sym (length-map hands (λ h. h.worker))) w.replays

          on_ok : (r : Result ⊤ AskStop) → TellsStop r stop → (P : Type 0) → (w.state.stop ≡ None → P) → OnOk r P
          on_ok (Ok x) t P p = p (sym w.stop_is ∙ t)
          on_ok (Err e) t P p = tt

      pub settled_after : HasDone
      settled_after = ⊎_elim (λ n. by_memory n) (λ w. by_run w) ran

-- the sessions of a pool may work for it
module _ {S : Type 0} (hands : List (Hand S)) (naming : Naming) (prior kept : List KeptAnswer) (stop : Option AskStop) (refused : Bool) (inputs outputs : ℕ) (is : IsPool (seen_in hands) naming prior kept stop refused inputs outputs) where
  member_here : (i : ℕ) (d : Hand S) → i < length hands → IsPoolMember naming inputs outputs i (slice_index_or hands i d).worker.seen
  member_here i d lt = subst (IsPoolMember naming inputs outputs i) (seen_here hands i d lt) (is.members i (omega (arith, lt, seen_long hands)))

  pub all_ready : (i : ℕ) (d : Hand S) → i < length hands → IsReady (is_some naming.brought) (own_names naming i) (slice_index_or hands i d).worker.seen
  all_ready i d lt =
      let m : IsPoolMember naming inputs outputs i (slice_index_or hands i d).worker.seen = member_here i d lt in
      record { names = m.live; declared = declared m naming.brought refl m.fits; few = few m naming.brought refl m.fits }
    where
      declared : IsPoolMember naming inputs outputs i (slice_index_or hands i d).worker.seen → (b : Option (List (List (List ℕ)))) → naming.brought ≡ b → FitsBy b naming.names (slice_index_or hands i d).worker.seen.names (slice_index_or hands i d).worker.seen.most (slice_index_or hands i d).worker.seen.outputs (slice_index_or hands i d).worker.seen.origin.machine → is_some naming.brought ≡ false → (slice_index_or hands i d).worker.seen.most ≤ length (slice_index_or hands i d).worker.seen.names
      declared m None e fits kind = omega (arith, fits.1, ap (λ (l : List (List ℕ)). length l) fits.0)
      declared m (Some x) e fits kind = absurd (false≢true (sym kind ∙ ap is_some e))

      few : IsPoolMember naming inputs outputs i (slice_index_or hands i d).worker.seen → (b : Option (List (List (List ℕ)))) → naming.brought ≡ b → FitsBy b naming.names (slice_index_or hands i d).worker.seen.names (slice_index_or hands i d).worker.seen.most (slice_index_or hands i d).worker.seen.outputs (slice_index_or hands i d).worker.seen.origin.machine → is_some naming.brought ≡ true → (slice_index_or hands i d).worker.seen.most ≤ 256
      few m None e fits kind = absurd (false≢true (sym (ap is_some e) ∙ kind))
      few m (Some x) e fits kind = fits.1

  pub all_read : (batch : List (List ℕ)) → All (IsWord inputs) batch → (i : ℕ) (d : Hand S) → i < length hands → All (IsWord (slice_index_or hands i d).worker.seen.inputs) batch
  all_read batch letters i d lt = subst (λ (n : ℕ). All (IsWord n) batch) (sym (member_here i d lt).inputs_is) letters

-- as many hands after a batch as before
pub after_long : {S : Type 0} (o : DeskOpening) (hands after : List (Hand S)) (now : Parts) (stop : Option AskStop) → AfterBatch o hands after now stop → length after ≡ length hands
after_long o hands after now stop ran = ⊎_elim (λ (n : NotBegun o hands after now stop). ap (λ (l : List (Hand _)). length l) n.hands) (λ (w : WasRun o hands after now stop). w.long) ran

-- the same of a pool whose fields are written another way
pub settled_as : {S : Type 0} (batch : List (List ℕ)) (before : PoolState S) (items hands after : List (Hand S)) (n : ℕ) (naming : Naming) (kept : List KeptAnswer) (parts now : Parts) (prior : List KeptAnswer) (was stop copied : Option AskStop) (refused again : Bool) (inputs outputs : ℕ) (result : Result ⊤ AskStop) → before ≡ pool_of items naming prior kept was refused inputs outputs → hands ≡ items → naming ≡ parts.names → kept ≡ parts.cache.kept → copied ≡ stop → length after ≡ n
    → HasSettled batch (pool_of hands parts.names prior parts.cache.kept was refused inputs outputs) (pool_of after now.names prior now.cache.kept stop again inputs outputs) result
    → HasSettled batch before (pool_of (take n (after ++ drop (length after) items)) now.names prior now.cache.kept copied again inputs outputs) result
settled_as batch before items hands after n naming kept parts now prior was stop copied refused again inputs outputs result view hands_are names_are kept_are copy long settled =
    subst (λ (s : PoolState _). HasSettled batch s (pool_of (take n (after ++ drop (length after) items)) now.names prior now.cache.kept copied again inputs outputs) result) (sym view)
    (subst₂ (λ (x : Naming) (k : List KeptAnswer). HasSettled batch (pool_of items x prior k was refused inputs outputs) (pool_of (take n (after ++ drop (length after) items)) now.names prior now.cache.kept copied again inputs outputs) result) (sym names_are) (sym kept_are)
    (subst₂ (λ (hs : List (Hand _)) (o : Option AskStop). HasSettled batch (pool_of items parts.names prior parts.cache.kept was refused inputs outputs) (pool_of hs now.names prior now.cache.kept o again inputs outputs) result) (sym (taken_all after items n long)) (sym copy)
    (subst (λ (hs : List (Hand _)). HasSettled batch (pool_of hs parts.names prior parts.cache.kept was refused inputs outputs) (pool_of after now.names prior now.cache.kept stop again inputs outputs) result) hands_are settled)))

-- a desk that a crew has worked off holds nothing for anyone
pub idle_after : {S : Type 0} (o : DeskOpening) (entries : List (Entry Ask Reply)) (hands after : List (Hand S)) → o.actors ≡ length hands → HasLists o.naming.brought (length hands) → AllWorkedOff o entries hands after → ((n : ℕ) → length hands ≤ n → entries_of n entries ≡ []) → length after ≡ length hands → (t : DeskState) → Replays o (opened o) entries t → t.claims ≡ []
idle_after o entries hands after crew lists worked others long t r =
    end_idle o entries (seen_in hands) (seen_in after) (seen_long after ∙ (long ∙ sym (seen_long hands))) (crew ∙ sym (seen_long hands)) (subst (HasLists o.naming.brought) (sym crew) lists) (worked_seen o entries hands after long worked) (λ n le. others n (omega (arith, le, seen_long hands))) t r

-- and what it leaves
pub run_of_desk : {S : Type 0} (o from : DeskOpening) (desk : DeskHistory) (hands after : List (Hand S)) (result : Caching × Naming × Option AskStop) (now : Parts) (stop : Option AskStop) → desk.opening ≡ from → from ≡ o → Finishes desk result → result.0 ≡ now.cache → result.1 ≡ now.names → result.2 ≡ stop → AllWorkedOff from desk.entries hands after → ((n : ℕ) → length hands ≤ n → entries_of n desk.entries ≡ []) → length after ≡ length hands → AfterBatch o hands after now stop
run_of_desk o from desk hands after result now stop opening same ends cache names stopped worked others long =
    inr (record {
      entries = desk.entries;
      state = ends.state;
      replays = subst (λ (x : DeskOpening). Replays x (opened x) desk.entries ends.state) (opening ∙ same) ends.replays;
      worked = subst (λ (x : DeskOpening). AllWorkedOff x desk.entries hands after) same worked;
      others = others;
      long = long;
      kept = ap (λ (x : Caching). x.kept) (sym cache) ∙ ends.kept;
      names = sym names ∙ ends.naming;
      stop_is = sym stopped ∙ ends.stop;
    })

-- sessions that may make a pool make one
module _ {S : Type 0} (f : SessionState S → Member S) (sessions : List (SessionState S)) (hands : List (Hand S)) (naming : Naming) (inputs outputs : ℕ) (prior : List KeptAnswer) (made : map (λ h. h.worker) hands ≡ map f sessions) (some : 0 < length sessions) (few : length sessions ≤ 16) (lists : HasLists naming.brought (length sessions)) (shared : IsShared naming) (come_up : FreeComeUp prior naming)
    (join : (i : ℕ) (d : SessionState S) → i < length sessions → MayJoin naming inputs outputs i (f (slice_index_or sessions i d)).seen) (begin : MayBegin naming inputs outputs prior) where
  long_new : length (seen_in hands) ≡ length sessions
  long_new = length-map (map (λ (h : Hand S). h.worker) hands) (λ (m : Member S). m.seen) ∙ (ap (λ (ms : List (Member S)). length ms) made ∙ length-map sessions f)

  joined : (i : ℕ) → i < length sessions → MayJoin naming inputs outputs i (seen_at (seen_in hands) i)
  joined i lt = by sessions refl
    where
      by : (ss : List (SessionState S)) → sessions ≡ ss → MayJoin naming inputs outputs i (seen_at (seen_in hands) i)
      by [] none = absurd (omega (arith, lt, ap (λ (l : List (SessionState S)). length l) none))
      by (d ∷ ss) same =
          subst (MayJoin naming inputs outputs i)
          (sym (ap (λ (ms : List (Member S)). seen_at (map (λ (m : Member S). m.seen) ms) i) made
          ∙ (get_or-map (λ (m : Member S). m.seen) (map f sessions) i (f d) nobody (omega (arith, lt, length-map sessions f))
          ∙ ap (λ (m : Member S). m.seen) (get_or-map f sessions i d (f d) lt))))
          (join i d lt)

  pub pool_new : IsPool (seen_in hands) naming prior prior None false inputs outputs
  pool_new = record {
    some = omega (arith, some, long_new);
    few = omega (arith, few, long_new);
    members = λ i within.
        let m : MayJoin naming inputs outputs i (seen_at (seen_in hands) i) = joined i (omega (arith, within, long_new)) in
        record {
          instance = m.instance;
          inputs_is = m.inputs_is;
          outputs_is = m.outputs_is;
          fits = m.fits;
          grown = ([], sym (append-nil (own_names naming i) ∙ sym m.names));
          live = λ none. m.names;
          journal = subst (All (λ (r : Run). All (λ y. y < length (own_names naming i)) r.outs)) (sym m.journal) (λ k d lt. absurd (omega arith));
        };
    lists = subst (HasLists naming.brought) (sym long_new) lists;
    shared = shared;
    come_up = come_up;
    below = begin.named;
    prior_is = begin.prior_is;
    stands = record {
      since = [];
      first = sym (append-nil prior);
      instances = λ k d lt. absurd (omega arith);
      runs = λ i within. sym (ap (journal_runs (seen_at (seen_in hands) i).names 0) (joined i (omega (arith, within, long_new))).journal);
    };
    keeps = record {
      answers = begin.answers;
      outputs_below = begin.below;
      told = λ i d lt. subst (λ (n : ℕ). IsOf (told_machine (origins_of (seen_in hands)) n) (answer_of (slice_index_or prior i d))) (sym (begin.prior_is i d lt).0) (told_none (slice_index_or prior i d));
    };
    once = λ i d from within. absurd (omega (arith, from, within));
    why = tt;
    unrefused = λ f. (refl, λ i within. (joined i (omega (arith, within, long_new))).live);
  }
    where
      -- no instance of the pool has the number of the prior answers
      told_none : (k : KeptAnswer) → IsOf (told_machine (origins_of (seen_in hands)) 16) (answer_of k)
      told_none k = subst (λ (o : Option Origin). IsOf (option_and_then (λ (x : Origin). x.machine) o) (answer_of k)) (sym (slice_get_past (origins_of (seen_in hands)) 16 (omega (arith, few, long_new, length-map (seen_in hands) (λ (s : Seen). s.origin))))) tt

-- names that are declared stay as they are, and those that are free stay so
same_declared : (before now : Naming) → is_some now.brought ≡ is_some before.brought → (before.brought ≡ None → now ≡ before) → declared_by now.names now.brought ≡ declared_by before.names before.brought
same_declared before now kind same = by before.brought refl now.brought refl
  where
    by : (b : Option (List (List (List ℕ)))) → before.brought ≡ b → (n : Option (List (List (List ℕ)))) → now.brought ≡ n → declared_by now.names n ≡ declared_by before.names b
    by None e None f = ap (λ (x : Naming). Some x.names) (same e)
    by None e (Some y) f = absurd (true≢false (ap is_some (sym f) ∙ (kind ∙ ap is_some e)))
    by (Some x) e None f = absurd (false≢true (ap is_some (sym f) ∙ (kind ∙ ap is_some e)))
    by (Some x) e (Some y) f = refl

-- why a session stopped, by its number, also past the last one
stop_at : (seen : List Seen) (i : ℕ) → slice_index_or (map (λ (s : Seen). s.stop) seen) i None ≡ (seen_at seen i).stop
stop_at [] i = refl
stop_at (s ∷ ss) zero = refl
stop_at (s ∷ ss) (suc i) = stop_at ss i

stopped_is_within : (seen : List Seen) (i : ℕ) (stop : SulStop) → (seen_at seen i).stop ≡ Some stop → i < length seen
stopped_is_within [] i stop is = absurd (false≢true (ap is_some is))
stopped_is_within (s ∷ ss) zero stop is = omega arith
stopped_is_within (s ∷ ss) (suc i) stop is = let lt = stopped_is_within ss i stop is in omega arith

none_past : (seen : List Seen) → ((i : ℕ) → i < length seen → (seen_at seen i).stop ≡ None) → (i : ℕ) → (seen_at seen i).stop ≡ None
none_past [] none i = refl
none_past (s ∷ ss) none zero = none 0 (omega arith)
none_past (s ∷ ss) none (suc i) = none_past ss (λ j lt. none (suc j) (omega (arith, lt))) i

stops_settled : {S : Type 0} (batch : List (List ℕ)) (before now : PoolState S) (result : Result ⊤ AskStop) → HasSettled batch before now result → StopsStay (oracle_of before) (oracle_of now)
stops_settled batch before now result h = record {
  count = length-map (seen_of now) (λ (s : Seen). s.stop) ∙ (h.sessions ∙ sym (length-map (seen_of before) (λ (s : Seen). s.stop)));
  stay = λ i stop is.
      let was : (seen_at (seen_of before) i).stop ≡ Some stop = sym (stop_at (seen_of before) i) ∙ is in
      let same : seen_at (seen_of now) i ≡ seen_at (seen_of before) i = (h.went_on i (stopped_is_within (seen_of before) i stop was)).stopped stop was in
      stop_at (seen_of now) i ∙ (ap (λ (s : Seen). s.stop) same ∙ was);
  unrefused = λ was is none i. stop_at (seen_of now) i ∙ none_past (seen_of now) (h.stands.unrefused is).1 i;
}

-- what settles a pool settles the oracle that it is
pub oracle_settled : {S : Type 0} (batch : List (List ℕ)) (before now : PoolState S) (result : Result ⊤ AskStop) → HasSettled batch before now result → Settles batch (oracle_of before) (oracle_of now) result
oracle_settled batch before now result h = record {
  known = h.known;
  unclashed = h.unclashed;
  gains = record { gained = h.gains.gained; at_end = h.gains.at_end; of_batch = λ k d lt. (h.gains.asked k d lt).within };
  instances = subst (λ (n : ℕ). All (λ k. k.instance < n) h.gains.gained) (sym (length-map (seen_of before) (λ (s : Seen). s.origin))) h.instances;
  exactly = exactly result h.exactly;
  keeps = h.stands.keeps;
  stop = h.stop;
  cause = λ may. cause result h.stop (h.clash may);
  refused = h.refused;
  stops = stops_settled batch before now result h;
  same = record { inputs = h.inputs; outputs = h.outputs; names = same_declared before.naming now.naming h.kind h.declared; origins = h.origins; exact = refl };
}
  where
    exactly : (r : Result ⊤ AskStop) → OnOk r (GainsExactly batch before.kept now.kept) → OnOk r (true ≡ true → GainsExactly batch before.kept now.kept)
    exactly (Ok x) g = λ same. g
    exactly (Err e) g = tt

    -- a system's stop is that of its session
    cause : (r : Result ⊤ AskStop) → TellsStop r now.stop → ((c : _) → r ≡ Err (Clash c) → IsNewClash (length before.kept) now.kept c) → IfErr r (IsSettleCause (oracle_of before) (oracle_of now))
    cause (Ok x) told clash = tt
    cause (Err (Sul i stop)) told clash =
        let why = subst (IsStopOf (seen_of now) now.kept) told h.stands.why in (
          subst (λ (n : ℕ). i < n) (sym (length-map (seen_of now) (λ (s : Seen). s.origin))) why.0,
          get_or-map (λ (s : Seen). s.stop) (seen_of now) i nobody None why.0 ∙ why.1,
        )
    cause (Err (Clash c)) told clash = clash c refl
    cause (Err NoMemory) told clash = tt
