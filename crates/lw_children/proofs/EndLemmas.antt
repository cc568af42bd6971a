-- What comes of a learning over children, however it ended.
use Rattle.std.proofs.Common.{◌≡◌, ◌⊎◌, ⊎_elim, ℕ, ◌+◌, ◌-◌, ◌<◌, ◌≤◌, List, [], ◌∷◌, ◌++◌, length, map, get_or, Option, Some, None, Result, Ok, Err, IfOk, IfErr, OnOk, false, inl, inr, refl, ap, sym, ◌∙◌, subst, subst₂, append_assoc, append-nil, arith}
use Rattle.std.specs.List.{All}
use Rattle.std.proofs.lemmas.Bool.{cases_lt}
use Rattle.std.proofs.lemmas.List.{get_or_append_left, get_or-append_right, length-append}
use Rattle.std.proofs.lemmas.List.Elements.{All-map}
use Rattle.lw_words.specs.Word.{AreAnswers, IsAnswer, answer_of, answers_of, AllDiffer}
use Rattle.lw_words.specs.Cause.{CountedFault}
use Rattle.lw_words.specs.declared.kept.KeptAnswer.{KeptAnswer}
use Rattle.lw_words.specs.declared.stop.SulStop.{SulStop}
use Rattle.lw_words.specs.declared.stop.SulStop.TheVariants as sul
use Rattle.lw_mealy.specs.Machine.{Gives, Rows}
use Rattle.lw_mealy.specs.Origin.{Origin}
use Rattle.lw_sul.specs.SessionState.{SessionState, IsJournal}
use Rattle.lw_outside.specs.Links.{LinkState, Transcript, IsUntouched, SpawnerState}
use Rattle.lw_cache.specs.declared.stops.AskStop.{AskStop}
use Rattle.lw_cache.specs.declared.stops.AskStop.TheVariants as ask
use Rattle.lw_cache.specs.Clash.{NothingClashes}
use Rattle.lw_cache.specs.Settling.{IsStopCause, LeavesStop, MayAsk}
use Rattle.lw_names.specs.Naming.{Naming}
use Rattle.lw_desk.specs.Ending.{kept_runs}
use Rattle.lw_pool.specs.Opening.{MayBegin}
use Rattle.lw_pool.specs.Sharing.{oracle_of}
use Rattle.lw_pool.specs.Pool.{AskedOnce, IsStopOf, PoolState, Seen, journal_runs, seen_at, seen_of}
use Rattle.lw_rounds.specs.Laws.{ModelIsLeast, TooManyIsNone, TooLargeForAll}
use Rattle.lw_rounds.specs.Learned.{IsLearned, StopsAs}
use Rattle.lw_rounds.specs.Stops.{learn_stop, IsOwnStop}
use Rattle.lw_rounds.specs.declared.learned.Learned.{Learned}
use Rattle.lw_rounds.specs.declared.learner.Kind.{Kind}
use Rattle.lw_rounds.specs.declared.stops.LearnStop.{LearnStop}
use Rattle.lw_rounds.specs.declared.stops.LearnStop.TheVariants as learn
use Rattle.lw_workers.specs.Leaving.{HasLearned}
use Rattle.lw_workers.proofs.MachineLemmas.{no_first_clash, reached}
use Rattle.lw_children.specs.Children.{IsCausedBy, IsOfChildren, IsSound, IsUncounted, LeavesNothing, SaysBadLine}
use Rattle.lw_system.specs.Told.{IsStopped}
use Rattle.lw_line.specs.Causes.{IsTranscriptOf}
use Rattle.lw_children.specs.Keeping.{KeepsChildren}
use Rattle.lw_system.specs.NewLines.{count_of, most_outputs_of, first_names}
use Rattle.lw_line.specs.LineState.{AreFree, AreToldIfFree, IsNaming, LineState, told_runs}
use Rattle.lw_system.specs.Spawners.{StartsLinks, StartsAndRetires, StartsSome}
use Rattle.lw_children.specs.Crews.{AreLinkedWith, AreLinked, AreNewSessions, BearsOut, FitsOutputs, HasBegun, HasRetired, IsChildSeen, IsChildrenPool, IsLoose, RetiresAll, RetiresWith, child_member, count_link, first_naming, has_number, line_seen, loose_records, new_session}
use Rattle.lw_children.specs.bodies.Ends.{AreChildEnds, IsChildEnd, broken_stop}
use Rattle.lw_outside.specs.declared.links.StartStop.{StartStop}
use Rattle.lw_outside.specs.declared.links.StartStop.TheVariants.{Failed, NoMemory}
use Rattle.lw_children.proofs.KeepLemmas.{keeps_link, number_is, sound_goes_on, stopped_link}
use Rattle.lw_children.proofs.PoolLemmas.{as_many, children_seen, seen_there}
use Rattle.lw_children.proofs.RetireLemmas.{seat_of, some_number}
use Rattle.lw_children.proofs.RunLemmas.{numbered_up, whole_link}
use Rattle.lw_children.proofs.StartLemmas.{quietly_some}

-- a link that isn't there
abbrev no_link : LinkState
no_link = record { number = 0; faults = 0; ends = 0; transcript = None }

-- the records of children at the end of a learning, whose links were started and retired so
module _ (letters : List (List ℕ)) (outputs : Option (List (List ℕ))) (names : List (List ℕ)) (since : List KeptAnswer) (base : ℕ) (links : List LinkState) (ends : AreChildEnds letters outputs names since base links) where
  pub numbers_rise : (i : ℕ) (d : LinkState) → i < length links → (get_or links i d).number ≡ base + i
  numbers_rise i d lt = let e = ends i d lt in number_is letters outputs (base + i) e.seen (get_or links i d) e.is_seen e.bears

  abbrev pub keeps_children : (prior kept : List KeptAnswer) → kept ≡ prior ++ since → All (λ k. k.instance < length links) since → AreAnswers (length letters) (answers_of kept) → All (λ k. All (λ y. y < length names) k.outs) kept → AskedOnce prior kept → KeepsChildren letters outputs names prior kept links
  keeps_children prior kept first instances words below once = record {
    since = since;
    first = first;
    instances = instances;
    numbered = λ i lt. let e = ends i no_link lt in numbered_up names e.seen.names i since e.seen.journal e.kept;
    runs = λ i d lt. let e = ends i d lt in keeps_link letters outputs (base + i) e.seen (get_or links i d) e.is_seen e.bears names i since e.kept;
    words = words;
    below = below;
    once = once;
  }

-- starts by the words, and then the retiring of all that they gave
started_retired : (words : List (List ℕ)) (before mid now : SpawnerState) (n : ℕ) (links : List LinkState) → StartsSome words before mid n → now.started ≡ mid.started → now.retired ≡ mid.retired ++ links → now.faults ≡ mid.faults → now.commands ≡ mid.commands → length links ≡ n → ((i : ℕ) (d : LinkState) → i < length links → (get_or links i d).number ≡ before.started + i) → StartsAndRetires words before now links
started_retired words before mid now n links some started retired faults commands count numbers = record {
  started = omega (arith, started, some.started, count);
  retired = retired ∙ ap (λ (l : List LinkState). l ++ links) some.retired;
  numbers = numbers;
  counts = omega (arith, some.counts, faults);
  starts = some.starts;
  commands = commands ∙ some.commands;
  each = ⊎_elim (λ (e : some.starts ≡ n). inl (e ∙ sym count)) (λ (e : (some.starts ≡ n + 1) × CountedFault before.faults mid.faults). inr (omega (arith, e.0, count), subst (λ (k : ℕ). CountedFault before.faults k) (sym faults) e.1)) some.each;
}

fits_declared : (outputs : Option (List (List ℕ))) → FitsOutputs outputs (first_names outputs) (most_outputs_of outputs) (count_of outputs)
fits_declared None = (refl, omega arith)
fits_declared (Some names) = (refl, refl)

named_first : (outputs : Option (List (List ℕ))) → IsNaming (first_names outputs) (most_outputs_of outputs) (count_of outputs)
named_first None = inl (refl, refl)
named_first (Some names) = inr (refl, refl)

differ_first : (outputs : Option (List (List ℕ))) → AreFree (most_outputs_of outputs) (count_of outputs) → AllDiffer (first_names outputs)
differ_first None free = λ i j d lt within. absurd (omega (arith, within))
differ_first (Some names) free = absurd (omega (arith, free.0, free.1))

told_first : (outputs : Option (List (List ℕ))) (told : Option Transcript) → AreToldIfFree (first_names outputs) (most_outputs_of outputs) (count_of outputs) told
told_first outputs None free = tt
told_first None (Some t) free = λ i d lt. absurd (omega (arith, lt))
told_first (Some names) (Some t) free = absurd (omega (arith, free.0, free.1))

few_first : (outputs : Option (List (List ℕ))) → length (first_names outputs) ≤ most_outputs_of outputs
few_first None = omega arith
few_first (Some names) = omega arith

-- what is told of a link over which nothing went
untouched_is : (letters names : List (List ℕ)) (most faults : ℕ) (told : Option Transcript) → IsUntouched told → IsTranscriptOf letters names most faults None false told
untouched_is letters names most faults None is = tt
untouched_is letters names most faults (Some t) is = subst (λ (x : Transcript). IsTranscriptOf letters names most faults None false (Some x)) (sym is) (
  record {
    each = λ i d lt. absurd (omega (arith, lt));
    first = λ line more same. absurd (omega (arith, ap (λ (l : List (List ℕ)). length l) same));
    answered = omega arith;
    whole = λ some. absurd (some refl);
  },
  tt,
  (refl, refl),
)

untouched_runs : (letters names : List (List ℕ)) (told : Option Transcript) → IsUntouched told → IsJournal (told_runs letters names told) [] None false
untouched_runs letters names None is = tt
untouched_runs letters names (Some t) is = subst (λ (x : Transcript). IsJournal (told_runs letters names (Some x)) [] None false) (sym is) refl

module _ {L : Type 0} (state : L → LinkState) (letters : List (List ℕ)) (outputs : Option (List (List ℕ))) (names : List (List ℕ)) (before : SpawnerState) where
  fresh_seen : (i : ℕ) (s : SessionState (LineState L)) → s ≡ new_session i s.sul.link letters outputs → (state s.sul.link).number ≡ before.started + i → IsChildSeen letters outputs (before.started + i) (line_seen state s)
  fresh_seen i s made linked =
      subst (λ (x : SessionState (LineState L)). IsChildSeen letters outputs (before.started + i) (line_seen state x)) (sym made)
      (record { origin = ap (λ (n : ℕ). let o : Origin = record { machine = None; link = Some n; letters = Some letters } in o) linked; fits = fits_declared outputs })

  fresh_end : (i : ℕ) (s : SessionState (LineState L)) (r : LinkState) → s ≡ new_session i s.sul.link letters outputs → (state s.sul.link).number ≡ before.started + i → BearsOut (line_seen state s) r → IsChildEnd letters outputs names [] before.started i r
  fresh_end i s r made linked bears = record {
    seen = line_seen state s;
    is_seen = fresh_seen i s made linked;
    bears = bears;
    kept = ap (λ (x : SessionState (LineState L)). journal_runs x.sul.names 0 x.journal) (sym made);
  }

  loose_end : (i : ℕ) (l : L) → (state l).number ≡ before.started + i → IsUntouched (state l).transcript → IsChildEnd letters outputs names [] before.started i (state l)
  loose_end i l linked is = record {
    seen = line_seen state (new_session i l letters outputs);
    is_seen = fresh_seen i (new_session i l letters outputs) refl linked;
    bears = record {
      letters = letters;
      origin = refl;
      counted = tt;
      told = untouched_is letters (first_names outputs) (most_outputs_of outputs) (state l).faults (state l).transcript is;
      few = few_first outputs;
      naming = named_first outputs;
      differ = differ_first outputs;
      told_names = told_first outputs (state l).transcript;
      cut = false;
      journal = untouched_runs letters (first_names outputs) (state l).transcript is;
    };
    kept = refl;
  }

  -- sessions that were made, and a link more, once all are retired
  pub fresh_ends : (sessions : List (SessionState (LineState L))) (loose : Option L) (records : List LinkState) → HasBegun state letters outputs before sessions loose → length records ≡ length sessions
      → ((i : ℕ) (d : SessionState (LineState L)) (e : LinkState) → i < length sessions → BearsOut (line_seen state (get_or sessions i d)) (get_or records i e))
      → AreChildEnds letters outputs names [] before.started (records ++ loose_records state loose)
  fresh_ends sessions loose records begun count each i d lt =
      ⊎_elim
      (λ (lt' : i < length records).
      let within : i < length sessions = omega (arith, lt', count) in
      let s = seat_of sessions i within in
      let made = begun.new i s within in
      subst (IsChildEnd letters outputs names [] before.started i) (sym (get_or_append_left records (loose_records state loose) d i lt'))
      (fresh_end i (get_or sessions i s) (get_or records i d) made.0 made.1 (each i s d within)))
      (λ (le : length records ≤ i). last loose begun.loose_is le lt)
      (cases_lt i (length records))
    where
      last : (loose : Option L) → IsLoose state (before.started + length sessions) loose → length records ≤ i → i < length (records ++ loose_records state loose) → IsChildEnd letters outputs names [] before.started i (get_or (records ++ loose_records state loose) i d)
      last None is le lt = absurd (omega (arith, le, lt, ap (λ (l : List LinkState). length l) (append-nil records)))
      last (Some l) is le lt =
          let r = state l in
          let here : length records ≡ i = omega (arith, le, lt, length-append records (r ∷ [])) in
          let none : i - length records ≡ 0 = omega (arith, here) in
          subst (IsChildEnd letters outputs names [] before.started i)
          (sym (get_or-append_right records (r ∷ []) (length records) i d refl le ∙ ap (λ (n : ℕ). get_or (r ∷ []) n d) none))
          (loose_end i l (omega (arith, is.0, here, count)) is.3)

prior_words : (naming : Naming) (inputs count : ℕ) (prior : List KeptAnswer) → MayBegin naming inputs count prior → AreAnswers inputs (answers_of prior)
prior_words naming inputs count prior may = All-map (IsAnswer inputs) answer_of prior may.answers

-- a learning that never began
module _ (kind : Kind) (words letters : List (List ℕ)) (outputs : Option (List (List ℕ))) (workers k most : ℕ) (prior : List KeptAnswer) (before now : SpawnerState) (naming : Naming) (may : MayBegin naming (length letters) (count_of outputs) prior) (links : List LinkState) (spawner : StartsAndRetires words before now links) (few : length links ≤ workers) (ends : AreChildEnds letters outputs naming.names [] before.started links) where
  -- nothing was kept but the prior answers
  kept_prior : KeepsChildren letters outputs naming.names prior prior links
  kept_prior =
      keeps_children letters outputs naming.names [] before.started links ends prior prior (sym (append-nil prior))
      (λ i d lt. absurd (omega (arith, lt)))
      (prior_words naming (length letters) (count_of outputs) prior may)
      may.named
      (λ i d le lt. absurd (omega (arith, le, lt)))

  pub out_of_memory : (learned : Result Learned LearnStop) (kept : List KeptAnswer) (names : List (List ℕ)) → learned ≡ Err (learn.Ask ask.NoMemory) → kept ≡ prior → names ≡ naming.names → IsOfChildren kind words letters outputs workers k most prior before now learned kept names
  out_of_memory learned kept names is kept_is names_are =
      subst (λ (r : Result Learned LearnStop). IsOfChildren kind words letters outputs workers k most prior before now r kept names) (sym is)
      (subst (λ (l : List KeptAnswer). IsOfChildren kind words letters outputs workers k most prior before now (Err (learn.Ask ask.NoMemory)) l names) (sym kept_is)
      (subst (λ (l : List (List ℕ)). IsOfChildren kind words letters outputs workers k most prior before now (Err (learn.Ask ask.NoMemory)) prior l) (sym names_are) (record {
        links = links;
        spawner = spawner;
        few = few;
        all = tt;
        quiet = tt;
        keeps = kept_prior;
        whole = tt;
        ok = tt;
        stops = tt;
        causes = tt;
        reached = λ m within gives quiet sound. refl;
        counted = λ m within gives quiet uncounted. inl refl;
      })))

  pub not_started : (n : ℕ) (learned : Result Learned LearnStop) (kept : List KeptAnswer) (names : List (List ℕ)) → learned ≡ Err (learn.Ask (ask.Sul n sul.Failed)) → kept ≡ prior → names ≡ naming.names → n < workers → length links ≡ n → CountedFault before.faults now.faults → IsOfChildren kind words letters outputs workers k most prior before now learned kept names
  not_started n learned kept names is kept_is names_are lt count failed =
      subst (λ (r : Result Learned LearnStop). IsOfChildren kind words letters outputs workers k most prior before now r kept names) (sym is)
      (subst (λ (l : List KeptAnswer). IsOfChildren kind words letters outputs workers k most prior before now (Err (learn.Ask (ask.Sul n sul.Failed))) l names) (sym kept_is)
      (subst (λ (l : List (List ℕ)). IsOfChildren kind words letters outputs workers k most prior before now (Err (learn.Ask (ask.Sul n sul.Failed))) prior l) (sym names_are) (record {
        links = links;
        spawner = spawner;
        few = few;
        all = tt;
        quiet = tt;
        keeps = kept_prior;
        whole = tt;
        ok = tt;
        stops = tt;
        causes = (lt, inl (refl, count, failed));
        reached = λ m within gives quiet sound. absurd (quiet failed);
        counted = λ m within gives quiet uncounted. absurd (quiet failed);
      })))

-- the links of sessions that were made, and one more, may be retired
pub begun_linked : {L : Type 0} (state : L → LinkState) (letters : List (List ℕ)) (outputs : Option (List (List ℕ))) (words : List (List ℕ)) (before mid : SpawnerState) (sessions : List (SessionState (LineState L))) (loose : Option L) → HasBegun state letters outputs before sessions loose → StartsSome words before mid (length sessions + count_link loose) → AreLinkedWith state sessions loose mid
begun_linked state letters outputs words before mid sessions loose begun some = record {
  base = before.started;
  links = λ i d lt. (begun.new i d lt).1;
  last = last loose begun.loose_is;
  earlier = λ lt. subst (λ (rs : List LinkState). All (λ r. r.number < before.started) rs) (sym some.retired) (begun.earlier lt);
  within = omega (arith, some.started);
}
  where
    last : (loose : Option _) → IsLoose state (before.started + length sessions) loose → has_number state (before.started + length sessions) loose
    last None is = tt
    last (Some l) is = is.0

-- a learning that was given up before it began
pub given_up : {L : Type 0} (kind : Kind) (state : L → LinkState) (words letters : List (List ℕ)) (outputs : Option (List (List ℕ))) (workers k most : ℕ) (prior : List KeptAnswer) (before mid now : SpawnerState) (naming : Naming) (sessions : List (SessionState (LineState L))) (loose : Option L) (stop : StartStop)
    → MayBegin naming (length letters) (count_of outputs) prior → HasBegun state letters outputs before sessions loose → StartsSome words before mid (length sessions + count_link loose)
    → RetiresWith state sessions loose mid now → length sessions + count_link loose ≤ workers → length sessions < workers → (stop ≡ Failed → (loose ≡ None) × CountedFault before.faults mid.faults)
    → (learned : Result Learned LearnStop) (kept : List KeptAnswer) (names : List (List ℕ)) → learned ≡ Err (broken_stop stop (length sessions)) → kept ≡ prior → names ≡ naming.names → IsOfChildren kind words letters outputs workers k most prior before now learned kept names
given_up kind state words letters outputs workers k most prior before mid now naming sessions loose stop may begun some retires few less failed learned kept names is kept_is names_are =
    by stop failed is
  where
    links : List LinkState
    links = retires.first.records ++ loose_records state loose

    loose_count : (loose : Option _) → length (loose_records state loose) ≡ count_link loose
    loose_count None = refl
    loose_count (Some l) = refl

    count : length links ≡ length sessions + count_link loose
    count = length-append retires.first.records (loose_records state loose) ∙ omega (arith, retires.first.count, loose_count loose)

    ended : AreChildEnds letters outputs naming.names [] before.started links
    ended = fresh_ends state letters outputs naming.names before sessions loose retires.first.records begun retires.first.count retires.first.each

    spawner : StartsAndRetires words before now links
    spawner = started_retired words before mid now (length sessions + count_link loose) links some (retires.started ∙ retires.first.started)
        (retires.retired ∙ (ap (λ (l : List LinkState). l ++ loose_records state loose) retires.first.retired ∙ append_assoc mid.retired retires.first.records (loose_records state loose)))
        (retires.faults_same ∙ retires.first.faults) (retires.commands ∙ retires.first.commands) count (numbers_rise letters outputs naming.names [] before.started links ended)

    by : (stop : StartStop) → (stop ≡ Failed → (loose ≡ None) × CountedFault before.faults mid.faults) → learned ≡ Err (broken_stop stop (length sessions)) → IsOfChildren kind words letters outputs workers k most prior before now learned kept names
    by Failed failed is =
        let f = failed refl in
        not_started kind words letters outputs workers k most prior before now naming may links spawner (omega (arith, count, few)) ended (length sessions) learned kept names is kept_is names_are less
        (omega (arith, count, ap (λ (o : Option _). count_link o) f.0)) (subst (λ (n : ℕ). CountedFault before.faults n) (sym (retires.faults_same ∙ retires.first.faults)) f.1)
    by NoMemory failed is = out_of_memory kind words letters outputs workers k most prior before now naming may links spawner (omega (arith, count, few)) ended learned kept names is kept_is names_are

module _ {L : Type 0} (state : L → LinkState) (words letters : List (List ℕ)) (outputs : Option (List (List ℕ))) (workers : ℕ) (before mid : SpawnerState) (sessions : List (SessionState (LineState L))) (begun : HasBegun state letters outputs before sessions None) (starts : StartsLinks words before mid workers) (count : length sessions ≡ workers) where
  earlier_all : 0 < length sessions → All (λ r. r.number < before.started) mid.retired
  earlier_all lt = subst (λ (rs : List LinkState). All (λ r. r.number < before.started) rs) (sym starts.retired) (begun.earlier (omega (arith, lt)))

  -- the links of sessions that were all made may be retired
  pub all_linked : (now : List (SessionState (LineState L))) → now ≡ sessions → AreLinked state now mid
  all_linked now same = subst (λ (l : List (SessionState (LineState L))). AreLinked state l mid) (sym same) (record {
    base = before.started;
    links = λ i d lt. (begun.new i d lt).1;
    earlier = earlier_all;
    within = omega (arith, starts.started, count);
  })

  -- and they are those of a pool of children
  pub begun_pool : (pool : PoolState (LineState L)) → pool.members ≡ map (child_member state) sessions → pool.naming ≡ first_naming outputs → IsChildrenPool state mid pool
  begun_pool pool members naming_is = record {
    letters = letters;
    outputs_declared = outputs;
    base = before.started;
    sessions = sessions;
    new = begun.new;
    members = sym members;
    naming = naming_is;
    earlier = earlier_all;
    within = omega (arith, starts.started, count);
  }

  -- a learning for which there was no memory once all were made
  pub refused_pool : (kind : Kind) (k most : ℕ) (prior : List KeptAnswer) (now : SpawnerState) (naming : Naming) (left : List (SessionState (LineState L))) → MayBegin naming (length letters) (count_of outputs) prior → left ≡ sessions → RetiresAll state left mid now
      → (learned : Result Learned LearnStop) (kept : List KeptAnswer) (names : List (List ℕ)) → learned ≡ Err (learn.Ask ask.NoMemory) → kept ≡ prior → names ≡ naming.names → IsOfChildren kind words letters outputs workers k most prior before now learned kept names
  refused_pool kind k most prior now naming left may same retires' learned kept names is kept_is names_are =
      out_of_memory kind words letters outputs workers k most prior before now naming may links spawner (omega (arith, counted)) ended learned kept names is kept_is names_are
    where
      retires : RetiresAll state sessions mid now
      retires = subst (λ (l : List (SessionState (LineState L))). RetiresAll state l mid now) same retires'

      links : List LinkState
      links = retires.records ++ []

      counted : length links ≡ workers
      counted = ap (λ (l : List LinkState). length l) (append-nil retires.records) ∙ (retires.count ∙ count)

      ended : AreChildEnds letters outputs naming.names [] before.started links
      ended = fresh_ends state letters outputs naming.names before sessions None retires.records begun retires.count retires.each

      spawner : StartsAndRetires words before now links
      spawner = started_retired words before mid now workers links (quietly_some words before mid workers starts) retires.started
          (retires.retired ∙ ap (λ (l : List LinkState). mid.retired ++ l) (sym (append-nil retires.records)))
          retires.faults retires.commands counted (numbers_rise letters outputs naming.names [] before.started links ended)

-- a learning over a pool of children that were all started
module _ {L : Type 0} (kind : Kind) (state : L → LinkState) (words letters : List (List ℕ)) (outputs : Option (List (List ℕ))) (workers k most : ℕ) (prior : List KeptAnswer) (before mid now : SpawnerState) (sessions : List (SessionState (LineState L))) (new : AreNewSessions state letters outputs before.started sessions) (starts : StartsLinks words before mid workers) (count : length sessions ≡ workers)
    (pool : PoolState (LineState L)) (members : map (child_member state) sessions ≡ pool.members) (naming_is : pool.naming ≡ first_naming outputs) (prior_is : pool.prior ≡ prior) (inputs_is : pool.inputs ≡ length letters) (outputs_is : pool.outputs ≡ count_of outputs) (unrefused : pool.refused ≡ false) (may : MayAsk pool.stop) (nothing : NothingClashes (answers_of pool.kept))
    (learned : Result Learned LearnStop) (kept : List KeptAnswer) (naming : Naming) (ended : HasRetired kind state k most pool mid now learned kept naming) where
  abbrev left : PoolState (LineState L)
  left = ended.left

  abbrev later : List (SessionState (LineState L))
  later = ended.later

  abbrev links : List LinkState
  links = ended.retires.records

  seen_all : (length later ≡ length sessions) × ((i : ℕ) (d : SessionState (LineState L)) → i < length later → IsChildSeen letters outputs (before.started + i) (line_seen state (get_or later i d)))
  seen_all = children_seen state letters outputs before.started sessions later pool left (learn_stop learned) new members naming_is ended.learned ended.members

  many : length (seen_of left) ≡ length links
  many = as_many state later left ended.members ∙ sym ended.retires.count

  all_links : length links ≡ workers
  all_links = ended.retires.count ∙ (seen_all.0 ∙ count)

  abbrev since : List KeptAnswer
  since = ended.learned.stands.stands.since

  ends_are : AreChildEnds letters outputs left.naming.names since before.started links
  ends_are i d lt =
      let within : i < length later = omega (arith, lt, ended.retires.count) in
      let s = seat_of later i within in
      let there = seen_there state later left ended.members i s within in
      record {
        seen = line_seen state (get_or later i s);
        is_seen = seen_all.1 i s within;
        bears = ended.retires.each i s d within;
        kept = subst (λ (x : Seen). kept_runs left.naming.names i since ≡ journal_runs x.names 0 x.journal) there (ended.learned.stands.stands.runs i (omega (arith, lt, many)));
      }

  -- where nothing was ever refused no session has stopped, and nothing is left out
  nothing_left : left.refused ≡ false → LeavesNothing letters outputs left.naming.names since links
  nothing_left never i d lt =
      let within : i < length later = omega (arith, lt, ended.retires.count) in
      let inside : i < length (seen_of left) = omega (arith, lt, many) in
      let s = seat_of later i within in
      let there = seen_there state later left ended.members i s within in
      whole_link letters outputs (before.started + i) (line_seen state (get_or later i s)) (get_or links i d) (seen_all.1 i s within) (ended.retires.each i s d within) left.naming.names i since
      (ap (λ (x : Seen). x.stop) (sym there) ∙ (ended.learned.stands.unrefused never).1 i inside)
      (subst (λ (x : Seen). kept_runs left.naming.names i since ≡ journal_runs x.names 0 x.journal) there (ended.learned.stands.stands.runs i inside))

  whole_learned : (r : Result Learned LearnStop) → (learn_stop r ≡ None → left.refused ≡ pool.refused) → OnOk r (LeavesNothing letters outputs left.naming.names since links)
  whole_learned (Ok l) never = nothing_left (never refl ∙ unrefused)
  whole_learned (Err stop) never = tt

  -- a session that stopped is that of a link whose record says why
  stopped_there : (i : ℕ) (stop : SulStop) → (i < length (seen_of left)) × ((seen_at (seen_of left) i).stop ≡ Some stop) → (i < length links) × ((d : LinkState) → IsStopped outputs stop (get_or links i d))
  stopped_there i stop why =
      let lt : i < length links = omega (arith, why.0, many) in (
        lt,
        λ d.
            let within : i < length later = omega (arith, lt, ended.retires.count) in
            let s = seat_of later i within in
            stopped_link letters outputs (before.started + i) (line_seen state (get_or later i s)) (get_or links i d) (seen_all.1 i s within) (ended.retires.each i s d within) stop
            (ap (λ (x : Seen). x.stop) (sym (seen_there state later left ended.members i s within)) ∙ why.1),
      )

  caused : (r : Result Learned LearnStop) → LeavesStop (learn_stop r) left.stop → IsStopCause (oracle_of pool) (oracle_of left) (learn_stop r) → IfErr r (IsCausedBy outputs workers before now links left.kept)
  caused (Ok l) told cause = tt
  caused (Err (learn.Ask (ask.Sul i s))) told cause =
      let why = stopped_there i s (subst (IsStopOf (seen_of left) left.kept) told ended.learned.stands.why) in
      (omega (arith, why.0, all_links), inr why)
  caused (Err (learn.Ask (ask.Clash c))) told cause = cause nothing
  caused (Err (learn.Ask ask.NoMemory)) told cause = tt
  caused (Err (learn.Crowd ws)) told cause = tt
  caused (Err (learn.TooLarge model n)) told cause = tt

  own_stop : (m : Rows) → Gives m (answers_of left.kept) → All (IsSound outputs) links → (r : Result Learned LearnStop) → LeavesStop (learn_stop r) left.stop → IsStopCause (oracle_of pool) (oracle_of left) (learn_stop r) → IfErr r IsOwnStop
  own_stop m gives sound (Ok l) told cause = tt
  own_stop m gives sound (Err (learn.Ask (ask.Sul i s))) told cause =
      let why = stopped_there i s (subst (IsStopOf (seen_of left) left.kept) told ended.learned.stands.why) in
      absurd (sound_goes_on outputs (get_or links i no_link) s (sound i no_link why.0) (why.1 no_link))
  own_stop m gives sound (Err (learn.Ask (ask.Clash c))) told cause = absurd (no_first_clash m (answers_of left.kept) c gives (cause nothing))
  own_stop m gives sound (Err (learn.Ask ask.NoMemory)) told cause = refl
  own_stop m gives sound (Err (learn.Crowd ws)) told cause = tt
  own_stop m gives sound (Err (learn.TooLarge model n)) told cause = tt

  -- a child whose link counted nothing can only have said a bad line
  bad_line : (i : ℕ) (stop : SulStop) (link : LinkState) → i < workers → IsUncounted link → IsStopped outputs stop link → SaysBadLine workers (Err (learn.Ask (ask.Sul i stop)))
  bad_line i sul.Failed link lt uncounted why = absurd (uncounted.faults why)
  bad_line i (sul.BadLine line) link lt uncounted why = lt
  bad_line i sul.Gone link lt uncounted why = absurd (uncounted.ends why.0)

  own_or_bad : (m : Rows) → Gives m (answers_of left.kept) → All IsUncounted links → (r : Result Learned LearnStop) → LeavesStop (learn_stop r) left.stop → IsStopCause (oracle_of pool) (oracle_of left) (learn_stop r) → IfErr r IsOwnStop ⊎ SaysBadLine workers r
  own_or_bad m gives uncounted (Ok l) told cause = inl tt
  own_or_bad m gives uncounted (Err (learn.Ask (ask.Sul i s))) told cause =
      let why = stopped_there i s (subst (IsStopOf (seen_of left) left.kept) told ended.learned.stands.why) in
      inr (bad_line i s (get_or links i no_link) (omega (arith, why.0, all_links)) (uncounted i no_link why.0) (why.1 no_link))
  own_or_bad m gives uncounted (Err (learn.Ask (ask.Clash c))) told cause = absurd (no_first_clash m (answers_of left.kept) c gives (cause nothing))
  own_or_bad m gives uncounted (Err (learn.Ask ask.NoMemory)) told cause = inl refl
  own_or_bad m gives uncounted (Err (learn.Crowd ws)) told cause = inl tt
  own_or_bad m gives uncounted (Err (learn.TooLarge model n)) told cause = inl tt

  cause_is : IsStopCause (oracle_of pool) (oracle_of left) (learn_stop learned)
  cause_is = ended.learned.leaves.cause may

  words_are : AreAnswers (length letters) (answers_of left.kept)
  words_are = subst (λ (n : ℕ). AreAnswers n (answers_of left.kept)) (ended.learned.leaves.same.inputs ∙ inputs_is) (All-map (IsAnswer left.inputs) answer_of left.kept ended.learned.stands.keeps.answers)

  ok_is : IfOk learned (λ l. IsLearned kind (length letters) (count_of outputs) k most (answers_of left.kept) l.model l.learner)
  ok_is = subst₂ (λ (a b : ℕ). IfOk learned (λ l. IsLearned kind a b k most (answers_of left.kept) l.model l.learner)) inputs_is outputs_is ended.ok

  stops_are : IfErr learned (StopsAs (length letters) (count_of outputs) k most (answers_of left.kept))
  stops_are = subst₂ (λ (a b : ℕ). IfErr learned (StopsAs a b k most (answers_of left.kept))) inputs_is outputs_is ended.stops

  of_left : ModelIsLeast → TooManyIsNone → TooLargeForAll → IsOfChildren kind words letters outputs workers k most prior before now learned left.kept left.naming.names
  of_left least none large = record {
    links = links;
    spawner = started_retired words before mid now workers links (quietly_some words before mid workers starts) ended.retires.started ended.retires.retired ended.retires.faults ended.retires.commands all_links (numbers_rise letters outputs left.naming.names since before.started links ends_are);
    few = omega (arith, all_links);
    all = always (length links ≡ workers) learned all_links;
    quiet = always (now.faults ≡ before.faults) learned (ended.retires.faults ∙ starts.faults);
    keeps = keeps_children letters outputs left.naming.names since before.started links ends_are prior left.kept
        (ended.learned.stands.stands.first ∙ ap (λ (l : List KeptAnswer). l ++ since) (ended.learned.prior ∙ prior_is))
        (subst (λ (n : ℕ). All (λ x. x.instance < n) since) many ended.learned.stands.stands.instances)
        words_are ended.learned.stands.below
        (subst (λ (l : List KeptAnswer). AskedOnce l left.kept) (ended.learned.prior ∙ prior_is) ended.learned.stands.once);
    whole = whole_learned learned ended.learned.leaves.refused;
    ok = ok_is;
    stops = stops_are;
    causes = caused learned ended.learned.leaves.told cause_is;
    reached = λ m within gives quiet sound.
        reached kind (length letters) (count_of outputs) k most (answers_of left.kept) learned least none large words_are ok_is stops_are (own_stop m gives sound learned ended.learned.leaves.told cause_is) m within gives;
    counted = λ m within gives quiet uncounted.
        ⊎_elim
        (λ (own : IfErr learned IsOwnStop). inl (reached kind (length letters) (count_of outputs) k most (answers_of left.kept) learned least none large words_are ok_is stops_are own m within gives))
        (λ (bad : SaysBadLine workers learned). inr bad)
        (own_or_bad m gives uncounted learned ended.learned.leaves.told cause_is);
  }
    where
      always : (P : Type 0) (r : Result Learned LearnStop) → P → OnOk r P
      always P (Ok l) is = is
      always P (Err e) is = tt

  pub of_pool : ModelIsLeast → TooManyIsNone → TooLargeForAll → IsOfChildren kind words letters outputs workers k most prior before now learned kept naming.names
  of_pool least none large =
      subst (λ (l : List KeptAnswer). IsOfChildren kind words letters outputs workers k most prior before now learned l naming.names) (sym ended.kept_is)
      (subst (λ (n : Naming). IsOfChildren kind words letters outputs workers k most prior before now learned left.kept n.names) (sym ended.naming_is) (of_left least none large))

-- the links of the sessions of a pool may be retired once a learning over it has ended
pub later_linked : {L : Type 0} (state : L → LinkState) (spawner : SpawnerState) (pool left : PoolState (LineState L)) (later : List (SessionState (LineState L))) (stop : Option AskStop) → IsChildrenPool state spawner pool → HasLearned pool left stop → map (child_member state) later ≡ left.members → AreLinked state later spawner
later_linked state spawner pool left later stop is learned are =
    let seen = children_seen state is.letters is.outputs_declared is.base is.sessions later pool left stop is.new is.members is.naming learned are in
    record {
      base = is.base;
      links = λ i d lt. some_number (state (get_or later i d).sul.link).number (is.base + i) (ap (λ (o : Origin). o.link) (seen.1 i d lt).origin);
      earlier = λ lt. is.earlier (omega (arith, lt, seen.0));
      within = omega (arith, is.within, seen.0);
    }
