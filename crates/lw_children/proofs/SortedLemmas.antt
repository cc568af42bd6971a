-- What the sorting of names leaves of a learning over children.
use Rattle.std.proofs.Common.{◌≡◌, ◌⊎◌, ⊎_elim, ℕ, zero, suc, ◌+◌, ◌<◌, ◌==◌, List, [], ◌∷◌, length, map, filter, take, get_or, Bool, true, false, cond, Option, Some, None, Result, Ok, Err, IfOk, IfErr, OnOk, inl, refl, ap, ap₂, sym, ◌∙◌, subst, subst₂, append-nil, arith}
use Rattle.std.specs.List.{All, range_with_len}
use Rattle.std.proofs.lemmas.List.{get_or-map, length-map, take-map}
use Rattle.std.proofs.lemmas.List.Elements.{All-map, All-take}
use Rattle.lw_words.specs.Word.{Answer, AreAnswers, IsAnswer, IsWhole, answer_at, answer_of, answers_of, IsPrefix, IsWord, named}
use Rattle.lw_words.specs.Renumbering.{renumbered, renumbered_answer, renumbered_answers}
use Rattle.lw_words.specs.declared.kept.KeptAnswer.{KeptAnswer}
use Rattle.lw_mealy.specs.Machine.{Gives, IsMachine, Rows}
use Rattle.lw_cache.specs.Clash.{ClashAt, IsClear, NothingClashes}
use Rattle.lw_cache.specs.FirstClash.{ClashesFirst, IsFirstClash}
use Rattle.lw_cache.specs.Known.{IsKnown}
use Rattle.lw_cache.specs.declared.stops.AskStop.TheVariants as ask
use Rattle.lw_cache.specs.declared.stops.Clash.{Clash}
use Rattle.lw_outside.specs.Links.{LinkState, Transcript, SpawnerState}
use Rattle.lw_names.specs.Naming.{AreSorted, Naming}
use Rattle.lw_desk.specs.Ending.{ComeUp, NamedRun, kept_runs}
use Rattle.lw_pool.specs.Opening.{MayBegin}
use Rattle.lw_pool.specs.Pool.{AskedOnce}
use Rattle.lw_pool.specs.Sharing.{declared_by}
use Rattle.lw_rounds.specs.declared.settings.Testing.{Testing}
use Rattle.lw_rounds.specs.Learned.{IsEnoughFor, IsLearned}
use Rattle.lw_rounds.specs.declared.learned.Learned.{Learned}
use Rattle.lw_rounds.specs.declared.learner.Kind.{Kind}
use Rattle.lw_rounds.specs.declared.stops.LearnStop.{LearnStop}
use Rattle.lw_rounds.specs.declared.stops.LearnStop.TheVariants as learn
use Rattle.lw_renumber.specs.Renaming.{Renames, renamed_answer, renamed_answers, renamed_rows}
use Rattle.lw_renumber.specs.Sorting.{HasSorted, outs_named, renamed_learned}
use Rattle.lw_renumber.proofs.LawLemmas.{renamed_is_clear, renamed_is_known, renamed_never_clash}
use Rattle.lw_renumber.proofs.MachineLemmas.{is_machine, states_same, told_apart}
use Rattle.lw_renumber.proofs.SureLemmas.{gives_back}
use Rattle.lw_workers.specs.Machines.{IsReached, IsWithin, run_numbers}
use Rattle.lw_children.specs.Children.{IsCausedBy, IsOfChildren, IsOfCommand, IsOfFree, LeavesNothing, SaysBadLine}
use Rattle.lw_system.specs.Told.{IfTold}
use Rattle.lw_children.specs.Crews.{first_naming}
use Rattle.lw_children.specs.Keeping.{KeepsChildren, KeepsTold, KeepsWhole}
use Rattle.lw_children.proofs.StartLemmas.{none_starts}

abbrev first_of : {X : Type 0} → X → List X → X
first_of d [] = d
first_of d (x ∷ xs) = x

abbrev rest_of : {X : Type 0} → List X → List X
rest_of [] = []
rest_of (x ∷ xs) = xs

-- the runs of an instance have the names that they had
runs_stay : (before now : List (List ℕ)) (to : List ℕ) (i : ℕ) (kept : List KeptAnswer) → outs_named now (renumbered_answers to kept) ≡ outs_named before kept → kept_runs now i (renumbered_answers to kept) ≡ kept_runs before i kept
runs_stay before now to i [] same = refl
runs_stay before now to i (k ∷ kept) same =
    by (k.instance == i) (ap (first_of []) same) (runs_stay before now to i kept (ap rest_of same))
  where
    by : (b : Bool) → named now (renumbered to k.outs) ≡ named before k.outs → kept_runs now i (renumbered_answers to kept) ≡ kept_runs before i kept
        → map (λ k. record { run = k.run; word = k.word; names = named now k.outs }) (cond b (renumbered_answer to k ∷ filter (λ k. k.instance == i) (renumbered_answers to kept)) (filter (λ k. k.instance == i) (renumbered_answers to kept)))
        ≡ (let l : List NamedRun = map (λ k. record { run = k.run; word = k.word; names = named before k.outs }) (cond b (k ∷ filter (λ k. k.instance == i) kept) (filter (λ k. k.instance == i) kept)) in l)
    by true names rest = ap₂ (λ (ns : List (List ℕ)) (l : List NamedRun). record { run = k.run; word = k.word; names = ns } ∷ l) names rest
    by false names rest = rest

-- and the numbers
numbers_stay : (to : List ℕ) (i : ℕ) (kept : List KeptAnswer) → run_numbers i (renumbered_answers to kept) ≡ run_numbers i kept
numbers_stay to i [] = refl
numbers_stay to i (k ∷ kept) = by (k.instance == i) (numbers_stay to i kept)
  where
    by : (b : Bool) → run_numbers i (renumbered_answers to kept) ≡ run_numbers i kept
        → map (λ k. k.run) (cond b (renumbered_answer to k ∷ filter (λ k. k.instance == i) (renumbered_answers to kept)) (filter (λ k. k.instance == i) (renumbered_answers to kept)))
        ≡ (let l : List ℕ = map (λ k. k.run) (cond b (k ∷ filter (λ k. k.instance == i) kept) (filter (λ k. k.instance == i) kept)) in l)
    by true rest = ap (λ (l : List ℕ). k.run ∷ l) rest
    by false rest = rest

-- a transcript tells as much of kept answers that give the same runs
told_stays : (letters : List (List ℕ)) (outputs : Option (List (List ℕ))) (before now : List (List ℕ)) (i : ℕ) (kept more : List KeptAnswer) (link : LinkState) (told : Option Transcript) → kept_runs now i more ≡ kept_runs before i kept → KeepsTold letters outputs before i kept link told → KeepsTold letters outputs now i more link told
told_stays letters outputs before now i kept more link None same is = tt
told_stays letters outputs before now i kept more link (Some t) same is = record {
  proper = is.proper;
  own = is.own;
  owns = is.owns;
  runs = is.runs;
  kept = same ∙ is.kept;
  ends = is.ends;
}

-- and leaves out as little
whole_stays : (letters : List (List ℕ)) (outputs : Option (List (List ℕ))) (before now : List (List ℕ)) (i : ℕ) (kept more : List KeptAnswer) (told : Option Transcript) → kept_runs now i more ≡ kept_runs before i kept → IfTold (KeepsWhole letters outputs before i kept) told → IfTold (KeepsWhole letters outputs now i more) told
whole_stays letters outputs before now i kept more None same is = tt
whole_stays letters outputs before now i kept more (Some t) same is = record { own = is.own; owns = is.owns; kept = same ∙ is.kept; covered = is.covered }

-- the answer at a place, also past the end
at : (f : ℕ → ℕ) (ks : List Answer) (i : ℕ) → answer_at (renamed_answers f ks) i ≡ renamed_answer f (answer_at ks i)
at f [] i = refl
at f (k ∷ ks) zero = refl
at f (k ∷ ks) (suc i) = at f ks i

module _ (f g : ℕ → ℕ) (r : Renames f g) where
  -- answers differ at a place exactly where they do so renamed
  clash_too : (k l : Answer) (p : ℕ) → IsWhole k → IsWhole l → ClashAt k l p → ClashAt (renamed_answer f k) (renamed_answer f l) p
  clash_too k l p wk wl c =
      let lk : p < length k.outs = omega (arith, wk, c.first) in
      let ll : p < length l.outs = omega (arith, wl, c.second) in
      record {
        first = c.first;
        second = c.second;
        letters = c.letters;
        before = take-map f p k.outs ∙ (ap (map f) c.before ∙ sym (take-map f p l.outs));
        here = λ same. c.here (sym (r.back (get_or k.outs p 0)) ∙ (ap g (sym (get_or-map f k.outs p 0 0 lk) ∙ (same ∙ get_or-map f l.outs p 0 0 ll)) ∙ r.back (get_or l.outs p 0)));
      }

  clash_back : (k l : Answer) (p : ℕ) → IsWhole k → IsWhole l → ClashAt (renamed_answer f k) (renamed_answer f l) p → ClashAt k l p
  clash_back k l p wk wl c =
      let lk : p < length k.outs = omega (arith, wk, c.first) in
      let ll : p < length l.outs = omega (arith, wl, c.second) in
      record {
        first = c.first;
        second = c.second;
        letters = c.letters;
        before = told_apart f g r (take p k.outs) (take p l.outs) (sym (take-map f p k.outs) ∙ (c.before ∙ take-map f p l.outs));
        here = λ same. c.here (get_or-map f k.outs p 0 0 lk ∙ (ap f same ∙ sym (get_or-map f l.outs p 0 0 ll)));
      }

  -- the first clash of an answer with those before it is the same
  first_clash_stays : (a : ℕ) (ks : List Answer) (k : Answer) (c : Clash) → AreAnswers a ks → IsWhole k → ClashesFirst ks k c → ClashesFirst (renamed_answers f ks) (renamed_answer f k) c
  first_clash_stays a ks k c are wk is =
      let blank : Answer = record { word = []; outs = [] } in
      let clear : (i : ℕ) → IsClear (renamed_answers f ks) i → IsClear ks i = λ i h. (renamed_is_clear f g a ks i r are).0 h in
      let whole : (i : ℕ) → IsClear ks i → IsWhole (answer_at ks i) = λ i h. (are i blank h.0).1 in
      record {
        second = is.second ∙ sym (length-map ks (renamed_answer f));
        clear = (renamed_is_clear f g a ks c.first r are).1 is.clear;
        here = subst (λ (o : Answer). ClashAt o (renamed_answer f k) c.place) (sym (at f ks c.first)) (clash_too (answer_at ks c.first) k c.place (whole c.first is.clear) wk is.here);
        place = λ i place h clash.
            let own = clear i h in
            is.place i place own (clash_back (answer_at ks i) k place (whole i own) wk (subst (λ (o : Answer). ClashAt o (renamed_answer f k) place) (at f ks i) clash));
        first = λ i h prefix. is.first i (clear i h) (subst (λ (o : Answer). IsPrefix (take (c.place + 1) k.word) o.word) (at f ks i) prefix);
      }

-- kept answers and the same ones renumbered
module _ (f g : ℕ → ℕ) (r : Renames f g) (a : ℕ) (to : List ℕ) (was : List KeptAnswer) (are : AreAnswers a (answers_of was)) (same : answers_of (renumbered_answers to was) ≡ renamed_answers f (answers_of was)) where
  abbrev now : List KeptAnswer
  now = renumbered_answers to was

  as_long : length now ≡ length was
  as_long = length-map was (renumbered_answer to)

  front : (i : ℕ) → answers_of (take i now) ≡ renamed_answers f (answers_of (take i was))
  front i = sym (take-map answer_of i now) ∙ (ap (take i) same ∙ (take-map (renamed_answer f) i (answers_of was) ∙ ap (renamed_answers f) (take-map answer_of i was)))

  front_are : (i : ℕ) → AreAnswers a (answers_of (take i was))
  front_are i = subst (AreAnswers a) (take-map answer_of i was) (All-take (IsAnswer a) i (answers_of was) are)

  once_stays : AskedOnce [] was → AskedOnce [] now
  once_stays once i d le lt known =
      let lt' : i < length was = subst (λ (s : ℕ). i < s) as_long lt in
      once i d le lt'
      ((renamed_is_known f g a (answers_of (take i was)) (get_or was i d).word r (front_are i)).0
      (subst₂ (λ (ks : List Answer) (k : KeptAnswer). IsKnown ks k.word) (front i) (get_or-map (renumbered_answer to) was i d d lt') known))

  first_stays : (c : Clash) → IsFirstClash (answers_of was) c → IsFirstClash (answers_of now) c
  first_stays c is =
      let ks : List Answer = answers_of was in
      let whole : IsWhole (answer_at ks c.second) = (are c.second (record { word = []; outs = [] }) is.within).1 in
      let front_is : take c.second (answers_of now) ≡ renamed_answers f (take c.second ks) = ap (take c.second) same ∙ take-map (renamed_answer f) c.second ks in
      let front_of : AreAnswers a (take c.second ks) = All-take (IsAnswer a) c.second ks are in
      record {
        within = subst (λ (s : ℕ). c.second < s) (sym (ap (λ (l : List Answer). length l) same ∙ length-map ks (renamed_answer f))) is.within;
        before = subst NothingClashes (sym front_is) (renamed_never_clash f g a (take c.second ks) r front_of is.before);
        here = subst₂ (λ (l : List Answer) (k : Answer). ClashesFirst l k c) (sym front_is) (sym (ap (λ (l : List Answer). answer_at l c.second) same ∙ at f ks c.second))
            (first_clash_stays f g r a (take c.second ks) (answer_at ks c.second) c front_of whole is.here);
      }

  cause_stays : (workers : ℕ) (before later : SpawnerState) (links : List LinkState) (stop : LearnStop) → IsCausedBy None workers before later links was stop → IsCausedBy None workers before later links now stop
  cause_stays workers before later links (learn.Ask (ask.Sul i s)) why = why
  cause_stays workers before later links (learn.Ask (ask.Clash c)) why = first_stays c why
  cause_stays workers before later links (learn.Ask ask.NoMemory) why = tt
  cause_stays workers before later links (learn.Crowd words) why = tt
  cause_stays workers before later links (learn.TooLarge model number) why = tt

  pub causes_stay : (workers : ℕ) (before later : SpawnerState) (links : List LinkState) (outputs : ℕ) (own : Result Learned LearnStop) → IfErr own (IsCausedBy None workers before later links was) → IfErr (renamed_learned outputs f own) (IsCausedBy None workers before later links now)
  causes_stay workers before later links outputs (Ok l) why = tt
  causes_stay workers before later links outputs (Err stop) why = cause_stays workers before later links stop why

  abbrev keeps_sorted : (letters own_names names : List (List ℕ)) (links : List LinkState) → KeepsChildren letters None own_names [] was links → AreAnswers (length letters) (answers_of now) → All (λ k. IsWord (length names) k.outs) now → outs_named names now ≡ outs_named own_names was → KeepsChildren letters None names [] now links
  keeps_sorted letters own_names names links keeps words below named = record {
    since = now;
    first = refl;
    instances = All-map (λ k. k.instance < length links) (renumbered_answer to) was (subst (λ (ks : List KeptAnswer). All (λ k. k.instance < length links) ks) (sym keeps.first) keeps.instances);
    numbered = λ i lt. subst (λ (ns : List ℕ). ns ≡ range_with_len 0 (length ns)) (sym (numbers_stay to i was ∙ ap (run_numbers i) keeps.first)) (keeps.numbered i lt);
    runs = λ i d lt.
        told_stays letters None own_names names i keeps.since now (get_or links i d) (get_or links i d).transcript
        (runs_stay own_names names to i was named ∙ ap (kept_runs own_names i) keeps.first)
        (keeps.runs i d lt);
    words = words;
    below = below;
    once = once_stays keeps.once;
  }

on_ok : (P Q : Type 0) (r : Result Learned LearnStop) → (P → Q) → OnOk r P → OnOk r Q
on_ok P Q (Ok l) then is = then is
on_ok P Q (Err stop) then is = tt

reached_stays : (n outputs : ℕ) (f : ℕ → ℕ) (own : Result Learned LearnStop) → IsReached n own → IsReached n (renamed_learned outputs f own)
reached_stays n outputs f (Ok l) is = is
reached_stays n outputs f (Err stop) is = is

counted_stays : (n outputs workers : ℕ) (f : ℕ → ℕ) (own : Result Learned LearnStop) → IsReached n own ⊎ SaysBadLine workers own → IsReached n (renamed_learned outputs f own) ⊎ SaysBadLine workers (renamed_learned outputs f own)
counted_stays n outputs workers f (Ok l) is = ⊎_elim (λ (few : IsReached n (Ok l)). inl few) (λ (bad : SaysBadLine workers (Ok l)). absurd bad) is
counted_stays n outputs workers f (Err stop) is = is

all_stays : (P : Type 0) (outputs : ℕ) (f : ℕ → ℕ) (own : Result Learned LearnStop) → OnOk own P → OnOk (renamed_learned outputs f own) P
all_stays P outputs f (Ok l) is = is
all_stays P outputs f (Err stop) is = tt

within_stays : (g : ℕ → ℕ) (a k most : ℕ) (m : Rows) → IsWithin a k most m → IsWithin a k most (renamed_rows g m)
within_stays g a k most m is =
    let n = states_same g m in
    record {
      machine = is_machine g a m is.machine;
      few = rw n is.few;
      small = rw n is.small;
    }

-- a learning over children whose outputs weren't declared, and its names sorted
module _ (kind : Kind) (words letters : List (List ℕ)) (workers k most : ℕ) (before now : SpawnerState) (own learned : Result Learned LearnStop) (was : List KeptAnswer) (own_names names : List (List ℕ)) (to : List ℕ) (of : IsOfChildren kind words letters None workers k most [] before now own was own_names) (sorted : AreSorted names) where
  whole_sorted : outs_named names (renumbered_answers to was) ≡ outs_named own_names was → LeavesNothing letters None own_names of.keeps.since of.links → LeavesNothing letters None names (renumbered_answers to was) of.links
  whole_sorted named whole i d lt =
      whole_stays letters None own_names names i of.keeps.since (renumbered_answers to was) (get_or of.links i d).transcript
      (runs_stay own_names names to i was named ∙ ap (kept_runs own_names i) of.keeps.first)
      (whole i d lt)

  renumbered_free : ComeUp (renumbered_answers to was) names → All (λ k. IsWord (length names) k.outs) (renumbered_answers to was) → outs_named names (renumbered_answers to was) ≡ outs_named own_names was → HasSorted to own_names names (answers_of was) (answers_of (renumbered_answers to was)) own learned → IsOfFree kind words letters workers k most before now learned (renumbered_answers to was) names
  renumbered_free come_up below named has =
      let a : ℕ = length letters in
      let r = has.renumbering.renames in
      let are : AreAnswers a (answers_of was) = of.keeps.words in
      record {
        links = of.links;
        spawner = of.spawner;
        few = of.few;
        all = subst (λ (l : Result Learned LearnStop). OnOk l (length of.links ≡ workers)) (sym has.renamed) (all_stays (length of.links ≡ workers) (length names) has.f own of.all);
        quiet = subst (λ (l : Result Learned LearnStop). OnOk l (now.faults ≡ before.faults)) (sym has.renamed) (all_stays (now.faults ≡ before.faults) (length names) has.f own of.quiet);
        sorted = sorted;
        come_up = come_up;
        keeps = keeps_sorted has.f has.g r a to was are has.answers letters own_names names of.links of.keeps (has.are a are) below named;
        whole = subst (λ (l : Result Learned LearnStop). OnOk l (LeavesNothing letters None names (renumbered_answers to was) of.links)) (sym has.renamed)
            (all_stays (LeavesNothing letters None names (renumbered_answers to was) of.links) (length names) has.f own
            (on_ok (LeavesNothing letters None own_names of.keeps.since of.links) (LeavesNothing letters None names (renumbered_answers to was) of.links) own (whole_sorted named) of.whole));
        own = own;
        own_names = own_names;
        own_answers = answers_of was;
        new_numbers = to;
        same = has;
        answers = are;
        ok = of.ok;
        stops = of.stops;
        causes = subst (λ (l : Result Learned LearnStop). IfErr l (IsCausedBy None workers before now of.links (renumbered_answers to was))) (sym has.renamed)
            (causes_stay has.f has.g r a to was are has.answers workers before now of.links (length names) own of.causes);
        reached = λ m within gives quiet sound.
            subst (λ (l : Result Learned LearnStop). IsReached (length m) l) (sym has.renamed)
            (reached_stays (length m) (length names) has.f own
            (subst (λ (n : ℕ). IsReached n own) (states_same has.g m)
            (of.reached (renamed_rows has.g m) (within_stays has.g a k most m within)
            (gives_back has.f has.g a m (answers_of was) r are within.machine (subst (λ (ks : List Answer). Gives m ks) has.answers gives))
            quiet sound)));
        counted = λ m within gives quiet uncounted.
            subst (λ (l : Result Learned LearnStop). IsReached (length m) l ⊎ SaysBadLine workers l) (sym has.renamed)
            (counted_stays (length m) (length names) workers has.f own
            (subst (λ (n : ℕ). IsReached n own ⊎ SaysBadLine workers own) (states_same has.g m)
            (of.counted (renamed_rows has.g m) (within_stays has.g a k most m within)
            (gives_back has.f has.g a m (answers_of was) r are within.machine (subst (λ (ks : List Answer). Gives m ks) has.answers gives))
            quiet uncounted)));
      }

  pub sorted_free : (kept : List KeptAnswer) → kept ≡ renumbered_answers to was → ComeUp kept names → All (λ k. IsWord (length names) k.outs) kept → outs_named names kept ≡ outs_named own_names was → HasSorted to own_names names (answers_of was) (answers_of kept) own learned → IsOfFree kind words letters workers k most before now learned kept names
  sorted_free kept made =
      subst (λ (ks : List KeptAnswer). ComeUp ks names → All (λ k. IsWord (length names) k.outs) ks → outs_named names ks ≡ outs_named own_names was → HasSorted to own_names names (answers_of was) (answers_of ks) own learned → IsOfFree kind words letters workers k most before now learned ks names) (sym made)
      (λ come_up below named has. renumbered_free come_up below named has)

-- nothing is renumbered where there is nothing
none_sorted : HasSorted [] [] [] [] [] (Err (learn.Ask ask.NoMemory)) (Err (learn.Ask ask.NoMemory))
none_sorted = record {
  f = λ y. y;
  g = λ y. y;
  renumbering = record {
    renames = record { back = λ y. refl; forth = λ y. refl };
    count = refl;
    listed = λ y lt. absurd (omega (arith, lt));
    within = λ y lt. lt;
    past = λ y le. refl;
    named = λ y lt. refl;
  };
  answers = refl;
  are = λ a are. are;
  nothing = λ a are nothing. nothing;
  renamed = refl;
  learned = λ kind a b k most are is. tt;
  enough = λ testing a k are is. tt;
  stopped = λ a b k most are is. tt;
}

-- no child was started: there was no memory
none_free : (kind : Kind) (words letters : List (List ℕ)) (workers k most : ℕ) (before : SpawnerState) → IsOfFree kind words letters workers k most before before (Err (learn.Ask ask.NoMemory)) [] []
none_free kind words letters workers k most before = record {
  links = [];
  spawner = record {
    started = omega arith;
    retired = sym (append-nil before.retired);
    numbers = λ i d lt. absurd (omega (arith, lt));
    counts = omega arith;
    starts = 0;
    commands = (none_starts words before).commands;
    each = inl refl;
  };
  few = omega arith;
  all = tt;
  quiet = tt;
  sorted = λ i j d lt within. absurd (omega (arith, within));
  come_up = λ y lt. absurd (omega (arith, lt));
  keeps = record {
    since = [];
    first = refl;
    instances = λ i d lt. absurd (omega (arith, lt));
    numbered = λ i lt. absurd (omega (arith, lt));
    runs = λ i d lt. absurd (omega (arith, lt));
    words = λ i d lt. absurd (omega (arith, lt));
    below = λ i d lt. absurd (omega (arith, lt));
    once = λ i d le lt. absurd (omega (arith, lt));
  };
  whole = tt;
  own = Err (learn.Ask ask.NoMemory);
  own_names = [];
  own_answers = [];
  new_numbers = [];
  same = none_sorted;
  answers = λ i d lt. absurd (omega (arith, lt));
  ok = tt;
  stops = tt;
  causes = tt;
  reached = λ m within gives quiet sound. refl;
  counted = λ m within gives quiet uncounted. inl refl;
}

pub not_begun : (kind : Kind) (words letters : List (List ℕ)) (workers k most : ℕ) (before : SpawnerState) (learned : Result Learned LearnStop) (kept : List KeptAnswer) (naming : Naming) → learned ≡ Err (learn.Ask ask.NoMemory) → kept ≡ [] → naming ≡ first_naming None → IsOfFree kind words letters workers k most before before learned kept naming.names
not_begun kind words letters workers k most before learned kept naming is none names_are =
    subst (λ (r : Result Learned LearnStop). IsOfFree kind words letters workers k most before before r kept naming.names) (sym is)
    (subst (λ (ks : List KeptAnswer). IsOfFree kind words letters workers k most before before (Err (learn.Ask ask.NoMemory)) ks naming.names) (sym none)
    (subst (λ (n : Naming). IsOfFree kind words letters workers k most before before (Err (learn.Ask ask.NoMemory)) [] n.names) (sym names_are) (none_free kind words letters workers k most before)))

-- what a learning without prior answers may begin with
pub none_prior : (naming : Naming) (inputs outputs : ℕ) (prior : List KeptAnswer) → prior ≡ [] → MayBegin naming inputs outputs prior
none_prior naming inputs outputs prior none = subst (λ (ks : List KeptAnswer). MayBegin naming inputs outputs ks) (sym none) (record {
  prior_is = λ i d lt. absurd (omega (arith, lt));
  answers = λ i d lt. absurd (omega (arith, lt));
  named = λ i d lt. absurd (omega (arith, lt));
  below = λ i d lt. absurd (omega (arith, lt));
})

pub none_clashes : (prior : List KeptAnswer) → prior ≡ [] → NothingClashes (answers_of prior)
none_clashes prior none = subst (λ (ks : List KeptAnswer). NothingClashes (answers_of ks)) (sym none) (λ i j d lt within. absurd (omega (arith, within)))

-- a learning over children by a command, by whether its outputs were declared
module _ (kind : Kind) (words letters : List (List ℕ)) (outputs : Option (List (List ℕ))) (workers k most : ℕ) (prior : List KeptAnswer) (before now : SpawnerState) (learned : Result Learned LearnStop) (kept : List KeptAnswer) where
  abbrev some_names : List (List ℕ) → Option (List (List ℕ)) → List (List ℕ)
  some_names d None = d
  some_names d (Some ns) = ns

  -- declared names stay
  names_declared : (declared names : List (List ℕ)) (brought : Option (List (List (List ℕ)))) → declared_by names brought ≡ Some declared → names ≡ declared
  names_declared declared names None same = ap (some_names declared) same
  names_declared declared names (Some b) same = ap (some_names names) same

  pub of_declared : (declared : List (List ℕ)) (first later : Naming) → outputs ≡ Some declared → first ≡ first_naming outputs → declared_by later.names later.brought ≡ declared_by first.names first.brought → IsOfChildren kind words letters outputs workers k most prior before now learned kept later.names → IsOfCommand kind words letters outputs workers k most prior before now learned kept later.names
  of_declared declared first later are named sharing of =
      subst (λ (o : Option (List (List ℕ))). IsOfCommand kind words letters o workers k most prior before now learned kept later.names) (sym are) (
        names_declared declared later.names later.brought (sharing ∙ ap (λ (n : Naming). declared_by n.names n.brought) (named ∙ ap first_naming are)),
        subst (λ (o : Option (List (List ℕ))). IsOfChildren kind words letters o workers k most prior before now learned kept later.names) are of,
      )

  pub of_free : (names : List (List ℕ)) → outputs ≡ None → prior ≡ [] → IsOfFree kind words letters workers k most before now learned kept names → IsOfCommand kind words letters outputs workers k most prior before now learned kept names
  of_free names none empty of = subst (λ (o : Option (List (List ℕ))). IsOfCommand kind words letters o workers k most prior before now learned kept names) (sym none) (empty, of)

-- a learning that began with nothing kept, over outputs that weren't declared
pub without_outputs : (kind : Kind) (words letters : List (List ℕ)) (outputs : Option (List (List ℕ))) (workers k most : ℕ) (prior : List KeptAnswer) (before now : SpawnerState) (learned : Result Learned LearnStop) (kept : List KeptAnswer) (names : List (List ℕ)) → outputs ≡ None → prior ≡ [] → IsOfChildren kind words letters outputs workers k most prior before now learned kept names → IsOfChildren kind words letters None workers k most [] before now learned kept names
without_outputs kind words letters outputs workers k most prior before now learned kept names none empty of = subst₂ (λ (o : Option (List (List ℕ))) (ks : List KeptAnswer). IsOfChildren kind words letters o workers k most ks before now learned kept names) none empty of

-- the answers are enough for the model, by the new numbers too
pub enough_sorted : (testing : Testing) (kind : Kind) (a b k most : ℕ) (to : List ℕ) (before now : List (List ℕ)) (ks more : List Answer) (was is : Result Learned LearnStop) → HasSorted to before now ks more was is → AreAnswers a ks
    → IfOk was (λ l. IsLearned kind a b k most ks l.model l.learner) → IfOk was (λ l. IsEnoughFor testing a k ks l.model) → IfOk is (λ l. IsEnoughFor testing a k more l.model)
enough_sorted testing kind a b k most to before now ks more was is sorted are learned enough = sorted.enough testing a k are (both was learned enough)
  where
    both : (r : Result Learned LearnStop) → IfOk r (λ l. IsLearned kind a b k most ks l.model l.learner) → IfOk r (λ l. IsEnoughFor testing a k ks l.model) → IfOk r (λ l. IsMachine a l.model.rows × IsEnoughFor testing a k ks l.model)
    both (Ok l) of is_enough = (of.certified.canonical.machine, is_enough)
    both (Err stop) of is_enough = tt
