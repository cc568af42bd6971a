-- Words that are asked one after the other.
use Rattle.std.proofs.Common.{◌≡◌, ◌∙◌, ⊎_elim, ℕ, ◌+◌, ◌<◌, ◌≤◌, List, [], ◌∷◌, ◌++◌, length, take, get_or, Option, Result, Ok, Err, IfErr, IsErrAnd, OnOk, inl, inr, refl, ap, sym, subst, subst₂, arith, append_assoc, length-append, length-take}
use Rattle.std.specs.List.{All}
use Rattle.std.proofs.lemmas.List.{length-map, map-append, take_more}
use Rattle.std.proofs.lemmas.List.Elements.{All-nil, All-push}
use Rattle.lw_words.specs.declared.kept.KeptAnswer.{KeptAnswer}
use Rattle.lw_words.specs.declared.stop.SulStop.{SulStop}
use Rattle.lw_mealy.specs.Machine.{Rows}
use Rattle.lw_outside.specs.Streams.{TakesAll, TakesSome}
use Rattle.lw_names.specs.Names.{IsGrown}
use Rattle.lw_sul.specs.SessionState.{run_of}
use Rattle.lw_sul.specs.Told.{Answers}
use Rattle.lw_sul.specs.declared.runs.Run.{Run}
use Rattle.lw_ask.specs.Asking.{AreRunsOf, HasAsked, HasStopped, LacksLast, kept_from, kept_run, words_in}
use Rattle.lw_ask.specs.Lines.{answer_line, answer_lines, line_of}
use Rattle.lw_ask.specs.bodies.Step.{GainsLine, GainsNone, GainsPart, GainsRun, StopsOne}
use Rattle.lw_ask.specs.declared.stop.AskingStop.{AskingStop}
use Rattle.lw_ask.specs.declared.stop.AskingStop.TheVariants.{Sul, Sink, NoMemory}
use Rattle.lw_ask.proofs.LineLemmas.{lines_grown, lines_more, takes_none, takes_then}

-- one run more
kept_more : (n : ℕ) (rs : List Run) (r : Run) → kept_from n (rs ++ r ∷ []) ≡ kept_from n rs ++ kept_run (n + length rs) r ∷ []
kept_more n [] r = ap (λ (k : ℕ). kept_run k r ∷ []) (omega arith)
kept_more n (q ∷ rs) r =
    let same : n + 1 + length rs ≡ n + length (q ∷ rs) = omega arith in
    ap (λ (l : List KeptAnswer). kept_run n q ∷ l) (kept_more (n + 1) rs r ∙ ap (λ (k : ℕ). kept_from (n + 1) rs ++ kept_run k r ∷ []) same)

kept_next : (rs : List Run) (r : Run) → kept_from 0 (rs ++ r ∷ []) ≡ kept_from 0 rs ++ kept_run (length rs) r ∷ []
kept_next rs r = let same : 0 + length rs ≡ length rs = omega arith in kept_more 0 rs r ∙ ap (λ (k : ℕ). kept_from 0 rs ++ kept_run k r ∷ []) same

module _ (machine : Option Rows) (words names : List (List ℕ)) (runs : List Run) (kept : List KeptAnswer) (are : AreRunsOf machine words names runs kept) (more : List (List ℕ)) where
  below_grown : All (λ k. All (λ y. y < length (names ++ more)) k.outs) kept
  below_grown = λ i d lt j e lt'. let small = are.below i d lt j e lt' in omega (arith, small, length-append names more)

  grown : AreRunsOf machine words (names ++ more) runs kept
  grown = record { words_are = are.words_are; kept_is = are.kept_is; below = below_grown; given = are.given }

  gained : (w outs : List ℕ) → All (λ y. y < length (names ++ more)) outs → Answers machine w outs → AreRunsOf machine (words ++ w ∷ []) (names ++ more) (runs ++ run_of w outs ∷ []) (kept ++ kept_run (length runs) (run_of w outs) ∷ [])
  gained w outs small told = record {
    words_are = map-append (λ (r : Run). r.word) runs (run_of w outs ∷ []) ∙ ap (λ (l : List (List ℕ)). l ++ w ∷ []) are.words_are;
    kept_is = ap (λ (l : List KeptAnswer). l ++ kept_run (length runs) (run_of w outs) ∷ []) are.kept_is ∙ sym (kept_next runs (run_of w outs));
    below = All-push (λ (k : KeptAnswer). All (λ y. y < length (names ++ more)) k.outs) kept (kept_run (length runs) (run_of w outs)) below_grown small;
    given = All-push (λ (r : Run). Answers machine r.word r.outs) runs (run_of w outs) are.given told;
  }

-- a word's run more
gained_run : (machine : Option Rows) (words names names_now : List (List ℕ)) (runs runs_now : List Run) (kept kept_now : List KeptAnswer) (w outs : List ℕ) → AreRunsOf machine words names runs kept → GainsRun machine w outs names names_now runs runs_now kept kept_now → AreRunsOf machine (words ++ w ∷ []) names_now runs_now kept_now
gained_run machine words names names_now runs runs_now kept kept_now w outs are gains =
    let more = gains.grown.0 in
    let small : All (λ y. y < length (names ++ more)) outs = subst (λ (l : List (List ℕ)). All (λ y. y < length l) outs) gains.grown.1 gains.below in
    let here = gained machine words names runs kept are more w outs small gains.given in
    let named : AreRunsOf machine (words ++ w ∷ []) names_now (runs ++ run_of w outs ∷ []) (kept ++ kept_run (length runs) (run_of w outs) ∷ []) =
    subst (λ (l : List (List ℕ)). AreRunsOf machine (words ++ w ∷ []) l (runs ++ run_of w outs ∷ []) (kept ++ kept_run (length runs) (run_of w outs) ∷ [])) (sym gains.grown.1) here in
    subst₂ (λ (rs : List Run) (ks : List KeptAnswer). AreRunsOf machine (words ++ w ∷ []) names_now rs ks) (sym gains.journal) (sym gains.keeps) named

-- a word's run that was finished and kept, and what became of its line
module _ (machine : Option Rows) (letters : List (List ℕ)) (w : List ℕ) (names_before names : List (List ℕ)) (runs_before runs : List Run) (kept_before kept : List KeptAnswer) (before now : Option (List ℕ)) (k : KeptAnswer) (is : k ≡ kept_run (length runs_before) (run_of w k.outs)) (journal : runs ≡ runs_before ++ run_of w k.outs ∷ []) (keeps : kept ≡ kept_before ++ k ∷ []) (below : All (λ y. y < length names) k.outs) (given : Answers machine w k.outs) (grown_by : IsGrown names_before names) where
  gains : GainsRun machine w k.outs names_before names runs_before runs kept_before kept
  gains = record { journal = journal; keeps = keeps ∙ ap (λ (x : KeptAnswer). kept_before ++ x ∷ []) is; below = below; given = given; grown = grown_by }

  line_is : answer_line letters names k ≡ line_of letters names w k.outs
  line_is = ap (λ (x : KeptAnswer). answer_line letters names x) is

  pub one_line : (told : Result (Unit {0}) AskingStop) → OnOk told (TakesAll (answer_line letters names k) before now) → OnOk told (GainsLine machine letters w names_before names runs_before runs kept_before kept before now)
  one_line (Ok done) all = record { outs = k.outs; gains = gains; line = subst (λ (l : List ℕ). TakesAll l before now) line_is all }
  one_line (Err stop) all = tt

  one_part : TakesSome (answer_line letters names k) before now → GainsPart machine letters w names_before names runs_before runs kept_before kept before now
  one_part some = record { outs = k.outs; gains = gains; part = subst (λ (l : List ℕ). TakesSome l before now) line_is some }

  pub one_stop : (told : Result (Unit {0}) AskingStop) → TakesSome (answer_line letters names k) before now → ((why : SulStop) → ¬ (told ≡ Err (Sul why))) → IfErr told (StopsOne machine letters w names_before names runs_before runs kept_before kept before now)
  one_stop (Ok done) some none = tt
  one_stop (Err (Sul why)) some none = absurd (none why refl)
  one_stop (Err Sink) some none = one_part some
  one_stop (Err NoMemory) some none = inr (one_part some)

-- the lines so far, once names came
lines_stay : (letters names names_now : List (List ℕ)) (kept : List KeptAnswer) (before now : Option (List ℕ)) (more : List (List ℕ)) → names_now ≡ names ++ more → All (λ k. All (λ y. y < length names) k.outs) kept → TakesAll (answer_lines letters names kept) before now → TakesAll (answer_lines letters names_now kept) before now
lines_stay letters names names_now kept before now more same below lines =
    subst (λ (l : List ℕ). TakesAll l before now) (sym (ap (λ (n : List (List ℕ)). answer_lines letters n kept) same ∙ lines_grown letters names more kept below)) lines

pub has_begun : (machine : Option Rows) (letters names : List (List ℕ)) (before : Option (List ℕ)) → HasAsked machine letters [] names [] [] before before
has_begun machine letters names before = record {
  are = record { words_are = refl; kept_is = refl; below = All-nil _; given = All-nil _ };
  lines = takes_none before;
}

module _ (machine : Option Rows) (letters words names names_now : List (List ℕ)) (runs runs_now : List Run) (kept kept_now : List KeptAnswer) (before mid now : Option (List ℕ)) (has : HasAsked machine letters words names runs kept before mid) (w : List ℕ) where
  pub asked_more : GainsLine machine letters w names names_now runs runs_now kept kept_now mid now → HasAsked machine letters (words ++ w ∷ []) names_now runs_now kept_now before now
  asked_more gains =
      let k = kept_run (length runs) (run_of w gains.outs) in
      let stay = lines_stay letters names names_now kept before mid gains.gains.grown.0 gains.gains.grown.1 has.are.below has.lines in
      record {
        are = gained_run machine words names names_now runs runs_now kept kept_now w gains.outs has.are gains.gains;
        lines = subst (λ (ks : List KeptAnswer). TakesAll (answer_lines letters names_now ks) before now) (sym gains.gains.keeps)
            (subst (λ (l : List ℕ). TakesAll l before now) (sym (lines_more letters names_now kept k)) (takes_then (answer_lines letters names_now kept) (answer_line letters names_now k) before mid now stay gains.line));
      }

-- the number of runs is that of their words
count_runs : (runs : List Run) (words : List (List ℕ)) (i : ℕ) → words_in runs ≡ take i words → i ≤ length words → length runs ≡ i
count_runs runs words i same le = sym (length-map runs (λ (r : Run). r.word)) ∙ (ap (λ (l : List (List ℕ)). length l) same ∙ length_front)
  where
    length_front : length (take i words) ≡ i
    length_front = omega (arith, length-take i words, le)

module _ (machine : Option Rows) (letters words names names_now : List (List ℕ)) (runs runs_now : List Run) (kept kept_now : List KeptAnswer) (before mid now : Option (List ℕ)) (i : ℕ) (d : List ℕ) (lt : i < length words) (has : HasAsked machine letters (take i words) names runs kept before mid) where
  none_more : GainsNone names names_now runs runs_now kept kept_now mid now → (length runs_now < length words) × AreRunsOf machine (take (length runs_now) words) names_now runs_now kept_now × TakesAll (answer_lines letters names_now kept_now) before now
  none_more gains =
      let count : length runs_now ≡ i = ap (λ (l : List Run). length l) gains.journal ∙ count_runs runs words i has.are.words_are (omega (arith, lt)) in
      let here : AreRunsOf machine (take i words) names_now runs kept =
      subst (λ (l : List (List ℕ)). AreRunsOf machine (take i words) l runs kept) (sym gains.grown.1) (grown machine (take i words) names runs kept has.are gains.grown.0) in
      let stay = lines_stay letters names names_now kept before mid gains.grown.0 gains.grown.1 has.are.below has.lines in (
        omega (arith, count, lt),
        subst (λ (n : ℕ). AreRunsOf machine (take n words) names_now runs_now kept_now) (sym count) (subst₂ (λ (rs : List Run) (ks : List KeptAnswer). AreRunsOf machine (take i words) names_now rs ks) (sym gains.journal) (sym gains.keeps) here),
        subst₂ (λ (ks : List KeptAnswer) (t : Option (List ℕ)). TakesAll (answer_lines letters names_now ks) before t) (sym gains.keeps) (sym gains.untaken) stay,
      )

  part_more : GainsPart machine letters (get_or words i d) names names_now runs runs_now kept kept_now mid now → (length runs_now ≤ length words) × AreRunsOf machine (take (length runs_now) words) names_now runs_now kept_now × LacksLast letters names_now kept_now before now
  part_more gains =
      let w = get_or words i d in
      let k = kept_run (length runs) (run_of w gains.outs) in
      let before_it : length runs ≡ i = count_runs runs words i has.are.words_are (omega (arith, lt)) in
      let count : length runs_now ≡ i + 1 = ap (λ (l : List Run). length l) gains.gains.journal ∙ (length-append runs (run_of w gains.outs ∷ []) ∙ omega (arith, before_it)) in
      let here = gained_run machine (take i words) names names_now runs runs_now kept kept_now w gains.outs has.are gains.gains in
      let front : take i words ++ w ∷ [] ≡ take (length runs_now) words = sym (take_more words i d lt) ∙ ap (λ (n : ℕ). take n words) (sym count) in (
        omega (arith, count, lt),
        subst (λ (l : List (List ℕ)). AreRunsOf machine l names_now runs_now kept_now) front here,
        record {
          front = kept;
          last = k;
          both = gains.gains.keeps;
          between = mid;
          whole = lines_stay letters names names_now kept before mid gains.gains.grown.0 gains.gains.grown.1 has.are.below has.lines;
          part = gains.part;
        },
      )

  pub stopped_at : (stop : AskingStop) → StopsOne machine letters (get_or words i d) names names_now runs runs_now kept kept_now mid now stop → HasStopped machine letters words names_now runs_now kept_now before now stop
  stopped_at (Sul why) gains = let s = none_more gains in record { some = s.0; are = s.1; lines = s.2 }
  stopped_at Sink gains = let s = part_more gains in record { some = s.0; are = s.1; lines = s.2 }
  stopped_at NoMemory gains =
      ⊎_elim (λ (none : GainsNone names names_now runs runs_now kept kept_now mid now). let s = none_more none in let few = s.0 in record { some = omega (arith, few); are = s.1; lines = inl s.2 })
      (λ (part : GainsPart machine letters (get_or words i d) names names_now runs runs_now kept kept_now mid now). let s = part_more part in record { some = s.0; are = s.1; lines = inr s.2 }) gains

-- a stop that is handed on
pub told_stop : {X : Type 0} (P : AskingStop → Type 0) (stop : AskingStop) (result : Result X AskingStop) → IsErrAnd result (λ e. e ≡ stop) → P stop → IfErr result P
told_stop {X = X} P stop (Ok _) is holds = elim is [ ]
told_stop P stop (Err e) is holds = subst P (sym is) holds

-- where it isn't handed on that the stream refused a line, it didn't
pub not_sink : {X : Type 0} (stop : AskingStop) (result was : Result X AskingStop) → IsErrAnd result (λ e. e ≡ stop) → was ≡ Err stop → ¬ (result ≡ Err Sink) → ¬ (was ≡ Err Sink)
not_sink stop (Ok _) was is at calm refused = elim is [ ]
not_sink stop (Err e) was is at calm refused = calm (ap (λ (s : AskingStop). Err s) is ∙ (sym at ∙ refused))

pub not_refused : (was : Result (Unit {0}) AskingStop) (done : Unit {0}) → was ≡ Ok done → ¬ (was ≡ Err Sink)
not_refused was done is refused = absurd (cc)

-- names that came, and then more
pub grown_twice : (first second third : List (List ℕ)) → IsGrown first second → IsGrown second third → IsGrown first third
grown_twice first second third one two = (one.0 ++ two.0, two.1 ∙ (ap (λ (l : List (List ℕ)). l ++ two.0) one.1 ∙ append_assoc first one.0 two.0))
