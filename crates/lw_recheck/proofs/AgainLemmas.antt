-- Words of answers that are asked again, one after the other.
use Rattle.std.proofs.Common.{◌≡◌, ◌∙◌, ℕ, ◌+◌, ◌<◌, ◌≤◌, List, [], ◌∷◌, ◌++◌, length, take, get_or, slice_get, true, false, Option, Some, None, is_some, Result, Ok, Err, IsErrAnd, refl, ap, ap₂, sym, subst, subst₂, arith, append_assoc, length-append, length-take}
use Rattle.std.specs.List.{All}
use Rattle.std.proofs.lemmas.List.{get_or-map, length-map, map-append, take_all, take_more}
use Rattle.std.proofs.lemmas.List.Elements.{All-head, All-nil, All-push, All-tail}
use Rattle.std.proofs.lemmas.Option.{get_or_from_slice_get}
use Rattle.lw_words.specs.Word.{Answer, answer_at, answer_of, answers_of, named}
use Rattle.lw_words.specs.declared.kept.KeptAnswer.{KeptAnswer}
use Rattle.lw_words.specs.declared.stop.RunStop.{RunStop}
use Rattle.lw_json.specs.KeptOver.{AreKeptOver, IsKeptOver}
use Rattle.lw_mealy.specs.Machine.{Rows}
use Rattle.lw_names.specs.Names.{IsGrown}
use Rattle.lw_sul.specs.SessionState.{run_of}
use Rattle.lw_sul.specs.Told.{Answers}
use Rattle.lw_sul.specs.declared.runs.Run.{Run}
use Rattle.lw_names.proofs.NameLemmas.{named-grown}
use Rattle.lw_recheck.specs.Again.{AreAgain, SaidRun, run_in_names, said_answers, said_runs, NamesDifferAt}
use Rattle.lw_recheck.specs.bodies.Step.{FindsOther, GainsAgain, GainsOne, HasFound, HasGone}
use Rattle.lw_recheck.specs.declared.asking.Other.{Other}

abbrev pub blank : KeptAnswer
blank = record { instance = 0; run = 0; word = []; outs = [] }

abbrev nothing : Answer
nothing = record { word = []; outs = [] }

-- runs are said as before where names came
said_grown : (names more : List (List ℕ)) (runs : List Run) → All (λ r. All (λ y. y < length names) r.outs) runs → said_runs (names ++ more) runs ≡ said_runs names runs
said_grown names more [] below = refl
said_grown names more (r ∷ rs) below =
    ap₂ (λ (o : List (List ℕ)) (l : List SaidRun). let one : SaidRun = record { word = r.word; outs = o } in one ∷ l)
    (named-grown names more r.outs (All-head (λ (q : Run). All (λ y. y < length names) q.outs) r rs below))
    (said_grown names more rs (All-tail (λ (q : Run). All (λ y. y < length names) q.outs) r rs below))

below_grown : (names more : List (List ℕ)) (runs : List Run) → All (λ r. All (λ y. y < length names) r.outs) runs → All (λ r. All (λ y. y < length (names ++ more)) r.outs) runs
below_grown names more runs below i d lt j e lt' = let small = below i d lt j e lt' in omega (arith, small, length-append names more)

-- there are as many runs as answers
count_runs : (outputs names : List (List ℕ)) (answers : List KeptAnswer) (runs : List Run) → said_runs names runs ≡ said_answers outputs answers → length runs ≡ length answers
count_runs outputs names answers runs same =
    sym (length-map runs (λ (r : Run). run_in_names names r.word r.outs)) ∙ (ap (λ (l : List SaidRun). length l) same ∙ length-map answers (λ (k : KeptAnswer). run_in_names outputs k.word k.outs))

module _ (machine : Option Rows) (outputs : List (List ℕ)) (answers : List KeptAnswer) (names names_now : List (List ℕ)) (runs runs_now : List Run) (are : AreAgain machine outputs answers names runs) where
  -- the same runs under more names
  pub are_grown : IsGrown names names_now → AreAgain machine outputs answers names_now runs
  are_grown grown =
      subst (λ (n : List (List ℕ)). AreAgain machine outputs answers n runs) (sym grown.1)
      (record { same = said_grown names grown.0 runs are.below ∙ are.same; below = below_grown names grown.0 runs are.below; given = are.given })

  -- an answer more that was given again
  pub are_more : (k : KeptAnswer) → GainsAgain machine outputs k names names_now runs runs_now → AreAgain machine outputs (answers ++ k ∷ []) names_now runs_now
  are_more k again =
      let gains = again.gains in
      let r = run_of k.word again.outs in
      let was = are_grown gains.grown in
      let step : said_runs names_now (runs ++ r ∷ []) ≡ said_answers outputs (answers ++ k ∷ []) =
      map-append (λ (q : Run). run_in_names names_now q.word q.outs) runs (r ∷ [])
      ∙ (ap₂ (λ (l : List SaidRun) (o : List (List ℕ)). let one : SaidRun = record { word = k.word; outs = o } in l ++ one ∷ []) was.same again.same
      ∙ sym (map-append (λ (q : KeptAnswer). run_in_names outputs q.word q.outs) answers (k ∷ []))) in
      subst (λ (l : List Run). AreAgain machine outputs (answers ++ k ∷ []) names_now l) (sym gains.journal)
      (record {
        same = step;
        below = All-push (λ (q : Run). All (λ y. y < length names_now) q.outs) runs r was.below gains.below;
        given = All-push (λ (q : Run). Answers machine q.word q.outs) runs r are.given gains.given;
      })

-- the answer with a number
module _ (answers : List KeptAnswer) (i : ℕ) (k : KeptAnswer) (lt : i < length answers) (at : slice_get answers i ≡ Some k) where
  pub is_at : get_or answers i blank ≡ k
  is_at = get_or_from_slice_get answers i k blank at

  pub answer_is : answer_at (answers_of answers) i ≡ answer_of k
  answer_is = get_or-map answer_of answers i blank nothing lt ∙ ap answer_of is_at

  pub front_more : take (i + 1) answers ≡ take i answers ++ k ∷ []
  front_more = take_more answers i blank lt ∙ ap (λ (x : KeptAnswer). take i answers ++ x ∷ []) is_at

  pub over_at : (a b : ℕ) → AreKeptOver a b answers → IsKeptOver a b k
  over_at a b over = subst (λ (x : KeptAnswer). IsKeptOver a b x) is_at (over i blank lt)

pub front_length : (answers : List KeptAnswer) (i : ℕ) → i ≤ length answers → length (take i answers) ≡ i
front_length answers i le = omega (arith, length-take i answers, le)

-- the word of the answer with a number was asked again
module _ (machine : Option Rows) (outputs : List (List ℕ)) (answers : List KeptAnswer) (names names_now : List (List ℕ)) (runs runs_now : List Run) (i : ℕ) (k : KeptAnswer) (lt : i < length answers) (at : slice_get answers i ≡ Some k) (are : AreAgain machine outputs (take i answers) names runs) where
  count : length runs ≡ i
  count = count_runs outputs names (take i answers) runs are.same ∙ front_length answers i (omega (arith, lt))

  pub again_more : GainsAgain machine outputs k names names_now runs runs_now → AreAgain machine outputs (take (i + 1) answers) names_now runs_now
  again_more again =
      subst (λ (l : List KeptAnswer). AreAgain machine outputs l names_now runs_now) (sym (front_more answers i k lt at)) (are_more machine outputs (take i answers) names names_now runs runs_now are k again)

  pub found_other : (other : Other) → GainsOne machine outputs i k names names_now runs runs_now (Some other) → FindsOther machine outputs answers names_now runs_now other
  found_other other gains =
      let g = gains.1.gains in
      let same : answer_of k ≡ answer_at (answers_of answers) other.number = sym (answer_is answers i k lt at) ∙ ap (λ (n : ℕ). answer_at (answers_of answers) n) (sym gains.0) in
      let was = are_grown machine outputs (take i answers) names names_now runs runs are g.grown in
      record {
        front = runs;
        within = omega (arith, lt, gains.0);
        count = gains.0 ∙ sym count;
        are = subst (λ (n : ℕ). AreAgain machine outputs (take n answers) names_now runs) (sym gains.0) was;
        journal = g.journal ∙ ap (λ (a : Answer). runs ++ run_of a.word other.outs ∷ []) same;
        even = g.even ∙ ap (λ (a : Answer). length a.word) same;
        below = g.below;
        given = subst (λ (a : Answer). Answers machine a.word other.outs) same g.given;
        differs = subst (λ (a : Answer). NamesDifferAt (named outputs a.outs) (named names_now other.outs) other.place) same gains.1.differs;
      }

  -- by whether it came out otherwise
  pub found_some : (found : Option Other) → is_some found ≡ true → GainsOne machine outputs i k names names_now runs runs_now found → HasFound machine outputs answers names_now runs_now (Ok found)
  found_some None some gains = absurd (cc)
  found_some (Some other) some gains = found_other other gains

  pub found_none : (found : Option Other) → is_some found ≡ false → GainsOne machine outputs i k names names_now runs runs_now found → AreAgain machine outputs (take (i + 1) answers) names_now runs_now
  found_none None none gains = again_more gains
  found_none (Some other) none gains = absurd (cc)

  pub has_gone : runs_now ≡ runs → IsGrown names names_now → HasGone machine outputs answers names_now runs_now
  has_gone left grown =
      let long : length runs_now ≡ i = ap (λ (l : List Run). length l) left ∙ count in
      let was = are_grown machine outputs (take i answers) names names_now runs runs are grown in
      record {
        some = omega (arith, long, lt);
        are = subst₂ (λ (n : ℕ) (l : List Run). AreAgain machine outputs (take n answers) names_now l) (sym long) (sym left) was;
      }

-- nothing was asked yet
pub none_again : (machine : Option Rows) (outputs names : List (List ℕ)) (answers : List KeptAnswer) (runs : List Run) → runs ≡ [] → AreAgain machine outputs (take 0 answers) names runs
none_again machine outputs names answers runs none =
    subst (λ (l : List Run). AreAgain machine outputs (take 0 answers) names l) (sym none) (record { same = refl; below = All-nil _; given = All-nil _ })

-- all were asked
pub all_again : (machine : Option Rows) (outputs names : List (List ℕ)) (answers : List KeptAnswer) (runs : List Run) (i : ℕ) → length answers ≤ i → AreAgain machine outputs (take i answers) names runs → AreAgain machine outputs answers names runs
all_again machine outputs names answers runs i all are = subst (λ (l : List KeptAnswer). AreAgain machine outputs l names runs) (take_all i answers all) are

-- a stop that is handed on
pub told_gone : (machine : Option Rows) (outputs : List (List ℕ)) (answers : List KeptAnswer) (names : List (List ℕ)) (runs : List Run) (stop : RunStop) (result : Result (Option Other) RunStop) → IsErrAnd result (λ e. e ≡ stop) → HasGone machine outputs answers names runs → HasFound machine outputs answers names runs result
told_gone machine outputs answers names runs stop (Ok found) is gone = elim is [ ]
told_gone machine outputs answers names runs stop (Err e) is gone = gone

-- names that came, and then more
pub grown_twice : (first second third : List (List ℕ)) → IsGrown first second → IsGrown second third → IsGrown first third
grown_twice first second third one two = (one.0 ++ two.0, two.1 ∙ (ap (λ (l : List (List ℕ)). l ++ two.0) one.1 ∙ append_assoc first one.0 two.0))
