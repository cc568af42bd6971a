-- A run, letter by letter.
use Rattle.std.proofs.Common.{◌≡◌, ℕ, ◌+◌, ◌<◌, List, [], ◌∷◌, ◌++◌, length, Bool, true, false, Option, Some, None, option_map, get_or, take, drop, refl, ap, sym, ◌∙◌, arith}
use Rattle.std.proofs.lemmas.List.{length-take-le, take-append-drop, take_more}
use Rattle.lw_mealy.specs.Machine.{Rows, out, answer}
use Rattle.lw_mealy.proofs.WordLemmas.{outs_more, outs_end}
use Rattle.lw_words.specs.declared.stop.SulStop.{SulStop}
use Rattle.lw_sul.specs.declared.runs.Run.{Run}
use Rattle.lw_sul.specs.SessionState.{run_of, CutOff, IsJournal, IsUnfinished}
use Rattle.lw_sul.specs.Runs.{stepped, after_step}
use Rattle.lw_sul.specs.Told.{Steps, Starts, Answers}

-- the outputs so far, and those of a told machine to what is left, are its answer to the whole word
abbrev pub Rests : Option Rows → ℕ → List ℕ → List ℕ → List ℕ → Type 0
Rests None q done rest whole = Unit {0}
Rests (Some m) q done rest whole = done ++ out m q rest ≡ answer m whole

pub rests_begin : (o : Option Rows) (q : ℕ) (w : List ℕ) → Starts o q → Rests o q [] w w
rests_begin None q w s = tt
rests_begin (Some m) q w s = rw s refl

pub rests_more : (o : Option Rows) (q r i y : ℕ) (done w : List ℕ) → i < length w → Steps o q (get_or w i 0) y r → Rests o q done (drop i w) w → Rests o r (done ++ y ∷ []) (drop (i + 1) w) w
rests_more None q r i y done w lt s h = tt
rests_more (Some m) q r i y done w lt s h = rw (s.0, s.1) (outs_more m q i done w (answer m w) lt h)

pub rests_end : (o : Option Rows) (q : ℕ) (done w : List ℕ) → Rests o q done (drop (length w) w) w → Answers o w done
rests_end None q done w h = tt
rests_end (Some m) q done w h = sym (outs_end m q done w (answer m w) h)

step_last : (rs : List Run) (r : Run) (x y : ℕ) → after_step x y (rs ++ r ∷ []) ≡ rs ++ stepped r x y ∷ []
step_last [] r x y = refl
step_last (s ∷ []) r x y = refl
step_last (s ∷ t ∷ rs) r x y = ap (λ (l : List Run). s ∷ l) (step_last (t ∷ rs) r x y)

-- the told runs after one step more of the last run
pub runs_more : (o : Option (List Run)) (w done : List ℕ) (i y : ℕ) → i < length w
    → option_map (after_step (get_or w i 0) y) (option_map (λ rs. rs ++ run_of (take i w) done ∷ []) o) ≡ option_map (λ rs. rs ++ run_of (take (i + 1) w) (done ++ y ∷ []) ∷ []) o
runs_more None w done i y lt = refl
runs_more (Some rs) w done i y lt =
    ap (λ (l : List Run). Some l) (step_last rs (run_of (take i w) done) (get_or w i 0) y
    ∙ ap (λ (v : List ℕ). rs ++ run_of v (done ++ y ∷ []) ∷ []) (sym (take_more w i 0 lt)))

-- a run that was refused at its reset
pub refused_at_reset : (w : List ℕ) (o new : Option (List Run)) (cut : Bool) → new ≡ o → cut ≡ false → CutOff w o new cut
refused_at_reset w None new cut is whole = is
refused_at_reset w (Some rs) new cut is whole = rw whole is

-- a run that was cut off by a step
pub refused_at_step : (w : List ℕ) (o new : Option (List Run)) (cut : Bool) (i : ℕ) (outs : List ℕ) → new ≡ option_map (λ rs. rs ++ run_of (take i w) outs ∷ []) o → cut ≡ true → i < length w → length outs ≡ i → CutOff w o new cut
refused_at_step w None new cut i outs is cuts lt size = is
refused_at_step w (Some rs) new cut i outs is cuts lt size =
    let some : length (take i w) ≡ i = length-take-le i w (omega (arith, lt)) in
    let unfinished : IsUnfinished w (run_of (take i w) outs) = record { short = omega (arith, some, lt); front = (drop i w, sym (take-append-drop i w)); outs = size ∙ sym some } in
    rw cuts (run_of (take i w) outs, unfinished, is)

-- after a refusal of a session that hadn't stopped
pub journal_stops : (w : List ℕ) (o new : Option (List Run)) (journal : List Run) (was cut : Bool) (stop : SulStop) → IsJournal o journal None was → CutOff w o new cut → IsJournal new journal (Some stop) cut
journal_stops w None new journal was cut stop told refused = rw refused tt
journal_stops w (Some rs) new journal was false stop told refused = rw refused told
journal_stops w (Some rs) new journal was true stop told refused =
    rw refused.2 (refused.0, ap (λ (l : List Run). l ++ refused.0 ∷ []) told)

pub ruleset run_steps = (rests_begin, rests_more, rests_end, runs_more, refused_at_reset, refused_at_step)
