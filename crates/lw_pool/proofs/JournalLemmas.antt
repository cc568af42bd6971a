-- The runs of journals beside the kept answers.
use Rattle.std.proofs.Common.{◌≡◌, ℕ, ◌+◌, ◌<◌, ◌≤◌, ◌==◌, List, [], ◌∷◌, ◌++◌, length, map, filter, All, Bool, true, false, cond, refl, ap, sym, ◌∙◌, subst, arith, append_assoc, append-nil, length-append}
use Rattle.std.proofs.lemmas.List.{get_or_append_left, map-append}
use Rattle.std.proofs.lemmas.List.Elements.{All-head, All-tail, filter-append}
use Rattle.lw_words.specs.declared.kept.KeptAnswer.{KeptAnswer}
use Rattle.lw_names.specs.Names.{IsGrown}
use Rattle.lw_words.specs.Word.{named}
use Rattle.lw_sul.specs.SessionState.{run_of}
use Rattle.lw_sul.specs.declared.runs.Run.{Run}
use Rattle.lw_names.proofs.NameLemmas.{named-grown}
use Rattle.lw_desk.specs.Step.{word_at_place}
use Rattle.lw_desk.specs.Ending.{NamedRun, kept_runs}
use Rattle.lw_desk.specs.bodies.Outcome.{given_runs}
use Rattle.lw_desk.specs.declared.ask.Give.{Give}
use Rattle.lw_pool.specs.Pool.{Seen, journal_runs}
use Rattle.lw_pool.specs.Working.{GivesBetween}

pub grown_not : (xs : List (List ℕ)) → IsGrown xs xs
grown_not xs = ([], sym (append-nil xs))

pub grown_both : (xs ys zs : List (List ℕ)) → IsGrown xs ys → IsGrown ys zs → IsGrown xs zs
grown_both xs ys zs g h = (g.0 ++ h.0, h.1 ∙ (ap (λ (l : List (List ℕ)). l ++ h.0) g.1 ∙ append_assoc xs g.0 h.0))

pub same_named : (was now : List (List ℕ)) (outs : List ℕ) → IsGrown was now → All (λ y. y < length was) outs → named now outs ≡ named was outs
same_named was now outs g below = ap (λ (l : List (List ℕ)). named l outs) g.1 ∙ named-grown was g.0 outs below

-- two parts of a list of runs
pub runs_both : (names : List (List ℕ)) (n : ℕ) (rs more : List Run) → journal_runs names n (rs ++ more) ≡ journal_runs names n rs ++ journal_runs names (n + length rs) more
runs_both names n [] more = ap (λ (k : ℕ). journal_runs names k more) (omega arith)
runs_both names n (r ∷ rs) more =
    ap (λ (l : List NamedRun). record { run = n; word = r.word; names = named names r.outs } ∷ l)
    (runs_both names (n + 1) rs more ∙ ap (λ (k : ℕ). journal_runs names (n + 1) rs ++ journal_runs names k more) (omega arith))

-- runs don't change as names come
pub runs_grown : (was now : List (List ℕ)) (n : ℕ) (rs : List Run) → IsGrown was now → All (λ r. All (λ y. y < length was) r.outs) rs → journal_runs now n rs ≡ journal_runs was n rs
runs_grown was now n [] g below = refl
runs_grown was now n (r ∷ rs) g below =
    ap (λ (ns : List (List ℕ)). record { run = n; word = r.word; names = ns } ∷ journal_runs now (n + 1) rs) (same_named was now r.outs g (All-head (λ r. All (λ y. y < length was) r.outs) r rs below))
    ∙ ap (λ (l : List NamedRun). record { run = n; word = r.word; names = named was r.outs } ∷ l) (runs_grown was now (n + 1) rs g (All-tail (λ r. All (λ y. y < length was) r.outs) r rs below))

pub kept_grown : (was now : List (List ℕ)) (i : ℕ) (kept : List KeptAnswer) → IsGrown was now → All (λ k. All (λ y. y < length was) k.outs) kept → kept_runs now i kept ≡ kept_runs was i kept
kept_grown was now i [] g below = refl
kept_grown was now i (k ∷ kept) g below = by (k.instance == i) (kept_grown was now i kept g (All-tail (λ k. All (λ y. y < length was) k.outs) k kept below))
  where
    by : (b : Bool) → kept_runs now i kept ≡ kept_runs was i kept
        → map (λ k. record { run = k.run; word = k.word; names = named now k.outs }) (cond b (k ∷ filter (λ k. k.instance == i) kept) (filter (λ k. k.instance == i) kept))
        ≡ (let l : List NamedRun = map (λ k. record { run = k.run; word = k.word; names = named was k.outs }) (cond b (k ∷ filter (λ k. k.instance == i) kept) (filter (λ k. k.instance == i) kept)) in l)
    by true rest =
        ap (λ (ns : List (List ℕ)). record { run = k.run; word = k.word; names = ns } ∷ kept_runs now i kept) (same_named was now k.outs g (All-head (λ k. All (λ y. y < length was) k.outs) k kept below))
        ∙ ap (λ (l : List NamedRun). record { run = k.run; word = k.word; names = named was k.outs } ∷ l) rest
    by false rest = rest

pub kept_both : (names : List (List ℕ)) (i : ℕ) (kept more : List KeptAnswer) → kept_runs names i (kept ++ more) ≡ kept_runs names i kept ++ kept_runs names i more
kept_both names i kept more =
    ap (map (λ (k : KeptAnswer). let r : NamedRun = record { run = k.run; word = k.word; names = named names k.outs } in r)) (filter-append (λ (k : KeptAnswer). k.instance == i) kept more)
    ∙ map-append (λ (k : KeptAnswer). let r : NamedRun = record { run = k.run; word = k.word; names = named names k.outs } in r) (filter (λ (k : KeptAnswer). k.instance == i) kept) (filter (λ (k : KeptAnswer). k.instance == i) more)

-- the runs that were given
abbrev pub runs_given : List (List ℕ) → List Give → List Run
runs_given batch gs = map (λ g. run_of (word_at_place batch g.place) g.outs) gs

pub gives_journal : (batch : List (List ℕ)) (was now : Seen) (gs : List Give) → GivesBetween batch was now gs → now.journal ≡ was.journal ++ runs_given batch gs
gives_journal batch was now [] same = ap (λ (s : Seen). s.journal) same ∙ sym (append-nil was.journal)
gives_journal batch was now (g ∷ gs) gives =
    gives_journal batch gives.0 now gs gives.2
    ∙ (ap (λ (l : List Run). l ++ runs_given batch gs) gives.1.journal ∙ append_assoc was.journal (run_of (word_at_place batch g.place) g.outs ∷ []) (runs_given batch gs))

pub gives_grown : (batch : List (List ℕ)) (was now : Seen) (gs : List Give) → GivesBetween batch was now gs → IsGrown was.names now.names
gives_grown batch was now [] same = subst (λ (s : Seen). IsGrown was.names s.names) (sym same) (grown_not was.names)
gives_grown batch was now (g ∷ gs) gives = grown_both was.names gives.0.names now.names (g.names, gives.1.names) (gives_grown batch gives.0 now gs gives.2)

pub gives_below : (batch : List (List ℕ)) (was now : Seen) (gs : List Give) → GivesBetween batch was now gs → All (λ r. All (λ y. y < length now.names) r.outs) (runs_given batch gs)
gives_below batch was now [] same = λ k d lt. absurd (omega arith)
gives_below batch was now (g ∷ gs) gives =
    Rattle.std.proofs.lemmas.List.Elements.All-cons (λ (r : Run). All (λ y. y < length now.names) r.outs) (run_of (word_at_place batch g.place) g.outs) (runs_given batch gs)
    (Rattle.std.proofs.lemmas.List.Elements.All-weaker (λ y. y < length gives.0.names) (λ y. y < length now.names) (λ y lt. omega (arith, lt, longer gives.0.names now.names (gives_grown batch gives.0 now gs gives.2))) g.outs gives.1.numbers)
    (gives_below batch gives.0 now gs gives.2)
  where
    longer : (xs ys : List (List ℕ)) → IsGrown xs ys → length xs ≤ length ys
    longer xs ys h = omega (arith, ap (λ (l : List (List ℕ)). length l) h.1, length-append xs h.0)

-- what was given, by the desk's names of the instance, is what the journal gained, by the system's own
pub gives_runs : (batch : List (List ℕ)) (was now : Seen) (gs : List Give) (own names : List (List ℕ)) → GivesBetween batch was now gs → IsGrown now.names own → IsGrown now.names names → given_runs batch own gs ≡ journal_runs names (length was.journal) (runs_given batch gs)
gives_runs batch was now [] own names same g h = refl
gives_runs batch was now (x ∷ gs) own names gives g h =
    let grown : IsGrown gives.0.names now.names = gives_grown batch gives.0 now gs gives.2 in
    let same : named own x.outs ≡ named names x.outs =
    same_named gives.0.names own x.outs (grown_both gives.0.names now.names own grown g) gives.1.numbers
    ∙ sym (same_named gives.0.names names x.outs (grown_both gives.0.names now.names names grown h) gives.1.numbers) in
    let count : length gives.0.journal ≡ length was.journal + 1 = ap (λ (l : List Run). length l) gives.1.journal ∙ length-append was.journal (run_of (word_at_place batch x.place) x.outs ∷ []) in
    ap (λ (n : ℕ). record { run = n; word = word_at_place batch x.place; names = named own x.outs } ∷ given_runs batch own gs) gives.1.run
    ∙ (ap (λ (ns : List (List ℕ)). record { run = length was.journal; word = word_at_place batch x.place; names = ns } ∷ given_runs batch own gs) same
    ∙ ap (λ (l : List NamedRun). record { run = length was.journal; word = word_at_place batch x.place; names = named names x.outs } ∷ l)
    (gives_runs batch gives.0 now gs own names gives.2 g h ∙ ap (λ (n : ℕ). journal_runs names n (runs_given batch gs)) count))
