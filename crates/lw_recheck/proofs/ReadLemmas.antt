-- The reading of a setup and of answers.
use Rattle.std.proofs.Common.{◌≡◌, ◌∙◌, ℕ, List, [], Option, Some, None, Result, Ok, Err, IfErr, IfOk, inl, inr, sym, subst, arith}
use Rattle.std.specs.List.{All, Contains}
use Rattle.std.proofs.lemmas.List.Elements.{All-contains_itself}
use Rattle.lw_json.specs.AnswersFault.{IsAnswersFault}
use Rattle.lw_json.specs.Formats.{IsAnswersFile}
use Rattle.lw_json.specs.declared.files.Answers.{Answers}
use Rattle.lw_outside.specs.Files.{File, FilesState, ReadsFile}
use Rattle.lw_system.specs.Reading.{HasRead}
use Rattle.lw_report.specs.Stops.{read_outcome, unread_outcome}
use Rattle.lw_report.specs.declared.outcome.Outcome.{Outcome}
use Rattle.lw_report.specs.declared.outcome.Outcome.TheVariants.{Alphabets}
use Rattle.lw_report.specs.declared.role.Role.TheVariants as role
use Rattle.lw_json.specs.declared.fault.JsonFault.{JsonFault}
use Rattle.lw_system.specs.declared.stops.ReadStop.{ReadStop}
use Rattle.lw_system.specs.Systems.{FitsSystem, ReadsSystem, declared_of, letters_of, or_these}
use Rattle.lw_system.specs.declared.source.Source.TheVariants as source
use Rattle.lw_system.specs.declared.system.System.{System}
use Rattle.lw_system.specs.declared.stops.SystemStop.{SystemStop}
use Rattle.lw_system.proofs.ReadsLemmas.{made_then, read_made, read_none}
use Rattle.lw_system.specs.Finding.{HasReadSystem}
use Rattle.lw_recheck.specs.Reading.{HasReadBoth, IsBehind}
use Rattle.lw_recheck.specs.declared.reading.Task.{Task}

-- names that fit
module _ (p : Answers) (s : System) where
  pub fits_declared : (d : List (List ℕ)) → p.inputs ≡ letters_of s → declared_of s ≡ Some d → All (λ n. Contains d n) p.outputs → FitsSystem p s
  fits_declared d inputs is all = record {
    inputs = inputs;
    outputs = subst (λ (o : Option (List (List ℕ))). All (λ n. Contains (or_these p.outputs o) n) p.outputs) (sym is) all;
  }

  pub unfit_declared : (d : List (List ℕ)) → declared_of s ≡ Some d → ¬ All (λ n. Contains d n) p.outputs → ¬ FitsSystem p s
  unfit_declared d is lacks fits = lacks (subst (λ (o : Option (List (List ℕ))). All (λ n. Contains (or_these p.outputs o) n) p.outputs) is fits.outputs)

  pub fits_free : p.inputs ≡ letters_of s → declared_of s ≡ None → FitsSystem p s
  fits_free inputs is = record {
    inputs = inputs;
    outputs = subst (λ (o : Option (List (List ℕ))). All (λ n. Contains (or_these p.outputs o) n) p.outputs) (sym is) (All-contains_itself p.outputs);
  }

  pub unfit_letters : ¬ (p.inputs ≡ letters_of s) → ¬ FitsSystem p s
  unfit_letters other fits = other fits.inputs

-- the system's files
module _ (setup answers : List ℕ) (f m : FilesState) (r : Result System SystemStop) (has : HasReadSystem source.Setup setup f m r) where
  pub unread_system : (stop : SystemStop) (why : Outcome) → r ≡ Err stop → why ≡ unread_outcome stop → HasReadBoth setup answers f m (Err why)
  unread_system stop why is came = by (subst (λ (x : Result System SystemStop). HasReadSystem source.Setup setup f m x) is has)
    where
      by : HasReadSystem source.Setup setup f m (Err stop) → HasReadBoth setup answers f m (Err why)
      by h = record { ok = tt; made = tt; quiet = tt; err = inl (record { stop = stop; comes_to = came; unread = h.err }); same = h.same; counts = h.counts }

  pub behind : (s : System) → r ≡ Ok s → IsBehind setup f m s
  behind s is = by (subst (λ (x : Result System SystemStop). HasReadSystem source.Setup setup f m x) is has)
    where
      by : HasReadSystem source.Setup setup f m (Ok s) → IsBehind setup f m s
      by h = record { reads = h.ok; made = h.made; quiet = h.quiet; same = h.same }

-- the answers file
module _ (setup answers : List ℕ) (f m g : FilesState) (s : System) (first : IsBehind setup f m s) (r : Result Answers (ReadStop JsonFault)) (has : HasRead IsAnswersFile IsAnswersFault answers m g r) where
  pub unread_answers : (why : ReadStop JsonFault) (outcome : Outcome) → r ≡ Err why → outcome ≡ read_outcome role.Prior why → HasReadBoth setup answers f g (Err outcome)
  unread_answers why outcome is came = record {
    ok = tt;
    made = tt;
    quiet = tt;
    err = inr (inl (record {
      between = m;
      system = s;
      behind = first;
      refused = record { stop = why; comes_to = came; unread = read_none IsAnswersFile IsAnswersFault answers m g r why has is };
    }));
    same = has.same ∙ first.same;
    counts = omega (arith, first.quiet, has.counts);
  }

  pub both_read : (p : Answers) → r ≡ Ok p → (w : Result Task Outcome) → IfOk w (λ t. (t.system ≡ s) × (t.answers ≡ p) × FitsSystem p s) → IfErr w (λ o. (o ≡ Alphabets role.Prior) × ¬ FitsSystem p s) → HasReadBoth setup answers f g w
  both_read p is (Ok t) fits unfit =
      let read = read_made IsAnswersFile IsAnswersFault answers m g r p has is in
      let file : ReadsFile IsAnswersFile answers f.holds m.reads g.reads p = subst (λ (h : Option (List File)). ReadsFile IsAnswersFile answers h m.reads g.reads p) first.same read.0 in
      record {
        ok = record {
          between = m.reads;
          reads = subst (λ (x : System). ReadsSystem source.Setup setup f.holds f.reads m.reads x) (sym fits.0) first.reads;
          file = subst (λ (a : Answers). ReadsFile IsAnswersFile answers f.holds m.reads g.reads a) (sym fits.1) file;
          fits = subst (λ (x : System). FitsSystem t.answers x) (sym fits.0) (subst (λ (a : Answers). FitsSystem a s) (sym fits.1) fits.2);
        };
        made = made_then f m g [] first.made read.1;
        quiet = read.2 ∙ first.quiet;
        err = tt;
        same = has.same ∙ first.same;
        counts = omega (arith, first.quiet, has.counts);
      }
  both_read p is (Err outcome) fits unfit =
      let read = read_made IsAnswersFile IsAnswersFault answers m g r p has is in
      record {
        ok = tt;
        made = tt;
        quiet = tt;
        err = inr (inr (record {
          between = m;
          system = s;
          behind = first;
          read = p;
          file = read.0;
          made = read.1;
          quiet = read.2;
          unfit = unfit.1;
          alphabets = unfit.0;
        }));
        same = has.same ∙ first.same;
        counts = omega (arith, first.quiet, has.counts);
      }
