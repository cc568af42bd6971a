-- The command `trial` as clap sees it, and what arguments that it takes say.
use Rattle.std.specs.Prelude.{ℕ, List, [], ◌∷◌, codes, Option, Some, None, option_and_then, false}
use Rattle.clap.specs.Words.{App, Row, first_of}
use Rattle.lw_rounds.specs.declared.learner.Kind.{Kind}
use Rattle.lw_chunks.specs.declared.method.Method.{Method}
use Rattle.lw_trial.specs.Arguments.{TrialValues}
use Rattle.lw_top.specs.CommandLine.{app_by, kind_named, method_named, number_given, values_taken}
use Rattle.lw_top.specs.Syntaxes.{RequiredNumber, SyntaxValues, entry, learner_entry, suite_entry, workers_entry}
use Rattle.lw_top.specs.declared.ranges.TheConstants.{INPUTS, SEED, STATES, WORKERS}

-- trial --states N --inputs A --seed S [--workers N] [--learner table|ttt] [--suite w|wp|h]
abbrev pub trial_syntax : SyntaxValues
trial_syntax = record {
  command = codes "trial";
  about = codes "draws a machine by a number, and learns it";
  entries =
      entry (RequiredNumber (codes "states") STATES) (codes "N") (codes "how many states the machine has")
      ∷ entry (RequiredNumber (codes "inputs") INPUTS) (codes "A") (codes "how many inputs it has")
      ∷ entry (RequiredNumber (codes "seed") SEED) (codes "S") (codes "what its drawing begins with")
      ∷ workers_entry
      ∷ learner_entry
      ∷ suite_entry
      ∷ [];
  texts = [];
  takes_more = false;
  in_place = [];
  together = [];
  instead = [];
  either = [];
}

-- as clap sees it
abbrev pub trial_app : App
trial_app = app_by trial_syntax

-- the values, where each number is there and in its range, the learner is of a kind, and suites are made by a method
abbrev pub trial_values_from : Option ℕ → Option ℕ → Option ℕ → Option ℕ → Option Kind → Option Method → Option TrialValues
trial_values_from None inputs seed workers learner suite = None
trial_values_from (Some states) None seed workers learner suite = None
trial_values_from (Some states) (Some inputs) None workers learner suite = None
trial_values_from (Some states) (Some inputs) (Some seed) None learner suite = None
trial_values_from (Some states) (Some inputs) (Some seed) (Some workers) None suite = None
trial_values_from (Some states) (Some inputs) (Some seed) (Some workers) (Some learner) None = None
trial_values_from (Some states) (Some inputs) (Some seed) (Some workers) (Some learner) (Some suite) =
    Some (record { states = states; inputs = inputs; seed = seed; workers = workers; learner = learner; suite = suite })

abbrev pub trial_found : List Row → Option TrialValues
trial_found rows =
    trial_values_from (number_given (codes "states") STATES rows) (number_given (codes "inputs") INPUTS rows) (number_given (codes "seed") SEED rows)
    (number_given (codes "workers") WORKERS rows) (option_and_then kind_named (first_of (codes "learner") rows)) (option_and_then method_named (first_of (codes "suite") rows))

-- what the arguments say to `trial`, where they are taken
abbrev pub trial_values : List (List ℕ) → Option TrialValues
trial_values = values_taken trial_app trial_found
