-- The command `learn` as clap sees it, and what arguments that it takes say.
use Rattle.std.specs.Prelude.{ℕ, Bool, List, [], ◌∷◌, codes, Option, Some, None, option_and_then, option_map, string_bytes, false}
use Rattle.clap.specs.Words.{App, Row, first_of}
use Rattle.lw_rounds.specs.declared.learner.Kind.{Kind}
use Rattle.lw_rounds.specs.declared.settings.Settings.{Settings}
use Rattle.lw_chunks.specs.declared.method.Method.{Method}
use Rattle.lw_learn.specs.Arguments.{LearnValues}
use Rattle.lw_draw.specs.declared.drawing.Drawn.{Drawn}
use Rattle.lw_learn.specs.declared.arguments.LearnFiles.{LearnFiles}
use Rattle.lw_top.specs.declared.arguments.learn.Draws.{Draws}
use Rattle.lw_system.specs.declared.goal.Goal.{Goal}
use Rattle.lw_system.specs.declared.goal.Goal.TheVariants.{Machine}
use Rattle.lw_system.specs.declared.source.Source.{Source}
use Rattle.lw_system.specs.declared.source.Source.TheVariants.{Setup, Table}
use Rattle.lw_top.specs.CommandLine.{app_by, flag_given, kind_named, method_named, number_given, values_taken}
use Rattle.lw_top.specs.Syntaxes.{SyntaxValues, Text, entry, extra_entry, journal_entry, kept_entry, last_entry, learner_entry, length_entry, log_entry, model_entry, random_entry, seed_entry, setup_entry, states_entry, suite_entry, table_entry, verbose_entry, walks_entry, words_entry, workers_entry}
use Rattle.lw_top.specs.declared.ranges.TheConstants.{EXTRA, LENGTH, RANDOM, SEED, STATES, WORKERS}

-- learn (SETUP | --table FILE) [--workers N] [--extra K] [--learner table|ttt] [--max-states N] [--model FILE] [--answers FILE] [--prior FILE]
-- [--kept FILE] [--words FILE] [[--random R] [--walks N] --length L --seed S] [--log FILE] [--suite w|wp|h] [--last FILE]
-- [--journal FILE] [--verbose]
abbrev pub learn_syntax : SyntaxValues
learn_syntax = record {
  command = codes "learn";
  about = codes "learns a program, or the machine of a file";
  entries =
      setup_entry
      ∷ table_entry
      ∷ workers_entry
      ∷ extra_entry
      ∷ learner_entry
      ∷ states_entry
      ∷ model_entry
      ∷ entry (Text (codes "answers")) (codes "FILE") (codes "where the recorded answers are written with the model")
      ∷ entry (Text (codes "prior")) (codes "FILE") (codes "recorded answers of an earlier call, to begin with")
      ∷ kept_entry
      ∷ words_entry
      ∷ random_entry
      ∷ walks_entry
      ∷ length_entry
      ∷ seed_entry
      ∷ log_entry
      ∷ suite_entry
      ∷ last_entry
      ∷ journal_entry
      ∷ verbose_entry
      ∷ [];
  texts = codes "SETUP" ∷ [];
  takes_more = false;
  in_place = codes "table" ∷ [];
  together = codes "random" ∷ codes "length" ∷ codes "seed" ∷ [];
  instead = codes "walks" ∷ codes "length" ∷ codes "seed" ∷ [];
  either = codes "random or --walks" ∷ codes "length" ∷ codes "seed" ∷ [];
}

-- as clap sees it
abbrev pub learn_app : App
learn_app = app_by learn_syntax

-- the file of the system and its kind: one of a setup and a table, never both
abbrev pub source_from : (setup table : Option (List ℕ)) → Option (Source × List ℕ)
source_from (Some setup) None = Some (Setup, setup)
source_from None (Some table) = Some (Table, table)
source_from (Some setup) (Some table) = None
source_from None None = None

abbrev pub source_in : List Row → Option (Source × List ℕ)
source_in rows = source_from (first_of (codes "setup") rows) (first_of (codes "table") rows)

-- so many words, if some are to be drawn
abbrev pub drawn_by : (length seed : ℕ) → Option ℕ → Option Drawn
drawn_by length seed None = None
drawn_by length seed (Some count) = Some (record { count = count; length = length; seed = seed })

-- the words that are to be drawn to be asked first, and the walks behind the suites
pub record DrawValues : Type 0 where
  pub words : Option Drawn
  pub walks : Option Drawn

abbrev pub draw_values : Draws → DrawValues
draw_values d = record { words = d.words; walks = d.walks }

-- neither, where none of their numbers is given; else words or walks or both, with how many letters are drawn for each and a seed
abbrev pub drawn_from : (words walks length seed : Option ℕ) → Option DrawValues
drawn_from None None None None = Some (record { words = None; walks = None })
drawn_from None None _ _ = None
drawn_from words walks (Some length) (Some seed) = Some (record { words = drawn_by length seed words; walks = drawn_by length seed walks })
drawn_from _ _ _ _ = None

abbrev pub drawn_in : List Row → Option DrawValues
drawn_in rows =
    drawn_from (number_given (codes "random") RANDOM rows) (number_given (codes "walks") RANDOM rows) (number_given (codes "length") LENGTH rows) (number_given (codes "seed") SEED rows)

-- the settings of the learning
pub record SettingValues : Type 0 where
  pub workers : ℕ
  pub extra : ℕ
  pub learner : Kind
  pub max_states : ℕ
  pub suite : Method

abbrev pub setting_values : Settings → SettingValues
setting_values s = record { workers = s.workers; extra = s.extra; learner = s.kind; max_states = s.max_states; suite = s.testing.suite }

-- these settings, where the numbers are in their ranges, the learner is of a kind, and suites are made by a method
abbrev pub settings_from : (workers extra : Option ℕ) → Option Kind → (max_states : Option ℕ) → Option Method → Option SettingValues
settings_from None extra learner max_states suite = None
settings_from (Some workers) None learner max_states suite = None
settings_from (Some workers) (Some extra) None max_states suite = None
settings_from (Some workers) (Some extra) (Some learner) None suite = None
settings_from (Some workers) (Some extra) (Some learner) (Some max_states) None = None
settings_from (Some workers) (Some extra) (Some learner) (Some max_states) (Some suite) =
    Some (record { workers = workers; extra = extra; learner = learner; max_states = max_states; suite = suite })

abbrev pub settings_by : Option Method → List Row → Option SettingValues
settings_by suite rows =
    settings_from (number_given (codes "workers") WORKERS rows) (number_given (codes "extra") EXTRA rows) (option_and_then kind_named (first_of (codes "learner") rows)) (number_given (codes "max-states") STATES rows) suite

abbrev pub settings_in : List Row → Option SettingValues
settings_in rows = settings_by (option_and_then method_named (first_of (codes "suite") rows)) rows

-- the names of the other files
pub record LearnFileNames : Type 0 where
  pub model : Option (List ℕ)
  pub answers : Option (List ℕ)
  pub prior : Option (List ℕ)
  pub kept : Option (List ℕ)
  pub last : Option (List ℕ)
  pub words : Option (List ℕ)
  pub log : Option (List ℕ)
  pub journal : Option (List ℕ)

abbrev pub file_names : LearnFiles → LearnFileNames
file_names f = record {
  model = option_map (λ s. string_bytes s) f.model;
  answers = option_map (λ s. string_bytes s) f.answers;
  prior = option_map (λ s. string_bytes s) f.prior;
  kept = option_map (λ s. string_bytes s) f.kept;
  last = option_map (λ s. string_bytes s) f.last;
  words = option_map (λ s. string_bytes s) f.words;
  log = option_map (λ s. string_bytes s) f.log;
  journal = option_map (λ s. string_bytes s) f.journal;
}

abbrev pub files_in : List Row → LearnFileNames
files_in rows = record {
  model = first_of (codes "model") rows;
  answers = first_of (codes "answers") rows;
  prior = first_of (codes "prior") rows;
  kept = first_of (codes "kept") rows;
  last = first_of (codes "last") rows;
  words = first_of (codes "words") rows;
  log = first_of (codes "log") rows;
  journal = first_of (codes "journal") rows;
}

-- the values of what is learned, where the system's file is named and all else is there
abbrev pub learn_values_from : Goal → Option (Source × List ℕ) → Option SettingValues → Option DrawValues → LearnFileNames → (verbose : Bool) → Option LearnValues
learn_values_from goal None settings drawn files verbose = None
learn_values_from goal (Some system) None drawn files verbose = None
learn_values_from goal (Some system) (Some settings) None files verbose = None
learn_values_from goal (Some system) (Some settings) (Some drawn) files verbose =
    Some
    (record {
      goal = goal;
      source = system.0;
      system = system.1;
      workers = settings.workers;
      extra = settings.extra;
      learner = settings.learner;
      max_states = settings.max_states;
      testing = record { suite = settings.suite; walks = drawn.walks };
      model = files.model;
      answers = files.answers;
      prior = files.prior;
      kept = files.kept;
      last = files.last;
      words = files.words;
      drawn = drawn.words;
      log = files.log;
      journal = files.journal;
      verbose = verbose;
    })

-- progress is told
abbrev pub verbose_in : List Row → Bool
verbose_in rows = flag_given (codes "verbose") rows

abbrev pub learn_found : List Row → Option LearnValues
learn_found rows = learn_values_from Machine (source_in rows) (settings_in rows) (drawn_in rows) (files_in rows) (verbose_in rows)

-- what the arguments say to `learn`, where they are taken
abbrev pub learn_values : List (List ℕ) → Option LearnValues
learn_values = values_taken learn_app learn_found
