-- The command `accept` as clap sees it, and what arguments that it takes say: those of a learning, by the W-method, behind no prior
-- answers, that writes no answers file.
use Rattle.std.specs.Prelude.{ℕ, List, [], ◌∷◌, codes, Option, Some, None, false}
use Rattle.clap.specs.Words.{App, Row, first_of}
use Rattle.lw_chunks.specs.declared.method.Method.TheVariants.{W}
use Rattle.lw_learn.specs.Arguments.{LearnValues}
use Rattle.lw_system.specs.declared.goal.Goal.TheVariants.{Acceptor}
use Rattle.lw_top.specs.CommandLine.{app_by, values_taken}
use Rattle.lw_top.specs.Syntaxes.{SyntaxValues, Text, entry, extra_entry, journal_entry, kept_entry, last_entry, learner_entry, length_entry, log_entry, random_entry, seed_entry, setup_entry, states_entry, verbose_entry, walks_entry, words_entry, workers_entry}
use Rattle.lw_top.specs.LearnCommand.{LearnFileNames, drawn_in, learn_values_from, settings_by, source_in, verbose_in}

-- accept (SETUP | --table FILE) [--workers N] [--extra K] [--learner table|ttt] [--max-states N] [--model FILE] [--kept FILE] [--words FILE]
-- [[--random R] [--walks N] --length L --seed S] [--log FILE] [--last FILE] [--journal FILE] [--verbose]
abbrev pub accept_syntax : SyntaxValues
accept_syntax = record {
  command = codes "accept";
  about = codes "learns which words a program accepts, or the acceptor of a file";
  entries =
      setup_entry
      ∷ entry (Text (codes "table")) (codes "FILE") (codes "the file of an acceptor in place of the setup")
      ∷ workers_entry
      ∷ extra_entry
      ∷ learner_entry
      ∷ states_entry
      ∷ entry (Text (codes "model")) (codes "FILE") (codes "where the acceptor is written")
      ∷ kept_entry
      ∷ words_entry
      ∷ random_entry
      ∷ walks_entry
      ∷ length_entry
      ∷ seed_entry
      ∷ log_entry
      ∷ last_entry
      ∷ journal_entry
      ∷ verbose_entry
      ∷ [];
  texts = codes "SETUP" ∷ [];
  takes_more = false;
  in_place = codes "table" ∷ [];
  together = codes "random" ∷ codes "length" ∷ codes "seed" ∷ [];
  instead = codes "walks" ∷ codes "length" ∷ codes "seed" ∷ [];
  either = codes "random or --walks" ∷ codes "length" ∷ codes "seed" ∷ [];
}

-- as clap sees it
abbrev pub accept_app : App
accept_app = app_by accept_syntax

-- the names of the other files
abbrev pub accept_files_in : List Row → LearnFileNames
accept_files_in rows = record {
  model = first_of (codes "model") rows;
  answers = None;
  prior = None;
  kept = first_of (codes "kept") rows;
  last = first_of (codes "last") rows;
  words = first_of (codes "words") rows;
  log = first_of (codes "log") rows;
  journal = first_of (codes "journal") rows;
}

abbrev pub accept_found : List Row → Option LearnValues
accept_found rows = learn_values_from Acceptor (source_in rows) (settings_by (Some W) rows) (drawn_in rows) (accept_files_in rows) (verbose_in rows)

-- what the arguments say to `accept`, where they are taken
abbrev pub accept_values : List (List ℕ) → Option LearnValues
accept_values = values_taken accept_app accept_found
