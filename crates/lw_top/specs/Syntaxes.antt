-- The arguments of a command as data. What clap is told of them, what help prints, and what a refusal tells go by these.
use Rattle.std.specs.Prelude.{ℕ, Bool, true, false, List, [], ◌∷◌, codes, Option, Some, None, map}
use Rattle.std.specs.List.{list_any}
use Rattle.std.specs.Str.{bytes_eq}
use Rattle.lw_top.specs.declared.options.Argument.{Argument}
use Rattle.lw_top.specs.declared.options.Argument.TheVariants as takes
use Rattle.lw_top.specs.declared.options.Entry.{Entry}
use Rattle.lw_top.specs.declared.options.Syntax.{Syntax}
use Rattle.lw_top.specs.declared.ranges.Range.{Range}
use Rattle.lw_top.specs.declared.ranges.TheConstants.{EXTRA, LENGTH, RANDOM, SEED, STATES, WORKERS}

-- an option that takes a text, one of some names, or a whole number in a range, with a default or none; an option that takes no
-- value; or a text without a name of an option, which has to be there or not, or may be given several times
pub data ArgumentValues : Type 0 where
  Text : (name : List ℕ) → ArgumentValues
  OneOf : (name : List ℕ) → (choices : List (List ℕ)) → (default : List ℕ) → ArgumentValues
  Number : (name : List ℕ) → Range → ArgumentValues
  NumberOr : (name : List ℕ) → Range → (default : List ℕ) → ArgumentValues
  RequiredNumber : (name : List ℕ) → Range → ArgumentValues
  Flag : (name : List ℕ) → ArgumentValues
  Required : (name : List ℕ) → ArgumentValues
  Optional : (name : List ℕ) → ArgumentValues
  Many : (name : List ℕ) → ArgumentValues

-- an argument, the word in its place in the usage, and what it is for
pub record EntryValues : Type 0 where
  pub argument : ArgumentValues
  pub value : List ℕ
  pub about : List ℕ

-- a command: its name, what it does, and its arguments; what the texts without a name of an option are, and whether more may
-- follow; the options of which one may be in place of the first text; those that are given all or none, the same for another first
-- option, where that one is given, and the same where neither is, with what is told in place of the two names
pub record SyntaxValues : Type 0 where
  pub command : List ℕ
  pub about : List ℕ
  pub entries : List EntryValues
  pub texts : List (List ℕ)
  pub takes_more : Bool
  pub in_place : List (List ℕ)
  pub together : List (List ℕ)
  pub instead : List (List ℕ)
  pub either : List (List ℕ)

abbrev pub entry : ArgumentValues → List ℕ → List ℕ → EntryValues
entry argument value about = record { argument = argument; value = value; about = about }

-- the same of what the code has
abbrev pub argument_values : Argument → ArgumentValues
argument_values (takes.Text name) = Text name.now
argument_values (takes.OneOf name choices default) = OneOf name.now (map (λ c. c.now) choices.now) default.now
argument_values (takes.Number name range) = Number name.now range
argument_values (takes.NumberOr name range default) = NumberOr name.now range default.now
argument_values (takes.RequiredNumber name range) = RequiredNumber name.now range
argument_values (takes.Flag name) = Flag name.now
argument_values (takes.Required name) = Required name.now
argument_values (takes.Optional name) = Optional name.now
argument_values (takes.Many name) = Many name.now

abbrev pub entry_values : Entry → EntryValues
entry_values e = entry (argument_values e.argument) e.value.now e.about.now

abbrev pub syntax_values : Syntax → SyntaxValues
syntax_values s = record {
  command = s.command.now;
  about = s.about.now;
  entries = map entry_values s.entries.now;
  texts = map (λ t. t.now) s.texts.now;
  takes_more = s.takes_more;
  in_place = map (λ o. o.now) s.in_place.now;
  together = map (λ o. o.now) s.together.now;
  instead = map (λ o. o.now) s.instead.now;
  either = map (λ o. o.now) s.either.now;
}

-- the name of an option
abbrev pub option_name : ArgumentValues → Option (List ℕ)
option_name (Text name) = Some name
option_name (OneOf name choices default) = Some name
option_name (Number name range) = Some name
option_name (NumberOr name range default) = Some name
option_name (RequiredNumber name range) = Some name
option_name (Flag name) = Some name
option_name (Required name) = None
option_name (Optional name) = None
option_name (Many name) = None

-- an option that takes no value
abbrev pub is_flag : ArgumentValues → Bool
is_flag (Flag name) = true
is_flag _ = false

-- the option of this name that takes no value
abbrev pub is_flag_of : List ℕ → ArgumentValues → Bool
is_flag_of name (Flag own) = bytes_eq own name
is_flag_of name _ = false

abbrev pub has_flag : List EntryValues → List ℕ → Bool
has_flag entries name = list_any (λ e. is_flag_of name e.argument) entries

-- the kinds of learner, and how suites are made
abbrev pub kinds : List (List ℕ)
kinds = codes "table" ∷ codes "ttt" ∷ []

abbrev pub methods : List (List ℕ)
methods = codes "w" ∷ codes "wp" ∷ codes "h" ∷ []

-- Arguments that commands share.

abbrev pub setup_entry : EntryValues
setup_entry = entry (Optional (codes "setup")) (codes "(SETUP | --table FILE)") (codes "the setup file of the program")

abbrev pub table_entry : EntryValues
table_entry = entry (Text (codes "table")) (codes "FILE") (codes "the file of a machine in place of the setup")

abbrev pub workers_entry : EntryValues
workers_entry = entry (NumberOr (codes "workers") WORKERS (codes "1")) (codes "N") (codes "how many instances are asked at once")

abbrev pub extra_entry : EntryValues
extra_entry = entry (NumberOr (codes "extra") EXTRA (codes "1")) (codes "K") (codes "how many states more than the model a machine may have and is ruled out")

abbrev pub learner_entry : EntryValues
learner_entry = entry (OneOf (codes "learner") kinds (codes "table")) (codes "KIND") (codes "the learner: an observation table or a discrimination tree")

abbrev pub states_entry : EntryValues
states_entry = entry (NumberOr (codes "max-states") STATES (codes "1024")) (codes "N") (codes "how many states a model may have")

abbrev pub model_entry : EntryValues
model_entry = entry (Text (codes "model")) (codes "FILE") (codes "where the model is written")

abbrev pub kept_entry : EntryValues
kept_entry = entry (Text (codes "kept")) (codes "FILE") (codes "where the recorded answers are saved at every end that has any")

abbrev pub words_entry : EntryValues
words_entry = entry (Text (codes "words")) (codes "FILE") (codes "words that are asked first, one a line")

abbrev pub random_entry : EntryValues
random_entry = entry (Number (codes "random") RANDOM) (codes "R") (codes "how many words are drawn and asked first; with --length and --seed")

abbrev pub walks_entry : EntryValues
walks_entry = entry (Number (codes "walks") RANDOM) (codes "N") (codes "how many walks are drawn behind the suite of each model; with --length and --seed")

abbrev pub length_entry : EntryValues
length_entry = entry (Number (codes "length") LENGTH) (codes "L") (codes "how many letters are drawn for each; with --seed and --random or --walks")

abbrev pub seed_entry : EntryValues
seed_entry = entry (Number (codes "seed") SEED) (codes "S") (codes "what the drawing begins with; with --length and --random or --walks")

abbrev pub log_entry : EntryValues
log_entry = entry (Text (codes "log")) (codes "FILE") (codes "where each step is logged")

abbrev pub suite_entry : EntryValues
suite_entry = entry (OneOf (codes "suite") methods (codes "w")) (codes "METHOD") (codes "how suites are made: by the W-, Wp- or H-method")

abbrev pub journal_entry : EntryValues
journal_entry = entry (Text (codes "journal")) (codes "FILE") (codes "where each answer is written as it comes, behind those that the call begins with")

abbrev pub last_entry : EntryValues
last_entry = entry (Text (codes "last")) (codes "FILE") (codes "where the machine of the last closed learner is written at an end without a model")

abbrev pub verbose_entry : EntryValues
verbose_entry = entry (Flag (codes "verbose")) [] (codes "tells reasons and progress on standard error")
