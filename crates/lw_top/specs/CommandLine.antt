-- The arguments of the command line: as clap sees those of a command, and what they say, over its meaning of a simple command.
use Rattle.std.specs.Prelude.{ℕ, List, [], ◌∷◌, map, true, Some, Bool, false, ◌&&◌, ◌||◌, codes, String, string_bytes, Option, None, if◌then◌else◌}
use Rattle.clap.specs.Simple.{new_shape}
use Rattle.clap.specs.Words.{App, Rule, new_app, new_rule, Row, first_of, matches_of, one_of}
use Rattle.clap.specs.declared.builder.action.ArgAction.TheVariants.{Append, Set, SetTrue}
use Rattle.clap.specs.declared.builder.value_parser.ValueParser.TheVariants.{Unsigned}
use Rattle.lw_top.specs.declared.options.Argument.{Argument}
use Rattle.lw_top.specs.declared.options.Syntax.{Syntax}
use Rattle.lw_top.specs.Syntaxes.{ArgumentValues, SyntaxValues, argument_values}
use Rattle.lw_top.specs.Syntaxes as takes
use Rattle.lw_top.specs.declared.ranges.Range.{Range}
use Rattle.std.specs.declared.alloc.Global.{Global}
use Rattle.std.specs.Str.{bytes_eq}
use Rattle.std.specs.Str.Parse.{digits_value, without_leading_plus}
use Rattle.clap.specs.Faults.{fault_of}
use Rattle.clap.specs.Kinds.{Kinds}
use Rattle.clap.specs.declared.error.kind.ErrorKind.{ErrorKind}
use Rattle.clap.specs.declared.error.kind.ErrorKind.TheVariants.{OutOfMemory}
use Rattle.lw_rounds.specs.declared.learner.Kind.{Kind}
use Rattle.lw_rounds.specs.declared.learner.Kind.TheVariants as kind
use Rattle.lw_chunks.specs.declared.method.Method.{Method}
use Rattle.lw_chunks.specs.declared.method.Method.TheVariants as by
use Rattle.lw_top.specs.declared.values.ArgumentStop.{ArgumentStop}
use Rattle.lw_top.specs.declared.values.ArgumentStop.TheVariants.{NoMemory, Usage}
use Rattle.clap.specs.ValueTests.{is_unsigned_in}

-- Arguments, as clap sees them.

-- an option that takes a text
abbrev pub text_option : List ℕ → Rule
text_option name = record (new_rule name) { long = Some name }

-- an option that takes a text, with a default
abbrev pub default_option : List ℕ → List ℕ → Rule
default_option name default = record (new_rule name) { long = Some name; defaults = default ∷ [] }

-- an option that takes a whole number in a range, which may be left out
abbrev pub free_number : List ℕ → Range → Rule
free_number name range = record (new_rule name) { long = Some name; parser = Some (Unsigned range.low range.high) }

-- an option that takes a whole number in a range, with a default
abbrev pub number_option : List ℕ → Range → List ℕ → Rule
number_option name range default = record (free_number name range) { defaults = default ∷ [] }

-- an option that takes a whole number in a range, which has to be there
abbrev pub required_number : List ℕ → Range → Rule
required_number name range = record (free_number name range) { required = true }

-- an option that takes no value
abbrev pub flag_option : List ℕ → Rule
flag_option name = record (new_rule name) { long = Some name; action = Some SetTrue }

-- an argument without a name of an option, which has to be there
abbrev pub required_argument : List ℕ → Rule
required_argument name = record (new_rule name) { required = true; action = Some Set }

-- an argument without a name of an option, which may be left out
abbrev pub optional_argument : List ℕ → Rule
optional_argument name = record (new_rule name) { action = Some Set }

-- an argument without a name of an option, which may be given several times
abbrev pub many_arguments : List ℕ → Rule
many_arguments name = record (new_rule name) { action = Some Append }

abbrev pub rule_for : ArgumentValues → Rule
rule_for (takes.Text name) = text_option name
rule_for (takes.OneOf name choices default) = default_option name default
rule_for (takes.Number name range) = free_number name range
rule_for (takes.NumberOr name range default) = number_option name range default
rule_for (takes.RequiredNumber name range) = required_number name range
rule_for (takes.Flag name) = flag_option name
rule_for (takes.Required name) = required_argument name
rule_for (takes.Optional name) = optional_argument name
rule_for (takes.Many name) = many_arguments name

abbrev pub rule_of_argument : Argument → Rule
rule_of_argument argument = rule_for (argument_values argument)

-- a command with these arguments and no others
abbrev pub app_with : List ℕ → List Rule → App
app_with name rules = record (new_app name) { top = record (new_shape name) { rules = rules } }

-- a command by its data
abbrev pub app_by : SyntaxValues → App
app_by syntax = app_with syntax.command (map (λ e. rule_for e.argument) syntax.entries)

abbrev pub app_for : Syntax → App
app_for syntax = app_with syntax.command.now (map (λ e. rule_of_argument e.argument) syntax.entries.now)

-- What the arguments say.

abbrev pub texts : List (String Global) → List (List ℕ)
texts = map (λ s. string_bytes s)

-- the first argument names the command
abbrev pub is_command : List ℕ → List (List ℕ) → Bool
is_command name [] = false
is_command name (w ∷ ws) = bytes_eq w name

-- a call that a log may be written of: of `learn` or of `accept`
abbrev pub may_log : List (List ℕ) → Bool
may_log words = is_command (codes "learn") words || is_command (codes "accept") words

-- clap finds no fault
abbrev pub is_faultless : Kinds → Bool
is_faultless [] = true
is_faultless (k ∷ ks) = false

-- the command takes the arguments: the first is its name, and clap finds no fault
abbrev pub are_taken : App → List (List ℕ) → Bool
are_taken app words = is_command app.top.name words && is_faultless (fault_of app words)

-- what the arguments say to a command, where it takes them
abbrev pub values_taken : {V : Type 0} → App → (List Row → Option V) → List (List ℕ) → Option V
values_taken app values words = if are_taken app words then values (matches_of app words) else None

-- the number that a text spells, where it is in the range
abbrev pub number_in_range : Range → Option (List ℕ) → Option ℕ
number_in_range range None = None
number_in_range range (Some text) = if is_unsigned_in range.low range.high text then Some (digits_value 10 (without_leading_plus text)) else None

-- the number of an option, where it is in the range
abbrev pub number_given : List ℕ → Range → List Row → Option ℕ
number_given name range rows = number_in_range range (one_of name rows)

-- the value of a flag, as clap keeps it: a text, which is `true` where the flag is given
abbrev pub is_true : Option (List ℕ) → Bool
is_true None = false
is_true (Some text) = bytes_eq text (codes "true")

-- the flag is given
abbrev pub flag_given : List ℕ → List Row → Bool
flag_given name rows = is_true (first_of name rows)

-- the kind of learner that a text names
abbrev pub kind_named : List ℕ → Option Kind
kind_named text = if bytes_eq text (codes "table") then Some kind.Table else if bytes_eq text (codes "ttt") then Some kind.Ttt else None

-- how suites are made, by the name that a text has
abbrev pub method_named : List ℕ → Option Method
method_named text = if bytes_eq text (codes "w") then Some by.W else if bytes_eq text (codes "wp") then Some by.Wp else if bytes_eq text (codes "h") then Some by.H else None

-- why a parse failed, by the kind of its error
abbrev pub refusal_of : ErrorKind → ArgumentStop
refusal_of OutOfMemory = NoMemory
refusal_of _ = Usage
