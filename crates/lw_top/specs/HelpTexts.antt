-- What `help` prints: the commands, or one command and its arguments.
use Rattle.std.specs.Prelude.{ℕ, Bool, true, false, List, [], ◌++◌, codes, Option, Some, None, if◌then◌else◌}
use Rattle.std.specs.Fmt.{decimal}
use Rattle.std.specs.List.{flat_map, join_by, list_any}
use Rattle.std.specs.Str.{bytes_eq}
use Rattle.lw_top.specs.Syntaxes.{ArgumentValues, EntryValues, SyntaxValues, Text, OneOf, Number, NumberOr, RequiredNumber, Flag, Required, Optional, Many, is_flag, option_name}
use Rattle.lw_top.specs.declared.ranges.Range.{Range}

-- names, joined by a comma
abbrev pub listed : List (List ℕ) → List ℕ
listed names = join_by (λ n. n) (codes ", ") names

-- the least and the greatest number
abbrev pub numbers : Range → List ℕ
numbers range = decimal range.low ++ (codes " to " ++ decimal range.high)

-- what an argument takes, and what is so where it is left out
abbrev pub takes_text : ArgumentValues → List ℕ
takes_text (Text name) = codes "a text, or left out"
takes_text (OneOf name choices default) = codes "one of " ++ (listed choices ++ (codes ", by default " ++ default))
takes_text (Number name range) = numbers range ++ codes ", or left out"
takes_text (NumberOr name range default) = numbers range ++ (codes ", by default " ++ default)
takes_text (RequiredNumber name range) = numbers range ++ codes ", required"
takes_text (Flag name) = codes "a flag"
takes_text (Required name) = codes "a text"
takes_text (Optional name) = codes "a text"
takes_text (Many name) = codes "texts"

-- an argument as the usage has it: a flag by its name alone
abbrev pub label_by : (option : Option (List ℕ)) → (is_flag : Bool) → (value : List ℕ) → List ℕ
label_by None is_flag value = value
label_by (Some name) true value = codes "--" ++ name
label_by (Some name) false value = codes "--" ++ (name ++ (codes " " ++ value))

abbrev pub label : EntryValues → List ℕ
label e = label_by (option_name e.argument) (is_flag e.argument) e.value

-- an option that may be left out
abbrev pub is_free_option : ArgumentValues → Bool
is_free_option (Text name) = true
is_free_option (OneOf name choices default) = true
is_free_option (Number name range) = true
is_free_option (NumberOr name range default) = true
is_free_option (Flag name) = true
is_free_option _ = false

-- the option may be in place of the first text, which is shown with it
abbrev pub is_in_place : List (List ℕ) → Option (List ℕ) → Bool
is_in_place options None = false
is_in_place options (Some name) = list_any (bytes_eq name) options

-- an argument in the usage, in brackets where it may be left out
abbrev pub usage_word : List (List ℕ) → EntryValues → List ℕ
usage_word in_place e =
    if is_in_place in_place (option_name e.argument) then []
    else if is_free_option e.argument then codes " [" ++ (label e ++ codes "]")
    else codes " " ++ label e

-- a command in a line
abbrev pub command_line : SyntaxValues → List ℕ
command_line s = s.command ++ (codes ": " ++ (s.about ++ codes "\n"))

-- and its usage
abbrev pub usage_line : SyntaxValues → List ℕ
usage_line s = codes "usage: " ++ (s.command ++ (flat_map (usage_word s.in_place) s.entries ++ codes "\n"))

-- an argument: what it takes, and what it is for
abbrev pub argument_line : EntryValues → List ℕ
argument_line e = codes "  " ++ (label e ++ (codes ": " ++ (takes_text e.argument ++ (codes "; " ++ (e.about ++ codes "\n")))))

-- all that is told of a command
abbrev pub help_text : SyntaxValues → List ℕ
help_text s = command_line s ++ (usage_line s ++ flat_map argument_line s.entries)
