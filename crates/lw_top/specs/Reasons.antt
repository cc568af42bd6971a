-- Why a command doesn't take arguments: the line that is told behind the usage, by the words alone.
use Rattle.std.specs.Prelude.{ℕ, ◌+◌, ◌==◌, Bool, true, false, ◌&&◌, ◌||◌, not, List, [], ◌∷◌, ◌++◌, codes, drop, filter, length, find, nat_le, nat_lt, Option, Some, None, if◌then◌else◌}
use Rattle.std.specs.List.{flat_map, list_all, list_any}
use Rattle.std.specs.Str.{bytes_eq}
use Rattle.clap.specs.ValueTests.{is_unsigned_in}
use Rattle.lw_top.specs.Given.{GivenValues, Named, Flag as AFlag, Text as AText, givens}
use Rattle.lw_top.specs.HelpTexts.{listed, numbers}
use Rattle.lw_top.specs.Syntaxes.{ArgumentValues, EntryValues, SyntaxValues, Text, OneOf, Number, NumberOr, RequiredNumber, Required, Optional, Many, has_flag, option_name}
use Rattle.lw_top.specs.declared.ranges.Range.{Range}

-- the first of two, where there is one
abbrev pub or_else : {T : Type 0} → Option T → Option T → Option T
or_else None next = next
or_else (Some one) next = Some one

-- what the first of some things tells that tells anything
abbrev pub first_told : {X T : Type 0} → (X → Option T) → List X → Option T
first_told tells [] = None
first_told tells (x ∷ xs) = or_else (tells x) (first_told tells xs)

-- a word of the arguments, behind a text: where it has at most 64 bytes, all of them printed by ASCII
abbrev pub is_printed : ℕ → Bool
is_printed byte = nat_le 32 byte && nat_le byte 126

abbrev pub shown : List ℕ → List ℕ → List ℕ
shown before word = if nat_le (length word) 64 && list_all is_printed word then before ++ word else []

-- Options.

abbrev pub is_named : List ℕ → GivenValues → Bool
is_named name (Named given value) = bytes_eq given name
is_named name (AFlag word) = false
is_named name (AText text) = false

abbrev pub is_given : List GivenValues → List ℕ → Bool
is_given given name = list_any (is_named name) given

-- the value of an option in one thing that is given
abbrev pub value_of : List ℕ → GivenValues → Option (List ℕ)
value_of name (Named given value) = if bytes_eq given name then value else None
value_of name (AFlag word) = None
value_of name (AText text) = None

abbrev pub is_name : Option (List ℕ) → List ℕ → Bool
is_name None name = false
is_name (Some own) name = bytes_eq own name

abbrev pub is_option : List ℕ → EntryValues → Bool
is_option name e = is_name (option_name e.argument) name

-- words by which help is asked for, as of other programs
abbrev pub is_help : List ℕ → Bool
is_help name = bytes_eq name (codes "help") || bytes_eq name (codes "version")

abbrev pub is_help_flag : List ℕ → Bool
is_help_flag word = bytes_eq word (codes "-h") || bytes_eq word (codes "-V")

abbrev pub try_help : SyntaxValues → List ℕ
try_help s = codes "try help " ++ s.command

abbrev pub unknown_option : SyntaxValues → List ℕ → List ℕ
unknown_option s name = if is_help name then try_help s else codes "unknown option" ++ shown (codes " --") name

abbrev pub unknown_flag : SyntaxValues → List ℕ → List ℕ
unknown_flag s word = if is_help_flag word then try_help s else codes "unknown option" ++ shown (codes " ") word

abbrev pub lacks_value : List ℕ → Option (List ℕ) → Option (List ℕ)
lacks_value name None = Some (codes "--" ++ (name ++ codes " needs a value"))
lacks_value name (Some value) = None

abbrev pub has_value : List ℕ → Option (List ℕ) → Option (List ℕ)
has_value name None = None
has_value name (Some value) = Some (codes "--" ++ (name ++ codes " takes no value"))

-- an option that the command doesn't have, one without a value, or a flag with one
abbrev pub given_reason : SyntaxValues → GivenValues → Option (List ℕ)
given_reason s (Named name value) =
    if has_flag s.entries name then has_value name value else if list_any (is_option name) s.entries then lacks_value name value else Some (unknown_option s name)
given_reason s (AFlag word) = Some (unknown_flag s word)
given_reason s (AText text) = None

abbrev pub range_reason : List ℕ → Range → List ℕ → Option (List ℕ)
range_reason name range value = if is_unsigned_in range.low range.high value then None else Some (codes "--" ++ (name ++ (codes " is out of range: " ++ numbers range)))

abbrev pub choice_reason : List ℕ → List (List ℕ) → List ℕ → Option (List ℕ)
choice_reason name choices value = if list_any (bytes_eq value) choices then None else Some (codes "--" ++ (name ++ (codes " is none of " ++ listed choices)))

-- a value that an option doesn't take, or an option that is missing
abbrev pub value_reason : ArgumentValues → Option (List ℕ) → Option (List ℕ)
value_reason (OneOf name choices default) (Some value) = choice_reason name choices value
value_reason (Number name range) (Some value) = range_reason name range value
value_reason (NumberOr name range default) (Some value) = range_reason name range value
value_reason (RequiredNumber name range) (Some value) = range_reason name range value
value_reason (RequiredNumber name range) None = Some (codes "--" ++ (name ++ codes " is missing"))
value_reason _ _ = None

-- an option that is given twice, or with such a value, or is missing
abbrev pub option_reason : ArgumentValues → Option (List ℕ) → List GivenValues → Option (List ℕ)
option_reason argument None given = None
option_reason argument (Some name) given =
    if nat_lt 1 (length (filter (is_named name) given)) then Some (codes "--" ++ (name ++ codes " is given twice"))
    else value_reason argument (first_told (value_of name) given)

abbrev pub entry_reason : List GivenValues → EntryValues → Option (List ℕ)
entry_reason given e = option_reason e.argument (option_name e.argument) given

-- Texts.

abbrev pub text_given : GivenValues → List (List ℕ)
text_given (Named name value) = []
text_given (AFlag word) = []
text_given (AText text) = text ∷ []

-- the texts that are given
abbrev pub texts_given : List GivenValues → List (List ℕ)
texts_given given = flat_map text_given given

-- that one of the first text and the options in its place is wanted
abbrev pub wanted_by : List (List ℕ) → List (List ℕ) → Option (List ℕ)
wanted_by texts [] = None
wanted_by [] (o ∷ os) = None
wanted_by (first ∷ more) (o ∷ os) = Some (codes "one of " ++ (first ++ (flat_map (λ p. codes " and --" ++ p) (o ∷ os) ++ codes " is wanted")))

-- two options are given in place of the first text, or that text too, or neither
abbrev pub is_unsettled : (takes_more : Bool) → (options texts wanted : ℕ) → Bool
is_unsettled takes_more options texts wanted = nat_lt 1 options || (options + texts == 0 || (options == 1 && (not takes_more && nat_lt wanted texts)))

abbrev pub missing_text : List (List ℕ) → Option (List ℕ)
missing_text [] = None
missing_text (label ∷ more) = Some (label ++ codes " is missing")

abbrev pub more_text : List (List ℕ) → Option (List ℕ)
more_text [] = None
more_text (text ∷ more) = Some (codes "too many arguments" ++ shown (codes ": ") text)

-- a text that is missing, or one too many
abbrev pub count_reason : (takes_more : Bool) → (wanted given : List (List ℕ)) → Option (List ℕ)
count_reason takes_more wanted given = or_else (missing_text (drop (length given) wanted)) (if takes_more then None else more_text (drop (length wanted) given))

-- by the texts that are wanted, where so many options are given in place of the first one
abbrev pub text_reason : SyntaxValues → (options : ℕ) → (given : List (List ℕ)) → Option (List ℕ)
text_reason s options given =
    or_else
    (if is_unsettled s.takes_more options (length given) (length (drop options s.texts)) then wanted_by s.texts s.in_place else None)
    (count_reason s.takes_more (drop options s.texts) given)

-- Options that are given all or none.

abbrev pub needs : (first : Option (List ℕ)) → (missing : List (List ℕ)) → Option (List ℕ)
needs None missing = None
needs (Some first) [] = None
needs (Some first) (o ∷ os) = Some (codes "--" ++ (first ++ (codes " needs --" ++ (o ++ flat_map (λ p. codes " and --" ++ p) os))))

-- the first of some options is given
abbrev pub starts : List GivenValues → List (List ℕ) → Bool
starts given [] = false
starts given (o ∷ os) = is_given given o

-- which options they are
abbrev pub together_of : SyntaxValues → List GivenValues → List (List ℕ)
together_of s given = if starts given s.instead then s.instead else if starts given s.together then s.together else s.either

abbrev pub together_reason : List (List ℕ) → List GivenValues → Option (List ℕ)
together_reason together given = needs (find (is_given given) together) (filter (λ o. not (is_given given o)) together)

-- The reason.

-- of `help`, that no command has the name
abbrev pub unknown_topic : SyntaxValues → List (List ℕ) → List ℕ
unknown_topic s [] = s.command ++ codes " doesn't take these arguments"
unknown_topic s (text ∷ more) = codes "unknown command" ++ shown (codes " ") text

-- what else it may be
abbrev pub left_reason : SyntaxValues → List (List ℕ) → List ℕ
left_reason s texts = if bytes_eq s.command (codes "help") then unknown_topic s texts else s.command ++ codes " doesn't take these arguments"

abbrev pub or_text : Option (List ℕ) → List ℕ → List ℕ
or_text None other = other
or_text (Some text) other = text

-- the first of these that is one, in this order
abbrev pub reason_by : SyntaxValues → List GivenValues → List ℕ
reason_by s given =
    or_text
    (or_else (first_told (given_reason s) given)
    (or_else (first_told (entry_reason given) s.entries)
    (or_else (text_reason s (length (filter (is_given given) s.in_place)) (texts_given given)) (together_reason (together_of s given) given))))
    (left_reason s (texts_given given))

-- of a command that isn't known
abbrev pub unknown_command : List ℕ → List ℕ
unknown_command name =
    if bytes_eq name (codes "--help") || (bytes_eq name (codes "--version") || is_help_flag name) then codes "try help" else codes "unknown command" ++ shown (codes " ") name
