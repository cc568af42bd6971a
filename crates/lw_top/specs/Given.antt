-- What words give to a command: options with their values, and texts. A word is read as clap reads it.
use Rattle.std.specs.Prelude.{ℕ, Bool, false, ◌||◌, not, List, [], ◌∷◌, ◌++◌, codes, map, Option, Some, None, is_some, option_map, if◌then◌else◌}
use Rattle.std.specs.Str.{bytes_eq}
use Rattle.clap.specs.Lexer.{long_of, short_of}
use Rattle.lw_top.specs.Syntaxes.{EntryValues, has_flag}
use Rattle.lw_top.specs.declared.given.Given.{Given}
use Rattle.lw_top.specs.declared.given.Given.TheVariants as given

-- an option, with its value, if it has one; a word of an option of one letter; or a text
pub data GivenValues : Type 0 where
  Named : (name : List ℕ) → (value : Option (List ℕ)) → GivenValues
  Flag : (word : List ℕ) → GivenValues
  Text : (text : List ℕ) → GivenValues

abbrev pub given_values : Given → GivenValues
given_values (given.Named name value) = Named name.now (option_map (λ v. v.now) value)
given_values (given.Flag word) = Flag word.now
given_values (given.Text text) = Text text.now

-- behind `--` all words are texts
abbrev pub is_end : List ℕ → Bool
is_end word = bytes_eq word (codes "--")

abbrev pub is_dashed : List ℕ → Bool
is_dashed word = is_some (long_of word) || (is_some (short_of word) || is_end word)

-- the next word, where it may be a value
abbrev pub value_in : Option (List ℕ) → Option (List ℕ)
value_in None = None
value_in (Some word) = if is_dashed word then None else Some word

-- the value of an option that isn't in its word: the next word, where it may be one, and none of a flag
abbrev pub value_behind : List EntryValues → (name : List ℕ) → (next : Option (List ℕ)) → Option (List ℕ)
value_behind entries name next = if has_flag entries name then None else value_in next

-- an option whose value isn't in its word, and no flag of the command
abbrev pub is_bare : List EntryValues → Option (List ℕ × Option (List ℕ)) → Bool
is_bare entries (Some (name, None)) = not (has_flag entries name)
is_bare entries (Some (name, Some value)) = false
is_bare entries None = false

-- the word before has the word for its value
abbrev pub takes_next : List EntryValues → Option (List ℕ) → Bool
takes_next entries None = false
takes_next entries (Some word) = is_bare entries (long_of word)

-- what a word that is no long option gives
abbrev pub given_short : List EntryValues → (before : Option (List ℕ)) → (word : List ℕ) → Option GivenValues
given_short entries before word = if is_some (short_of word) then Some (Flag word) else if takes_next entries before then None else Some (Text word)

abbrev pub given_long : List EntryValues → Option (List ℕ × Option (List ℕ)) → (before : Option (List ℕ)) → (word : List ℕ) → (next : Option (List ℕ)) → Option GivenValues
given_long entries (Some (name, Some value)) before word next = Some (Named name (Some value))
given_long entries (Some (name, None)) before word next = Some (Named name (value_behind entries name next))
given_long entries None before word next = given_short entries before word

-- what a word gives to a command with these arguments, by the words beside it
abbrev pub given_by : List EntryValues → (before : Option (List ℕ)) → (word : List ℕ) → (next : Option (List ℕ)) → Option GivenValues
given_by entries before word next = given_long entries (long_of word) before word next

abbrev pub first_word : List (List ℕ) → Option (List ℕ)
first_word [] = None
first_word (w ∷ ws) = Some w

abbrev pub with_given : Option GivenValues → List GivenValues → List GivenValues
with_given None rest = rest
with_given (Some one) rest = one ∷ rest

-- what words give behind another one
abbrev pub givens_behind : List EntryValues → (before : Option (List ℕ)) → List (List ℕ) → List GivenValues
givens_behind entries before [] = []
givens_behind entries before (w ∷ ws) = if is_end w then map Text ws else with_given (given_by entries before w (first_word ws)) (givens_behind entries (Some w) ws)

abbrev pub givens : List EntryValues → List (List ℕ) → List GivenValues
givens entries words = givens_behind entries None words
