-- What is put to a writer of JSON, a token at a time.
use Rattle.std.specs.Prelude.{◌≡◌, ℕ, List, [], false, Some}
use Rattle.std.specs.Str.{IsUtf8}
use Rattle.json.specs.Lex.{tokens}
use Rattle.json.specs.Print.{print}
use Rattle.json.specs.Written.{Written}
use Rattle.serde_json.specs.Data.{Data}
use Rattle.serde_json.specs.Read.{read}
use Rattle.serde_json.specs.Written.{IsInOrder, WritesValue, compact_text, has_float}
use Rattle.lw_json.specs.Journal.{IsJournalLine}

-- the tokens of a value were put behind those that were there
pub record Puts (value : Data) (old new : Written) : Type 0 where
  pub before : new.before ≡ old.before
  pub tokens : WritesValue value old.tokens new.tokens

-- the bytes are the compact text of the value, and are read as it
pub record IsTextOf (value : Data) (text : List ℕ) : Type 0 where
  pub compact : text ≡ compact_text value
  pub printed : text ≡ print (tokens text)
  pub utf8 : IsUtf8 text
  pub order : IsInOrder text value
  pub read : read text ≡ Some value

-- a value without floats whose tokens alone were put has this text as its line
abbrev pub IsLineOf : Written → List ℕ → Type 0
IsLineOf put text = (d : Data) → has_float d ≡ false → put.before ≡ [] → WritesValue d [] put.tokens → IsJournalLine d text
