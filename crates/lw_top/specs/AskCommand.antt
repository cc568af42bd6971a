-- The command `ask` as clap sees it, and what arguments that it takes say.
use Rattle.std.specs.Prelude.{ℕ, List, [], ◌∷◌, codes, Option, Some, None, unwrap_or, true}
use Rattle.clap.specs.Words.{App, Row, all_of, first_of}
use Rattle.lw_ask.specs.Arguments.{AskValues}
use Rattle.lw_system.specs.declared.goal.Goal.{Goal}
use Rattle.lw_system.specs.declared.goal.Goal.TheVariants.{Machine, Acceptor}
use Rattle.lw_system.specs.declared.source.Source.{Source}
use Rattle.lw_system.specs.declared.source.Source.TheVariants.{Setup, Table}
use Rattle.lw_top.specs.CommandLine.{app_by, values_taken}
use Rattle.lw_top.specs.Syntaxes.{Many, SyntaxValues, Text, entry}

-- ask (SETUP | --table FILE | --accept SETUP | --acceptor FILE) WORD...
abbrev pub ask_syntax : SyntaxValues
ask_syntax = record {
  command = codes "ask";
  about = codes "asks a program, a machine or an acceptor words";
  entries =
      entry (Text (codes "table")) (codes "FILE") (codes "the file of a machine in place of the setup")
      ∷ entry (Text (codes "accept")) (codes "SETUP") (codes "the setup of a program that is asked as acceptors are")
      ∷ entry (Text (codes "acceptor")) (codes "FILE") (codes "the file of an acceptor in place of the setup")
      ∷ entry (Many (codes "words")) (codes "(SETUP | --table FILE | --accept SETUP | --acceptor FILE) WORD...") (codes "the setup, where no option is in its place, and words")
      ∷ [];
  texts = codes "SETUP" ∷ codes "WORD" ∷ [];
  takes_more = true;
  in_place = codes "table" ∷ codes "accept" ∷ codes "acceptor" ∷ [];
  together = [];
  instead = [];
  either = [];
}

-- as clap sees it
abbrev pub ask_app : App
ask_app = app_by ask_syntax

-- a system that an option names: whether a machine is asked or an acceptor, the kind of its file, and the file
pub record NamedSystem : Type 0 where
  pub goal : Goal
  pub source : Source
  pub file : List ℕ

-- the system that an option names, or none: a machine, a program that is asked for an acceptor, or an acceptor; one at most
abbrev pub named_by : (table accept acceptor : Option (List ℕ)) → Option (Option NamedSystem)
named_by None None None = Some None
named_by (Some file) None None = Some (Some (record { goal = Machine; source = Table; file = file }))
named_by None (Some setup) None = Some (Some (record { goal = Acceptor; source = Setup; file = setup }))
named_by None None (Some file) = Some (Some (record { goal = Acceptor; source = Table; file = file }))
named_by (Some file) (Some setup) acceptor = None
named_by (Some file) None (Some other) = None
named_by None (Some setup) (Some file) = None

-- the words that are asked of such a system, or behind the name of a setup: one at least
abbrev pub ask_values_from : Option (Option NamedSystem) → (words : List (List ℕ)) → Option AskValues
ask_values_from None words = None
ask_values_from (Some (Some s)) [] = None
ask_values_from (Some (Some s)) (word ∷ words) = Some (record { goal = s.goal; source = s.source; system = s.file; words = word ∷ words })
ask_values_from (Some None) [] = None
ask_values_from (Some None) (setup ∷ words) = behind setup words
  where
    behind : List ℕ → List (List ℕ) → Option AskValues
    behind setup [] = None
    behind setup (word ∷ words) = Some (record { goal = Machine; source = Setup; system = setup; words = word ∷ words })

abbrev pub named_in : List Row → Option (Option NamedSystem)
named_in rows = named_by (first_of (codes "table") rows) (first_of (codes "accept") rows) (first_of (codes "acceptor") rows)

abbrev pub ask_found : List Row → Option AskValues
ask_found rows = ask_values_from (named_in rows) (unwrap_or (all_of (codes "words") rows) [])

-- what the arguments say to `ask`, where they are taken
abbrev pub ask_values : List (List ℕ) → Option AskValues
ask_values = values_taken ask_app ask_found
