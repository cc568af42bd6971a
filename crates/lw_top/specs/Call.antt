-- The call that arguments make: a command with the values of its arguments.
use Rattle.std.specs.Prelude.{ℕ, List, [], ◌∷◌, codes, Option, None, option_map, string_bytes, if◌then◌else◌}
use Rattle.std.specs.Str.{bytes_eq}
use Rattle.lw_ask.specs.Arguments.{AskValues}
use Rattle.lw_learn.specs.Arguments.{LearnValues}
use Rattle.lw_recheck.specs.Arguments.{RecheckValues}
use Rattle.lw_trial.specs.Arguments.{TrialValues}
use Rattle.lw_top.specs.AcceptCommand.{accept_values}
use Rattle.lw_top.specs.AskCommand.{ask_values}
use Rattle.lw_top.specs.CheckCommand.{CheckValues, check_read, check_values}
use Rattle.lw_top.specs.CompareCommand.{compare_values}
use Rattle.lw_top.specs.FilePairs.{PairValues}
use Rattle.lw_top.specs.HelpCommand.{help_values, topic_text}
use Rattle.lw_top.specs.LearnCommand.{learn_values}
use Rattle.lw_top.specs.RecheckCommand.{recheck_values}
use Rattle.lw_top.specs.ServeCommand.{serve_values}
use Rattle.lw_top.specs.TrialCommand.{trial_values}
use Rattle.lw_top.specs.declared.call.Call.{Call}
use Rattle.lw_top.specs.declared.call.Call.TheVariants as read

-- `learn` and `accept` are one call, by what is learned
pub data CallValues : Type 0 where
  Learn : LearnValues → CallValues
  Check : CheckValues → CallValues
  Trial : TrialValues → CallValues
  Serve : List ℕ → CallValues
  Ask : AskValues → CallValues
  Compare : PairValues → CallValues
  Recheck : RecheckValues → CallValues
  -- by the text that is asked for
  Help : List ℕ → CallValues

-- the call of the command with this name, or None where there is no such command, or it doesn't take the arguments
abbrev pub call_named : List ℕ → List (List ℕ) → Option CallValues
call_named name words =
    if bytes_eq name (codes "learn") then option_map Learn (learn_values words)
    else if bytes_eq name (codes "accept") then option_map Learn (accept_values words)
    else if bytes_eq name (codes "check") then option_map Check (check_values words)
    else if bytes_eq name (codes "trial") then option_map Trial (trial_values words)
    else if bytes_eq name (codes "serve") then option_map Serve (serve_values words)
    else if bytes_eq name (codes "ask") then option_map Ask (ask_values words)
    else if bytes_eq name (codes "compare") then option_map Compare (compare_values words)
    else if bytes_eq name (codes "recheck") then option_map Recheck (recheck_values words)
    else if bytes_eq name (codes "help") then option_map Help (help_values words)
    else None

-- the call that the arguments make: the first names the command
abbrev pub call_of : List (List ℕ) → Option CallValues
call_of [] = None
call_of (name ∷ words) = call_named name (name ∷ words)

abbrev pub values_of : Call → CallValues
values_of (read.Learn values) = Learn values
values_of (read.Check values) = Check (check_read values)
values_of (read.Trial values) = Trial values
values_of (read.Serve model) = Serve (string_bytes model)
values_of (read.Ask values) = Ask values
values_of (read.Compare pair) = Compare pair
values_of (read.Recheck values) = Recheck values
values_of (read.Help topic) = Help (topic_text topic)
