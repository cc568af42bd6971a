use Rattle.std.proofs.Common.{◌∙◌, ap, subst, sym}
use Rattle.clap.specs.Words.{App}
use Rattle.clap.specs.Kinds.{FailsBy}
use Rattle.clap.specs.Faults.{fault_of, is_simple_and_free}
use Rattle.lw_top.specs.CommandLine.{is_command, texts, app_for}
use Rattle.lw_top.proofs.TakenLemmas.{untaken}
use Rattle.lw_top.proofs.ValueLemmas.{faulty, stop_is}
use Rattle.lw_top.proofs.matching.read_matches.Goals as goal

pub returns-in-Err-clause-refused : goal.returns-in-Err-clause-refused
returns-in-Err-clause-refused c is =
    let words = texts c.args.arguments.now in
    let app = app_for c.args.syntax.now in
    let parse = c.try_get_matches_from in
    let command_is = c.in_ok-command.ensures in
    let kinds = subst (λ (a : App). FailsBy (fault_of a words) parse.result) command_is (parse.ensures.kinds (ap is_simple_and_free command_is ∙ c.requires)) in
    let has = subst (λ r. FailsBy (fault_of app words) r) c.in-Err.is kinds in
    untaken (is_command app.top.name words) (faulty (fault_of app words) c.in-Err.error has (sym c.stop_of.ensures ∙ stop_is c.stop_of.result is))
