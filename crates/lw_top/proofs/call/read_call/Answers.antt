use Rattle.std.proofs.Common.{◌≡◌, Some, None, codes, refl, rules, string_bytes}
use Rattle.lw_top.specs.Call.{Learn, Check, Trial, Serve, Ask, Compare, Recheck, Help}
use Rattle.lw_top.specs.CommandLine.{texts}
use Rattle.lw_top.specs.AcceptCommand.{accept_values}
use Rattle.lw_top.specs.AskCommand.{ask_values}
use Rattle.lw_top.specs.CheckCommand.{check_read, check_values}
use Rattle.lw_top.specs.CompareCommand.{compare_values}
use Rattle.lw_top.specs.HelpCommand.{help_values, topic_text}
use Rattle.lw_top.specs.LearnCommand.{learn_values}
use Rattle.lw_top.specs.RecheckCommand.{recheck_values}
use Rattle.lw_top.specs.ServeCommand.{serve_values}
use Rattle.lw_top.specs.TrialCommand.{trial_values}
use Rattle.lw_top.proofs.CommandLemmas.{call_is, no_call}
use Rattle.lw_top.proofs.call.read_call.Goals as goal

pub returns-in_ok-learn_arguments-in-learn-clause-ok : goal.returns-in_ok-learn_arguments-in-learn-clause-ok
returns-in_ok-learn_arguments-in-learn-clause-ok c =
    let args = c.args.arguments.now in
    call_is (codes "learn") Learn args c.in-Some.command.now c.as_str.result.now (learn_values (texts args)) (Some c.in_ok-learn_arguments-in-learn.field-0) c.in-Some.ensures.value c.as_str.ensures.value c.in-learn.is refl c.in_ok-learn_arguments-in-learn.ensures.ok

pub returns-in_err-learn_arguments-in-learn-clause-refused : goal.returns-in_err-learn_arguments-in-learn-clause-refused
returns-in_err-learn_arguments-in-learn-clause-refused c usage =
    let args = c.args.arguments.now in
    let none : learn_values (texts args) ≡ None = search (rules, usage) in
    call_is (codes "learn") Learn args c.in-Some.command.now c.as_str.result.now (learn_values (texts args)) None c.in-Some.ensures.value c.as_str.ensures.value c.in-learn.is refl none

pub returns-in_ok-accept_arguments-in-accept-clause-ok : goal.returns-in_ok-accept_arguments-in-accept-clause-ok
returns-in_ok-accept_arguments-in-accept-clause-ok c =
    let args = c.args.arguments.now in
    call_is (codes "accept") Learn args c.in-Some.command.now c.as_str.result.now (accept_values (texts args)) (Some c.in_ok-accept_arguments-in-accept.field-0) c.in-Some.ensures.value c.as_str.ensures.value c.in-accept.is refl c.in_ok-accept_arguments-in-accept.ensures.ok

pub returns-in_err-accept_arguments-in-accept-clause-refused : goal.returns-in_err-accept_arguments-in-accept-clause-refused
returns-in_err-accept_arguments-in-accept-clause-refused c usage =
    let args = c.args.arguments.now in
    let none : accept_values (texts args) ≡ None = search (rules, usage) in
    call_is (codes "accept") Learn args c.in-Some.command.now c.as_str.result.now (accept_values (texts args)) None c.in-Some.ensures.value c.as_str.ensures.value c.in-accept.is refl none

pub returns-in_ok-check_arguments-in-check-clause-ok : goal.returns-in_ok-check_arguments-in-check-clause-ok
returns-in_ok-check_arguments-in-check-clause-ok c =
    let args = c.args.arguments.now in
    call_is (codes "check") Check args c.in-Some.command.now c.as_str.result.now (check_values (texts args)) (Some (check_read c.in_ok-check_arguments-in-check.field-0)) c.in-Some.ensures.value c.as_str.ensures.value c.in-check.is refl c.in_ok-check_arguments-in-check.ensures.ok

pub returns-in_err-check_arguments-in-check-clause-refused : goal.returns-in_err-check_arguments-in-check-clause-refused
returns-in_err-check_arguments-in-check-clause-refused c usage =
    let args = c.args.arguments.now in
    let none : check_values (texts args) ≡ None = search (rules, usage) in
    call_is (codes "check") Check args c.in-Some.command.now c.as_str.result.now (check_values (texts args)) None c.in-Some.ensures.value c.as_str.ensures.value c.in-check.is refl none

pub returns-in_ok-trial_arguments-in-trial-clause-ok : goal.returns-in_ok-trial_arguments-in-trial-clause-ok
returns-in_ok-trial_arguments-in-trial-clause-ok c =
    let args = c.args.arguments.now in
    call_is (codes "trial") Trial args c.in-Some.command.now c.as_str.result.now (trial_values (texts args)) (Some c.in_ok-trial_arguments-in-trial.field-0) c.in-Some.ensures.value c.as_str.ensures.value c.in-trial.is refl c.in_ok-trial_arguments-in-trial.ensures.ok

pub returns-in_err-trial_arguments-in-trial-clause-refused : goal.returns-in_err-trial_arguments-in-trial-clause-refused
returns-in_err-trial_arguments-in-trial-clause-refused c usage =
    let args = c.args.arguments.now in
    let none : trial_values (texts args) ≡ None = search (rules, usage) in
    call_is (codes "trial") Trial args c.in-Some.command.now c.as_str.result.now (trial_values (texts args)) None c.in-Some.ensures.value c.as_str.ensures.value c.in-trial.is refl none

pub returns-in_ok-serve_arguments-in-serve-clause-ok : goal.returns-in_ok-serve_arguments-in-serve-clause-ok
returns-in_ok-serve_arguments-in-serve-clause-ok c =
    let args = c.args.arguments.now in
    call_is (codes "serve") Serve args c.in-Some.command.now c.as_str.result.now (serve_values (texts args)) (Some (string_bytes c.in_ok-serve_arguments-in-serve.field-0)) c.in-Some.ensures.value c.as_str.ensures.value c.in-serve.is refl c.in_ok-serve_arguments-in-serve.ensures.ok

pub returns-in_err-serve_arguments-in-serve-clause-refused : goal.returns-in_err-serve_arguments-in-serve-clause-refused
returns-in_err-serve_arguments-in-serve-clause-refused c usage =
    let args = c.args.arguments.now in
    let none : serve_values (texts args) ≡ None = search (rules, usage) in
    call_is (codes "serve") Serve args c.in-Some.command.now c.as_str.result.now (serve_values (texts args)) None c.in-Some.ensures.value c.as_str.ensures.value c.in-serve.is refl none

pub returns-in_ok-ask_arguments-in-ask-clause-ok : goal.returns-in_ok-ask_arguments-in-ask-clause-ok
returns-in_ok-ask_arguments-in-ask-clause-ok c =
    let args = c.args.arguments.now in
    call_is (codes "ask") Ask args c.in-Some.command.now c.as_str.result.now (ask_values (texts args)) (Some c.in_ok-ask_arguments-in-ask.field-0) c.in-Some.ensures.value c.as_str.ensures.value c.in-ask.is refl c.in_ok-ask_arguments-in-ask.ensures.ok

pub returns-in_err-ask_arguments-in-ask-clause-refused : goal.returns-in_err-ask_arguments-in-ask-clause-refused
returns-in_err-ask_arguments-in-ask-clause-refused c usage =
    let args = c.args.arguments.now in
    let none : ask_values (texts args) ≡ None = search (rules, usage) in
    call_is (codes "ask") Ask args c.in-Some.command.now c.as_str.result.now (ask_values (texts args)) None c.in-Some.ensures.value c.as_str.ensures.value c.in-ask.is refl none

pub returns-in_ok-compare_arguments-in-compare-clause-ok : goal.returns-in_ok-compare_arguments-in-compare-clause-ok
returns-in_ok-compare_arguments-in-compare-clause-ok c =
    let args = c.args.arguments.now in
    call_is (codes "compare") Compare args c.in-Some.command.now c.as_str.result.now (compare_values (texts args)) (Some c.in_ok-compare_arguments-in-compare.field-0) c.in-Some.ensures.value c.as_str.ensures.value c.in-compare.is refl c.in_ok-compare_arguments-in-compare.ensures.ok

pub returns-in_err-compare_arguments-in-compare-clause-refused : goal.returns-in_err-compare_arguments-in-compare-clause-refused
returns-in_err-compare_arguments-in-compare-clause-refused c usage =
    let args = c.args.arguments.now in
    let none : compare_values (texts args) ≡ None = search (rules, usage) in
    call_is (codes "compare") Compare args c.in-Some.command.now c.as_str.result.now (compare_values (texts args)) None c.in-Some.ensures.value c.as_str.ensures.value c.in-compare.is refl none

pub returns-in_ok-recheck_arguments-in-recheck-clause-ok : goal.returns-in_ok-recheck_arguments-in-recheck-clause-ok
returns-in_ok-recheck_arguments-in-recheck-clause-ok c =
    let args = c.args.arguments.now in
    call_is (codes "recheck") Recheck args c.in-Some.command.now c.as_str.result.now (recheck_values (texts args)) (Some c.in_ok-recheck_arguments-in-recheck.field-0) c.in-Some.ensures.value c.as_str.ensures.value c.in-recheck.is refl c.in_ok-recheck_arguments-in-recheck.ensures.ok

pub returns-in_err-recheck_arguments-in-recheck-clause-refused : goal.returns-in_err-recheck_arguments-in-recheck-clause-refused
returns-in_err-recheck_arguments-in-recheck-clause-refused c usage =
    let args = c.args.arguments.now in
    let none : recheck_values (texts args) ≡ None = search (rules, usage) in
    call_is (codes "recheck") Recheck args c.in-Some.command.now c.as_str.result.now (recheck_values (texts args)) None c.in-Some.ensures.value c.as_str.ensures.value c.in-recheck.is refl none

pub returns-in_ok-help_arguments-in-help-clause-ok : goal.returns-in_ok-help_arguments-in-help-clause-ok
returns-in_ok-help_arguments-in-help-clause-ok c =
    let args = c.args.arguments.now in
    call_is (codes "help") Help args c.in-Some.command.now c.as_str.result.now (help_values (texts args)) (Some (topic_text c.in_ok-help_arguments-in-help.field-0)) c.in-Some.ensures.value c.as_str.ensures.value c.in-help.is refl c.in_ok-help_arguments-in-help.ensures.ok

pub returns-in_err-help_arguments-in-help-clause-refused : goal.returns-in_err-help_arguments-in-help-clause-refused
returns-in_err-help_arguments-in-help-clause-refused c usage =
    let args = c.args.arguments.now in
    let none : help_values (texts args) ≡ None = search (rules, usage) in
    call_is (codes "help") Help args c.in-Some.command.now c.as_str.result.now (help_values (texts args)) None c.in-Some.ensures.value c.as_str.ensures.value c.in-help.is refl none

pub returns-in_default-as_str-clause-refused : goal.returns-in_default-as_str-clause-refused
returns-in_default-as_str-clause-refused c _ =
    let other = c.in_default-as_str in
    no_call c.args.arguments.now c.in-Some.command.now c.as_str.result.now c.in-Some.ensures.value c.as_str.ensures.value other.not-learn other.not-accept other.not-check other.not-trial other.not-serve other.not-ask other.not-compare other.not-recheck other.not-help
