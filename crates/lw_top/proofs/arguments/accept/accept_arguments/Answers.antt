use Rattle.std.proofs.Common.{◌≡◌, ◌∙◌, Err, rules}
use Rattle.lw_top.specs.CommandLine.{texts}
use Rattle.lw_top.specs.AcceptCommand.{accept_app, accept_found}
use Rattle.lw_top.specs.declared.values.ArgumentStop.TheVariants.{Usage}
use Rattle.lw_top.proofs.TakenLemmas.{say, taken_values, untaken_values}
use Rattle.lw_top.proofs.arguments.accept.accept_arguments.Goals as goal

pub returns-clause-ok : goal.returns-clause-ok
returns-clause-ok c =
    let found = c.in_ok-matches.ensures in
    say (λ v. v) c.values_of.result (taken_values accept_app accept_found (texts c.args.arguments.now) c.accept_syntax.ensures.app found.found found.taken) c.values_of.ensures.ok

pub returns-clause-refused : goal.returns-clause-refused
returns-clause-refused c usage =
    let found = c.in_ok-matches.ensures in
    taken_values accept_app accept_found (texts c.args.arguments.now) c.accept_syntax.ensures.app found.found found.taken ∙ c.values_of.ensures.refused usage

pub returns-in_err-matches-clause-refused : goal.returns-in_err-matches-clause-refused
returns-in_err-matches-clause-refused c usage =
    let is : c.read_matches.result ≡ Err Usage = search (rules, usage) in
    untaken_values accept_app accept_found (texts c.args.arguments.now) c.accept_syntax.ensures.app (c.read_matches.ensures.refused is)
