use Rattle.std.proofs.Common.{rules}
use Rattle.clap.specs.Words.{rule_of}
use Rattle.lw_top.proofs.OptionLemmas.{one_more}
use Rattle.lw_top.proofs.options.command_of.Goals as goal

pub loop-entry-preserved : goal.loop-entry-preserved
loop-entry-preserved c =
    one_more c.args.syntax.now.command.now c.args.syntax.now.entries.now c.loop-entry.entry-index _ (rule_of c.arg_of.result) (search rules) c.arg_of.ensures.rule c.loop-entry.invariant (c.in_ok-command.ensures.shape c.arg_of.ensures.local)
