use Rattle.lw_report.specs.Text.{usage_lines}
use Rattle.std.proofs.Common.{◌∙◌}
use Rattle.lw_top.specs.CommandLine.{texts}
use Rattle.lw_top.specs.Untaken.{told_reason}
use Rattle.lw_top.proofs.PageLemmas.{line_behind}
use Rattle.lw_top.proofs.top.refusal.Goals as goal

pub returns : goal.returns
returns c = line_behind usage_lines (told_reason (texts c.args.arguments.now)) c.in_ok-text.ensures (c.as_str.ensures.value ∙ c.in_ok-reason.ensures) c.in_ok-push_line.ensures
