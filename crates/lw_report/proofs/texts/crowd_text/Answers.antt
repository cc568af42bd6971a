use Rattle.std.proofs.Common.{◌∙◌, length, ap, sym, append-nil}
use Rattle.lw_report.specs.Text.{crowd_line}
use Rattle.lw_report.proofs.texts.crowd_text.Goals as goal

pub loop-word-init : goal.loop-word-init
loop-word-init c = c.in_ok-text.ensures ∙ (ap crowd_line c.len-count.ensures ∙ sym (append-nil (crowd_line (length c.args.words.now))))
