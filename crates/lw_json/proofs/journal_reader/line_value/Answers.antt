use Rattle.std.proofs.Common.{rules, sym}
use Rattle.serde_json.specs.View.{view}
use Rattle.lw_json.proofs.JournalLines.{json_in-none, json_in-some}
use Rattle.lw_json.proofs.journal_reader.line_value.Goals as goal

pub returns-in-Ok : goal.returns-in-Ok
returns-in-Ok c = sym (json_in-some c.args.line.now (view c.in-Ok.value) c.in-Ok.ensures.ok.0 c.in-Ok.ensures.ok.1)

pub returns-in-Err-2 : goal.returns-in-Err-2
returns-in-Err-2 c = sym (json_in-none c.args.line.now (c.in-Err.ensures.err (λ e. search rules)))
