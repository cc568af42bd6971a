use Rattle.std.proofs.Common.{Err, map, string_bytes, ap, ◌∙◌}
use Rattle.lw_children.proofs.StartLemmas.{one_started, quietly_some, not_started}
use Rattle.lw_children.proofs.starting.start_one.Goals as goal

pub returns-in-Err-clause-none : goal.returns-in-Err-clause-none
returns-in-Err-clause-none g c =
    not_started c.args.command.now.words _ _ _ c.in-Err.stop (ap (map (λ w. string_bytes w)) c.deref.ensures.value ∙ c.get.ensures) c.in-Err.ensures.none c.start.ensures.retired c.start.ensures.counts
    (λ e. c.start.ensures.failed (c.in-Err.is ∙ ap Err e)) (λ e. c.start.ensures.failed_start (c.in-Err.is ∙ ap Err e)) (λ e. c.start.ensures.memory (c.in-Err.is ∙ ap Err e))

pub returns-in-Ok-line_over-clause-one : goal.returns-in-Ok-line_over-clause-one
returns-in-Ok-line_over-clause-one g c =
    one_started c.args.command.now.words _ _ _ (ap (map (λ w. string_bytes w)) c.deref.ensures.value ∙ c.get.ensures) c.in-Ok.ensures.one_more c.start.ensures.retired c.in-Ok.ensures.quiet c.in-Ok.ensures.ok

pub returns-in-Err-line_over-clause-none : goal.returns-in-Err-line_over-clause-none
returns-in-Err-line_over-clause-none g c =
    quietly_some c.args.command.now.words _ _ 1 (one_started c.args.command.now.words _ _ _ (ap (map (λ w. string_bytes w)) c.deref.ensures.value ∙ c.get.ensures) c.in-Ok.ensures.one_more c.start.ensures.retired c.in-Ok.ensures.quiet c.in-Ok.ensures.ok)
