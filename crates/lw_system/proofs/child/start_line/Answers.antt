use Rattle.std.proofs.Common.{◌∙◌, ◌<◌, Err, List, map, string_bytes, ap, subst, sym}
use Rattle.std.specs.List.{All}
use Rattle.lw_outside.specs.Links.{IsUntouched, LinkState}
use Rattle.lw_outside.specs.declared.links.StartStop.{StartStop}
use Rattle.lw_system.proofs.StartLemmas.{is_unretired, link_given_up, not_started}
use Rattle.lw_system.proofs.child.start_line.Goals as goal

pub returns-in-Err-clause-err : goal.returns-in-Err-clause-err
returns-in-Err-clause-err g c =
    let P = g.P.Spawner in
    let before = c.args.spawner.now in
    let now = c.start.new.self in
    let words = map (λ w. string_bytes w) c.args.words.now in
    let b = P.state before in
    let z = P.state now in
    let stop = c.in-Err.stop in
    let was = c.start.ensures in
    not_started words b z stop c.in-Err.ensures.none was.retired was.counts
    (λ e. let same = c.in-Err.is ∙ ap (λ (s : StartStop). Err s) e in (was.failed same, was.failed_start same))
    (λ e. was.memory (c.in-Err.is ∙ ap (λ (s : StartStop). Err s) e))

pub retire-requires-clause-once : goal.retire-requires-clause-once
retire-requires-clause-once g c =
    let P = g.P.Spawner in
    let L = g.P.Link.Link in
    let before = c.args.spawner.now in
    let earlier : All (λ r. r.number < (P.state before).started) (P.state c.start.new.self).retired = subst (λ (rs : List LinkState). All (λ r. r.number < (P.state before).started) rs) (sym c.start.ensures.retired) c.start.ensures.earlier in
    is_unretired (P.state c.start.new.self).retired (P.state before).started (L.state c.in-Err-line_over.link).number (ap (λ x. (L.state x).number) c.in-Err-line_over.ensures.back ∙ c.in-Ok.ensures.number) earlier

pub returns-in-Err-line_over-clause-err : goal.returns-in-Err-line_over-clause-err
returns-in-Err-line_over-clause-err g c =
    let P = g.P.Spawner in
    let L = g.P.Link.Link in
    let before = c.args.spawner.now in
    let mid = c.start.new.self in
    let now = c.retire.new.self in
    let words = map (λ w. string_bytes w) c.args.words.now in
    let b = P.state before in
    let m = P.state mid in
    let z = P.state now in
    let link = c.in-Err-line_over.link in
    let was = c.in-Ok.ensures in
    let ended = c.retire.ensures in
    link_given_up words b m z (L.state link)
    (subst (λ x. IsUntouched (L.state x).transcript) (sym c.in-Err-line_over.ensures.back) was.unused.2)
    (record { started = was.one_more; retired = c.start.ensures.retired; faults = was.quiet; commands = was.ok })
    (ap (λ x. (L.state x).number) c.in-Err-line_over.ensures.back ∙ was.number) ended.started ended.retired ended.faults ended.commands
