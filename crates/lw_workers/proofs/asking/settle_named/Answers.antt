use Rattle.std.proofs.Common.{rules, Option, length, ap, sym, ◌∙◌, subst}
use Rattle.std.proofs.lemmas.Bool.Decides.{Decides-eqb}
use Rattle.std.proofs.lemmas.List.{nil_from_length}
use Rattle.lw_cache.specs.Settling.{Leaves, asked_stop}
use Rattle.lw_cache.specs.declared.stops.AskStop.{AskStop}
use Rattle.lw_cache.proofs.SettlingLemmas.{leaves_handed, leaves_settled}
use Rattle.lw_workers.proofs.AskingLemmas.{known_are_answered}
use Rattle.lw_plain.proofs.TurnLemmas.{settled_is_asked}
use Rattle.lw_workers.proofs.PlainLemmas.{none_given, some_given}
use Rattle.lw_workers.proofs.asking.settle_named.Goals as goal

pub returns-clause-asked : goal.returns-clause-asked
returns-clause-asked g c = known_are_answered (g.O.Oracle.state c.settle.new.self).kept c.args.words.now c.in_ok-settle.ensures.settles.known

pub returns-in_err-settle-clause-leaves : goal.returns-in_err-settle-clause-leaves
returns-in_err-settle-clause-leaves g c =
    let o = g.O.Oracle.state c.args.oracle.now in
    let n = g.O.Oracle.state c.settle.new.self in
    leaves_handed o n c.in_err-settle.field-0.0 c.from_residual.result
    (subst (λ (stop : Option AskStop). Leaves o n stop) (ap asked_stop c.in_err-settle.was) (leaves_settled c.args.words.now o n c.settle.result c.settle.ensures.settles)) (search rules)

pub returns-then-is_empty-clause-plainly : goal.returns-then-is_empty-clause-plainly
returns-then-is_empty-clause-plainly g c =
    none_given c.args.words.now (g.O.Oracle.state c.args.oracle.now) (nil_from_length c.args.words.now ((Decides-eqb (length c.args.words.now) 0).0 (sym c.is_empty.ensures ∙ c.if-is_empty.true)))

pub returns-clause-plainly : goal.returns-clause-plainly
returns-clause-plainly g c =
    let o = g.O.Oracle.state c.args.oracle.now in
    let n = g.O.Oracle.state c.settle.new.self in
    some_given c.args.words.now o n (search rules) (settled_is_asked c.args.words.now o n c.in_ok-settle.ensures.settles)
