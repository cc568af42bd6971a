use Rattle.std.proofs.Common.{◌≡◌, ℕ, List, Option, Some, option_map, rules, subst}
use Rattle.lw_recheck.specs.Ending.{IsTold}
use Rattle.lw_recheck.proofs.TellLemmas.{told_other}
use Rattle.lw_recheck.proofs.telling.end_call.Goals as goal

pub returns-in-Rechecked-clause-ended : goal.returns-in-Rechecked-clause-ended
returns-in-Rechecked-clause-ended g c = rw c.in-Rechecked.is (record { bare = c.end_same.ensures.bare; told = c.end_same.ensures.same })

pub returns-clause-ended : goal.returns-clause-ended
returns-clause-ended g c =
    let O = g.O.Sink in
    let E = g.E.Sink in
    let o = O.state c.args.out.now in
    let e = E.state c.args.err.now in
    let d = E.state c.end_refused.new.err in
    let told = c.args.told in
    let named : option_map (λ n. n.now) c.as_ref.result ≡ told.names = search rules in
    let said = subst (λ (n : Option (List (List ℕ))). IsTold (Some c.args.inputs.now) n told.outcome told.kept.answers o o e d c.end_refused.result) named (c.end_refused.ensures.told (O.state c.args.out.now)) in
    record {
      bare = c.end_refused.ensures.bare;
      told = told_other (Some c.args.inputs.now) told.names told.outcome told.kept.answers o o e d c.end_refused.result c.in_default.not-Rechecked said;
    }

pub returns-in-Rechecked-clause-unstarted : goal.returns-in-Rechecked-clause-unstarted
returns-in-Rechecked-clause-unstarted g c cause came = absurd (c.end_same.ensures.started cause came)
