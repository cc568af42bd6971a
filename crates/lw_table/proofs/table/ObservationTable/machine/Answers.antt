use Rattle.std.proofs.Common.{rules, ◌≡◌, ℕ, [], ◌∷◌, length, map, ap, sym, ◌∙◌, subst}
use Rattle.std.proofs.lemmas.List.{map-append}
use Rattle.lw_mealy.specs.Machine.{IsWithinLimits, mealy_of}
use Rattle.lw_table.specs.Table.{TableState, IsTable}
use Rattle.lw_table.specs.bodies.Transitions.{AreStates}
use Rattle.lw_table.proofs.TransitionLemmas.{states_more, within_limits}
use Rattle.lw_table.proofs.table.ObservationTable.machine.Goals as goal

pub loop-state-preserved : goal.loop-state-preserved
loop-state-preserved c =
    let l = c.loop-state in
    let row = c.in_ok-transitions.field-0 in
    states_more c.args.self.now l.state row.items (map (λ r. r.items) l.rows.items) (map (λ r. r.items) c.push.new.self.items) l.invariant c.in_ok-transitions.ensures
    (ap (map (λ r. r.items)) c.in_ok-push.ensures.items ∙ map-append (λ r. r.items) l.rows.items (row ∷ []))

pub of_rows-requires : goal.of_rows-requires
of_rows-requires c =
    let l = c.loop-state in
    let t : TableState = c.args.self.now in
    let table : IsTable t = subst (λ (u : TableState). IsTable u) c.self.view_is c.self.invariant.0 in
    let past : l.state ≡ c.len-state-end.result = search rules in
    let here : l.state ≡ length t.access = past ∙ (c.len-state-end.ensures ∙ ap (λ (u : TableState). length u.access) c.self.view_is) in
    let all : AreStates t (length t.access) (map (λ r. r.items) l.rows.items) = subst (λ (n : ℕ). AreStates t n (map (λ r. r.items) l.rows.items)) here l.invariant in
    subst (λ (u : TableState). IsWithinLimits (mealy_of u.inputs u.outputs (map (λ r. r.items) l.rows.items))) (sym c.self.view_is) (within_limits t (map (λ r. r.items) l.rows.items) table c.requires.closed all)
