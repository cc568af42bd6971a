use Rattle.std.proofs.Common.{rules, ◌≡◌, ◌≢◌, ℕ, ◌<◌, nat_eq, length, subst, ap, sym, ◌∙◌}
use Rattle.std.specs.HashMap.{get}
use Rattle.std.specs.Option.{MatchOption}
use Rattle.lw_table.specs.Table.{TableState, row_at, access_row}
use Rattle.lw_table.specs.bodies.Rows.{no_cells, class_at}
use Rattle.lw_table.specs.declared.rows.Row.{Row}
use Rattle.std.proofs.lemmas.List.{get_or_default}
use Rattle.lw_table.proofs.IndexLemmas.{row_with_class, within_rows}
use Rattle.lw_table.proofs.table.ObservationTable.state_of_row.Goals as goal

pub returns : goal.returns
returns c =
    let s = c.self.inside in
    let inside : c.args.row < length s.rows.items = within_rows s.classes s.rows.items c.args.row (subst (λ (t : TableState). c.args.row < length t.cells) (sym c.self.view_is) c.requires.row) in
    let class : c.index.result.now.class ≡ class_at s.rows.items c.args.row = ap (λ (r : Row). r.class) (c.index.ensures ∙ get_or_default s.rows.items c.args.row c.index.result.now no_cells inside) in
    let found : c.copied.result ≡ get nat_eq s.states c.index.result.now.class = search rules in
    subst (λ (t : TableState). MatchOption c.copied.result ((q : ℕ) → q < length t.access → row_at t c.args.row ≢ access_row t q) (λ q. (q < length t.access) × (row_at t c.args.row ≡ access_row t q))) c.self.view_is
    (row_with_class s.inputs s.outputs s.most s.access s.suffixes s.classes s.rows.items s.homes.items (get nat_eq s.states) s.refinements c.args.row c.self.invariant.0 c.self.invariant.1 inside c.copied.result (found ∙ ap (get nat_eq s.states) class))
