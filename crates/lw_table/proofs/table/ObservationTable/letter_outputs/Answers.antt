use Rattle.std.proofs.Common.{◌≡◌, ℕ, ◌<◌, List, length, get_or, IfOk, ap, sym, ◌∙◌, subst, arith}
use Rattle.std.proofs.lemmas.List.{get_or_default}
use Rattle.lw_cache.specs.Cut.{word_at}
use Rattle.lw_table.specs.Table.{TableState, access_row, IsClosedTable}
use Rattle.lw_table.specs.bodies.Classes.{row_of, AreSingles}
use Rattle.lw_table.specs.bodies.Rows.{no_cells, table_of}
use Rattle.lw_table.specs.declared.rows.Row.{Row}
use Rattle.lw_table.proofs.FilledLemmas.{homes_in}
use Rattle.lw_table.proofs.IndexLemmas.{row_is, within_rows}
use Rattle.lw_table.proofs.TransitionLemmas.{letters_inside, single_cell}
use Rattle.lw_table.proofs.table.ObservationTable.letter_outputs.Goals as goal

pub singles-requires-clause-cells : goal.singles-requires-clause-cells
singles-requires-clause-cells c =
    let s = c.self.inside in
    let q = c.args.state in
    let t : TableState = table_of s.inputs s.outputs s.most s.access s.suffixes s.classes s.rows.items s.homes.items s.refinements in
    let lt : q < length t.access = subst (λ (u : TableState). q < length u.access) (sym c.self.view_is) c.requires.state in
    let h : ℕ = get_or s.homes.items q 0 in
    let home : c.index.result.now ≡ h = c.index.ensures ∙ get_or_default s.homes.items q c.index.result.now 0 (omega (arith, lt, c.self.invariant.0.each_home)) in
    let inside : h < length s.rows.items = within_rows s.classes s.rows.items h (homes_in t c.self.invariant.0 q lt) in
    let found : Row = c.index-home.result.now in
    let is : found ≡ get_or s.rows.items h no_cells = c.index-home.ensures ∙ (ap (λ (j : ℕ). get_or s.rows.items j found) home ∙ get_or_default s.rows.items h found no_cells inside) in
    let row : row_of s.classes found.class ≡ access_row t q = ap (λ (r : Row). row_of s.classes r.class) is ∙ sym (row_is s.classes s.rows.items h inside) in
    let cells : found.cells ≡ length (row_of s.classes found.class) = subst (λ (r : Row). r.cells ≡ length (row_of s.classes r.class)) (sym is) (c.self.invariant.1.counts h no_cells inside) in
    cells

pub singles-requires-clause-count : goal.singles-requires-clause-count
singles-requires-clause-count c =
    let s = c.self.inside in
    let q = c.args.state in
    let t : TableState = table_of s.inputs s.outputs s.most s.access s.suffixes s.classes s.rows.items s.homes.items s.refinements in
    let lt : q < length t.access = subst (λ (u : TableState). q < length u.access) (sym c.self.view_is) c.requires.state in
    let h : ℕ = get_or s.homes.items q 0 in
    let home : c.index.result.now ≡ h = c.index.ensures ∙ get_or_default s.homes.items q c.index.result.now 0 (omega (arith, lt, c.self.invariant.0.each_home)) in
    let inside : h < length s.rows.items = within_rows s.classes s.rows.items h (homes_in t c.self.invariant.0 q lt) in
    let found : Row = c.index-home.result.now in
    let is : found ≡ get_or s.rows.items h no_cells = c.index-home.ensures ∙ (ap (λ (j : ℕ). get_or s.rows.items j found) home ∙ get_or_default s.rows.items h found no_cells inside) in
    let row : row_of s.classes found.class ≡ access_row t q = ap (λ (r : Row). row_of s.classes r.class) is ∙ sym (row_is s.classes s.rows.items h inside) in
    let cells : found.cells ≡ length (row_of s.classes found.class) = subst (λ (r : Row). r.cells ≡ length (row_of s.classes r.class)) (sym is) (c.self.invariant.1.counts h no_cells inside) in
    let closed : IsClosedTable t = subst (λ (u : TableState). IsClosedTable u) (sym c.self.view_is) c.requires.closed in
    let few = letters_inside t c.self.invariant.0 closed q lt in
    omega (arith, few, c.from.ensures, cells, ap (λ (r : List (List ℕ)). length r) row)

pub singles-requires-clause-each : goal.singles-requires-clause-each
singles-requires-clause-each c =
    let s = c.self.inside in
    let q = c.args.state in
    let t : TableState = table_of s.inputs s.outputs s.most s.access s.suffixes s.classes s.rows.items s.homes.items s.refinements in
    let lt : q < length t.access = subst (λ (u : TableState). q < length u.access) (sym c.self.view_is) c.requires.state in
    let h : ℕ = get_or s.homes.items q 0 in
    let home : c.index.result.now ≡ h = c.index.ensures ∙ get_or_default s.homes.items q c.index.result.now 0 (omega (arith, lt, c.self.invariant.0.each_home)) in
    let inside : h < length s.rows.items = within_rows s.classes s.rows.items h (homes_in t c.self.invariant.0 q lt) in
    let found : Row = c.index-home.result.now in
    let is : found ≡ get_or s.rows.items h no_cells = c.index-home.ensures ∙ (ap (λ (j : ℕ). get_or s.rows.items j found) home ∙ get_or_default s.rows.items h found no_cells inside) in
    let row : row_of s.classes found.class ≡ access_row t q = ap (λ (r : Row). row_of s.classes r.class) is ∙ sym (row_is s.classes s.rows.items h inside) in
    let cells : found.cells ≡ length (row_of s.classes found.class) = subst (λ (r : Row). r.cells ≡ length (row_of s.classes r.class)) (sym is) (c.self.invariant.1.counts h no_cells inside) in
    let closed : IsClosedTable t = subst (λ (u : TableState). IsClosedTable u) (sym c.self.view_is) c.requires.closed in
    λ k small. ap (λ (r : List (List ℕ)). length (word_at r k)) row ∙ single_cell t c.self.invariant.0 closed q lt k (subst (λ (n : ℕ). k < n) c.from.ensures small)

pub returns : goal.returns
returns c =
    let s = c.self.inside in
    let q = c.args.state in
    let t : TableState = table_of s.inputs s.outputs s.most s.access s.suffixes s.classes s.rows.items s.homes.items s.refinements in
    let lt : q < length t.access = subst (λ (u : TableState). q < length u.access) (sym c.self.view_is) c.requires.state in
    let h : ℕ = get_or s.homes.items q 0 in
    let home : c.index.result.now ≡ h = c.index.ensures ∙ get_or_default s.homes.items q c.index.result.now 0 (omega (arith, lt, c.self.invariant.0.each_home)) in
    let inside : h < length s.rows.items = within_rows s.classes s.rows.items h (homes_in t c.self.invariant.0 q lt) in
    let found : Row = c.index-home.result.now in
    let is : found ≡ get_or s.rows.items h no_cells = c.index-home.ensures ∙ (ap (λ (j : ℕ). get_or s.rows.items j found) home ∙ get_or_default s.rows.items h found no_cells inside) in
    let row : row_of s.classes found.class ≡ access_row t q = ap (λ (r : Row). row_of s.classes r.class) is ∙ sym (row_is s.classes s.rows.items h inside) in
    let cells : found.cells ≡ length (row_of s.classes found.class) = subst (λ (r : Row). r.cells ≡ length (row_of s.classes r.class)) (sym is) (c.self.invariant.1.counts h no_cells inside) in
    subst (λ (u : TableState). IfOk c.singles.result (λ outs. AreSingles (access_row u q) u.inputs outs.items)) c.self.view_is
    (subst (λ (r : List (List ℕ)). IfOk c.singles.result (λ outs. AreSingles r s.inputs outs.items)) row
    (subst (λ (n : ℕ). IfOk c.singles.result (λ outs. AreSingles (row_of s.classes found.class) n outs.items)) c.from.ensures c.singles.ensures))
