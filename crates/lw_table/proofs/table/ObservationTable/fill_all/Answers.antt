use Rattle.std.proofs.Common.{◌≡◌, ℕ, ◌+◌, ◌<◌, ◌≤◌, List, length, map, nat_eq, ap, sym, ◌∙◌, subst, arith}
use Rattle.std.specs.HashMap.{get}
use Rattle.std.specs.List.{All}
use Rattle.lw_words.specs.Word.{answers_of}
use Rattle.lw_cache.specs.Settling.{OracleState}
use Rattle.lw_plain.specs.Turns.{AsksBatch}
use Rattle.lw_table.specs.Grown.{HasGrown}
use Rattle.lw_table.specs.Plain.{open_words}
use Rattle.lw_table.specs.Table.{TableState, IsTable, CellsAreRead}
use Rattle.lw_table.specs.bodies.Filling.{GoOn}
use Rattle.lw_table.specs.bodies.Numbered.{AreNumbered}
use Rattle.lw_table.specs.bodies.Plain.{open_from}
use Rattle.lw_table.specs.bodies.Rows.{class_at, table_of}
use Rattle.lw_table.specs.declared.rows.Row.{Row}
use Rattle.lw_table.proofs.CellLemmas.{cells_more, kept_words}
use Rattle.lw_table.proofs.GrownLemmas.{not_grown}
use Rattle.lw_table.proofs.IndexLemmas.{few_cells, more_classes, same_table, replaced_index, replaced_table, replaced_full, replaced_homes, replaced_grown}
use Rattle.lw_table.proofs.OpenLemmas.{counts_are}
use Rattle.lw_table.proofs.table.ObservationTable.fill_all.Goals as goal

pub answered-requires-clause-few : goal.answered-requires-clause-few
answered-requires-clause-few g c =
    let s = c.self.inside in
    subst (λ (l : List Row). All (λ r. r.cells ≤ length s.suffixes) l) (sym c.as_slice-old.ensures.value) (few_cells s.classes s.rows.items s.homes.items (get nat_eq s.states) c.self.invariant.1 s.outputs s.suffixes c.self.invariant.0.shape)

pub invariant_of-self : goal.invariant_of-self
invariant_of-self g c =
    let s = c.self.inside in
    let o : OracleState = g.O.Oracle.state c.args.oracle.now in
    let n : OracleState = g.O.Oracle.state c.answered.new.oracle in
    let ks = answers_of n.kept in
    let more = c.answered.ensures.more in
    let now = c.answered.new.classes in (
      subst (λ (t : TableState). IsTable t) (sym (same_table s.inputs s.outputs s.most s.refinements s.access s.suffixes s.classes more.0 now s.rows.items s.homes.items (get nat_eq s.states) c.self.invariant.1 more.1)) c.self.invariant.0,
      more_classes s.classes s.rows.items s.homes.items (get nat_eq s.states) c.self.invariant.1 more.0 now more.1 c.answered.ensures.differ,
    )

pub returns-in_err-rows-clause-grown : goal.returns-in_err-rows-clause-grown
returns-in_err-rows-clause-grown g c =
    let s = c.self.inside in
    let o : OracleState = g.O.Oracle.state c.args.oracle.now in
    let n : OracleState = g.O.Oracle.state c.answered.new.oracle in
    let ks = answers_of n.kept in
    let more = c.answered.ensures.more in
    let now = c.answered.new.classes in
    let leaves = c.answered.ensures.leaves in
    let t : TableState = table_of s.inputs s.outputs s.most s.access s.suffixes s.classes s.rows.items s.homes.items s.refinements in
    let read : CellsAreRead ks t = cells_more o.kept leaves.gained n.kept t leaves.at_end (subst (λ (u : TableState). CellsAreRead (answers_of o.kept) u) (sym c.self.view_is) c.requires.read) in
    subst (λ (u : TableState). HasGrown ks u (table_of s.inputs s.outputs s.most s.access s.suffixes now s.rows.items s.homes.items s.refinements)) c.self.view_is
    (subst (λ (u : TableState). HasGrown ks t u) (sym (same_table s.inputs s.outputs s.most s.refinements s.access s.suffixes s.classes more.0 now s.rows.items s.homes.items (get nat_eq s.states) c.self.invariant.1 more.1)) (not_grown ks t c.self.invariant.0 read))

pub states_of-requires : goal.states_of-requires
states_of-requires g c =
    let s = c.self.inside in
    let o : OracleState = g.O.Oracle.state c.args.oracle.now in
    let n : OracleState = g.O.Oracle.state c.answered.new.oracle in
    let ks = answers_of n.kept in
    let more = c.answered.ensures.more in
    let now = c.answered.new.classes in
    let leaves = c.answered.ensures.leaves in
    let rows : c.as_slice-old.result.now ≡ s.rows.items = c.as_slice-old.ensures.value in
    let filled = c.in_ok-rows.rows.items in
    let on : GoOn ks s.inputs s.access s.suffixes s.classes s.rows.items 0 now filled = subst (λ (l : List Row). GoOn ks s.inputs s.access s.suffixes s.classes l 0 now filled) rows c.in_ok-rows.ensures.go_on in
    let all : 0 + length filled ≡ length s.rows.items = c.in_ok-rows.ensures.all ∙ ap (λ (l : List Row). length l) rows in
    let same_a : s.inputs ≡ n.inputs = ap (λ (t : TableState). t.inputs) c.self.view_is ∙ (c.requires.inputs ∙ sym leaves.same.inputs) in
    let same_b : s.outputs ≡ n.outputs = ap (λ (t : TableState). t.outputs) c.self.view_is ∙ (c.requires.outputs ∙ sym leaves.same.outputs) in
    let words = kept_words n s.inputs s.outputs same_a same_b leaves.keeps in
    let le : 0 ≤ length s.rows.items = omega (arith, all) in
    let full = λ (j : ℕ) (lt : j < 0). absurd (omega arith) in
    subst (λ (l : List Row). All (λ home. home < length l) c.deref-2.result.now) (sym c.deref.ensures.value)
    (subst (λ (homes : List ℕ). All (λ home. home < length filled) homes) (sym c.deref-2.ensures.value) (replaced_homes ks s.inputs s.outputs s.most s.refinements s.access s.suffixes s.classes more.0 now s.rows.items filled s.homes.items (get nat_eq s.states) (get nat_eq s.states) 0 c.self.invariant.0 c.self.invariant.1 le full more.1 c.answered.ensures.differ all on words.0 words.1))

pub invariant_of-self-in_err-self-inside : goal.invariant_of-self-in_err-self-inside
invariant_of-self-in_err-self-inside g c =
    let s = c.self.inside in
    let o : OracleState = g.O.Oracle.state c.args.oracle.now in
    let n : OracleState = g.O.Oracle.state c.answered.new.oracle in
    let ks = answers_of n.kept in
    let more = c.answered.ensures.more in
    let now = c.answered.new.classes in (
      subst (λ (t : TableState). IsTable t) (sym (same_table s.inputs s.outputs s.most s.refinements s.access s.suffixes s.classes more.0 now s.rows.items s.homes.items (get nat_eq s.states) c.self.invariant.1 more.1)) c.self.invariant.0,
      more_classes s.classes s.rows.items s.homes.items (get nat_eq s.states) c.self.invariant.1 more.0 now more.1 c.answered.ensures.differ,
    )

pub returns-in_err-self-inside-clause-grown : goal.returns-in_err-self-inside-clause-grown
returns-in_err-self-inside-clause-grown g c =
    let s = c.self.inside in
    let o : OracleState = g.O.Oracle.state c.args.oracle.now in
    let n : OracleState = g.O.Oracle.state c.answered.new.oracle in
    let ks = answers_of n.kept in
    let more = c.answered.ensures.more in
    let now = c.answered.new.classes in
    let leaves = c.answered.ensures.leaves in
    let t : TableState = table_of s.inputs s.outputs s.most s.access s.suffixes s.classes s.rows.items s.homes.items s.refinements in
    let read : CellsAreRead ks t = cells_more o.kept leaves.gained n.kept t leaves.at_end (subst (λ (u : TableState). CellsAreRead (answers_of o.kept) u) (sym c.self.view_is) c.requires.read) in
    subst (λ (u : TableState). HasGrown ks u (table_of s.inputs s.outputs s.most s.access s.suffixes now s.rows.items s.homes.items s.refinements)) c.self.view_is
    (subst (λ (u : TableState). HasGrown ks t u) (sym (same_table s.inputs s.outputs s.most s.refinements s.access s.suffixes s.classes more.0 now s.rows.items s.homes.items (get nat_eq s.states) c.self.invariant.1 more.1)) (not_grown ks t c.self.invariant.0 read))

pub invariant_of-self-2 : goal.invariant_of-self-2
invariant_of-self-2 g c =
    let s = c.self.inside in
    let o : OracleState = g.O.Oracle.state c.args.oracle.now in
    let n : OracleState = g.O.Oracle.state c.answered.new.oracle in
    let ks = answers_of n.kept in
    let more = c.answered.ensures.more in
    let now = c.answered.new.classes in
    let leaves = c.answered.ensures.leaves in
    let rows : c.as_slice-old.result.now ≡ s.rows.items = c.as_slice-old.ensures.value in
    let filled = c.in_ok-rows.rows.items in
    let on : GoOn ks s.inputs s.access s.suffixes s.classes s.rows.items 0 now filled = subst (λ (l : List Row). GoOn ks s.inputs s.access s.suffixes s.classes l 0 now filled) rows c.in_ok-rows.ensures.go_on in
    let all : 0 + length filled ≡ length s.rows.items = c.in_ok-rows.ensures.all ∙ ap (λ (l : List Row). length l) rows in
    let same_a : s.inputs ≡ n.inputs = ap (λ (t : TableState). t.inputs) c.self.view_is ∙ (c.requires.inputs ∙ sym leaves.same.inputs) in
    let same_b : s.outputs ≡ n.outputs = ap (λ (t : TableState). t.outputs) c.self.view_is ∙ (c.requires.outputs ∙ sym leaves.same.outputs) in
    let words = kept_words n s.inputs s.outputs same_a same_b leaves.keeps in
    let le : 0 ≤ length s.rows.items = omega (arith, all) in
    let full = λ (j : ℕ) (lt : j < 0). absurd (omega arith) in
    let found : AreNumbered nat_eq (map (class_at filled) s.homes.items) (get nat_eq c.in_ok-self-inside.field-0) =
    subst (λ (l : List Row). AreNumbered nat_eq (map (class_at l) s.homes.items) (get nat_eq c.in_ok-self-inside.field-0)) c.deref.ensures.value
    (subst (λ (homes : List ℕ). AreNumbered nat_eq (map (class_at c.deref.result.now) homes) (get nat_eq c.in_ok-self-inside.field-0)) c.deref-2.ensures.value c.in_ok-self-inside.ensures) in
    (replaced_table ks s.inputs s.outputs s.most s.refinements s.access s.suffixes s.classes more.0 now s.rows.items filled s.homes.items (get nat_eq s.states) (get nat_eq c.in_ok-self-inside.field-0) 0 c.self.invariant.0 c.self.invariant.1 le full more.1 c.answered.ensures.differ all on words.0 words.1, replaced_index ks s.inputs s.outputs s.most s.refinements s.access s.suffixes s.classes more.0 now s.rows.items filled s.homes.items (get nat_eq s.states) (get nat_eq c.in_ok-self-inside.field-0) 0 c.self.invariant.0 c.self.invariant.1 le full more.1 c.answered.ensures.differ all on found)

pub returns-clause-grown : goal.returns-clause-grown
returns-clause-grown g c =
    let s = c.self.inside in
    let o : OracleState = g.O.Oracle.state c.args.oracle.now in
    let n : OracleState = g.O.Oracle.state c.answered.new.oracle in
    let ks = answers_of n.kept in
    let more = c.answered.ensures.more in
    let now = c.answered.new.classes in
    let leaves = c.answered.ensures.leaves in
    let rows : c.as_slice-old.result.now ≡ s.rows.items = c.as_slice-old.ensures.value in
    let filled = c.in_ok-rows.rows.items in
    let on : GoOn ks s.inputs s.access s.suffixes s.classes s.rows.items 0 now filled = subst (λ (l : List Row). GoOn ks s.inputs s.access s.suffixes s.classes l 0 now filled) rows c.in_ok-rows.ensures.go_on in
    let all : 0 + length filled ≡ length s.rows.items = c.in_ok-rows.ensures.all ∙ ap (λ (l : List Row). length l) rows in
    let same_a : s.inputs ≡ n.inputs = ap (λ (t : TableState). t.inputs) c.self.view_is ∙ (c.requires.inputs ∙ sym leaves.same.inputs) in
    let same_b : s.outputs ≡ n.outputs = ap (λ (t : TableState). t.outputs) c.self.view_is ∙ (c.requires.outputs ∙ sym leaves.same.outputs) in
    let words = kept_words n s.inputs s.outputs same_a same_b leaves.keeps in
    let le : 0 ≤ length s.rows.items = omega (arith, all) in
    let full = λ (j : ℕ) (lt : j < 0). absurd (omega arith) in
    let t : TableState = table_of s.inputs s.outputs s.most s.access s.suffixes s.classes s.rows.items s.homes.items s.refinements in
    let read : CellsAreRead ks t = cells_more o.kept leaves.gained n.kept t leaves.at_end (subst (λ (u : TableState). CellsAreRead (answers_of o.kept) u) (sym c.self.view_is) c.requires.read) in
    subst (λ (u : TableState). HasGrown ks u (table_of s.inputs s.outputs s.most s.access s.suffixes now filled s.homes.items s.refinements)) c.self.view_is
    (replaced_grown ks s.inputs s.outputs s.most s.refinements s.access s.suffixes s.classes more.0 now s.rows.items filled s.homes.items (get nat_eq s.states) (get nat_eq s.states) 0 c.self.invariant.0 c.self.invariant.1 le full more.1 c.answered.ensures.differ all on words.0 words.1 read)

pub returns-clause-full : goal.returns-clause-full
returns-clause-full g c =
    let s = c.self.inside in
    let o : OracleState = g.O.Oracle.state c.args.oracle.now in
    let n : OracleState = g.O.Oracle.state c.answered.new.oracle in
    let ks = answers_of n.kept in
    let more = c.answered.ensures.more in
    let now = c.answered.new.classes in
    let leaves = c.answered.ensures.leaves in
    let rows : c.as_slice-old.result.now ≡ s.rows.items = c.as_slice-old.ensures.value in
    let filled = c.in_ok-rows.rows.items in
    let on : GoOn ks s.inputs s.access s.suffixes s.classes s.rows.items 0 now filled = subst (λ (l : List Row). GoOn ks s.inputs s.access s.suffixes s.classes l 0 now filled) rows c.in_ok-rows.ensures.go_on in
    let all : 0 + length filled ≡ length s.rows.items = c.in_ok-rows.ensures.all ∙ ap (λ (l : List Row). length l) rows in
    let same_a : s.inputs ≡ n.inputs = ap (λ (t : TableState). t.inputs) c.self.view_is ∙ (c.requires.inputs ∙ sym leaves.same.inputs) in
    let same_b : s.outputs ≡ n.outputs = ap (λ (t : TableState). t.outputs) c.self.view_is ∙ (c.requires.outputs ∙ sym leaves.same.outputs) in
    let words = kept_words n s.inputs s.outputs same_a same_b leaves.keeps in
    let le : 0 ≤ length s.rows.items = omega (arith, all) in
    let full = λ (j : ℕ) (lt : j < 0). absurd (omega arith) in
    replaced_full ks s.inputs s.outputs s.most s.refinements s.access s.suffixes s.classes more.0 now s.rows.items filled s.homes.items (get nat_eq s.states) (get nat_eq s.states) 0 c.self.invariant.0 c.self.invariant.1 le full more.1 c.answered.ensures.differ all on words.0 words.1

pub returns-clause-plainly : goal.returns-clause-plainly
returns-clause-plainly g c =
    let s = c.self.inside in
    let o : OracleState = g.O.Oracle.state c.args.oracle.now in
    let n : OracleState = g.O.Oracle.state c.answered.new.oracle in
    let t : TableState = table_of s.inputs s.outputs s.most s.access s.suffixes s.classes s.rows.items s.homes.items s.refinements in
    let rows : map (λ (r : Row). r.cells) c.as_slice-old.result.now ≡ map (λ (row : List (List ℕ)). length row) t.cells =
    ap (λ (l : List Row). map (λ (r : Row). r.cells) l) c.as_slice-old.ensures.value ∙ counts_are s.classes s.rows.items c.self.invariant.1.counts in
    let batch : open_from s.inputs s.access s.suffixes (map (λ (r : Row). r.cells) c.as_slice-old.result.now) 0 ≡ open_words t = ap (λ (ns : List ℕ). open_from s.inputs s.access s.suffixes ns 0) rows in
    subst (λ (u : TableState). AsksBatch (open_words u) o n) c.self.view_is (subst (λ (ws : List (List ℕ)). AsksBatch ws o n) batch c.in_ok-rows.ensures.plainly)
