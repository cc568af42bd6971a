use Rattle.std.proofs.Common.{◌≡◌, ℕ, ◌+◌, ◌<◌, ◌≤◌, List, ◌++◌, length, map, take, get_or, nat_eq, ap, sym, ◌∙◌, subst, arith}
use Rattle.std.specs.HashMap.{get}
use Rattle.std.specs.List.{All}
use Rattle.lw_words.specs.Word.{answers_of}
use Rattle.lw_cache.specs.Settling.{OracleState}
use Rattle.lw_plain.specs.Turns.{AsksBatch}
use Rattle.lw_table.specs.Grown.{HasGrown}
use Rattle.lw_table.specs.Table.{TableState, IsTable, CellsAreRead}
use Rattle.lw_table.specs.bodies.Classes.{row_of}
use Rattle.lw_table.specs.bodies.Filling.{GoOn}
use Rattle.lw_table.specs.bodies.Growing.{AreFull}
use Rattle.lw_table.specs.bodies.Plain.{open_from, open_behind}
use Rattle.lw_table.specs.bodies.Rows.{table_of, AreIndexed}
use Rattle.lw_table.specs.declared.rows.Row.{Row}
use Rattle.lw_table.proofs.CellLemmas.{cells_more, kept_words}
use Rattle.lw_table.proofs.GrownLemmas.{not_grown}
use Rattle.lw_table.proofs.IndexLemmas.{few_cells, more_classes, same_table, replaced_index, replaced_states, replaced_table, replaced_full, replaced_grown}
use Rattle.lw_table.proofs.OpenLemmas.{counts_are}
use Rattle.lw_table.proofs.table.ObservationTable.fill_new.Goals as goal

pub answered-requires-clause-few : goal.answered-requires-clause-few
answered-requires-clause-few g c =
    let s = c.self.inside in
    subst (λ (l : List Row). All (λ r. r.cells ≤ length s.suffixes) l) (sym c.as_slice-old.ensures.value) (few_cells s.classes s.rows.items s.homes.items (get nat_eq s.states) c.self.invariant.1 s.outputs s.suffixes c.self.invariant.0.shape)

pub invariant_of-self : goal.invariant_of-self
invariant_of-self g c =
    let s = c.self.inside in
    let o : OracleState = g.O.Oracle.state c.args.oracle.now in
    let n : OracleState = g.O.Oracle.state c.answered.new.oracle in
    let ks = answers_of n.kept in
    let more = c.answered.ensures.more in
    let now = c.answered.new.classes in (
      subst (λ (t : TableState). IsTable t) (sym (same_table s.inputs s.outputs s.most s.refinements s.access s.suffixes s.classes more.0 now s.rows.items s.homes.items (get nat_eq s.states) c.self.invariant.1 more.1)) c.self.invariant.0,
      more_classes s.classes s.rows.items s.homes.items (get nat_eq s.states) c.self.invariant.1 more.0 now more.1 c.answered.ensures.differ,
    )

pub returns-in_err-filled-clause-grown : goal.returns-in_err-filled-clause-grown
returns-in_err-filled-clause-grown g c =
    let s = c.self.inside in
    let o : OracleState = g.O.Oracle.state c.args.oracle.now in
    let n : OracleState = g.O.Oracle.state c.answered.new.oracle in
    let ks = answers_of n.kept in
    let more = c.answered.ensures.more in
    let now = c.answered.new.classes in
    let leaves = c.answered.ensures.leaves in
    let t : TableState = table_of s.inputs s.outputs s.most s.access s.suffixes s.classes s.rows.items s.homes.items s.refinements in
    let read : CellsAreRead ks t = cells_more o.kept leaves.gained n.kept t leaves.at_end (subst (λ (u : TableState). CellsAreRead (answers_of o.kept) u) (sym c.self.view_is) c.requires.read) in
    subst (λ (u : TableState). HasGrown ks u (table_of s.inputs s.outputs s.most s.access s.suffixes now s.rows.items s.homes.items s.refinements)) c.self.view_is
    (subst (λ (u : TableState). HasGrown ks t u) (sym (same_table s.inputs s.outputs s.most s.refinements s.access s.suffixes s.classes more.0 now s.rows.items s.homes.items (get nat_eq s.states) c.self.invariant.1 more.1)) (not_grown ks t c.self.invariant.0 read))

pub invariant_of-self-2 : goal.invariant_of-self-2
invariant_of-self-2 g c =
    let s = c.self.inside in
    let o : OracleState = g.O.Oracle.state c.args.oracle.now in
    let n : OracleState = g.O.Oracle.state c.answered.new.oracle in
    let ks = answers_of n.kept in
    let more = c.answered.ensures.more in
    let now = c.answered.new.classes in
    let leaves = c.answered.ensures.leaves in
    let rows : c.as_slice-old.result.now ≡ s.rows.items = c.as_slice-old.ensures.value in
    let filled = c.in_ok-filled.filled.items in
    let on : GoOn ks s.inputs s.access s.suffixes s.classes s.rows.items c.args.first now filled = subst (λ (l : List Row). GoOn ks s.inputs s.access s.suffixes s.classes l c.args.first now filled) rows c.in_ok-filled.ensures.go_on in
    let all : c.args.first + length filled ≡ length s.rows.items = c.in_ok-filled.ensures.all ∙ ap (λ (l : List Row). length l) rows in
    let same_a : s.inputs ≡ n.inputs = ap (λ (t : TableState). t.inputs) c.self.view_is ∙ (c.requires.inputs ∙ sym leaves.same.inputs) in
    let same_b : s.outputs ≡ n.outputs = ap (λ (t : TableState). t.outputs) c.self.view_is ∙ (c.requires.outputs ∙ sym leaves.same.outputs) in
    let words = kept_words n s.inputs s.outputs same_a same_b leaves.keeps in
    let le : c.args.first ≤ length s.rows.items = omega (arith, all) in
    let full = (λ (j : ℕ) (lt : j < c.args.first). subst (λ (t : TableState). length (row_of t.cells j) ≡ length t.suffixes) (sym c.self.view_is) (c.requires.full j lt)) in
    let is : c.replace.new.rows.items ≡ take c.args.first s.rows.items ++ filled = c.replace.ensures ∙ ap (λ (l : List Row). take c.args.first s.rows.items ++ l) c.deref.ensures.value in
    let early : (q : ℕ) → q < length s.homes.items → get_or s.homes.items q 0 < c.args.first = λ q lt. subst (λ (t : TableState). q < length t.access → get_or t.homes q 0 < c.args.first) (sym c.self.view_is) (c.requires.homes q) (omega (arith, lt, c.self.invariant.0.each_home)) in
    subst (λ (l : List Row). IsTable (table_of s.inputs s.outputs s.most s.access s.suffixes now l s.homes.items s.refinements) × AreIndexed now l s.homes.items (get nat_eq s.states)) (sym is)
    (replaced_table ks s.inputs s.outputs s.most s.refinements s.access s.suffixes s.classes more.0 now s.rows.items filled s.homes.items (get nat_eq s.states) (get nat_eq s.states) c.args.first c.self.invariant.0 c.self.invariant.1 le full more.1 c.answered.ensures.differ all on words.0 words.1, replaced_index ks s.inputs s.outputs s.most s.refinements s.access s.suffixes s.classes more.0 now s.rows.items filled s.homes.items (get nat_eq s.states) (get nat_eq s.states) c.args.first c.self.invariant.0 c.self.invariant.1 le full more.1 c.answered.ensures.differ all on (replaced_states ks s.inputs s.outputs s.most s.refinements s.access s.suffixes s.classes more.0 now s.rows.items filled s.homes.items (get nat_eq s.states) (get nat_eq s.states) c.args.first c.self.invariant.0 c.self.invariant.1 le full more.1 c.answered.ensures.differ all on early))

pub returns-clause-grown : goal.returns-clause-grown
returns-clause-grown g c =
    let s = c.self.inside in
    let o : OracleState = g.O.Oracle.state c.args.oracle.now in
    let n : OracleState = g.O.Oracle.state c.answered.new.oracle in
    let ks = answers_of n.kept in
    let more = c.answered.ensures.more in
    let now = c.answered.new.classes in
    let leaves = c.answered.ensures.leaves in
    let rows : c.as_slice-old.result.now ≡ s.rows.items = c.as_slice-old.ensures.value in
    let filled = c.in_ok-filled.filled.items in
    let on : GoOn ks s.inputs s.access s.suffixes s.classes s.rows.items c.args.first now filled = subst (λ (l : List Row). GoOn ks s.inputs s.access s.suffixes s.classes l c.args.first now filled) rows c.in_ok-filled.ensures.go_on in
    let all : c.args.first + length filled ≡ length s.rows.items = c.in_ok-filled.ensures.all ∙ ap (λ (l : List Row). length l) rows in
    let same_a : s.inputs ≡ n.inputs = ap (λ (t : TableState). t.inputs) c.self.view_is ∙ (c.requires.inputs ∙ sym leaves.same.inputs) in
    let same_b : s.outputs ≡ n.outputs = ap (λ (t : TableState). t.outputs) c.self.view_is ∙ (c.requires.outputs ∙ sym leaves.same.outputs) in
    let words = kept_words n s.inputs s.outputs same_a same_b leaves.keeps in
    let le : c.args.first ≤ length s.rows.items = omega (arith, all) in
    let full = (λ (j : ℕ) (lt : j < c.args.first). subst (λ (t : TableState). length (row_of t.cells j) ≡ length t.suffixes) (sym c.self.view_is) (c.requires.full j lt)) in
    let is : c.replace.new.rows.items ≡ take c.args.first s.rows.items ++ filled = c.replace.ensures ∙ ap (λ (l : List Row). take c.args.first s.rows.items ++ l) c.deref.ensures.value in
    let t : TableState = table_of s.inputs s.outputs s.most s.access s.suffixes s.classes s.rows.items s.homes.items s.refinements in
    let read : CellsAreRead ks t = cells_more o.kept leaves.gained n.kept t leaves.at_end (subst (λ (u : TableState). CellsAreRead (answers_of o.kept) u) (sym c.self.view_is) c.requires.read) in
    subst (λ (l : List Row). HasGrown ks c.args.self.now (table_of s.inputs s.outputs s.most s.access s.suffixes now l s.homes.items s.refinements)) (sym is)
    (subst (λ (u : TableState). HasGrown ks u (table_of s.inputs s.outputs s.most s.access s.suffixes now (take c.args.first s.rows.items ++ filled) s.homes.items s.refinements)) c.self.view_is
    (replaced_grown ks s.inputs s.outputs s.most s.refinements s.access s.suffixes s.classes more.0 now s.rows.items filled s.homes.items (get nat_eq s.states) (get nat_eq s.states) c.args.first c.self.invariant.0 c.self.invariant.1 le full more.1 c.answered.ensures.differ all on words.0 words.1 read))

pub returns-clause-full : goal.returns-clause-full
returns-clause-full g c =
    let s = c.self.inside in
    let o : OracleState = g.O.Oracle.state c.args.oracle.now in
    let n : OracleState = g.O.Oracle.state c.answered.new.oracle in
    let ks = answers_of n.kept in
    let more = c.answered.ensures.more in
    let now = c.answered.new.classes in
    let leaves = c.answered.ensures.leaves in
    let rows : c.as_slice-old.result.now ≡ s.rows.items = c.as_slice-old.ensures.value in
    let filled = c.in_ok-filled.filled.items in
    let on : GoOn ks s.inputs s.access s.suffixes s.classes s.rows.items c.args.first now filled = subst (λ (l : List Row). GoOn ks s.inputs s.access s.suffixes s.classes l c.args.first now filled) rows c.in_ok-filled.ensures.go_on in
    let all : c.args.first + length filled ≡ length s.rows.items = c.in_ok-filled.ensures.all ∙ ap (λ (l : List Row). length l) rows in
    let same_a : s.inputs ≡ n.inputs = ap (λ (t : TableState). t.inputs) c.self.view_is ∙ (c.requires.inputs ∙ sym leaves.same.inputs) in
    let same_b : s.outputs ≡ n.outputs = ap (λ (t : TableState). t.outputs) c.self.view_is ∙ (c.requires.outputs ∙ sym leaves.same.outputs) in
    let words = kept_words n s.inputs s.outputs same_a same_b leaves.keeps in
    let le : c.args.first ≤ length s.rows.items = omega (arith, all) in
    let full = (λ (j : ℕ) (lt : j < c.args.first). subst (λ (t : TableState). length (row_of t.cells j) ≡ length t.suffixes) (sym c.self.view_is) (c.requires.full j lt)) in
    let is : c.replace.new.rows.items ≡ take c.args.first s.rows.items ++ filled = c.replace.ensures ∙ ap (λ (l : List Row). take c.args.first s.rows.items ++ l) c.deref.ensures.value in
    subst (λ (l : List Row). AreFull (table_of s.inputs s.outputs s.most s.access s.suffixes now l s.homes.items s.refinements)) (sym is)
    (replaced_full ks s.inputs s.outputs s.most s.refinements s.access s.suffixes s.classes more.0 now s.rows.items filled s.homes.items (get nat_eq s.states) (get nat_eq s.states) c.args.first c.self.invariant.0 c.self.invariant.1 le full more.1 c.answered.ensures.differ all on words.0 words.1)

pub returns-clause-plainly : goal.returns-clause-plainly
returns-clause-plainly g c =
    let s = c.self.inside in
    let o : OracleState = g.O.Oracle.state c.args.oracle.now in
    let n : OracleState = g.O.Oracle.state c.answered.new.oracle in
    let t : TableState = table_of s.inputs s.outputs s.most s.access s.suffixes s.classes s.rows.items s.homes.items s.refinements in
    let rows : map (λ (r : Row). r.cells) c.as_slice-old.result.now ≡ map (λ (row : List (List ℕ)). length row) t.cells =
    ap (λ (l : List Row). map (λ (r : Row). r.cells) l) c.as_slice-old.ensures.value ∙ counts_are s.classes s.rows.items c.self.invariant.1.counts in
    let batch : open_from s.inputs s.access s.suffixes (map (λ (r : Row). r.cells) c.as_slice-old.result.now) c.args.first ≡ open_behind t c.args.first = ap (λ (ns : List ℕ). open_from s.inputs s.access s.suffixes ns c.args.first) rows in
    subst (λ (u : TableState). AsksBatch (open_behind u c.args.first) o n) c.self.view_is (subst (λ (ws : List (List ℕ)). AsksBatch ws o n) batch c.in_ok-filled.ensures.plainly)
