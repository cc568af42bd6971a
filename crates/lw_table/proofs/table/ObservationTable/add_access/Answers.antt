use Rattle.std.proofs.Common.{rules, ◌≡◌, ◌≢◌, ℕ, ◌<◌, List, [], ◌∷◌, ◌++◌, length, get_or, replicate, nat_eq, cond, Some, ap, ap₂, sym, ◌∙◌, subst, arith}
use Rattle.std.proofs.Math.ListN.{get_or-append}
use Rattle.std.proofs.lemmas.List.{get_or_default}
use Rattle.std.specs.HashMap.{get}
use Rattle.lw_table.specs.Table.{TableState, row_at, access_row, IsTable}
use Rattle.lw_table.specs.bodies.Growing.{AreFull, with_access}
use Rattle.lw_table.specs.bodies.Rows.{IsRowWord, no_cells, class_at, table_of, AreIndexed}
use Rattle.lw_table.specs.declared.rows.Row.{Row}
use Rattle.lw_table.proofs.AccessLemmas.{accessed}
use Rattle.lw_table.proofs.FilledLemmas.{homes_in}
use Rattle.lw_table.proofs.IndexLemmas.{cells_longer, index_longer, within_rows}
use Rattle.lw_table.proofs.table.ObservationTable.add_access.Goals as goal

pub invariant_of-self-2 : goal.invariant_of-self-2
invariant_of-self-2 c =
    let s = c.self.inside in
    let j = c.args.row in
    let t : TableState = table_of s.inputs s.outputs s.most s.access s.suffixes s.classes s.rows.items s.homes.items s.refinements in
    let word = c.in_ok-word.word in
    let in_cells : j < length t.cells = subst (λ (u : TableState). j < length u.cells) (sym c.self.view_is) c.requires.row in
    let inside : j < length s.rows.items = within_rows s.classes s.rows.items j in_cells in
    let access : c.push.new.self ≡ s.access ++ word ∷ [] = c.in_ok-push.ensures.ok in
    let homes : c.push_reserved.new.self.items ≡ s.homes.items ++ j ∷ [] = c.push_reserved.ensures.items ∙ ap (λ (l : List ℕ). l ++ j ∷ []) c.make_room.ensures.homes in
    let rows : c.add_empty.new.rows.items ≡ s.rows.items ++ replicate s.inputs no_cells = search (rules, c.make_room.ensures.rows) in
    let found = c.index.result.now in
    let class : found.class ≡ class_at s.rows.items j =
    ap (λ (r : Row). r.class) (c.index.ensures ∙ (ap (λ (l : List Row). get_or l j found) rows ∙ (get_or-append s.rows.items (replicate s.inputs no_cells) found j inside ∙ get_or_default s.rows.items j found no_cells inside))) in
    let new : (q : ℕ) → q < length t.access → row_at t j ≢ access_row t q = subst (λ (u : TableState). (q : ℕ) → q < length u.access → row_at u j ≢ access_row u q) (sym c.self.view_is) c.requires.new in
    let find = get nat_eq s.states in
    let was : (q : ℕ) → get nat_eq c.make_room.new.states q ≡ find q = c.make_room.ensures.states in
    let numbered : c.len-state.result ≡ length s.homes.items = search rules in
    let states : (q : ℕ) → get nat_eq c.add_class.new.states q ≡ cond (nat_eq (class_at s.rows.items j) q) (Some (length s.homes.items)) (find q) = λ q.
    c.add_class.ensures.0 q ∙ (ap (cond (nat_eq found.class q) (Some c.len-state.result)) (was q) ∙ ap₂ (λ (k n : ℕ). cond (nat_eq k q) (Some n) (find q)) class numbered) in
    let room : length t.access < t.most = subst (λ (u : TableState). length u.access < u.most) (sym c.self.view_is) c.requires.room in
    let full : AreFull t = subst (λ (u : TableState). AreFull u) (sym c.self.view_is) c.requires.full in
    let early : (q : ℕ) → q < length s.homes.items → get_or s.homes.items q 0 < length s.rows.items = λ q lt. within_rows s.classes s.rows.items (get_or s.homes.items q 0) (homes_in t c.self.invariant.0 q (omega (arith, lt, c.self.invariant.0.each_home))) in
    let cells = cells_longer s.classes s.rows.items s.homes.items (get nat_eq s.states) s.inputs j c.self.invariant.1 early inside in
    let table : IsTable (table_of s.inputs s.outputs s.most (s.access ++ word ∷ []) s.suffixes s.classes (s.rows.items ++ replicate s.inputs no_cells) (s.homes.items ++ j ∷ []) s.refinements) =
    subst (λ (l : List (List (List ℕ))). IsTable (record (t) { access = s.access ++ word ∷ []; cells = l; homes = s.homes.items ++ j ∷ [] })) (sym cells)
    (accessed t word j c.self.invariant.0 c.in_ok-word.ensures.word in_cells room full new) in (
      subst (λ (l : List (List ℕ)). IsTable (table_of s.inputs s.outputs s.most l s.suffixes s.classes c.add_empty.new.rows.items c.push_reserved.new.self.items s.refinements)) (sym access)
          (subst (λ (l : List Row). IsTable (table_of s.inputs s.outputs s.most (s.access ++ word ∷ []) s.suffixes s.classes l c.push_reserved.new.self.items s.refinements)) (sym rows)
          (subst (λ (l : List ℕ). IsTable (table_of s.inputs s.outputs s.most (s.access ++ word ∷ []) s.suffixes s.classes (s.rows.items ++ replicate s.inputs no_cells) l s.refinements)) (sym homes) table)),
      subst (λ (l : List Row). AreIndexed s.classes l c.push_reserved.new.self.items (get nat_eq c.add_class.new.states)) (sym rows)
          (subst (λ (l : List ℕ). AreIndexed s.classes (s.rows.items ++ replicate s.inputs no_cells) l (get nat_eq c.add_class.new.states)) (sym homes)
          (index_longer s.classes s.rows.items s.homes.items (get nat_eq s.states) s.inputs j c.self.invariant.1 early inside (get nat_eq c.add_class.new.states) states)),
    )

pub returns-clause-table : goal.returns-clause-table
returns-clause-table c =
    let s = c.self.inside in
    let j = c.args.row in
    let t : TableState = table_of s.inputs s.outputs s.most s.access s.suffixes s.classes s.rows.items s.homes.items s.refinements in
    let word = c.in_ok-word.word in
    let in_cells : j < length t.cells = subst (λ (u : TableState). j < length u.cells) (sym c.self.view_is) c.requires.row in
    let inside : j < length s.rows.items = within_rows s.classes s.rows.items j in_cells in
    let access : c.push.new.self ≡ s.access ++ word ∷ [] = c.in_ok-push.ensures.ok in
    let homes : c.push_reserved.new.self.items ≡ s.homes.items ++ j ∷ [] = c.push_reserved.ensures.items ∙ ap (λ (l : List ℕ). l ++ j ∷ []) c.make_room.ensures.homes in
    let rows : c.add_empty.new.rows.items ≡ s.rows.items ++ replicate s.inputs no_cells = search (rules, c.make_room.ensures.rows) in
    let found = c.index.result.now in
    let class : found.class ≡ class_at s.rows.items j =
    ap (λ (r : Row). r.class) (c.index.ensures ∙ (ap (λ (l : List Row). get_or l j found) rows ∙ (get_or-append s.rows.items (replicate s.inputs no_cells) found j inside ∙ get_or_default s.rows.items j found no_cells inside))) in
    let new : (q : ℕ) → q < length t.access → row_at t j ≢ access_row t q = subst (λ (u : TableState). (q : ℕ) → q < length u.access → row_at u j ≢ access_row u q) (sym c.self.view_is) c.requires.new in
    let room : length t.access < t.most = subst (λ (u : TableState). length u.access < u.most) (sym c.self.view_is) c.requires.room in
    let full : AreFull t = subst (λ (u : TableState). AreFull u) (sym c.self.view_is) c.requires.full in
    let early : (q : ℕ) → q < length s.homes.items → get_or s.homes.items q 0 < length s.rows.items = λ q lt. within_rows s.classes s.rows.items (get_or s.homes.items q 0) (homes_in t c.self.invariant.0 q (omega (arith, lt, c.self.invariant.0.each_home))) in
    let cells = cells_longer s.classes s.rows.items s.homes.items (get nat_eq s.states) s.inputs j c.self.invariant.1 early inside in
    let table : IsTable (table_of s.inputs s.outputs s.most (s.access ++ word ∷ []) s.suffixes s.classes (s.rows.items ++ replicate s.inputs no_cells) (s.homes.items ++ j ∷ []) s.refinements) =
    subst (λ (l : List (List (List ℕ))). IsTable (record (t) { access = s.access ++ word ∷ []; cells = l; homes = s.homes.items ++ j ∷ [] })) (sym cells)
    (accessed t word j c.self.invariant.0 c.in_ok-word.ensures.word in_cells room full new) in
    subst (λ (l : List (List ℕ)). IsTable (table_of s.inputs s.outputs s.most l s.suffixes s.classes c.add_empty.new.rows.items c.push_reserved.new.self.items s.refinements)) (sym access)
    (subst (λ (l : List Row). IsTable (table_of s.inputs s.outputs s.most (s.access ++ word ∷ []) s.suffixes s.classes l c.push_reserved.new.self.items s.refinements)) (sym rows)
    (subst (λ (l : List ℕ). IsTable (table_of s.inputs s.outputs s.most (s.access ++ word ∷ []) s.suffixes s.classes (s.rows.items ++ replicate s.inputs no_cells) l s.refinements)) (sym homes) table))

pub returns-clause-ok : goal.returns-clause-ok
returns-clause-ok c =
    let s = c.self.inside in
    let j = c.args.row in
    let t : TableState = table_of s.inputs s.outputs s.most s.access s.suffixes s.classes s.rows.items s.homes.items s.refinements in
    let word = c.in_ok-word.word in
    let in_cells : j < length t.cells = subst (λ (u : TableState). j < length u.cells) (sym c.self.view_is) c.requires.row in
    let inside : j < length s.rows.items = within_rows s.classes s.rows.items j in_cells in
    let access : c.push.new.self ≡ s.access ++ word ∷ [] = c.in_ok-push.ensures.ok in
    let homes : c.push_reserved.new.self.items ≡ s.homes.items ++ j ∷ [] = c.push_reserved.ensures.items ∙ ap (λ (l : List ℕ). l ++ j ∷ []) c.make_room.ensures.homes in
    let rows : c.add_empty.new.rows.items ≡ s.rows.items ++ replicate s.inputs no_cells = search (rules, c.make_room.ensures.rows) in
    let found = c.index.result.now in
    let class : found.class ≡ class_at s.rows.items j =
    ap (λ (r : Row). r.class) (c.index.ensures ∙ (ap (λ (l : List Row). get_or l j found) rows ∙ (get_or-append s.rows.items (replicate s.inputs no_cells) found j inside ∙ get_or_default s.rows.items j found no_cells inside))) in
    let new : (q : ℕ) → q < length t.access → row_at t j ≢ access_row t q = subst (λ (u : TableState). (q : ℕ) → q < length u.access → row_at u j ≢ access_row u q) (sym c.self.view_is) c.requires.new in
    let room : length t.access < t.most = subst (λ (u : TableState). length u.access < u.most) (sym c.self.view_is) c.requires.room in
    let full : AreFull t = subst (λ (u : TableState). AreFull u) (sym c.self.view_is) c.requires.full in
    let early : (q : ℕ) → q < length s.homes.items → get_or s.homes.items q 0 < length s.rows.items = λ q lt. within_rows s.classes s.rows.items (get_or s.homes.items q 0) (homes_in t c.self.invariant.0 q (omega (arith, lt, c.self.invariant.0.each_home))) in
    let cells = cells_longer s.classes s.rows.items s.homes.items (get nat_eq s.states) s.inputs j c.self.invariant.1 early inside in
    let letter_is : IsRowWord c.args.self.now.inputs c.args.self.now.access j word = subst (λ (u : TableState). IsRowWord u.inputs u.access j word) c.self.view_is c.in_ok-word.ensures.word in
    record {
      word = word;
      of_row = letter_is;
      is = subst (λ (u : TableState). table_of s.inputs s.outputs s.most c.push.new.self s.suffixes s.classes c.add_empty.new.rows.items c.push_reserved.new.self.items s.refinements ≡ with_access u word j) c.self.view_is
          (ap (λ (l : List (List ℕ)). table_of s.inputs s.outputs s.most l s.suffixes s.classes c.add_empty.new.rows.items c.push_reserved.new.self.items s.refinements) access
          ∙ (ap (λ (l : List Row). table_of s.inputs s.outputs s.most (s.access ++ word ∷ []) s.suffixes s.classes l c.push_reserved.new.self.items s.refinements) rows
          ∙ (ap (λ (l : List ℕ). table_of s.inputs s.outputs s.most (s.access ++ word ∷ []) s.suffixes s.classes (s.rows.items ++ replicate s.inputs no_cells) l s.refinements) homes
          ∙ ap (λ (l : List (List (List ℕ))). record (t) { access = s.access ++ word ∷ []; cells = l; homes = s.homes.items ++ j ∷ [] }) cells)));
    }
