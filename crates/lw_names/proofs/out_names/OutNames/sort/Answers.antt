use Rattle.std.proofs.Common.{◌≡◌, ℕ, List, length, map, take, drop, ◌++◌, ap, ◌∙◌, subst, arith, vec_capacity, Vec, Global}
use Rattle.std.proofs.lemmas.List.{take_at}
use Rattle.lw_words.specs.Renumbering.{renumbered}
use Rattle.lw_names.specs.bodies.OutNames.{AreRanks}
use Rattle.lw_names.proofs.NameOrder.{renumbers_seen, brought_seen, keeps_sorted}
use Rattle.lw_names.proofs.out_names.OutNames.sort.Goals as goal

abbrev items : Vec ℕ Global → List ℕ
items t = t.items

abbrev capacity : Vec ℕ Global → ℕ
capacity t = vec_capacity t

pub invariant_of-self : goal.invariant_of-self
invariant_of-self c =
    let n = c.self.inside in
    let to = c.rank_names.new.to in
    let tables = c.renumber_tables.new.tables in
    let tables_now = take n.tables.len (tables ++ drop (length tables) n.tables.items) in
    let written : tables_now ≡ tables = take_at tables (drop (length tables) n.tables.items) n.tables.len (omega arith) in
    keeps_sorted n.free n.names.items (map items n.tables.items) (vec_capacity n.names) (map capacity n.tables.items) c.args.self.now c.self.view_is c.self.invariant to c.sort_names.new.names.items (map items tables_now)
    (subst (λ l. AreRanks to l (length l)) c.as_slice.ensures.value c.rank_names.ensures.ranks) c.sort_names.ensures.permuted c.sort_names.ensures.sorted
    (ap (map items) written ∙ (c.renumber_tables.ensures.items ∙ ap (λ ts. map (renumbered to) (map items ts)) c.as_mut_slice.ensures.value))
    (vec_capacity c.sort_names.new.names) (map capacity tables_now) c.sort_names.ensures.capacity
    (ap (map capacity) written ∙ (c.renumber_tables.ensures.capacities ∙ ap (map capacity) c.as_mut_slice.ensures.value))

pub returns-clause-numbers : goal.returns-clause-numbers
returns-clause-numbers c =
    let n = c.self.inside in
    let to = c.rank_names.new.to in
    let tables = c.renumber_tables.new.tables in
    renumbers_seen n.free n.names.items (map items n.tables.items) (vec_capacity n.names) (map capacity n.tables.items) c.args.self.now c.self.view_is c.self.invariant to c.sort_names.new.names.items (map items tables)
    (subst (λ l. AreRanks to l (length l)) c.as_slice.ensures.value c.rank_names.ensures.ranks) c.sort_names.ensures.permuted c.sort_names.ensures.sorted
    (c.renumber_tables.ensures.items ∙ ap (λ ts. map (renumbered to) (map items ts)) c.as_mut_slice.ensures.value)

pub returns-clause-brought : goal.returns-clause-brought
returns-clause-brought c =
    let n = c.self.inside in
    let to = c.rank_names.new.to in
    let tables = c.renumber_tables.new.tables in
    let tables_now = take n.tables.len (tables ++ drop (length tables) n.tables.items) in
    let written : tables_now ≡ tables = take_at tables (drop (length tables) n.tables.items) n.tables.len (omega arith) in
    brought_seen n.free n.names.items (map items n.tables.items) (vec_capacity n.names) (map capacity n.tables.items) c.args.self.now c.self.view_is c.self.invariant to c.sort_names.new.names.items (map items tables_now)
    (subst (λ l. AreRanks to l (length l)) c.as_slice.ensures.value c.rank_names.ensures.ranks) c.sort_names.ensures.permuted c.sort_names.ensures.sorted
    (ap (map items) written ∙ (c.renumber_tables.ensures.items ∙ ap (λ ts. map (renumbered to) (map items ts)) c.as_mut_slice.ensures.value))
