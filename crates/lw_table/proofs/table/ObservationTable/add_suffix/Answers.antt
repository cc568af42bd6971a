use Rattle.std.proofs.Common.{◌≡◌, List, ℕ, sym, subst, ◌∙◌, ◌++◌, ◌∷◌, [], ap}
use Rattle.lw_words.specs.Word.{IsWord}
use Rattle.lw_table.specs.Table.{TableState, IsTable}
use Rattle.lw_table.specs.bodies.Rows.{table_of}
use Rattle.lw_table.proofs.SuffixLemmas.{suffixed}
use Rattle.lw_table.proofs.table.ObservationTable.add_suffix.Goals as goal

pub returns-clause-table : goal.returns-clause-table
returns-clause-table c =
    let s = c.self.inside in
    let t : TableState = table_of s.inputs s.outputs s.most s.access s.suffixes s.classes s.rows.items s.homes.items s.refinements in
    let letters = subst (λ (u : TableState). IsWord u.inputs c.args.suffix.now) (sym c.self.view_is) c.requires.letters in
    let grown : c.push.new.self ≡ s.suffixes ++ c.args.suffix.now ∷ [] = c.in_ok-push.ensures.ok ∙ ap (λ (w : List ℕ). s.suffixes ++ w ∷ []) c.in_ok-copy.ensures in
    subst (λ (l : List (List ℕ)). IsTable (record (t) { suffixes = l })) (sym grown) (suffixed t c.args.suffix.now c.self.invariant.0 letters c.requires.some)

pub invariant_of-self-2 : goal.invariant_of-self-2
invariant_of-self-2 c = (returns-clause-table c, c.self.invariant.1)
