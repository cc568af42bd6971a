use Rattle.std.proofs.Common.{◌≡◌, ◌++◌, ◌∷◌, [], ℕ, List, None, ap, sym, ◌∙◌, rules}
use Rattle.lw_words.specs.Word.{number_of}
use Rattle.lw_line.proofs.Naming.{HasComeNew, came_new}
use Rattle.lw_line.proofs.outputs.free_number.Goals as goal
use Rattle.lw_line.proofs.outputs.free_number.Goals.{After-push_reserved}

new_name : (c : After-push_reserved) → HasComeNew c.args.names.now.items c.push_reserved.new.self.items c.args.name.now c.len-count.result
new_name c =
    let names = c.args.names.now.items in
    let name = c.args.name.now in
    let missed : c.find.result ≡ None = search rules in
    let lacks : number_of name names ≡ None =
    ap (λ (n : List ℕ). number_of n names) (sym c.as_slice-2.ensures.value)
    ∙ (ap (number_of c.as_slice-2.result.now) (sym c.as_slice.ensures.value) ∙ (sym c.find.ensures ∙ missed)) in
    came_new names c.push_reserved.new.self.items name c.len-count.result c.requires.lawful lacks (c.len-count.ensures ∙ search rules) c.if-count-eq-MOST_FREE.false
    (c.push_reserved.ensures.items ∙ ap (λ (n : List ℕ). names ++ n ∷ []) c.copy.ensures)
    c.as_slice-2.ensures.name

pub returns-clause-some : goal.returns-clause-some
returns-clause-some c = let n = new_name (goal.at.returns-clause-some c).After-push_reserved in (n.number, n.brings, n.below)

pub returns-clause-lawful : goal.returns-clause-lawful
returns-clause-lawful c = (new_name (goal.at.returns-clause-lawful c).After-push_reserved).lawful
