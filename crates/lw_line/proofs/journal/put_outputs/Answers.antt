use Rattle.std.proofs.Common.{◌<◌, ◌∷◌, List, ℕ, length, subst}
use Rattle.std.specs.List.{All}
use Rattle.std.proofs.lemmas.List.Elements.{All-tail}
use Rattle.lw_line.proofs.journal.put_outputs.Goals as goal

pub put_output-requires-in-loop-y : goal.put_output-requires-in-loop-y
put_output-requires-in-loop-y c =
    let P : ℕ → Type 0 = λ y. y < length c.args.outputs.now.names in
    let whole : All P (c.in-Some.first.now ∷ c.in-Some.rest.now) = subst (λ (l : List ℕ). All P l) c.in-Some.ensures.cases.0 c.requires in
    All-tail P c.in-Some.first.now c.in-Some.rest.now whole c.loop-y.y-index 0 c.loop-y-test.true
