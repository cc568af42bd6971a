use Rattle.std.proofs.Common.{◌<◌, ◌∷◌, List, ℕ, length, subst}
use Rattle.std.specs.List.{All}
use Rattle.std.proofs.lemmas.List.Elements.{All-get_or, All-tail}
use Rattle.lw_ask.proofs.lines.put_outputs.Goals as goal

pub put_output-requires-in-loop-output : goal.put_output-requires-in-loop-output
put_output-requires-in-loop-output g c =
    let P : ℕ → Type 0 = λ y. y < length (g.S.Sul.state c.args.sul.now).names in
    let whole : All P (c.in-Some.first.now ∷ c.in-Some.rest.now) = subst (λ (w : List ℕ). All P w) c.in-Some.ensures.cases.0 c.requires in
    All-get_or P c.in-Some.rest.now c.loop-output.output-index 0 c.loop-output-test.true (All-tail P c.in-Some.first.now c.in-Some.rest.now whole)
