use Rattle.std.proofs.Common.{◌≡◌, ◌∙◌, ℕ, List, map, string_bytes, inl, ap, rules, subst, sym}
use Rattle.lw_words.specs.declared.kept.KeptAnswer.{KeptAnswer}
use Rattle.lw_recheck.specs.Child.{RechecksChild}
use Rattle.lw_recheck.specs.Outcomes.{came_outcome}
use Rattle.lw_recheck.proofs.command.recheck_command.Goals as goal

pub returns-in-Ok-clause-asks : goal.returns-in-Ok-clause-asks
returns-in-Ok-clause-asks g c =
    let P = g.P.Spawner in
    let before = c.args.spawner.now in
    let now = c.recheck_child.new.spawner in
    let b = P.state before in
    let z = P.state now in
    let command = c.args.command in
    let asked = c.in-Ok.asked in
    let words : map (λ w. string_bytes w) c.deref.result.now ≡ command.words = search rules in
    let kept = subst (λ (ws : List (List ℕ)). RechecksChild ws command.inputs command.outputs c.args.outputs c.args.kept.answers b z asked.names asked.kept.answers asked.came) words c.in-Ok.ensures.ok in
    inl (record {
      came = asked.came;
      outcome = c.told_of.ensures.outcome ∙ ap (λ (n : ℕ). came_outcome n asked.came) c.len-count.ensures;
      names = asked.names;
      shown_are = c.told_of.ensures.names;
      asks = subst (λ (ks : List KeptAnswer). RechecksChild command.words command.inputs command.outputs c.args.outputs c.args.kept.answers b z asked.names ks asked.came) (sym c.told_of.ensures.kept) kept;
    })
