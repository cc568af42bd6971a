use Rattle.std.proofs.Common.{rules, ◌≡◌, ℕ, List, [], ◌∷◌, subst}
use Rattle.lw_plain.specs.Turns.{AsksBatch}
use Rattle.lw_plain.proofs.TurnLemmas.{settled_is_asked}
use Rattle.lw_cex.proofs.search.is_as_settled.Goals as goal

pub returns-clause-plainly : goal.returns-clause-plainly
returns-clause-plainly g c =
    let o = g.O.Oracle.state c.args.oracle.now in
    let n = g.O.Oracle.state c.settle.new.self in
    let same : c.as_slice.result.now ≡ c.args.word ∷ [] = search rules in
    subst (λ (ws : List (List ℕ)). AsksBatch ws o n) same (settled_is_asked c.as_slice.result.now o n c.in_ok-settle.ensures.settles)
