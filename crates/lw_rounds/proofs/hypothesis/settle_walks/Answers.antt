use Rattle.std.proofs.Common.{rules, ℕ, subst}
use Rattle.std.specs.List.{All}
use Rattle.lw_words.specs.Word.{IsWord}
use Rattle.lw_cache.proofs.SettlingLemmas.{leaves_nothing, leaves_own}
use Rattle.lw_draw.proofs.WalkLemmas.{walks_are_words}
use Rattle.lw_rounds.proofs.hypothesis.settle_walks.Goals as goal

pub returns-in_default-clause-leaves : goal.returns-in_default-clause-leaves
returns-in_default-clause-leaves g c = leaves_nothing (g.O.Oracle.state c.args.oracle.now) c.requires.keeps c.requires.may

pub returns-in_err-walks-clause-leaves : goal.returns-in_err-walks-clause-leaves
returns-in_err-walks-clause-leaves g c =
    let o = g.O.Oracle.state c.args.oracle.now in
    leaves_own o o c.from_residual.result (leaves_nothing o c.requires.keeps c.requires.may) (search rules)

pub settle_suite-requires-clause-letters : goal.settle_suite-requires-clause-letters
settle_suite-requires-clause-letters g c =
    subst (λ (a : ℕ). All (IsWord a) c.in_ok-walks.walks) c.requires.same
    (walks_are_words c.args.model.now.inputs c.args.model.now.rows c.in-Some.drawn c.in_ok-walks.walks c.inputs.ensures.complete.inputs.0 c.in_ok-walks.ensures)
