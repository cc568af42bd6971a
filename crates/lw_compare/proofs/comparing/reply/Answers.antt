use Rattle.std.proofs.Common.{◌≡◌, ◌∙◌, ◌<◌, List, ℕ, get_or, sym, subst}
use Rattle.std.specs.List.{All}
use Rattle.lw_mealy.specs.Machine.{answer}
use Rattle.lw_compare.proofs.NameLemmas.{outs_below}
use Rattle.lw_compare.proofs.comparing.reply.Goals as goal

pub spell-requires : goal.spell-requires
spell-requires c =
    let is : c.as_slice.result.now ≡ answer c.args.model.now.mealy.rows c.args.word.now = c.as_slice.ensures ∙ c.in_ok-outs.ensures in
    let all : All (λ y. y < c.args.model.now.mealy.outputs) (answer c.args.model.now.mealy.rows c.args.word.now) = outs_below c.args.model.now.mealy c.args.word.now 0 c.states-states.ensures.complete c.states-states.ensures.complete.machine.some_state c.requires in
    let here : All (λ y. y < c.args.model.now.mealy.outputs) c.as_slice.result.now = subst (λ (l : List ℕ). All (λ y. y < c.args.model.now.mealy.outputs) l) (sym is) all in
    λ k d lt. subst (λ (b : ℕ). get_or c.as_slice.result.now k d < b) c.args.model.now.named.1 (here k d lt)
