use Rattle.std.proofs.Common.{◌≡◌, length, arith}
use Rattle.std.proofs.lemmas.Grind.{common_steps}
use Rattle.lw_words.proofs.Lists.{within-map_more}
use Rattle.lw_accept.proofs.reader.first_ragged.Goals as goal

pub loop-state-preserved : goal.loop-state-preserved
loop-state-preserved c =
    let here : length c.index-rows-state.result.items ≡ c.args.inputs = grind (arith, common_steps) in
    within-map_more (λ r. r.items) (λ r. length r ≡ c.args.inputs) c.args.rows.now c.loop-state.state c.index-rows-state.result c.loop-state-test.true c.index-rows-state.is here c.loop-state.invariant
