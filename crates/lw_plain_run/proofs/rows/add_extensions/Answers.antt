use Rattle.std.proofs.Common.{ℕ, ◌∷◌, [], ◌++◌}
use Rattle.lw_plain_run.proofs.ListLemmas.{range_more}
use Rattle.lw_plain_run.proofs.rows.add_extensions.Goals as goal

pub loop-letter-preserved : goal.loop-letter-preserved
loop-letter-preserved c =
    let more = range_more (λ (x : ℕ). c.args.word.now ++ x ∷ []) c.loop-letter.letter c.args.words.now in
    cc (c.in_ok-push-2.ensures.ok, c.in_ok-push.ensures.ok, c.in_ok-longer.ensures, c.loop-letter.invariant)
