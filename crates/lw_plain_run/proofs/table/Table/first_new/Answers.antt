use Rattle.std.proofs.Common.{subst, sym, List, ℕ}
use Rattle.std.specs.List.{All}
use Rattle.lw_words.specs.Word.{IsWord}
use Rattle.lw_plain.proofs.OverLemmas.{rows_are_words}
use Rattle.lw_plain_run.proofs.table.Table.first_new.Goals as goal

pub is_new-requires-clause-letters : goal.is_new-requires-clause-letters
is_new-requires-clause-letters c =
    let all = subst (λ (ws : List (List ℕ)). All (IsWord c.args.m.now.inputs) ws) (sym c.loop-word.invariant.words) (rows_are_words c.args.m.now.inputs c.args.self.now.access c.requires.over.words) in
    subst (IsWord c.args.m.now.inputs) (sym c.word-item.is) (all c.loop-word.word-index c.word-item.result c.loop-word-test.true)
