use Rattle.std.proofs.Common.{sym, subst}
use Rattle.lw_words.specs.Word.{answers_of}
use Rattle.lw_table.specs.Table.{TableState, CellsAreRead}
use Rattle.lw_table.proofs.NewLemmas.{new_is_read}
use Rattle.lw_learner_tests.proofs.tests.table.closing.closed_over.Goals as goal

pub close-requires-clause-read : goal.close-requires-clause-read
close-requires-clause-read g c =
    let ks = answers_of c.new-oracle.result.kept in
    subst (λ (t : TableState). CellsAreRead ks t) (sym c.in-Ok.ensures.value) (new_is_read ks c.inputs-inputs.result c.outputs-outputs.result c.args.most)
