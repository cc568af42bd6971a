use Rattle.std.proofs.Common.{length, sym, subst}
use Rattle.lw_plain.specs.Table.{Search, search_word}
use Rattle.lw_plain.specs.Over.{IsOver}
use Rattle.lw_plain.proofs.OverLemmas.{over_split}
use Rattle.lw_plain_run.proofs.rounds.refine.Goals as goal

pub close-requires-clause-over : goal.close-requires-clause-over
close-requires-clause-over c =
    let found : Search = search_word c.args.m.now.rows c.args.h.now.rows c.args.table.now.access (length c.args.word.now) c.args.word.now in
    subst (IsOver c.args.m.now.inputs) (sym c.in_ok-split.ensures)
    (over_split c.args.m.now.inputs c.args.h.now.rows c.args.table.now c.args.word.now found c.requires.over c.requires.letters)
