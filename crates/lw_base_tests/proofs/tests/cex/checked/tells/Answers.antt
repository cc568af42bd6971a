use Rattle.std.proofs.Common.{sym}
use Rattle.std.proofs.lemmas.List.Elements.{All-map}
use Rattle.lw_words.specs.Word.{answer_of, answers_of, IsAnswer, AreAnswers}
use Rattle.lw_cache.specs.Known.{Reads}
use Rattle.lw_cache.proofs.ReadLemmas.{read_length}
use Rattle.lw_base_tests.proofs.tests.cex.checked.tells.Goals as goal

pub agrees-requires-clause-lengths : goal.agrees-requires-clause-lengths
agrees-requires-clause-lengths g c =
    let kept = answers_of c.args.cache.now.kept in
    let are : AreAnswers c.args.model.now.inputs kept = All-map (IsAnswer c.args.model.now.inputs) answer_of c.args.cache.now.kept c.requires.answers in
    let reads : Reads kept c.args.word.now c.expect-outs.result = rw c.expect-outs.ensures at (rw c.expect-found.ensures at c.read.ensures) in
    sym (read_length c.args.model.now.inputs kept c.args.word.now c.expect-outs.result are reads)
