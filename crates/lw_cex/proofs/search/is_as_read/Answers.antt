use Rattle.std.proofs.Common.{sym}
use Rattle.std.proofs.lemmas.List.Elements.{All-map}
use Rattle.lw_words.specs.Word.{answer_of, answers_of, IsAnswer, AreAnswers}
use Rattle.lw_cache.proofs.ReadLemmas.{read_length}
use Rattle.lw_cex.proofs.search.is_as_read.Goals as goal

pub agrees-requires-clause-lengths : goal.agrees-requires-clause-lengths
agrees-requires-clause-lengths c =
    let are : AreAnswers c.args.model.now.inputs (answers_of c.args.cache.now.kept) = All-map (IsAnswer c.args.model.now.inputs) answer_of c.args.cache.now.kept c.requires.answers in
    sym (read_length c.args.model.now.inputs (answers_of c.args.cache.now.kept) c.args.word.now c.in-Some.outs are (rw c.in-Some.is at c.in_ok-found.ensures))
