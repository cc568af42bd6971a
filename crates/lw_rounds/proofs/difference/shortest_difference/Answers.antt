use Rattle.std.proofs.Common.{sym, arith}
use Rattle.std.proofs.lemmas.List.Elements.{All-map}
use Rattle.lw_words.specs.Word.{answer_of, answers_of, IsAnswer, AreAnswers}
use Rattle.lw_mealy.proofs.WordLemmas.{length-out}
use Rattle.lw_cache.proofs.ReadLemmas.{read_length}
use Rattle.lw_rounds.proofs.DifferenceLemmas.{is_shortest}
use Rattle.lw_rounds.proofs.difference.shortest_difference.Goals as goal

pub agrees-requires-clause-lengths : goal.agrees-requires-clause-lengths
agrees-requires-clause-lengths c =
    let are : AreAnswers c.args.model.now.inputs (answers_of c.args.cache.now.kept) = All-map (IsAnswer c.args.model.now.inputs) answer_of c.args.cache.now.kept c.requires.answers in
    sym (read_length c.args.model.now.inputs (answers_of c.args.cache.now.kept) c.args.word.now c.in-Some.outs are (rw c.in-Some.is at c.in_ok-found.ensures))

pub prefix-requires : goal.prefix-requires
prefix-requires c =
    let lt = c.in-Some-agrees.ensures.some.within in
    omega (arith, lt, length-out c.args.model.now.rows 0 c.args.word.now)

pub returns-in-Some-agrees : goal.returns-in-Some-agrees
returns-in-Some-agrees c =
    is_shortest c.args.model.now.rows (answers_of c.args.cache.now.kept) c.args.word.now c.in-Some.outs (rw c.in-Some.is at c.in_ok-found.ensures)
    c.in-Some-agrees.place c.in-Some-agrees.ensures.some c.in_ok-prefix-in-Some-agrees.field-0 c.in_ok-prefix-in-Some-agrees.ensures
