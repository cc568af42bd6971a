use Rattle.std.proofs.Common.{◌≡◌, sym, arith}
use Rattle.lw_words.specs.Word.{IsWhole, IsWord}
use Rattle.lw_mealy.specs.Machine.{answer}
use Rattle.lw_certify.proofs.CertifyLemmas.{at_number, number_more, differs_at}
use Rattle.lw_certify.proofs.certificate.first_difference.Goals as goal

pub agrees-requires-clause-lengths : goal.agrees-requires-clause-lengths
agrees-requires-clause-lengths c = sym (at_number IsWhole c.args.kept.now.answers c.loop-number.number c.get-answer.result.now (omega arith) c.get-answer.ensures c.requires.whole)

pub agrees-requires-clause-letters : goal.agrees-requires-clause-letters
agrees-requires-clause-letters c = at_number (λ k. IsWord c.args.h.now.inputs k.word) c.args.kept.now.answers c.loop-number.number c.get-answer.result.now (omega arith) c.get-answer.ensures c.requires.letters

pub returns-in-Some-clause-some : goal.returns-in-Some-clause-some
returns-in-Some-clause-some c = differs_at c.args.h.now.rows c.args.kept.now.answers c.loop-number.number c.in-Some.place c.get-answer.result.now (omega arith) c.get-answer.ensures c.loop-number.invariant c.in-Some.ensures.some

pub loop-number-preserved : goal.loop-number-preserved
loop-number-preserved c = number_more (λ k. answer c.args.h.now.rows k.word ≡ k.outs) c.args.kept.now.answers c.loop-number.number c.get-answer.result.now (omega arith) c.get-answer.ensures c.in_default.ensures.none c.loop-number.invariant
