use Rattle.std.proofs.Common.{◌≡◌}
use Rattle.std.specs.List.{AllWithin}
use Rattle.lw_words.specs.Word.{answers_of}
use Rattle.lw_mealy.specs.Machine.{answer}
use Rattle.lw_certify.proofs.certificate.first_difference.Given as goal

abbrev pub invariant-loop-number : goal.invariant-loop-number
invariant-loop-number l = AllWithin (λ k. answer l.h.rows k.word ≡ k.outs) (answers_of l.kept.answers) 0 l.number
