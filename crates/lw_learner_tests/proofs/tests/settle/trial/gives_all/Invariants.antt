use Rattle.std.proofs.Common.{◌≡◌}
use Rattle.std.specs.List.{AllWithin}
use Rattle.lw_mealy.specs.Machine.{answer}
use Rattle.lw_learner_tests.proofs.tests.settle.trial.gives_all.Given as goal

abbrev pub invariant-loop-number : goal.invariant-loop-number
invariant-loop-number l = AllWithin (λ k. answer l.model.rows k.word ≡ k.outs) l.kept.answers 0 l.number
