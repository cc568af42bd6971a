use Rattle.std.specs.List.{AllWithin}
use Rattle.lw_plain.specs.Rounds.{AgreesOn}
use Rattle.lw_plain_run.proofs.difference.first_difference.Given as goal

abbrev pub invariant-loop-word : goal.invariant-loop-word
invariant-loop-word l = AllWithin (AgreesOn l.m.rows l.h.rows) l.words 0 l.word-index
