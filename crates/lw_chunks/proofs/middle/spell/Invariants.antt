use Rattle.std.proofs.Common.{◌-◌, ◌++◌, [], slice_index_or}
use Rattle.lw_chunks.specs.Middle.{words_up_to}
use Rattle.lw_chunks.proofs.MiddleLemmas.{Spelled}
use Rattle.lw_chunks.proofs.middle.spell.Given as goal

abbrev pub invariant-loop : goal.invariant-loop
invariant-loop l = Spelled l.inputs (l.end - l.counter) l.word l.number l.count (l.fn.word ++ slice_index_or (words_up_to l.inputs l.longest) l.fn.number [])
