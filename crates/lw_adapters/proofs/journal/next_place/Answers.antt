use Rattle.std.proofs.Common.{rules}
use Rattle.lw_adapters.specs.Journal.{next_place}
use Rattle.lw_adapters.proofs.journal.next_place.Goals as goal

pub returns-then-byte-eq34 : goal.returns-then-byte-eq34
unfolding next_place
returns-then-byte-eq34 c = search rules

pub returns-then-place-ne1 : goal.returns-then-place-ne1
unfolding next_place
returns-then-place-ne1 c = search rules

pub returns-then-byte-eq93 : goal.returns-then-byte-eq93
unfolding next_place
returns-then-byte-eq93 c = search rules

pub returns-else-byte-eq93 : goal.returns-else-byte-eq93
unfolding next_place
returns-else-byte-eq93 c = search rules
