use Rattle.std.proofs.Common.{Bool, if◌then◌else◌, ap, sym, ◌∙◌}
use Rattle.lw_outside.specs.Files.{longest_of}
use Rattle.lw_outside.proofs.files.longest_of.Goals as goal

pub returns-then-is_journal : goal.returns-then-is_journal
unfolding longest_of
returns-then-is_journal c = ap (λ (b : Bool). if b then 4294967296 else 16777216) (sym c.if-is_journal.true ∙ c.is_journal.ensures)

pub returns-else-is_journal : goal.returns-else-is_journal
unfolding longest_of
returns-else-is_journal c = ap (λ (b : Bool). if b then 4294967296 else 16777216) (sym c.if-is_journal.false ∙ c.is_journal.ensures)
