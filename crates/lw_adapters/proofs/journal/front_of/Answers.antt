use Rattle.std.proofs.Common.{sym, ◌∙◌}
use Rattle.lw_adapters.proofs.journal.front_of.Goals as goal

pub returns-then-starts_with-clause-scrap : goal.returns-then-starts_with-clause-scrap
returns-then-starts_with-clause-scrap c = λ _. (sym c.is_journal.ensures ∙ c.if-is_journal.false, sym c.starts_with.ensures.value ∙ c.if-starts_with.true)

pub returns-clause-foreign : goal.returns-clause-foreign
returns-clause-foreign c = λ _. (sym c.is_journal.ensures ∙ c.if-is_journal.false, sym c.starts_with.ensures.value ∙ c.if-starts_with.false)
