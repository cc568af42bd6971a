use Rattle.std.proofs.Common.{◌≡◌, ◌∙◌, inr, sym}
use Rattle.lw_report.specs.declared.outcome.Outcome.TheVariants.{NoMemory, Usage}
use Rattle.lw_top.proofs.top.refuse_call.Goals as goal

pub returns-in-NoMemory-clause-usage : goal.returns-in-NoMemory-clause-usage
returns-in-NoMemory-clause-usage g c usage = let wrong : NoMemory ≡ Usage = sym c.without_arguments.ensures.outcome ∙ usage in absurd (cc)

pub returns-in-NoMemory-clause-ended : goal.returns-in-NoMemory-clause-ended
returns-in-NoMemory-clause-ended g c = inr (record { outcome = c.without_arguments.ensures.outcome; tells = c.without_arguments.ensures.ended })
