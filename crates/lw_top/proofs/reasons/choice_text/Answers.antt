use Rattle.std.proofs.Common.{codes, map}
use Rattle.lw_top.specs.HelpTexts.{listed}
use Rattle.lw_top.proofs.PageLemmas.{third}
use Rattle.lw_top.proofs.reasons.choice_text.Goals as goal

pub returns : goal.returns
returns c = third (codes "--") c.args.name.now (codes " is none of ") (listed (map (λ n. n.now) c.args.choices.now)) c.in_ok-text.ensures c.in_ok-push_listed.ensures
