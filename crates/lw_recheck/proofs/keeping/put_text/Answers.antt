use Rattle.std.proofs.Common.{map, string_bytes}
use Rattle.lw_recheck.proofs.NameLemmas.{grown_none, one_more}
use Rattle.lw_recheck.proofs.keeping.put_text.Goals as goal

pub returns-then-any : goal.returns-then-any
returns-then-any c = grown_none (map (λ s. string_bytes s) c.args.texts.now.items)

pub returns : goal.returns
returns c = one_more c.args.texts.now.items c.push.new.self.items c.args.text c.in_ok-push.ensures.items
