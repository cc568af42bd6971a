use Rattle.std.proofs.Common.{rules, ◌==◌, not}
use Rattle.std.proofs.lemmas.Fn.{filter_same}
use Rattle.lw_cache.specs.declared.node.Held.{Held}
use Rattle.lw_cache.proofs.reckoning.let_go.Goals as goal

pub returns-clause-held : goal.returns-clause-held
returns-clause-held c =
    filter_same _ (λ (h : Held). not (h.number == c.args.number)) _ (λ x b f' k. search rules) c.args.held.now.items c.retain.new.self.items c.retain.ensures.filtered
