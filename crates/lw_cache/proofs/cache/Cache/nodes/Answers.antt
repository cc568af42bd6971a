use Rattle.std.proofs.Common.{List, length, subst, ap, arith}
use Rattle.lw_words.specs.Word.{answers_of}
use Rattle.lw_words.specs.declared.kept.KeptAnswer.{KeptAnswer}
use Rattle.lw_cache.specs.Caching.{Claim, Caching}
use Rattle.lw_cache.specs.Standing.{CountsNoted}
use Rattle.lw_cache.specs.bodies.Trie.{node_at}
use Rattle.lw_cache.specs.bodies.Scanning.{CountsLive}
use Rattle.lw_cache.specs.declared.node.Node.{Node}
use Rattle.lw_cache.proofs.SeenLemmas.{counted}
use Rattle.lw_cache.proofs.cache.Cache.nodes.Goals as goal

pub returns : goal.returns
returns c =
    let live : CountsLive (node_at c.self.inside.nodes.items) (length c.self.inside.nodes.items) c.count_live.result = subst (λ (l : List Node). CountsLive (node_at l) (length l) c.count_live.result) c.deref.ensures.value c.count_live.ensures in
    subst (λ (k : List KeptAnswer). CountsNoted (answers_of k) c.args.self.now.claims c.count_live.result) (ap (λ (v : Caching). v.kept) c.self.view_is)
    (subst (λ (l : List Claim). CountsNoted (answers_of c.self.inside.kept.answers) l c.count_live.result) (ap (λ (v : Caching). v.claims) c.self.view_is)
    (counted (node_at c.self.inside.nodes.items) (length c.self.inside.nodes.items) c.self.inside.held.items c.self.inside.kept.answers c.self.invariant.0 (omega arith) c.count_live.result live))
