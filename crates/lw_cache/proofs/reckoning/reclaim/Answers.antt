use Rattle.std.proofs.Common.{rules, ◌≡◌, List, length, set, subst, sym, ap, ◌∙◌, arith}
use Rattle.std.proofs.lemmas.List.{get_or_default}
use Rattle.lw_cache.specs.bodies.Trie.{no_node, node_at, IsTrie, IsLeast}
use Rattle.lw_cache.specs.bodies.Filling.{with_ends}
use Rattle.lw_cache.specs.declared.node.Node.{Node}
use Rattle.lw_cache.proofs.ReclaimLemmas.{ended_trie, ended_least}
use Rattle.lw_cache.proofs.reckoning.reclaim.Goals as goal

pub reckon-requires-clause-trie : goal.reckon-requires-clause-trie
reckon-requires-clause-trie c =
    let first : c.as_mut_slice.result.now ≡ set c.args.nodes.now.items c.args.end (with_ends c.index-here.result.now c.args.ends) = search rules in
    let here : c.index-here.result.now ≡ node_at c.args.nodes.now.items c.args.end = c.index-here.ensures ∙ get_or_default c.args.nodes.now.items c.args.end c.index-here.result.now no_node c.requires.end in
    let is : c.as_mut_slice.result.now ≡ set c.args.nodes.now.items c.args.end (with_ends (node_at c.args.nodes.now.items c.args.end) c.args.ends) = first ∙ ap (λ (b : Node). set c.args.nodes.now.items c.args.end (with_ends b c.args.ends)) here in
    subst (λ (l : List Node). IsTrie (node_at l) (length l)) (sym is) (ended_trie c.args.nodes.now.items c.args.end c.args.ends c.requires.trie c.requires.end)

pub reckon-requires-clause-others : goal.reckon-requires-clause-others
reckon-requires-clause-others c =
    let first : c.as_mut_slice.result.now ≡ set c.args.nodes.now.items c.args.end (with_ends c.index-here.result.now c.args.ends) = search rules in
    let here : c.index-here.result.now ≡ node_at c.args.nodes.now.items c.args.end = c.index-here.ensures ∙ get_or_default c.args.nodes.now.items c.args.end c.index-here.result.now no_node c.requires.end in
    let is : c.as_mut_slice.result.now ≡ set c.args.nodes.now.items c.args.end (with_ends (node_at c.args.nodes.now.items c.args.end) c.args.ends) = first ∙ ap (λ (b : Node). set c.args.nodes.now.items c.args.end (with_ends b c.args.ends)) here in
    λ i pos lt other.
    subst (λ (l : List Node). IsLeast (node_at l) (length l) i (node_at l i).claim) (sym is) (ended_least c.args.nodes.now.items c.args.end c.args.ends c.requires.trie c.requires.end c.requires.least i pos (omega (arith, lt, ap (λ (l : List Node). length l) is)) other)
