use Rattle.std.proofs.Common.{◌≡◌, ℕ, ◌+◌, ◌<◌, ◌≤◌, length, get_or, ap, ◌∙◌, arith}
use Rattle.std.proofs.lemmas.List.{get_or_default}
use Rattle.lw_cache.specs.bodies.Trie.{node_at, no_answer}
use Rattle.lw_cache.proofs.OrderLemmas.{word_short, lengths_more}
use Rattle.lw_cache.proofs.upward.put_length.Goals as goal

pub overflow_add-length : goal.overflow_add-length
overflow_add-length c =
    let up : (node_at c.args.nodes.now c.len.result).parent < c.len.result = c.requires.trie.up c.len.result (omega (arith, c.len.ensures, c.requires.some)) (omega (arith, c.len.ensures, c.requires.next)) in
    let within : (node_at c.args.nodes.now c.len.result).parent < length c.args.lengths.now.items = omega (arith, up, c.len.ensures) in
    let is : c.index.result.now ≡ get_or c.args.lengths.now.items (node_at c.args.nodes.now c.len.result).parent 0 = c.index.ensures ∙ get_or_default c.args.lengths.now.items (node_at c.args.nodes.now c.len.result).parent c.index.result.now 0 within in
    let few : c.index.result.now + 1 ≤ no_answer = omega (arith, is, c.requires.lengths.each (node_at c.args.nodes.now c.len.result).parent within, word_short (node_at c.args.nodes.now) (node_at c.args.nodes.now c.len.result).parent, within, c.requires.next, c.requires.few) in
    omega (arith, few)

pub returns : goal.returns
returns c =
    let up : (node_at c.args.nodes.now c.len.result).parent < c.len.result = c.requires.trie.up c.len.result (omega (arith, c.len.ensures, c.requires.some)) (omega (arith, c.len.ensures, c.requires.next)) in
    let within : (node_at c.args.nodes.now c.len.result).parent < length c.args.lengths.now.items = omega (arith, up, c.len.ensures) in
    let is : c.index.result.now ≡ get_or c.args.lengths.now.items (node_at c.args.nodes.now c.len.result).parent 0 = c.index.ensures ∙ get_or_default c.args.lengths.now.items (node_at c.args.nodes.now c.len.result).parent c.index.result.now 0 within in
    let last : c.len.result ≡ length c.args.lengths.now.items = omega (arith, c.len.ensures) in
    lengths_more (node_at c.args.nodes.now) (length c.args.nodes.now) (length c.args.lengths.now.items) c.args.lengths.now.items c.push.new.self.items (c.index.result.now + 1) c.requires.trie c.requires.some c.requires.next c.requires.lengths c.in_ok-push.ensures.items
    (ap (λ (k : ℕ). k + 1) (is ∙ ap (λ (k : ℕ). get_or c.args.lengths.now.items (node_at c.args.nodes.now k).parent 0) last))
