use Rattle.std.proofs.Common.{◌≡◌, ◌≢◌, ℕ, length, sym, ◌∙◌, subst, arith}
use Rattle.std.proofs.lemmas.Bool.{false≢true, eqb-false}
use Rattle.lw_cache.specs.bodies.Trie.{node_at}
use Rattle.lw_cache.specs.bodies.Scanning.{CountsLive}
use Rattle.lw_cache.proofs.ScanLemmas.{count_more, count_skip}
use Rattle.lw_cache.proofs.scanning.count_live.Goals.{then-is_live, else-is_live}
use Rattle.lw_cache.proofs.scanning.count_live.Goals as goal

pub loop-i-preserved : goal.loop-i-preserved
loop-i-preserved c =
    elim c.if-is_live.branch [
      | then-is_live w ↦ record {
        counts = count_more (node_at c.args.nodes.now) (length c.args.nodes.now) c.loop-i.i c.loop-i.count c.if-is_live.count c.requires (omega arith) c.loop-i-test.true c.loop-i.invariant.counts (c.is_live.ensures.0 w.if-is_live.true) w.count-is;
        few = omega (arith, w.count-is);
      }
      | else-is_live w ↦ record {
        counts = count_skip (node_at c.args.nodes.now) c.loop-i.i c.loop-i.count c.if-is_live.count c.loop-i.invariant.counts (λ live. false≢true (sym w.if-is_live.false ∙ c.is_live.ensures.1 live)) w.count-is;
        few = omega (arith, w.count-is);
      }
    ]

pub returns : goal.returns
returns c =
    let some : length c.args.nodes.now ≢ 0 = eqb-false (length c.args.nodes.now) 0 (sym c.is_empty.ensures ∙ c.if-is_empty.false) in
    let end : c.loop-i.i ≡ length c.args.nodes.now = omega arith in
    subst (λ (n : ℕ). CountsLive (node_at c.args.nodes.now) n c.loop-i.count) end c.loop-i.invariant.counts
