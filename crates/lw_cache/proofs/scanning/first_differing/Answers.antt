use Rattle.std.proofs.Common.{◌≡◌, ◌≢◌, ◌↔◌, ℕ, ◌+◌, ◌<◌, List, true, IfSome, length, get_or, ap, ◌∙◌, subst, arith}
use Rattle.lw_mealy.specs.Machine.{next, output}
use Rattle.lw_cache.specs.bodies.Trie.{node_at, no_answer}
use Rattle.lw_cache.specs.bodies.Scanning.{IsFirstTo}
use Rattle.lw_cache.specs.bodies.Upward.{word_of_some, AreLengths}
use Rattle.lw_cache.proofs.ScanLemmas.{states_more, differs_here, first_step}
use Rattle.lw_cache.proofs.scanning.first_differing.Goals as goal

pub loop-i-preserved : goal.loop-i-preserved
loop-i-preserved c =
    let i : ℕ = c.loop-i.i in
    let pos : 0 < c.loop-i.i = omega arith in
    let lt : c.loop-i.i < length c.args.nodes.now = c.loop-i-test.true in
    let next_is : (node_at c.args.nodes.now c.loop-i.i).answer ≢ no_answer → c.step_to-state.result.0 ≡ next c.args.m.now.rows (get_or c.loop-i.states.items (node_at c.args.nodes.now c.loop-i.i).parent 0) (node_at c.args.nodes.now c.loop-i.i).letter =
    λ told. c.step_to-state.ensures.next told ∙ ap (λ (l : List ℕ). next c.args.m.now.rows (get_or l (node_at c.args.nodes.now c.loop-i.i).parent 0) (node_at c.args.nodes.now c.loop-i.i).letter) c.deref.ensures.value in
    let differs_is : (node_at c.args.nodes.now c.loop-i.i).answer ≢ no_answer → (c.step_to-state.result.1 ≡ true) ↔ ((node_at c.args.nodes.now c.loop-i.i).output ≢ output c.args.m.now.rows (get_or c.loop-i.states.items (node_at c.args.nodes.now c.loop-i.i).parent 0) (node_at c.args.nodes.now c.loop-i.i).letter) =
    λ told. subst (λ (l : List ℕ). (c.step_to-state.result.1 ≡ true) ↔ ((node_at c.args.nodes.now c.loop-i.i).output ≢ output c.args.m.now.rows (get_or l (node_at c.args.nodes.now c.loop-i.i).parent 0) (node_at c.args.nodes.now c.loop-i.i).letter)) c.deref.ensures.value (c.step_to-state.ensures.differs told) in
    let lengths : AreLengths (node_at c.args.nodes.now) (c.loop-i.i + 1) c.put_length.new.lengths.items = subst (λ (k : ℕ). AreLengths (node_at c.args.nodes.now) (k + 1) c.put_length.new.lengths.items) c.loop-i.invariant.lengths.long c.in_ok-put_length.ensures in
    let long : length c.deref-in-loop-i.result.now ≡ c.loop-i.i + 1 = ap (λ (l : List ℕ). length l) c.deref-in-loop-i.ensures.value ∙ lengths.long in
    record {
      states = states_more (node_at c.args.nodes.now) (length c.args.nodes.now) c.args.m.now.rows c.requires.trie c.args.m.now.inputs c.requires.letters c.loop-i.i pos lt c.loop-i.states.items c.loop-i.invariant.states
          c.step_to-state.result.0 c.push-in-loop-i.new.self.items c.in_ok-push-3.ensures.items c.step_to-state.ensures.state next_is;
      lengths = lengths;
      within = subst (λ (k : ℕ). IfSome c.better-best.result (λ b. b < k)) long c.better-best.ensures.within;
      best = first_step (node_at c.args.nodes.now) (length c.args.nodes.now) c.args.m.now.rows c.loop-i.i c.step_to-state.result.1 (word_of_some (node_at c.args.nodes.now) c.loop-i.best) (word_of_some (node_at c.args.nodes.now) c.better-best.result) c.loop-i.invariant.best
          (differs_here (node_at c.args.nodes.now) (length c.args.nodes.now) c.args.m.now.rows c.requires.trie c.args.m.now.inputs c.requires.letters c.loop-i.i pos lt c.loop-i.states.items c.loop-i.invariant.states c.step_to-state.result.1 c.step_to-state.ensures.none differs_is)
          (λ same. ap (word_of_some (node_at c.args.nodes.now)) (c.better-best.ensures.same same)) c.better-best.ensures.earlier;
    }

pub returns-clause-first : goal.returns-clause-first
returns-clause-first c =
    let end : c.loop-i.i ≡ length c.args.nodes.now = omega arith in
    subst (λ (k : ℕ). IsFirstTo (node_at c.args.nodes.now) (length c.args.nodes.now) c.args.m.now.rows k (word_of_some (node_at c.args.nodes.now) c.loop-i.best)) end c.loop-i.invariant.best
