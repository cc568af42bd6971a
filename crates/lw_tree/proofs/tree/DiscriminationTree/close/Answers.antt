use Rattle.std.proofs.Common.{rules, ◌^◌, Bool, true≢false, Err, None, refl, sym, ◌∙◌, subst}
use Rattle.lw_words.specs.Word.{answers_of}
use Rattle.lw_cache.specs.Settling.{grown_stop}
use Rattle.lw_cache.proofs.SettlingLemmas.{leaves_nothing, leaves_then, gains_none}
use Rattle.lw_tree.specs.Grown.{IsSifted}
use Rattle.lw_tree.specs.Tree.{TreeState, IsTree}
use Rattle.lw_tree.proofs.AskedLemmas.{level_then}
use Rattle.lw_tree.proofs.CloseLemmas.{has_closed, not_closed, crowd_too, handed_leaves}
use Rattle.lw_tree.proofs.GrownLemmas.{keeps_same, keeps_and_keeps, not_grown, grown_then}
use Rattle.lw_tree.proofs.MeasureLemmas.{closer}
use Rattle.lw_tree.proofs.tree.DiscriminationTree.close.Goals as goal

pub loop-init : goal.loop-init
loop-init g c =
    let o = g.O.Oracle.state c.args.oracle.now in
    let u : TreeState = c.args.self.now in
    record {
      grown = not_grown (answers_of o.kept) u (subst (λ (v : TreeState). IsTree v) c.self.view_is c.self.invariant.tree) c.requires.read;
      keeps = keeps_same u;
      asks = gains_none (IsSifted u) o.kept;
      leaves = leaves_nothing o c.cache.ensures.keeps c.requires.may;
      can = c.requires.can;
    }

pub returns-in_err-sift-clause-closes : goal.returns-in_err-sift-clause-closes
returns-in_err-sift-clause-closes g c =
    let l = c.loop in
    let tree = subst (λ (v : TreeState). IsTree v) c.self.view_is c.self.invariant.tree in
    let ks = answers_of (g.O.Oracle.state c.sift.new.oracle).kept in
    let done = c.in_err-sift.ensures.levels in
    let stop = c.in_err-sift.field-0.0 in
    not_closed ks c.args.self.now c.sift.new.self stop c.from_residual.result
    (grown_then (answers_of (g.O.Oracle.state l.oracle).kept) ks c.args.self.now l.self c.sift.new.self l.invariant.grown done.grown) (keeps_and_keeps c.args.self.now l.self c.sift.new.self tree l.invariant.grown.tree done.grown.tree l.invariant.keeps done.keeps)
    (crowd_too ks c.sift.new.self stop done.crowd) (search rules)

pub returns-in_err-sift-clause-leaves : goal.returns-in_err-sift-clause-leaves
returns-in_err-sift-clause-leaves g c =
    let l = c.loop in
    let o = g.O.Oracle.state c.args.oracle.now in
    let n = g.O.Oracle.state c.sift.new.oracle in
    let stop = c.in_err-sift.field-0.0 in
    handed_leaves Bool o n stop c.from_residual.result (leaves_then o (g.O.Oracle.state l.oracle) n (grown_stop {X = Bool} (Err stop)) l.invariant.leaves c.in_err-sift.ensures.leaves) (search rules)

pub loop-smaller : goal.loop-smaller
loop-smaller g c =
    let l = c.loop in
    let ks = answers_of (g.O.Oracle.state c.sift.new.oracle).kept in
    let done = c.in_ok-sift.ensures.levels in
    closer (2 ^ 32) ks l.self c.sift.new.self done.grown done.grown.tree.few_nodes done.moved (done.left c.if-branch.true) l.invariant.grown.tree

pub loop-preserved : goal.loop-preserved
loop-preserved g c =
    let l = c.loop in
    let tree = subst (λ (v : TreeState). IsTree v) c.self.view_is c.self.invariant.tree in
    let o = g.O.Oracle.state c.args.oracle.now in
    let n = g.O.Oracle.state c.sift.new.oracle in
    let done = c.in_ok-sift.ensures.levels in
    record {
      grown = grown_then (answers_of (g.O.Oracle.state l.oracle).kept) (answers_of n.kept) c.args.self.now l.self c.sift.new.self l.invariant.grown done.grown;
      keeps = keeps_and_keeps c.args.self.now l.self c.sift.new.self tree l.invariant.grown.tree done.grown.tree l.invariant.keeps done.keeps;
      asks = level_then (answers_of n.kept) l.self c.sift.new.self (g.O.Oracle.state c.args.oracle.now).kept (g.O.Oracle.state l.oracle).kept (g.O.Oracle.state c.sift.new.oracle).kept done.grown done.keeps.discriminators_are l.invariant.asks c.in_ok-sift.ensures.asks;
      leaves = leaves_then o (g.O.Oracle.state l.oracle) n None l.invariant.leaves c.in_ok-sift.ensures.leaves;
      can = c.in_ok-sift.ensures.can;
    }

pub returns : goal.returns
returns g c =
    let l = c.loop in
    let tree = subst (λ (v : TreeState). IsTree v) c.self.view_is c.self.invariant.tree in
    let ks = answers_of (g.O.Oracle.state c.sift.new.oracle).kept in
    let done = c.in_ok-sift.ensures.levels in
    let grown = grown_then (answers_of (g.O.Oracle.state l.oracle).kept) ks c.args.self.now l.self c.sift.new.self l.invariant.grown done.grown in
    record {
      closes = has_closed ks c.args.self.now c.sift.new.self grown (keeps_and_keeps c.args.self.now l.self c.sift.new.self tree l.invariant.grown.tree done.grown.tree l.invariant.keeps done.keeps) (done.closed c.if-branch.false);
      asks = level_then ks l.self c.sift.new.self (g.O.Oracle.state c.args.oracle.now).kept (g.O.Oracle.state l.oracle).kept (g.O.Oracle.state c.sift.new.oracle).kept done.grown done.keeps.discriminators_are l.invariant.asks c.in_ok-sift.ensures.asks;
      unasked = λ is. let left = c.has_open.ensures.open (search rules) in absurd (true≢false (sym left.2 ∙ is left.0 left.1));
      leaves = leaves_then (g.O.Oracle.state c.args.oracle.now) (g.O.Oracle.state l.oracle) (g.O.Oracle.state c.sift.new.oracle) None l.invariant.leaves c.in_ok-sift.ensures.leaves;
      can = c.in_ok-sift.ensures.can;
    }

pub returns-in_err-sift-clause-asks : goal.returns-in_err-sift-clause-asks
returns-in_err-sift-clause-asks g c =
    let l = c.loop in
    let ks = answers_of (g.O.Oracle.state c.sift.new.oracle).kept in
    let done = c.in_err-sift.ensures.levels in
    level_then ks l.self c.sift.new.self (g.O.Oracle.state c.args.oracle.now).kept (g.O.Oracle.state l.oracle).kept (g.O.Oracle.state c.sift.new.oracle).kept done.grown done.keeps.discriminators_are l.invariant.asks c.in_err-sift.ensures.asks

pub returns-in_err-sift-clause-unasked : goal.returns-in_err-sift-clause-unasked
returns-in_err-sift-clause-unasked g c is = let left = c.has_open.ensures.open (search rules) in absurd (true≢false (sym left.2 ∙ is left.0 left.1))

pub returns-then-not-has_open : goal.returns-then-not-has_open
returns-then-not-has_open g c =
    let o = g.O.Oracle.state c.args.oracle.now in
    let u : TreeState = c.args.self.now in
    let ks = answers_of o.kept in
    record {
      closes = has_closed ks u u (not_grown ks u (subst (λ (v : TreeState). IsTree v) c.self.view_is c.self.invariant.tree) c.requires.read) (keeps_same u) (c.has_open.ensures.closed (search rules));
      asks = gains_none (IsSifted u) o.kept;
      unasked = λ is. refl;
      leaves = leaves_nothing o c.cache.ensures.keeps c.requires.may;
      can = c.requires.can;
    }

pub sift-requires : goal.sift-requires
sift-requires g c =
    let i = c.loop.invariant in
    record {
      can = i.can;
      may = i.leaves.told;
      keeps = i.leaves.keeps;
      inputs = i.grown.inputs ∙ (c.requires.inputs ∙ sym i.leaves.same.inputs);
      outputs = i.grown.outputs ∙ (c.requires.outputs ∙ sym i.leaves.same.outputs);
      read = i.grown.read;
    }
