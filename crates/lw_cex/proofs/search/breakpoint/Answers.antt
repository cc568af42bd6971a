use Rattle.std.proofs.Common.{None, rules, Bool, cond, ◌+◌, ◌-◌, ◌/◌, subst}
use Rattle.lw_cex.specs.bodies.Search.{SearchesOn}
use Rattle.lw_cex.proofs.PlainLemmas.{search_begins, search_goes_on, search_ends}
use Rattle.lw_cex.proofs.SearchLemmas.{asks_then, lower_half, upper_half}
use Rattle.lw_cache.proofs.SettlingLemmas.{leaves_handed, leaves_nothing, leaves_then}
use Rattle.lw_cex.proofs.search.breakpoint.Goals as goal

pub loop-high-init : goal.loop-high-init
loop-high-init g c = record {
  between = search rules;
  asks = search rules;
  plainly = search_begins c.args.model.now.rows c.args.access.now c.args.word.now c.len-high.result (g.O.Oracle.state c.args.oracle.now) (search rules);
  leaves = leaves_nothing (g.O.Oracle.state c.args.oracle.now) c.requires.keeps c.requires.may;
  can = c.requires.can;
}

pub returns-in_err-agrees_at-clause-asks : goal.returns-in_err-agrees_at-clause-asks
returns-in_err-agrees_at-clause-asks g c =
    asks_then c.args.model.now.rows c.args.access.now c.args.word.now (g.O.Oracle.state c.args.oracle.now).kept (g.O.Oracle.state c.loop-high.oracle).kept (g.O.Oracle.state c.agrees_at.new.oracle).kept
    c.loop-high.invariant.asks c.agrees_at.ensures.asks

pub returns-in_err-agrees_at-clause-leaves : goal.returns-in_err-agrees_at-clause-leaves
returns-in_err-agrees_at-clause-leaves g c =
    leaves_handed (g.O.Oracle.state c.args.oracle.now) (g.O.Oracle.state c.agrees_at.new.oracle) c.in_err-agrees_at.field-0.0 c.from_residual.result
    (leaves_then (g.O.Oracle.state c.args.oracle.now) (g.O.Oracle.state c.loop-high.oracle) (g.O.Oracle.state c.agrees_at.new.oracle) _ c.loop-high.invariant.leaves c.in_err-agrees_at.ensures.leaves) (search rules)

pub loop-high-preserved-then-branch : goal.loop-high-preserved-then-branch
loop-high-preserved-then-branch g c =
    record {
      between = lower_half c.args.model.now.rows c.args.access.now c.args.word.now (g.O.Oracle.state c.loop-high.oracle).kept c.in_ok-agrees_at.ensures.leaves.gained (g.O.Oracle.state c.agrees_at.new.oracle).kept c.loop-high.low c.loop-high.high
          c.in_ok-agrees_at.ensures.leaves.at_end c.loop-high.invariant.between c.loop-high-test.true c.in_ok-agrees_at.field-0 c.if-branch.true c.in_ok-agrees_at.ensures.tells;
      asks = asks_then c.args.model.now.rows c.args.access.now c.args.word.now (g.O.Oracle.state c.args.oracle.now).kept (g.O.Oracle.state c.loop-high.oracle).kept (g.O.Oracle.state c.agrees_at.new.oracle).kept
          c.loop-high.invariant.asks c.agrees_at.ensures.asks;
      plainly = subst (λ (b : Bool). SearchesOn c.args.model.now.rows c.args.access.now c.args.word.now (cond b c.loop-high.low (c.loop-high.low + (c.loop-high.high - c.loop-high.low) / 2)) (cond b (c.loop-high.low + (c.loop-high.high - c.loop-high.low) / 2) c.loop-high.high) (g.O.Oracle.state c.args.oracle.now) (g.O.Oracle.state c.agrees_at.new.oracle)) c.if-branch.true
          (search_goes_on c.args.model.now.rows c.args.access.now c.args.word.now c.loop-high.low c.loop-high.high c.in_ok-agrees_at.field-0 (g.O.Oracle.state c.args.oracle.now) (g.O.Oracle.state c.loop-high.oracle) (g.O.Oracle.state c.agrees_at.new.oracle) c.in_ok-agrees_at.ensures.leaves.gained
          c.loop-high-test.true c.in_ok-agrees_at.ensures.tells c.in_ok-agrees_at.ensures.plainly c.loop-high.invariant.leaves.same.exact c.in_ok-agrees_at.ensures.leaves.at_end c.loop-high.invariant.plainly);
      leaves = leaves_then (g.O.Oracle.state c.args.oracle.now) (g.O.Oracle.state c.loop-high.oracle) (g.O.Oracle.state c.agrees_at.new.oracle) None c.loop-high.invariant.leaves c.in_ok-agrees_at.ensures.leaves;
      can = c.agrees_at.ensures.can;
    }

pub loop-high-preserved : goal.loop-high-preserved
loop-high-preserved g c =
    record {
      between = upper_half c.args.model.now.rows c.args.access.now c.args.word.now (g.O.Oracle.state c.loop-high.oracle).kept c.in_ok-agrees_at.ensures.leaves.gained (g.O.Oracle.state c.agrees_at.new.oracle).kept c.loop-high.low c.loop-high.high
          c.in_ok-agrees_at.ensures.leaves.at_end c.loop-high.invariant.between c.loop-high-test.true c.in_ok-agrees_at.field-0 c.if-branch.false c.in_ok-agrees_at.ensures.tells;
      asks = asks_then c.args.model.now.rows c.args.access.now c.args.word.now (g.O.Oracle.state c.args.oracle.now).kept (g.O.Oracle.state c.loop-high.oracle).kept (g.O.Oracle.state c.agrees_at.new.oracle).kept
          c.loop-high.invariant.asks c.agrees_at.ensures.asks;
      plainly = subst (λ (b : Bool). SearchesOn c.args.model.now.rows c.args.access.now c.args.word.now (cond b c.loop-high.low (c.loop-high.low + (c.loop-high.high - c.loop-high.low) / 2)) (cond b (c.loop-high.low + (c.loop-high.high - c.loop-high.low) / 2) c.loop-high.high) (g.O.Oracle.state c.args.oracle.now) (g.O.Oracle.state c.agrees_at.new.oracle)) c.if-branch.false
          (search_goes_on c.args.model.now.rows c.args.access.now c.args.word.now c.loop-high.low c.loop-high.high c.in_ok-agrees_at.field-0 (g.O.Oracle.state c.args.oracle.now) (g.O.Oracle.state c.loop-high.oracle) (g.O.Oracle.state c.agrees_at.new.oracle) c.in_ok-agrees_at.ensures.leaves.gained
          c.loop-high-test.true c.in_ok-agrees_at.ensures.tells c.in_ok-agrees_at.ensures.plainly c.loop-high.invariant.leaves.same.exact c.in_ok-agrees_at.ensures.leaves.at_end c.loop-high.invariant.plainly);
      leaves = leaves_then (g.O.Oracle.state c.args.oracle.now) (g.O.Oracle.state c.loop-high.oracle) (g.O.Oracle.state c.agrees_at.new.oracle) None c.loop-high.invariant.leaves c.in_ok-agrees_at.ensures.leaves;
      can = c.agrees_at.ensures.can;
    }

pub returns-clause-plainly : goal.returns-clause-plainly
returns-clause-plainly g c =
    search_ends c.args.model.now.rows c.args.access.now c.args.word.now c.loop-high.low c.loop-high.high (g.O.Oracle.state c.args.oracle.now) (g.O.Oracle.state c.loop-high.oracle) (search rules) c.loop-high.invariant.plainly
