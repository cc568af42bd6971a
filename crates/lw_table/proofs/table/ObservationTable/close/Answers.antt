use Rattle.std.proofs.Common.{rules, length, None, Err, ap, ◌∙◌, arith}
use Rattle.std.specs.Bool.{⊤}
use Rattle.lw_words.specs.Word.{answers_of}
use Rattle.lw_cache.specs.Settling.{grown_stop}
use Rattle.lw_cache.proofs.SettlingLemmas.{leaves_then}
use Rattle.lw_table.specs.Table.{TableState}
use Rattle.lw_table.proofs.AskLemmas.{asks_then}
use Rattle.lw_table.proofs.CloseLemmas.{states_then, states_more, rows_left, has_closed, stopped_closed, handed_closed, handed_leaves}
use Rattle.lw_table.proofs.GrownLemmas.{grown_then}
use Rattle.lw_table.proofs.PlainCloseLemmas.{closing_begins, closing_goes_on, closing_ends}
use Rattle.lw_table.proofs.table.ObservationTable.close.Goals as goal

pub returns-in_err-add_state-clause-closes : goal.returns-in_err-add_state-clause-closes
returns-in_err-add_state-clause-closes g c =
    let l = c.loop-row in
    let ks = answers_of (g.O.Oracle.state c.add_state.new.oracle).kept in
    let done = c.in_err-add_state.ensures in
    let grown = grown_then (answers_of (g.O.Oracle.state l.oracle).kept) ks c.args.self.now l.self c.add_state.new.self l.invariant.grown done.grown done.suffixes in
    handed_closed ks c.args.self.now c.add_state.new.self c.in_err-add_state.field-0.0 c.from_residual-in_err-add_state.result
    (stopped_closed ks c.args.self.now c.add_state.new.self c.in_err-add_state.field-0.0 grown (done.suffixes ∙ l.invariant.suffixes) (done.refinements ∙ l.invariant.refinements) done.crowd) (search rules)

pub returns-in_err-add_state-clause-leaves : goal.returns-in_err-add_state-clause-leaves
returns-in_err-add_state-clause-leaves g c =
    let l = c.loop-row in
    let o = g.O.Oracle.state c.args.oracle.now in
    let n = g.O.Oracle.state c.add_state.new.oracle in
    handed_leaves o n c.in_err-add_state.field-0.0 c.from_residual-in_err-add_state.result
    (leaves_then o (g.O.Oracle.state l.oracle) n (grown_stop {X = ⊤} (Err c.in_err-add_state.field-0.0)) l.invariant.leaves c.in_err-add_state.ensures.leaves) (search rules)

pub returns-in_err-add_state-clause-asks : goal.returns-in_err-add_state-clause-asks
returns-in_err-add_state-clause-asks g c =
    let l = c.loop-row in
    let done = c.in_err-add_state.ensures in
    asks_then l.self c.add_state.new.self done.grown.more (g.O.Oracle.state c.args.oracle.now).kept (g.O.Oracle.state l.oracle).kept (g.O.Oracle.state c.add_state.new.oracle).kept done.grown.inputs done.grown.access done.suffixes l.invariant.asks done.asks

pub loop-row-init : goal.loop-row-init
loop-row-init g c =
    let t : TableState = c.args.self.now in
    let filled : TableState = c.fill_all.new.self in
    let o = g.O.Oracle.state c.args.oracle.now in
    let n = g.O.Oracle.state c.fill_all.new.oracle in
    let done = c.in_ok-fill_all.ensures in
    record {
      grown = done.grown;
      full = done.full;
      states = λ j some lt. absurd (omega arith);
      from = omega (arith, done.grown.table.rows);
      suffixes = ap (λ (u : TableState). u.suffixes) done.cells;
      refinements = ap (λ (u : TableState). u.refinements) done.cells;
      asks = done.asks;
      plainly = closing_begins t filled o n done.cells done.plainly;
      leaves = done.leaves;
      can = done.can;
    }

pub loop-row-preserved : goal.loop-row-preserved
loop-row-preserved g c =
    let l = c.loop-row in
    let ks = answers_of (g.O.Oracle.state c.add_state.new.oracle).kept in
    let done = c.in_ok-add_state.ensures in
    let inside = c.in-Some.ensures.some in
    let states = states_then 1 l.from c.in-Some.row l.self l.invariant.states inside.2 in
    record {
      grown = grown_then (answers_of (g.O.Oracle.state l.oracle).kept) ks c.args.self.now l.self c.add_state.new.self l.invariant.grown done.grown done.suffixes;
      full = done.full;
      states = states_more ks l.self c.add_state.new.self l.invariant.grown.table done.grown l.invariant.full done.full done.suffixes c.in-Some.row inside.1 states done.state;
      from = rows_left ks l.self c.add_state.new.self l.invariant.grown.table done.grown l.invariant.full done.full done.suffixes c.in-Some.row inside.1;
      suffixes = done.suffixes ∙ l.invariant.suffixes;
      refinements = done.refinements ∙ l.invariant.refinements;
      asks = asks_then l.self c.add_state.new.self done.grown.more (g.O.Oracle.state c.args.oracle.now).kept (g.O.Oracle.state l.oracle).kept (g.O.Oracle.state c.add_state.new.oracle).kept done.grown.inputs done.grown.access done.suffixes l.invariant.asks done.asks;
      plainly = closing_goes_on c.args.self.now l.self c.add_state.new.self (g.O.Oracle.state c.args.oracle.now) (g.O.Oracle.state l.oracle) (g.O.Oracle.state c.add_state.new.oracle) c.in-Some.row done.leaves.gained
          l.invariant.grown done.grown l.invariant.full inside.1 states c.in-Some.ensures.new done.plainly done.suffixes l.invariant.leaves.same.exact done.leaves.at_end l.invariant.plainly;
      leaves = leaves_then (g.O.Oracle.state c.args.oracle.now) (g.O.Oracle.state l.oracle) (g.O.Oracle.state c.add_state.new.oracle) None l.invariant.leaves done.leaves;
      can = c.add_state.ensures.can;
    }

pub returns-clause-closes : goal.returns-clause-closes
returns-clause-closes g c =
    let l = c.loop-row in
    let ks = answers_of (g.O.Oracle.state l.oracle).kept in
    has_closed ks c.args.self.now l.self l.invariant.grown l.invariant.full (states_then 1 l.from (length l.self.cells) l.self l.invariant.states c.in_default.ensures.none) l.invariant.suffixes l.invariant.refinements

pub returns-clause-plainly : goal.returns-clause-plainly
returns-clause-plainly g c =
    let l = c.loop-row in
    closing_ends c.args.self.now l.self (g.O.Oracle.state c.args.oracle.now) (g.O.Oracle.state l.oracle) l.invariant.grown l.invariant.full (states_then 1 l.from (length l.self.cells) l.self l.invariant.states c.in_default.ensures.none) l.invariant.plainly
