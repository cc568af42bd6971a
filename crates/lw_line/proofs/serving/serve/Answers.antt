use Rattle.std.proofs.Common.{◌≡◌, ◌≢◌, ◌+◌, ℕ, Result, Ok, Err, refl, ap, sym, ◌∙◌, subst, arith, rules}
use Rattle.lw_outside.specs.Played.{greatest_lines}
use Rattle.std.specs.Result.{IsErrAnd}
use Rattle.lw_words.specs.Cause.{CountedFault}
use Rattle.lw_line.specs.Serving.{Plays}
use Rattle.lw_line.specs.declared.serving.Served.{Served}
use Rattle.lw_line.specs.declared.serving.ServedCause.TheVariants.{Limit}
use Rattle.lw_line.specs.declared.serving.ServeFault.{ServeFault}
use Rattle.lw_line.specs.declared.serving.ServeFault.TheVariants.{BadLine, SourceFault}
use Rattle.lw_line.specs.declared.serving.Turn.{Turn}
use Rattle.lw_line.specs.declared.serving.Turn.TheVariants.{Answered, Quit, Ended}
use Rattle.lw_line.specs.bodies.Playing.{Serves, Turns}
use Rattle.lw_line.proofs.Playing.{serves_first, serves_on, plays_quit, plays_ended, plays_limit, plays_fault, source_goes_on}
use Rattle.lw_line.proofs.serving.serve.Goals as goal

handed_on : (r : Result Served ServeFault) (fault : ServeFault) → IsErrAnd r (λ e. e ≡ fault) → r ≡ Err fault
handed_on (Ok served) fault h = absurd h
handed_on (Err e) fault h = ap (λ (e : ServeFault). Err e) h

pub loop-lines-init : goal.loop-lines-init
loop-lines-init g c =
    let I = g.I.Source in
    let O = g.O.Sink in
    let m = c.args.m.now in
    let first : Serves m (I.state c.args.source.now).left (I.state c.args.source.now).left c.new-inbox.result 0 0 (O.state c.args.sink.now).taken (O.state c.args.sink.now).taken =
    serves_first m (I.state c.args.source.now).left (I.state c.args.source.now).left c.new-inbox.result (O.state c.args.sink.now).taken refl c.new-inbox.ensures in
    record {
      serves = subst (λ (q : ℕ). Serves m (I.state c.args.source.now).left (I.state c.args.source.now).left c.new-inbox.result q 0 (O.state c.args.sink.now).taken (O.state c.args.sink.now).taken) (sym c.new-child.ensures) first;
      state = search rules;
      source_quiet = refl;
      sink_quiet = refl;
      ends = omega arith;
    }

pub loop-lines-preserved : goal.loop-lines-preserved
loop-lines-preserved g c =
    let I = g.I.Source in
    let O = g.O.Sink in
    let m = c.args.m.now in
    let was = c.loop-lines in
    let after = c.serve_line.new in
    let n : ℕ = was.lines in
    let below : n ≢ greatest_lines = λ is. absurd (omega arith) in
    let turns : Turns m (n + 1) was.child was.inbox after.child after.inbox (I.state was.source).left (I.state after.source).left (O.state was.sink).taken (O.state after.sink).taken (Ok Answered) =
    subst (λ (t : Turn). Turns m (n + 1) was.child was.inbox after.child after.inbox (I.state was.source).left (I.state after.source).left (O.state was.sink).taken (O.state after.sink).taken (Ok t)) c.in-Answered.is c.in_ok-serve_line.ensures.turns in
    record {
      serves = serves_on m (I.state c.args.source.now).left (I.state was.source).left was.inbox was.child n (O.state c.args.sink.now).taken (O.state was.sink).taken after.inbox after.child (n + 1) (I.state after.source).left (O.state after.sink).taken was.invariant.serves below turns;
      state = c.serve_line.ensures.state;
      source_quiet = c.in_ok-serve_line.ensures.quiet.0 ∙ was.invariant.source_quiet;
      sink_quiet = c.in_ok-serve_line.ensures.quiet.1 ∙ was.invariant.sink_quiet;
      ends = omega arith;
    }

pub returns-in-Quit-clause-plays : goal.returns-in-Quit-clause-plays
returns-in-Quit-clause-plays g c =
    let I = g.I.Source in
    let O = g.O.Sink in
    let m = c.args.m.now in
    let was = c.loop-lines in
    let after = c.serve_line.new in
    let n : ℕ = was.lines in
    let below : n ≢ greatest_lines = λ is. absurd (omega arith) in
    let turns : Turns m (n + 1) was.child was.inbox after.child after.inbox (I.state was.source).left (I.state after.source).left (O.state was.sink).taken (O.state after.sink).taken (Ok Quit) =
    subst (λ (t : Turn). Turns m (n + 1) was.child was.inbox after.child after.inbox (I.state was.source).left (I.state after.source).left (O.state was.sink).taken (O.state after.sink).taken (Ok t)) c.in-Quit.is c.in_ok-serve_line.ensures.turns in
    plays_quit m (I.state c.args.source.now).left (I.state was.source).left was.inbox was.child n (O.state c.args.sink.now).taken (O.state was.sink).taken after.inbox after.child (n + 1) (I.state after.source).left (O.state after.sink).taken was.invariant.serves below turns

pub returns-in-Ended-clause-plays : goal.returns-in-Ended-clause-plays
returns-in-Ended-clause-plays g c =
    let I = g.I.Source in
    let O = g.O.Sink in
    let m = c.args.m.now in
    let was = c.loop-lines in
    let after = c.serve_line.new in
    let n : ℕ = was.lines in
    let below : n ≢ greatest_lines = λ is. absurd (omega arith) in
    let turns : Turns m (n + 1) was.child was.inbox after.child after.inbox (I.state was.source).left (I.state after.source).left (O.state was.sink).taken (O.state after.sink).taken (Ok Ended) =
    subst (λ (t : Turn). Turns m (n + 1) was.child was.inbox after.child after.inbox (I.state was.source).left (I.state after.source).left (O.state was.sink).taken (O.state after.sink).taken (Ok t)) c.in-Ended.is c.in_ok-serve_line.ensures.turns in
    plays_ended m (I.state c.args.source.now).left (I.state was.source).left was.inbox was.child n (O.state c.args.sink.now).taken (O.state was.sink).taken after.inbox after.child (n + 1) (I.state after.source).left (O.state after.sink).taken was.invariant.serves below turns

pub returns-in_err-serve_line-clause-plays : goal.returns-in_err-serve_line-clause-plays
returns-in_err-serve_line-clause-plays g c =
    let I = g.I.Source in
    let O = g.O.Sink in
    let m = c.args.m.now in
    let was = c.loop-lines in
    let after = c.serve_line.new in
    let n : ℕ = was.lines in
    let below : n ≢ greatest_lines = λ is. absurd (omega arith) in
    let fault : ServeFault = c.in_err-serve_line.field-0.0 in
    let is : c.from_residual.result ≡ Err fault = handed_on c.from_residual.result fault c.from_residual.ensures.1 in
    subst (λ (r : Result Served ServeFault). Plays m (I.state c.args.source.now).left r (O.state c.args.sink.now).taken (O.state after.sink).taken) (sym is)
    (plays_fault m (I.state c.args.source.now).left (I.state was.source).left was.inbox was.child n (O.state c.args.sink.now).taken (O.state was.sink).taken after.inbox after.child (n + 1) (I.state after.source).left (O.state after.sink).taken fault was.invariant.serves below refl c.len.ensures.names.each c.in_err-serve_line.ensures.turns)

pub returns-in_err-serve_line-clause-source : goal.returns-in_err-serve_line-clause-source
returns-in_err-serve_line-clause-source g c =
    let I = g.I.Source in
    let O = g.O.Sink in
    let m = c.args.m.now in
    let was = c.loop-lines in
    let after = c.serve_line.new in
    let n : ℕ = was.lines in
    let below : n ≢ greatest_lines = λ is. absurd (omega arith) in
    let fault : ServeFault = c.in_err-serve_line.field-0.0 in
    let is : c.from_residual.result ≡ Err fault = handed_on c.from_residual.result fault c.from_residual.ensures.1 in
    λ same.
    let at : fault ≡ SourceFault = cc in (
      subst (λ (k : ℕ). CountedFault k (I.state after.source).faults) was.invariant.source_quiet (c.in_err-serve_line.ensures.source (ap (λ (e : ServeFault). Err e) at)),
      source_goes_on m (I.state c.args.source.now).left (I.state was.source).left was.inbox was.child n (O.state c.args.sink.now).taken (O.state was.sink).taken after.inbox after.child (n + 1) (I.state after.source).left (O.state after.sink).taken fault was.invariant.serves below c.in_err-serve_line.ensures.turns at,
    )

pub returns-in_err-serve_line-clause-bad : goal.returns-in_err-serve_line-clause-bad
returns-in_err-serve_line-clause-bad g c line same =
    let was = c.loop-lines in
    let fault : ServeFault = c.in_err-serve_line.field-0.0 in
    let is : c.from_residual.result ≡ Err fault = handed_on c.from_residual.result fault c.from_residual.ensures.1 in
    let at : fault ≡ BadLine line = cc in
    let quiet = c.in_err-serve_line.ensures.bad line (ap (λ (e : ServeFault). Err e) at) in
    (quiet.0 ∙ was.invariant.source_quiet, quiet.1 ∙ was.invariant.sink_quiet)

pub returns-clause-plays : goal.returns-clause-plays
returns-clause-plays g c =
    let I = g.I.Source in
    let O = g.O.Sink in
    let was = c.loop-lines in
    let m = c.args.m.now in
    let full : was.lines ≡ greatest_lines = omega arith in
    subst (λ (k : ℕ). Plays m (I.state c.args.source.now).left (Ok (record { lines = k; cause = Limit })) (O.state c.args.sink.now).taken (O.state was.sink).taken) full
    (plays_limit m (I.state c.args.source.now).left (I.state was.source).left was.inbox was.child was.lines (O.state c.args.sink.now).taken (O.state was.sink).taken was.invariant.serves full)
