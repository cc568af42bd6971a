use Rattle.std.proofs.Common.{ℕ, ◌+◌, ◌++◌, drop, ap, sym, ◌∙◌}
use Rattle.lw_adapters.specs.Journal.{has_run}
use Rattle.lw_adapters.proofs.JournalLemmas.{run_found, run_later}
use Rattle.lw_adapters.proofs.journal.has_run.Goals as goal

pub returns-then-ends_run-clause-found : goal.returns-then-ends_run-clause-found
returns-then-ends_run-clause-found c = λ _ rest. run_found c.args.place.now c.loop-byte.place c.args.piece.now rest c.loop-byte.byte-index 0 c.loop-byte-test.true (c.loop-byte.invariant rest) (sym c.ends_run.ensures ∙ c.if-ends_run.true)

pub loop-byte-preserved : goal.loop-byte-preserved
loop-byte-preserved c = λ rest. run_later c.args.place.now c.loop-byte.place c.args.piece.now rest c.loop-byte.byte-index 0 c.loop-byte-test.true (c.loop-byte.invariant rest) (sym c.ends_run.ensures ∙ c.if-ends_run.false)
    ∙ ap (λ (p : ℕ). has_run p (drop (c.loop-byte.byte-index + 1) c.args.piece.now ++ rest)) (sym c.next_place.ensures)
