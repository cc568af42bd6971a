use Rattle.std.proofs.Common.{◌≡◌, List, ℕ, Some, None, Err, length, ◌∙◌, ap, subst}
use Rattle.lw_separate.specs.Canonical.{IsCanonical}
use Rattle.lw_chunks.specs.Size.{suite_size}
use Rattle.lw_chunks.specs.declared.size.SuiteFault.{SuiteFault}
use Rattle.lw_plain.specs.Rounds.{asked_words}
use Rattle.lw_plain_run.specs.bodies.Differences.{IsLeast}
use Rattle.lw_plain_run.specs.Run.{task_of}
use Rattle.lw_plain_run.specs.bodies.Rounds.{IsRound}
use Rattle.lw_plain.proofs.RoundLemmas.{known_refines, gives_known}
use Rattle.lw_plain_run.proofs.RoundLemmas.{large_suite, by_fault}
use Rattle.lw_plain_run.proofs.rounds.round_with.Goals as goal

pub returns-in-Some-clause-round : goal.returns-in-Some-clause-round
returns-in-Some-clause-round c =
    let m = c.args.m.now.rows in
    let h = c.args.h.now.rows in
    let least : IsLeast m h (asked_words c.batches.result.now) (Some c.in-Some.word) = rw c.in-Some.is at c.in_ok-word.ensures in
    known_refines (task_of c.args.m.now c.args.extra c.args.most) h c.args.table.now c.requires.rows c.requires.closed c.in-Some.word
    (subst (λ (bs : List (List (List ℕ))). IsLeast m h (asked_words bs) (Some c.in-Some.word)) c.batches.ensures least) c.refine.new.table c.in_ok-refine.ensures.refined

pub test-requires-clause-ready : goal.test-requires-clause-ready
test-requires-clause-ready c =
    let m = c.args.m.now.rows in
    let h = c.args.h.now.rows in
    let none : IsLeast m h (asked_words c.batches.result.now) None = rw c.in_default.is at c.in_ok-word.ensures in
    gives_known (task_of c.args.m.now c.args.extra c.args.most) h c.args.table.now c.requires.rows c.requires.closed
    (subst (λ (bs : List (List (List ℕ))). IsLeast m h (asked_words bs) None) c.batches.ensures none)

pub returns-in-Err-clause-round : goal.returns-in-Err-clause-round
returns-in-Err-clause-round c =
    let task = task_of c.args.m.now c.args.extra c.args.most in
    let m = c.args.m.now.rows in
    let h = c.args.h.now.rows in
    let model = c.in_ok-model.model in
    let made = c.in_ok-model.ensures in
    let none : IsLeast m h (asked_words c.batches.result.now) None = rw c.in_default.is at c.in_ok-word.ensures in
    let ready = gives_known task h c.args.table.now c.requires.rows c.requires.closed (subst (λ (bs : List (List (List ℕ))). IsLeast m h (asked_words bs) None) c.batches.ensures none) in
    let inputs : model.inputs ≡ c.args.m.now.inputs = made.alphabets.0 ∙ c.requires.alike.0 in
    let outputs : model.outputs ≡ c.args.m.now.outputs = made.alphabets.1 ∙ c.requires.alike.1 in
    let canonical : IsCanonical c.args.m.now.inputs h model.rows = subst (λ (a : ℕ). IsCanonical a h model.rows) c.requires.alike.0 made.canonical in
    by_fault c.in-Err.fault model (IsRound task c.args.m.now c.args.table.now c.args.table.now) c.without_suite.result c.without_suite.ensures
    (λ number is.
    let found = c.new.ensures.size number (c.in-Err.is ∙ ap (λ (f : SuiteFault). Err f) is) in
    let size : number ≡ suite_size (length model.rows) c.args.m.now.inputs c.args.extra = found.0 ∙ ap (λ (a : ℕ). suite_size (length model.rows) a c.args.extra) inputs in
    ((inputs, outputs), large_suite task h c.args.table.now c.requires.rows ready model.rows number canonical size found.1))
