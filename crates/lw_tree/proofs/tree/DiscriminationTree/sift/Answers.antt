use Rattle.std.proofs.Common.{rules, ℕ, List, length, Option, Err, sym, ◌∙◌, ap, subst}
use Rattle.std.specs.List.{All}
use Rattle.std.specs.Bool.{⊤}
use Rattle.lw_words.specs.Word.{AreAnswers, answers_of, IsWord}
use Rattle.lw_words.specs.declared.kept.KeptAnswer.{KeptAnswer}
use Rattle.lw_cache.specs.Known.{IsKnown}
use Rattle.lw_cache.specs.Settling.{asked_stop, Leaves}
use Rattle.lw_cache.specs.declared.stops.AskStop.{AskStop}
use Rattle.lw_tree.specs.Grown.{HasGrown, IsLevelWord, TellsCrowd}
use Rattle.lw_cache.specs.declared.stops.AskStop.TheVariants.{NoMemory}
use Rattle.lw_cache.proofs.SettlingLemmas.{leaves_nothing, leaves_settled, leaves_grown_handed, leaves_grown_own, gains_none, gains_of_batch}
use Rattle.lw_tree.specs.Tree.{TreeState, BranchesAreRead}
use Rattle.lw_tree.specs.bodies.Transitions.{AreAsked}
use Rattle.lw_tree.proofs.ListingLemmas.{asked_by_all}
use Rattle.lw_tree.proofs.BranchLemmas.{branches_more}
use Rattle.lw_tree.proofs.CloseLemmas.{stopped_level, not_levelled}
use Rattle.lw_tree.proofs.StepLemmas.{kept_words, leaves_after}
use Rattle.lw_tree.proofs.tree.DiscriminationTree.sift.Goals as goal

pub returns-in_err-numbers-clause-levels : goal.returns-in_err-numbers-clause-levels
returns-in_err-numbers-clause-levels g c =
    let ks = answers_of (g.O.Oracle.state c.args.oracle.now).kept in
    stopped_level ks c.args.self.now NoMemory c.from_residual.result c.open_numbers.ensures.tree c.requires.read (search rules)

pub returns-in_err-numbers-clause-leaves : goal.returns-in_err-numbers-clause-leaves
returns-in_err-numbers-clause-leaves g c =
    let state = g.O.Oracle.state c.args.oracle.now in
    leaves_grown_own state state c.from_residual.result (leaves_nothing state c.requires.keeps c.requires.may) (search rules)

pub returns-in_err-batch-clause-levels : goal.returns-in_err-batch-clause-levels
returns-in_err-batch-clause-levels g c =
    let ks = answers_of (g.O.Oracle.state c.args.oracle.now).kept in
    stopped_level ks c.args.self.now NoMemory c.from_residual-in_err-batch.result c.open_numbers.ensures.tree c.requires.read (search rules)

pub returns-in_err-batch-clause-leaves : goal.returns-in_err-batch-clause-leaves
returns-in_err-batch-clause-leaves g c =
    let state = g.O.Oracle.state c.args.oracle.now in
    leaves_grown_own state state c.from_residual-in_err-batch.result (leaves_nothing state c.requires.keeps c.requires.may) (search rules)

pub returns-in_err-settle-clause-levels : goal.returns-in_err-settle-clause-levels
returns-in_err-settle-clause-levels g c =
    let o = g.O.Oracle.state c.args.oracle.now in
    let n = g.O.Oracle.state c.settle.new.self in
    let settles = c.in_err-settle.ensures.settles in
    stopped_level (answers_of n.kept) c.args.self.now c.in_err-settle.field-0.0 c.from_residual-in_err-settle.result c.open_numbers.ensures.tree
    (branches_more o.kept settles.gains.gained n.kept c.args.self.now settles.gains.at_end c.requires.read) (search rules)

pub advance_all-requires-clause-answers : goal.advance_all-requires-clause-answers
advance_all-requires-clause-answers g c =
    let n = g.O.Oracle.state c.settle.new.self in
    let same = c.in_ok-settle.ensures.settles.same in
    let words = kept_words n c.args.self.now.inputs c.args.self.now.outputs (c.requires.inputs ∙ sym same.inputs) (c.requires.outputs ∙ sym same.outputs) c.cache.ensures.keeps in
    subst (λ (k : List KeptAnswer). AreAnswers c.args.self.now.inputs (answers_of k)) (sym c.cache.ensures.kept) words.0

pub advance_all-requires-clause-outs : goal.advance_all-requires-clause-outs
advance_all-requires-clause-outs g c =
    let n = g.O.Oracle.state c.settle.new.self in
    let same = c.in_ok-settle.ensures.settles.same in
    let words = kept_words n c.args.self.now.inputs c.args.self.now.outputs (c.requires.inputs ∙ sym same.inputs) (c.requires.outputs ∙ sym same.outputs) c.cache.ensures.keeps in
    subst (λ (k : List KeptAnswer). All (λ a. IsWord c.args.self.now.outputs a.outs) (answers_of k)) (sym c.cache.ensures.kept) words.1

pub advance_all-requires-clause-read : goal.advance_all-requires-clause-read
advance_all-requires-clause-read g c =
    let o = g.O.Oracle.state c.args.oracle.now in
    let n = g.O.Oracle.state c.settle.new.self in
    let settles = c.in_ok-settle.ensures.settles in
    subst (λ (k : List KeptAnswer). BranchesAreRead (answers_of k) c.args.self.now) (sym c.cache.ensures.kept) (branches_more o.kept settles.gains.gained n.kept c.args.self.now settles.gains.at_end c.requires.read)

pub advance_all-requires-clause-known : goal.advance_all-requires-clause-known
advance_all-requires-clause-known g c =
    let u : TreeState = c.args.self.now in
    let n = g.O.Oracle.state c.settle.new.self in
    let batch : List (List ℕ) = c.in_ok-batch.batch in
    let known : All (IsKnown (answers_of n.kept)) batch = subst (All (IsKnown (answers_of n.kept))) c.as_slice.ensures c.in_ok-settle.ensures.settles.known in
    subst (λ (k : List KeptAnswer). AreAsked (IsKnown (answers_of k)) u 0 (length u.places)) (sym c.cache.ensures.kept)
    (asked_by_all (IsKnown (answers_of n.kept)) u 0 (length u.places) batch known c.in_ok-batch.ensures.asked)

pub returns-in_err-advance_all-clause-levels : goal.returns-in_err-advance_all-clause-levels
returns-in_err-advance_all-clause-levels g c =
    let n = g.O.Oracle.state c.settle.new.self in
    let stop = c.in_err-advance_all.field-0.0 in
    let done = c.in_err-advance_all.ensures in
    let u : TreeState = c.args.self.now in
    not_levelled (answers_of n.kept) u c.advance_all.new.self stop c.from_residual-in_err-advance_all.result
    (subst (λ (k : List KeptAnswer). HasGrown (answers_of k) u c.advance_all.new.self) c.cache.ensures.kept done.grown) done.keeps done.steps
    (subst (λ (k : List KeptAnswer). TellsCrowd {X = ⊤} (answers_of k) c.advance_all.new.self (Err stop)) c.cache.ensures.kept done.crowd) (search rules)

pub returns-in_err-advance_all-clause-leaves : goal.returns-in_err-advance_all-clause-leaves
returns-in_err-advance_all-clause-leaves g c =
    let o = g.O.Oracle.state c.args.oracle.now in
    let n = g.O.Oracle.state c.settle.new.self in
    let stop = c.in_err-advance_all.field-0.0 in
    leaves_after o n stop c.from_residual-in_err-advance_all.result (subst (λ (stop : Option AskStop). Leaves o n stop) (ap asked_stop c.in_ok-settle.was) (leaves_settled c.as_slice.result.now o n c.settle.result c.settle.ensures.settles)) c.in_err-advance_all.ensures.own (search rules)

pub returns-in_err-settle-clause-leaves : goal.returns-in_err-settle-clause-leaves
returns-in_err-settle-clause-leaves g c =
    let o = g.O.Oracle.state c.args.oracle.now in
    let n = g.O.Oracle.state c.settle.new.self in
    leaves_grown_handed o n c.in_err-settle.field-0.0 c.from_residual-in_err-settle.result
    (subst (λ (stop : Option AskStop). Leaves o n stop) (ap asked_stop c.in_err-settle.was) (leaves_settled c.as_slice.result.now o n c.settle.result c.settle.ensures.settles)) (search rules)

pub returns-clause-leaves : goal.returns-clause-leaves
returns-clause-leaves g c =
    let o = g.O.Oracle.state c.args.oracle.now in
    let n = g.O.Oracle.state c.settle.new.self in
    subst (λ (stop : Option AskStop). Leaves o n stop) (ap asked_stop c.in_ok-settle.was) (leaves_settled c.as_slice.result.now o n c.settle.result c.settle.ensures.settles)

pub returns-in_err-numbers-clause-asks : goal.returns-in_err-numbers-clause-asks
returns-in_err-numbers-clause-asks g c = gains_none (IsLevelWord c.args.self.now) (g.O.Oracle.state c.args.oracle.now).kept

pub returns-in_err-batch-clause-asks : goal.returns-in_err-batch-clause-asks
returns-in_err-batch-clause-asks g c = gains_none (IsLevelWord c.args.self.now) (g.O.Oracle.state c.args.oracle.now).kept

pub returns-in_err-settle-clause-asks : goal.returns-in_err-settle-clause-asks
returns-in_err-settle-clause-asks g c =
    gains_of_batch (IsLevelWord c.args.self.now) c.as_slice.result.now (g.O.Oracle.state c.args.oracle.now).kept (g.O.Oracle.state c.settle.new.self).kept
    (subst (All (IsLevelWord c.args.self.now)) (sym c.as_slice.ensures) c.in_ok-batch.ensures.level) c.settle.ensures.settles.gains

pub returns-in_err-advance_all-clause-asks : goal.returns-in_err-advance_all-clause-asks
returns-in_err-advance_all-clause-asks g c =
    gains_of_batch (IsLevelWord c.args.self.now) c.as_slice.result.now (g.O.Oracle.state c.args.oracle.now).kept (g.O.Oracle.state c.settle.new.self).kept
    (subst (All (IsLevelWord c.args.self.now)) (sym c.as_slice.ensures) c.in_ok-batch.ensures.level) c.settle.ensures.settles.gains

pub returns-clause-asks : goal.returns-clause-asks
returns-clause-asks g c =
    gains_of_batch (IsLevelWord c.args.self.now) c.as_slice.result.now (g.O.Oracle.state c.args.oracle.now).kept (g.O.Oracle.state c.settle.new.self).kept
    (subst (All (IsLevelWord c.args.self.now)) (sym c.as_slice.ensures) c.in_ok-batch.ensures.level) c.settle.ensures.settles.gains
