use Rattle.std.proofs.Common.{rules, ◌^◌, ◌<◌, ℕ, List, length, Option, None, Err, MatchOption, refl, ap, sym, ◌∙◌, subst}
use Rattle.std.specs.Bool.{⊤}
use Rattle.std.specs.List.{All}
use Rattle.lw_words.specs.Word.{AreAnswers, answers_of}
use Rattle.lw_words.specs.declared.kept.KeptAnswer.{KeptAnswer}
use Rattle.lw_cache.specs.Known.{IsKnown}
use Rattle.lw_cache.specs.Settling.{Leaves, GainsOnly, asked_stop, grown_stop}
use Rattle.lw_cache.specs.declared.stops.AskStop.{AskStop}
use Rattle.lw_cache.specs.declared.stops.AskStop.TheVariants.{NoMemory}
use Rattle.lw_cache.specs.declared.stops.GrowStop.TheVariants.{Ask}
use Rattle.lw_cache.proofs.SettlingLemmas.{leaves_nothing, leaves_settled, leaves_grown_handed, leaves_grown_own, leaves_then, gains_none}
use Rattle.lw_tree.specs.Blocks.{MayReplace}
use Rattle.lw_tree.specs.Grown.{IsSifted}
use Rattle.lw_tree.specs.Tree.{TreeState, BranchesAreRead}
use Rattle.lw_tree.proofs.BranchLemmas.{branches_more}
use Rattle.lw_tree.proofs.CloseLemmas.{handed_leaves}
use Rattle.lw_tree.proofs.GrownLemmas.{no_crowd}
use Rattle.lw_tree.proofs.StepLemmas.{kept_words}
use Rattle.lw_settle.specs.bodies.Parting.{NothingIsParted, IsReplacement, AreWordsOf}
use Rattle.lw_settle.specs.declared.settling.Replacement.{Replacement}
use Rattle.lw_settle.proofs.SettleLemmas.{asked_before, asked_all, nothing_settled, untouched, not_closed_then, all_settled, may_replace, few_words}
use Rattle.lw_settle.proofs.settling.settle_block.Goals as goal

pub returns-in_err-replacement-clause-leaves : goal.returns-in_err-replacement-clause-leaves
returns-in_err-replacement-clause-leaves g c =
    let o = g.O.Oracle.state c.args.oracle.now in
    leaves_grown_own o o c.from_residual.result (leaves_nothing o c.cache.ensures.keeps c.requires.may) (search rules)

pub returns-in_default-clause-settles : goal.returns-in_default-clause-settles
returns-in_default-clause-settles g c =
    let t : TreeState = c.args.tree.now in
    let o = g.O.Oracle.state c.args.oracle.now in
    let nothing : NothingIsParted t = subst (λ (found : Option Replacement). MatchOption found (NothingIsParted t) (IsReplacement t)) c.in_default.is c.in_ok-replacement.ensures in
    let gives = c.requires.gives in
    nothing_settled (answers_of o.kept) t gives.0 c.access.ensures.tree c.requires.read c.requires.closed gives.1 gives.2 nothing

pub returns-in_err-batch-clause-leaves : goal.returns-in_err-batch-clause-leaves
returns-in_err-batch-clause-leaves g c =
    let o = g.O.Oracle.state c.args.oracle.now in
    leaves_grown_own o o c.from_residual-in_err-batch.result (leaves_nothing o c.cache.ensures.keeps c.requires.may) (search rules)

pub settle-requires-clause-few : goal.settle-requires-clause-few
settle-requires-clause-few g c =
    let t : TreeState = c.args.tree.now in
    let r : Replacement = c.in-Some.replacement in
    let is : IsReplacement t r = subst (λ (found : Option Replacement). MatchOption found (NothingIsParted t) (IsReplacement t)) c.in-Some.is c.in_ok-replacement.ensures in
    let batch : List (List ℕ) = c.in_ok-batch.batch in
    let words : AreWordsOf t r.members.items r.word batch = subst (λ (l : List ℕ). AreWordsOf t l r.word batch) c.deref.ensures.value c.in_ok-batch.ensures in
    subst (λ (l : List (List ℕ)). length l < 2 ^ 32) (sym c.as_slice.ensures) (few_words t r.root r.members.items r.word batch c.access.ensures.tree is.members words)

pub returns-in_err-settle-clause-settles : goal.returns-in_err-settle-clause-settles
returns-in_err-settle-clause-settles g c =
    let t : TreeState = c.args.tree.now in
    let o = g.O.Oracle.state c.args.oracle.now in
    let n = g.O.Oracle.state c.settle.new.self in
    let settles = c.settle.ensures.settles in
    let read : BranchesAreRead (answers_of n.kept) t = branches_more o.kept settles.gains.gained n.kept t settles.gains.at_end c.requires.read in
    let stop : AskStop = c.in_err-settle.field-0.0 in
    untouched (answers_of n.kept) t t (Ask stop) c.from_residual-in_err-settle.result refl c.access.ensures.tree read (no_crowd {X = ⊤} (answers_of n.kept) t stop) (search rules)

pub replace-requires-clause-answers : goal.replace-requires-clause-answers
replace-requires-clause-answers g c =
    let t : TreeState = c.args.tree.now in
    let n = g.O.Oracle.state c.settle.new.self in
    let same = c.in_ok-settle.ensures.settles.same in
    let words = kept_words n t.inputs t.outputs (c.requires.inputs ∙ sym same.inputs) (c.requires.outputs ∙ sym same.outputs) c.cache-2.ensures.keeps in
    subst (λ (k : List KeptAnswer). AreAnswers t.inputs (answers_of k)) (sym c.cache-2.ensures.kept) words.0

pub replace-requires-clause-read : goal.replace-requires-clause-read
replace-requires-clause-read g c =
    let t : TreeState = c.args.tree.now in
    let o = g.O.Oracle.state c.args.oracle.now in
    let n = g.O.Oracle.state c.settle.new.self in
    let settles = c.settle.ensures.settles in
    let read : BranchesAreRead (answers_of n.kept) t = branches_more o.kept settles.gains.gained n.kept t settles.gains.at_end c.requires.read in
    subst (λ (k : List KeptAnswer). BranchesAreRead (answers_of k) t) (sym c.cache-2.ensures.kept) read

pub replace-requires-clause-may : goal.replace-requires-clause-may
replace-requires-clause-may g c =
    let t : TreeState = c.args.tree.now in
    let o = g.O.Oracle.state c.args.oracle.now in
    let n = g.O.Oracle.state c.settle.new.self in
    let settles = c.settle.ensures.settles in
    let read : BranchesAreRead (answers_of n.kept) t = branches_more o.kept settles.gains.gained n.kept t settles.gains.at_end c.requires.read in
    let r : Replacement = c.in-Some.replacement in
    let is : IsReplacement t r = subst (λ (found : Option Replacement). MatchOption found (NothingIsParted t) (IsReplacement t)) c.in-Some.is c.in_ok-replacement.ensures in
    let batch : List (List ℕ) = c.in_ok-batch.batch in
    let words : AreWordsOf t r.members.items r.word batch = subst (λ (l : List ℕ). AreWordsOf t l r.word batch) c.deref.ensures.value c.in_ok-batch.ensures in
    let known : All (IsKnown (answers_of n.kept)) batch = subst (All (IsKnown (answers_of n.kept))) c.as_slice.ensures c.in_ok-settle.ensures.settles.known in
    subst (λ (k : List KeptAnswer). MayReplace (answers_of k) t r.root r.word) (sym c.cache-2.ensures.kept) (may_replace (answers_of n.kept) t r batch read is words known)

pub returns-in_err-replace-clause-settles : goal.returns-in_err-replace-clause-settles
returns-in_err-replace-clause-settles g c =
    let t : TreeState = c.args.tree.now in
    let o = g.O.Oracle.state c.args.oracle.now in
    let n = g.O.Oracle.state c.settle.new.self in
    let settles = c.settle.ensures.settles in
    let read : BranchesAreRead (answers_of n.kept) t = branches_more o.kept settles.gains.gained n.kept t settles.gains.at_end c.requires.read in
    untouched (answers_of n.kept) t c.replace.new.self (Ask NoMemory) c.from_residual-in_err-replace.result c.in_err-replace.ensures.left c.access.ensures.tree read (no_crowd {X = ⊤} (answers_of n.kept) t NoMemory) (search rules)

pub returns-in_err-close-clause-settles : goal.returns-in_err-close-clause-settles
returns-in_err-close-clause-settles g c =
    let t : TreeState = c.args.tree.now in
    let p = g.O.Oracle.state c.close.new.oracle in
    let r : Replacement = c.in-Some.replacement in
    let is : IsReplacement t r = subst (λ (found : Option Replacement). MatchOption found (NothingIsParted t) (IsReplacement t)) c.in-Some.is c.in_ok-replacement.ensures in
    let first = answers_of c.cache-2.result.now.kept in
    let one = c.in_ok-replace.ensures in
    not_closed_then first (answers_of p.kept) r.word r.root t c.replace.new.self c.close.new.self c.in_err-close.field-0.0 c.from_residual-in_err-close.result
    (record { tree = c.access.ensures.tree; closed = c.requires.closed; block = is.block; replaced = one }) c.in_err-close.ensures.closes (search rules)

pub returns-in_err-close-clause-leaves : goal.returns-in_err-close-clause-leaves
returns-in_err-close-clause-leaves g c =
    let o = g.O.Oracle.state c.args.oracle.now in
    let n = g.O.Oracle.state c.settle.new.self in
    let p = g.O.Oracle.state c.close.new.oracle in
    let settled : Leaves o n None = subst (λ (stop : Option AskStop). Leaves o n stop) (ap asked_stop c.in_ok-settle.was) (leaves_settled c.as_slice.result.now o n c.settle.result c.settle.ensures.settles) in
    let stop = c.in_err-close.field-0.0 in
    handed_leaves ⊤ o p stop c.from_residual-in_err-close.result (leaves_then o n p (grown_stop {X = ⊤} (Err stop)) settled c.in_err-close.ensures.leaves) (search rules)

pub returns-clause-settles : goal.returns-clause-settles
returns-clause-settles g c =
    let t : TreeState = c.args.tree.now in
    let p = g.O.Oracle.state c.close.new.oracle in
    let r : Replacement = c.in-Some.replacement in
    let is : IsReplacement t r = subst (λ (found : Option Replacement). MatchOption found (NothingIsParted t) (IsReplacement t)) c.in-Some.is c.in_ok-replacement.ensures in
    let first = answers_of c.cache-2.result.now.kept in
    let one = c.in_ok-replace.ensures in
    all_settled first (answers_of p.kept) r.word r.root t c.replace.new.self c.close.new.self
    (record { tree = c.access.ensures.tree; closed = c.requires.closed; block = is.block; replaced = one }) c.in_ok-close.ensures.closes

pub returns-clause-leaves : goal.returns-clause-leaves
returns-clause-leaves g c =
    let o = g.O.Oracle.state c.args.oracle.now in
    let n = g.O.Oracle.state c.settle.new.self in
    let p = g.O.Oracle.state c.close.new.oracle in
    let settled : Leaves o n None = subst (λ (stop : Option AskStop). Leaves o n stop) (ap asked_stop c.in_ok-settle.was) (leaves_settled c.as_slice.result.now o n c.settle.result c.settle.ensures.settles) in
    leaves_then o n p None settled c.in_ok-close.ensures.leaves

pub returns-in_default-clause-leaves : goal.returns-in_default-clause-leaves
returns-in_default-clause-leaves g c = leaves_nothing (g.O.Oracle.state c.args.oracle.now) c.cache.ensures.keeps c.requires.may

pub returns-in_err-settle-clause-leaves : goal.returns-in_err-settle-clause-leaves
returns-in_err-settle-clause-leaves g c =
    let o = g.O.Oracle.state c.args.oracle.now in
    let n = g.O.Oracle.state c.settle.new.self in
    leaves_grown_handed o n c.in_err-settle.field-0.0 c.from_residual-in_err-settle.result
    (subst (λ (stop : Option AskStop). Leaves o n stop) (ap asked_stop c.in_err-settle.was) (leaves_settled c.as_slice.result.now o n c.settle.result c.settle.ensures.settles)) (search rules)

pub returns-in_err-replacement-clause-asks : goal.returns-in_err-replacement-clause-asks
returns-in_err-replacement-clause-asks g c = gains_none (IsSifted c.args.tree.now) (g.O.Oracle.state c.args.oracle.now).kept

pub returns-in_default-clause-asks : goal.returns-in_default-clause-asks
returns-in_default-clause-asks g c = gains_none (IsSifted c.args.tree.now) (g.O.Oracle.state c.args.oracle.now).kept

pub returns-in_err-batch-clause-asks : goal.returns-in_err-batch-clause-asks
returns-in_err-batch-clause-asks g c = gains_none (IsSifted c.args.tree.now) (g.O.Oracle.state c.args.oracle.now).kept

pub returns-in_err-settle-clause-asks : goal.returns-in_err-settle-clause-asks
returns-in_err-settle-clause-asks g c =
    let t : TreeState = c.args.tree.now in
    let r : Replacement = c.in-Some.replacement in
    let is : IsReplacement t r = subst (λ (found : Option Replacement). MatchOption found (NothingIsParted t) (IsReplacement t)) c.in-Some.is c.in_ok-replacement.ensures in
    let batch : List (List ℕ) = c.in_ok-batch.batch in
    let words : AreWordsOf t r.members.items r.word batch = subst (λ (l : List ℕ). AreWordsOf t l r.word batch) c.deref.ensures.value c.in_ok-batch.ensures in
    let a = (g.O.Oracle.state c.args.oracle.now).kept in
    let b = (g.O.Oracle.state c.settle.new.self).kept in
    asked_before (answers_of a) t r batch c.as_slice.result.now a b c.access.ensures.tree c.requires.read is words c.as_slice.ensures c.settle.ensures.settles.gains

pub returns-in_err-replace-clause-asks : goal.returns-in_err-replace-clause-asks
returns-in_err-replace-clause-asks g c =
    let t : TreeState = c.args.tree.now in
    let r : Replacement = c.in-Some.replacement in
    let is : IsReplacement t r = subst (λ (found : Option Replacement). MatchOption found (NothingIsParted t) (IsReplacement t)) c.in-Some.is c.in_ok-replacement.ensures in
    let batch : List (List ℕ) = c.in_ok-batch.batch in
    let words : AreWordsOf t r.members.items r.word batch = subst (λ (l : List ℕ). AreWordsOf t l r.word batch) c.deref.ensures.value c.in_ok-batch.ensures in
    let a = (g.O.Oracle.state c.args.oracle.now).kept in
    let b = (g.O.Oracle.state c.settle.new.self).kept in
    subst (λ (u : TreeState). GainsOnly (IsSifted u) a b) (sym c.in_err-replace.ensures.left) (asked_before (answers_of a) t r batch c.as_slice.result.now a b c.access.ensures.tree c.requires.read is words c.as_slice.ensures c.settle.ensures.settles.gains)

pub returns-in_err-close-clause-asks : goal.returns-in_err-close-clause-asks
returns-in_err-close-clause-asks g c =
    let t : TreeState = c.args.tree.now in
    let r : Replacement = c.in-Some.replacement in
    let is : IsReplacement t r = subst (λ (found : Option Replacement). MatchOption found (NothingIsParted t) (IsReplacement t)) c.in-Some.is c.in_ok-replacement.ensures in
    let batch : List (List ℕ) = c.in_ok-batch.batch in
    let words : AreWordsOf t r.members.items r.word batch = subst (λ (l : List ℕ). AreWordsOf t l r.word batch) c.deref.ensures.value c.in_ok-batch.ensures in
    let a = (g.O.Oracle.state c.args.oracle.now).kept in
    let b = (g.O.Oracle.state c.settle.new.self).kept in
    let p = (g.O.Oracle.state c.close.new.oracle).kept in
    let done = c.in_err-close.ensures in
    asked_all (answers_of c.cache-2.result.now.kept) (answers_of p) t c.replace.new.self c.close.new.self r batch c.as_slice.result.now a b p
    (record { tree = c.access.ensures.tree; closed = c.requires.closed; block = is.block; replaced = c.in_ok-replace.ensures }) done.closes.grown done.closes.keeps is words c.as_slice.ensures c.settle.ensures.settles.gains done.asks

pub returns-clause-asks : goal.returns-clause-asks
returns-clause-asks g c =
    let t : TreeState = c.args.tree.now in
    let r : Replacement = c.in-Some.replacement in
    let is : IsReplacement t r = subst (λ (found : Option Replacement). MatchOption found (NothingIsParted t) (IsReplacement t)) c.in-Some.is c.in_ok-replacement.ensures in
    let batch : List (List ℕ) = c.in_ok-batch.batch in
    let words : AreWordsOf t r.members.items r.word batch = subst (λ (l : List ℕ). AreWordsOf t l r.word batch) c.deref.ensures.value c.in_ok-batch.ensures in
    let a = (g.O.Oracle.state c.args.oracle.now).kept in
    let b = (g.O.Oracle.state c.settle.new.self).kept in
    let p = (g.O.Oracle.state c.close.new.oracle).kept in
    let done = c.in_ok-close.ensures in
    asked_all (answers_of c.cache-2.result.now.kept) (answers_of p) t c.replace.new.self c.close.new.self r batch c.as_slice.result.now a b p
    (record { tree = c.access.ensures.tree; closed = c.requires.closed; block = is.block; replaced = c.in_ok-replace.ensures }) done.closes.grown done.closes.keeps is words c.as_slice.ensures c.settle.ensures.settles.gains done.asks
