use Rattle.std.proofs.Common.{rules, List, Err, sym, subst}
use Rattle.std.specs.Bool.{⊤}
use Rattle.lw_words.specs.Word.{AreAnswers, answers_of}
use Rattle.lw_words.specs.declared.kept.KeptAnswer.{KeptAnswer}
use Rattle.lw_cache.proofs.SettlingLemmas.{leaves_nothing, gains_none}
use Rattle.lw_tree.specs.Grown.{HasGrown, TellsCrowd, cut_word, IsSifted}
use Rattle.lw_tree.specs.Tree.{TreeState, leaf_at}
use Rattle.lw_tree.proofs.AskedLemmas.{gains_refined}
use Rattle.lw_tree.proofs.CloseLemmas.{has_split, not_all_split, not_split, room_to_count}
use Rattle.lw_tree.proofs.StepLemmas.{kept_words, leaves_after}
use Rattle.lw_tree.proofs.tree.DiscriminationTree.split.Goals as goal

pub split_leaf-requires-clause-answers : goal.split_leaf-requires-clause-answers
split_leaf-requires-clause-answers g c =
    let o = g.O.Oracle.state c.args.oracle.now in
    let words = kept_words o c.args.self.now.inputs c.args.self.now.outputs c.requires.inputs c.requires.outputs c.cache.ensures.keeps in
    subst (λ (k : List KeptAnswer). AreAnswers c.args.self.now.inputs (answers_of k)) (sym c.cache.ensures.kept) words.0

pub returns-in_err-split_leaf-clause-splits : goal.returns-in_err-split_leaf-clause-splits
returns-in_err-split_leaf-clause-splits g c =
    let o = g.O.Oracle.state c.args.oracle.now in
    let u : TreeState = c.args.self.now in
    let now : TreeState = c.split_leaf.new.self in
    let stop = c.in_err-split_leaf.field-0.0 in
    let done = c.in_err-split_leaf.ensures in
    not_split (answers_of o.kept) (cut_word c.args.self.now.access c.args.cut.now) c.args.cut.now.suffix (leaf_at u.leaves c.args.cut.now.target) u now stop c.from_residual.result
    (subst (λ (k : List KeptAnswer). HasGrown (answers_of k) u now) c.cache.ensures.kept done.grown) done.err
    (subst (λ (k : List KeptAnswer). TellsCrowd {X = ⊤} (answers_of k) now (Err stop)) c.cache.ensures.kept done.crowd) (search rules)

pub returns-in_err-split_leaf-clause-leaves : goal.returns-in_err-split_leaf-clause-leaves
returns-in_err-split_leaf-clause-leaves g c =
    let o = g.O.Oracle.state c.args.oracle.now in
    leaves_after o o c.in_err-split_leaf.field-0.0 c.from_residual.result (leaves_nothing o c.cache.ensures.keeps c.requires.may) c.in_err-split_leaf.ensures.own (search rules)

pub returns-in_err-close-clause-splits : goal.returns-in_err-close-clause-splits
returns-in_err-close-clause-splits g c =
    let first = answers_of c.cache.result.now.kept in
    let ks = answers_of (g.O.Oracle.state c.close.new.oracle).kept in
    let one = c.in_ok-split_leaf.ensures in
    not_all_split first ks (cut_word c.args.self.now.access c.args.cut.now) c.args.cut.now.suffix (leaf_at c.args.self.now.leaves c.args.cut.now.target) c.args.self.now c.split_leaf.new.self c.close.new.self c.in_err-close.field-0.0 c.from_residual-in_err-close.result one.was one.grown one.split one.refinements c.in_err-close.ensures.closes (search rules)

pub count_refinement-requires : goal.count_refinement-requires
count_refinement-requires g c =
    let ks = answers_of (g.O.Oracle.state c.close.new.oracle).kept in
    let one = c.in_ok-split_leaf.ensures in
    let done = c.in_ok-close.ensures.closes in
    room_to_count ks (cut_word c.args.self.now.access c.args.cut.now) c.args.cut.now.suffix (leaf_at c.args.self.now.leaves c.args.cut.now.target) c.args.self.now c.split_leaf.new.self c.close.new.self one.was one.split one.refinements done.grown done.keeps

pub returns-clause-splits : goal.returns-clause-splits
returns-clause-splits g c =
    let first = answers_of c.cache.result.now.kept in
    let ks = answers_of (g.O.Oracle.state c.close.new.oracle).kept in
    let one = c.in_ok-split_leaf.ensures in
    has_split first ks (cut_word c.args.self.now.access c.args.cut.now) c.args.cut.now.suffix (leaf_at c.args.self.now.leaves c.args.cut.now.target) c.args.self.now c.split_leaf.new.self c.close.new.self c.count_refinement.new.self one.was one.grown one.split one.refinements c.in_ok-close.ensures.closes c.count_refinement.ensures.value c.count_refinement.ensures.tree

pub returns-in_err-split_leaf-clause-asks : goal.returns-in_err-split_leaf-clause-asks
returns-in_err-split_leaf-clause-asks g c = gains_none (IsSifted c.split_leaf.new.self) (g.O.Oracle.state c.args.oracle.now).kept

pub returns-in_err-close-clause-asks : goal.returns-in_err-close-clause-asks
returns-in_err-close-clause-asks g c = c.in_err-close.ensures.asks

pub returns-clause-asks : goal.returns-clause-asks
returns-clause-asks g c = gains_refined c.close.new.self c.count_refinement.new.self (g.O.Oracle.state c.args.oracle.now).kept (g.O.Oracle.state c.close.new.oracle).kept c.count_refinement.ensures.value c.in_ok-close.ensures.asks
