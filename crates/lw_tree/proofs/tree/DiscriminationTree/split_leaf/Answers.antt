use Rattle.std.proofs.Common.{rules, ◌≡◌, ℕ, List, [], ◌∷◌, ◌++◌, length, sym, ◌∙◌, ap, subst}
use Rattle.lw_words.specs.Word.{answers_of}
use Rattle.lw_tree.specs.Grown.{cut_word, HasGrown, IsSplit}
use Rattle.lw_tree.specs.Tree.{TreeState, leaf_at, IsTree}
use Rattle.lw_tree.specs.bodies.Cuts.{edge_of}
use Rattle.lw_tree.specs.bodies.Steps.{IsNextSplit, split_tree}
use Rattle.lw_tree.specs.declared.transitions.Edge.{Edge}
use Rattle.lw_tree.proofs.BranchLemmas.{split_crowd}
use Rattle.lw_tree.proofs.CloseLemmas.{is_split}
use Rattle.lw_tree.proofs.GrownLemmas.{not_grown, crowd_of}
use Rattle.lw_tree.proofs.ShapeLemmas.{shape_of}
use Rattle.lw_tree.proofs.StepLemmas.{own_crowd, split_grown}
use Rattle.lw_tree.proofs.tree.DiscriminationTree.split_leaf.Goals as goal

pub returns-in_err-word-clause-grown : goal.returns-in_err-word-clause-grown
returns-in_err-word-clause-grown c =
    not_grown (answers_of c.args.cache.now.kept) c.args.self.now (subst (λ (v : TreeState). IsTree v) c.self.view_is c.self.invariant.tree) c.requires.read

pub returns-in_err-old-clause-grown : goal.returns-in_err-old-clause-grown
returns-in_err-old-clause-grown c =
    not_grown (answers_of c.args.cache.now.kept) c.args.self.now (subst (λ (v : TreeState). IsTree v) c.self.view_is c.self.invariant.tree) c.requires.read

pub returns-then-len-from-clause-grown : goal.returns-then-len-from-clause-grown
returns-then-len-from-clause-grown c =
    not_grown (answers_of c.args.cache.now.kept) c.args.self.now (subst (λ (v : TreeState). IsTree v) c.self.view_is c.self.invariant.tree) c.requires.read

pub returns-in_err-suffix-clause-grown : goal.returns-in_err-suffix-clause-grown
returns-in_err-suffix-clause-grown c =
    not_grown (answers_of c.args.cache.now.kept) c.args.self.now (subst (λ (v : TreeState). IsTree v) c.self.view_is c.self.invariant.tree) c.requires.read

pub returns-then-len-from-clause-crowd : goal.returns-then-len-from-clause-crowd
returns-then-len-from-clause-crowd c =
    let u : TreeState = c.args.self.now in
    let cut = c.args.cut.now in
    let ks = answers_of c.args.cache.now.kept in
    let edge : Edge = edge_of cut in
    let can = c.in_ok-old.ensures in
    let g : IsTree u = subst (λ (v : TreeState). IsTree v) c.self.view_is c.self.invariant.tree in
    let many : length u.access ≡ u.most = subst (λ (v : TreeState). length v.access ≡ v.most) c.self.view_is (search rules) in
    let apart = split_crowd ks u edge can.output cut.target cut.suffix c.in_ok-old.old c.in_ok-old.new (shape_of u g) can.next c.requires.read can.old_told can.new_told in
    own_crowd ks u c.crowd.result (λ words is. crowd_of ks u edge words can.next.from many apart (c.crowd.ensures.words words is ∙ ap (λ (w : List ℕ). u.access ++ w ∷ []) c.in_ok-word.ensures.value))

pub push_split-requires-clause-next : goal.push_split-requires-clause-next
push_split-requires-clause-next c =
    let u : TreeState = c.args.self.now in
    let cut = c.args.cut.now in
    let ks = answers_of c.args.cache.now.kept in
    let edge : Edge = edge_of cut in
    let can = c.in_ok-old.ensures in
    (can.output, subst (λ (e : List ℕ). IsNextSplit u edge can.output cut.target e c.in_ok-old.old c.in_ok-old.new) (sym c.in_ok-suffix.ensures) can.next)

pub returns-in_err-push_split-clause-grown : goal.returns-in_err-push_split-clause-grown
returns-in_err-push_split-clause-grown c =
    let ks = answers_of c.args.cache.now.kept in
    subst (HasGrown ks c.args.self.now) (sym c.in_err-push_split.ensures.err) (not_grown ks c.args.self.now (subst (λ (v : TreeState). IsTree v) c.self.view_is c.self.invariant.tree) c.requires.read)

pub returns : goal.returns
returns c =
    let u : TreeState = c.args.self.now in
    let cut = c.args.cut.now in
    let ks = answers_of c.args.cache.now.kept in
    let edge : Edge = edge_of cut in
    let can = c.in_ok-old.ensures in
    let g : IsTree u = subst (λ (v : TreeState). IsTree v) c.self.view_is c.self.invariant.tree in
    let made : c.push_split.new.self ≡ split_tree u edge can.output cut.target cut.suffix c.in_ok-old.old c.in_ok-old.new =
    subst (λ (e : List ℕ). IsNextSplit u edge can.output cut.target e c.in_ok-old.old c.in_ok-old.new → c.push_split.new.self ≡ split_tree u edge can.output cut.target e c.in_ok-old.old c.in_ok-old.new) c.in_ok-suffix.ensures (c.in_ok-push_split.ensures.ok can.output) can.next in
    let tree = subst (λ (v : TreeState). IsTree v) made c.in_ok-push_split.ensures.tree in
    record {
      was = g;
      grown = subst (HasGrown ks u) (sym made) (split_grown ks u edge can.output cut.target cut.suffix c.in_ok-old.old c.in_ok-old.new g can.next tree c.requires.read can.old_told can.new_told);
      split = subst (IsSplit (cut_word u.access cut) cut.suffix (leaf_at u.leaves cut.target) u) (sym made) (is_split u edge can.output cut.target cut.suffix c.in_ok-old.old c.in_ok-old.new g can.next);
      refinements = ap (λ (v : TreeState). v.refinements) made;
      err = tt;
      crowd = λ words told. cc;
      own = tt;
    }
