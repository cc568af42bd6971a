use Rattle.std.proofs.Common.{◌≡◌, ◌+◌, ◌*◌, inl, ℕ, List, [], ◌∷◌, ◌++◌, length, true, false, sym, ◌∙◌, ap, ap₂, subst}
use Rattle.lw_words.specs.Word.{answers_of}
use Rattle.lw_cache.specs.Cut.{word_at}
use Rattle.lw_cache.specs.Known.{IsKnown}
use Rattle.lw_tree.specs.Tree.{TreeState, node_at, IsTree, IsInner, Tells, Agrees, discriminator, is_inner}
use Rattle.lw_tree.specs.bodies.Steps.{HasStepped, IsRead, with_place}
use Rattle.lw_tree.specs.Grown.{MovesOn}
use Rattle.lw_tree.specs.bodies.Transitions.{word_of, place_by, content_by, is_open_by}
use Rattle.lw_tree.specs.declared.nodes.Content.{Content}
use Rattle.lw_tree.specs.declared.nodes.Content.TheVariants.{Discriminator}
use Rattle.lw_tree.specs.declared.transitions.Place.{Place}
use Rattle.lw_tree.proofs.GrownLemmas.{not_stepped, placed_stepped, placed_moves}
use Rattle.lw_tree.proofs.StepLemmas.{not_inner, output_once}
use Rattle.lw_tree.proofs.tree.DiscriminationTree.advance.Goals as goal

pub returns-in_err-word-clause-stepped : goal.returns-in_err-word-clause-stepped
returns-in_err-word-clause-stepped c =
    not_stepped (answers_of c.args.cache.now.kept) c.args.self.now c.args.edge (subst (λ (v : TreeState). IsTree v) c.self.view_is c.self.invariant.tree) c.requires.read

pub returns-in_err-output-clause-stepped : goal.returns-in_err-output-clause-stepped
returns-in_err-output-clause-stepped c =
    not_stepped (answers_of c.args.cache.now.kept) c.args.self.now c.args.edge (subst (λ (v : TreeState). IsTree v) c.self.view_is c.self.invariant.tree) c.requires.read

pub returns-in_err-branch-clause-stepped : goal.returns-in_err-branch-clause-stepped
returns-in_err-branch-clause-stepped c =
    not_stepped (answers_of c.args.cache.now.kept) c.args.self.now c.args.edge (subst (λ (v : TreeState). IsTree v) c.self.view_is c.self.invariant.tree) c.requires.read

pub place-requires : goal.place-requires
place-requires c =
    record {
      edge = c.requires.edge;
      «open» = c.requires.stands;
      output = c.in_ok-output.ensures.below c.args.self.now.outputs c.requires.outs;
      node = c.place_of-node.ensures.live;
    }

pub returns-in_default : goal.returns-in_default
returns-in_default c =
    let u : TreeState = c.args.self.now in
    let ks = answers_of c.args.cache.now.kept in
    let edge = c.args.edge in
    let n : ℕ = c.place_of-node.result.node in
    let output : ℕ = c.in_ok-output.output in
    let g : IsTree u = c.content_of.ensures.tree in
    let stands : is_open_by u edge ≡ true = c.requires.stands in
    let below = c.in_ok-output.ensures.below u.outputs c.requires.outs in
    let live = c.place_of-node.ensures.live in
    let place : n ≡ (place_by u edge).node = ap (λ (p : Place). p.node) c.place_of-node.ensures.value in
    let leaf : is_inner (node_at u.nodes n).content ≡ false = ap (λ (m : ℕ). is_inner (node_at u.nodes m).content) place ∙ (ap is_inner (sym c.content_of.ensures.value) ∙ not_inner c.content_of.result.now c.in_default.not-Discriminator) in
    let value : c.place.new.self ≡ with_place u edge output n = c.place.ensures.value in
    let out : Tells ks (word_at u.access edge.state) (edge.letter ∷ []) (output ∷ []) = c.in_ok-output.ensures.tells (word_at u.access edge.state) edge.letter c.in_ok-word.ensures.value in
    let agrees : Agrees ks (node_at u.nodes) (word_of u edge) n = subst (Agrees ks (node_at u.nodes) (word_of u edge)) (sym place) (c.requires.read.transitions edge.state edge.letter c.requires.edge.0 c.requires.edge.1) in
    let stepped = placed_stepped ks u edge output n g c.requires.edge stands below live (subst (λ (v : TreeState). IsTree v) value c.place.ensures.tree) c.requires.read out agrees (output_once ks u edge output c.requires.answers c.requires.read c.requires.edge out) (inl place) in
    record {
      stepped = subst (HasStepped ks u edge) (sym value) stepped;
      moved = subst (λ (v : TreeState). MovesOn u v (edge.state * u.inputs + edge.letter)) (sym value) (placed_moves ks u edge output n g c.requires.edge stands below live (inl leaf));
      crowd = λ words told. cc;
      own = tt;
    }

pub read_tail-requires-clause-known : goal.read_tail-requires-clause-known
read_tail-requires-clause-known c =
    let u : TreeState = c.args.self.now in
    let ks = answers_of c.args.cache.now.kept in
    let edge = c.args.edge in
    let content : content_by u edge ≡ Discriminator c.in-Discriminator.suffix c.in-Discriminator.temporary = sym c.content_of.ensures.value ∙ c.in-Discriminator.is in
    let stands : is_open_by u edge ≡ true = c.requires.stands in
    subst (IsKnown ks) (ap₂ (λ (w : List ℕ) (k : Content). w ++ discriminator k) (sym c.in_ok-word.ensures.value) content) (c.requires.known stands).1

pub descend-requires : goal.descend-requires
descend-requires c =
    let u : TreeState = c.args.self.now in
    let ks = answers_of c.args.cache.now.kept in
    let edge = c.args.edge in
    let content : content_by u edge ≡ Discriminator c.in-Discriminator.suffix c.in-Discriminator.temporary = sym c.content_of.ensures.value ∙ c.in-Discriminator.is in
    record {
      edge = c.requires.edge;
      inner = subst IsInner (sym content) tt;
      word = c.in_ok-word.ensures.value;
      output = c.in_ok-output.ensures.below u.outputs c.requires.outs;
      size = c.in_ok-branch.ensures.size ∙ ap (λ (k : Content). length (discriminator k)) (sym content);
    }

read_so : (c : goal.After-descend) → IsRead (answers_of c.args.cache.now.kept) c.args.self.now c.args.edge c.in_ok-output.output c.in_ok-branch.branch
read_so c =
    let u : TreeState = c.args.self.now in
    let ks = answers_of c.args.cache.now.kept in
    let edge = c.args.edge in
    let content : content_by u edge ≡ Discriminator c.in-Discriminator.suffix c.in-Discriminator.temporary = sym c.content_of.ensures.value ∙ c.in-Discriminator.is in
    record {
      branches = c.requires.read;
      out = c.in_ok-output.ensures.tells (word_at u.access edge.state) edge.letter c.in_ok-word.ensures.value;
      outs = subst (λ (d : List ℕ). Tells ks (word_of u edge) d c.in_ok-branch.branch) (ap discriminator (sym content)) (subst (λ (w : List ℕ). Tells ks w c.in-Discriminator.suffix c.in_ok-branch.branch) c.in_ok-word.ensures.value c.in_ok-branch.ensures.tells);
      same = output_once ks u edge c.in_ok-output.output c.requires.answers c.requires.read c.requires.edge (c.in_ok-output.ensures.tells (word_at u.access edge.state) edge.letter c.in_ok-word.ensures.value);
    }

pub returns : goal.returns
returns c =
    record {
      stepped = c.descend.ensures.stepped (answers_of c.args.cache.now.kept) (read_so c);
      moved = c.descend.ensures.moved;
      crowd = c.descend.ensures.crowd (answers_of c.args.cache.now.kept) (read_so c);
      own = c.descend.ensures.own;
    }
