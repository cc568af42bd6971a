-- One step of a transition, and the split by a cut.
use Rattle.std.proofs.Common.{◌≡◌, ◌≢◌, inr, ℕ, ◌+◌, ◌*◌, ◌<◌, Bool, false, List, [], ◌∷◌, ◌++◌, length, drop, get_or, Some, None, Result, Ok, Err, IsErrAnd, refl, ap, sym, ◌∙◌, subst}
use Rattle.std.specs.List.{All}
use Rattle.std.proofs.lemmas.List.Elements.{All-map}
use Rattle.lw_words.specs.Word.{Answer, AreAnswers, answer_of, answers_of, IsWord}
use Rattle.lw_mealy.specs.Machine.{Rows, next, output}
use Rattle.lw_cache.specs.Cut.{word_at, IsCut}
use Rattle.lw_cache.specs.declared.cut.Cut.{Cut}
use Rattle.lw_cache.specs.Settling.{OracleState, Keeps, Leaves, grown_stop}
use Rattle.lw_cache.specs.declared.stops.AskStop.{AskStop}
use Rattle.lw_cache.specs.declared.stops.GrowStop.{GrowStop}
use Rattle.lw_cache.specs.declared.stops.GrowStop.TheVariants.{Ask, Crowd}
use Rattle.lw_cache.proofs.KnownLemmas.{reads_once}
use Rattle.lw_cache.proofs.SettlingLemmas.{kept_are_answers, leaves_short}
use Rattle.lw_tree.specs.Grown.{HasGrown, IsCrowdOf, TellsCrowd}
use Rattle.lw_tree.specs.Tree.{TreeState, node_at, leaf_at, IsInner, IsTree, IsMachineOf, Tells, Agrees, BranchesAreRead, discriminator, is_inner}
use Rattle.lw_tree.specs.bodies.Nodes.{IsChild}
use Rattle.lw_tree.specs.bodies.Steps.{with_place, IsRead, IsOwn, HasStepped, IsNextSplit, split_tree}
use Rattle.lw_tree.specs.bodies.Transitions.{IsTransition, word_of, place_by, content_by}
use Rattle.lw_tree.specs.declared.nodes.Node.{Node}
use Rattle.lw_tree.specs.declared.nodes.Content.{Content}
use Rattle.lw_tree.specs.declared.nodes.Content.TheVariants.{State, Discriminator, Gone}
use Rattle.lw_tree.specs.declared.transitions.Edge.{Edge}
use Rattle.lw_tree.specs.declared.transitions.Place.{Place}
use Rattle.lw_tree.proofs.BranchLemmas.{split_read}
use Rattle.lw_tree.proofs.CloseLemmas.{handed_stop}
use Rattle.lw_tree.proofs.FieldLemmas.{found_place}
use Rattle.lw_tree.proofs.GrownLemmas.{placed_stepped}
use Rattle.lw_tree.proofs.PlaceLemmas.{inner_open}
use Rattle.lw_tree.proofs.ShapeLemmas.{shape_of}
use Rattle.lw_tree.proofs.WayLemmas.{agrees_below}

-- the content of the node that was read for a transition
pub found_content : (t : TreeState) (g : IsTree t) (edge : Edge) (k : ℕ) (p : Place) (m : Node) → IsTransition t edge → k ≡ edge.state * t.inputs + edge.letter → p ≡ get_or t.places k p → m ≡ node_at t.nodes p.node → m.content ≡ content_by t edge
found_content t g edge k p m from number at read =
    ap (λ (n : Node). n.content) read
    ∙ ap (λ (q : Place). (node_at t.nodes q.node).content) (found_place t g edge k p from number at)

-- a transition that goes to a child
pub child_stepped : (ks : List Answer) (t : TreeState) (edge : Edge) (output : ℕ) (branch : List ℕ) (n : ℕ) → IsTree t → IsTransition t edge → IsInner (content_by t edge) → output < t.outputs
    → IsChild (node_at t.nodes) (place_by t edge).node n × ((node_at t.nodes n).branch ≡ branch) → IsTree (with_place t edge output n) → IsRead ks t edge output branch → HasStepped ks t edge (with_place t edge output n)
child_stepped ks t edge output branch n g from inner below is tree read =
    let child = is.0 in
    let up : (node_at t.nodes n).parent ≡ (place_by t edge).node = child.2 in
    let agrees : Agrees ks (node_at t.nodes) (word_of t edge) n =
    agrees_below t.inputs (node_at t.nodes) (shape_of t g).nodes ks (word_of t edge) n child.0 child.1
    (subst (λ (p : ℕ). Agrees ks (node_at t.nodes) (word_of t edge) p) (sym up) (read.branches.transitions edge.state edge.letter from.0 from.1))
    (subst (λ (p : ℕ). Tells ks (word_of t edge) (discriminator (node_at t.nodes p).content) (node_at t.nodes n).branch) (sym up) (subst (λ (b : List ℕ). Tells ks (word_of t edge) (discriminator (content_by t edge)) b) (sym is.1) read.outs)) in
    placed_stepped ks t edge output n g from (inner_open (node_at t.nodes) (place_by t edge) inner) below child.1 tree read.branches read.out agrees read.same (inr (child.0, child.2))

-- an output that a transition has is what is read
pub output_once : (ks : List Answer) (t : TreeState) (edge : Edge) (output : ℕ) → AreAnswers t.inputs ks → BranchesAreRead ks t → IsTransition t edge → Tells ks (word_at t.access edge.state) (edge.letter ∷ []) (output ∷ []) → (y : ℕ) → (place_by t edge).output ≡ Some y → y ≡ output
output_once ks t edge output are read from told y is =
    let word : List ℕ = word_at t.access edge.state in
    let was = read.outs edge.state edge.letter y from.0 from.1 is in
    let outs = reads_once t.inputs ks (word ++ edge.letter ∷ []) was.0 told.0 are was.1 told.1 in
    ap first_of (was.2 ∙ (ap (drop (length word)) outs ∙ sym told.2))
  where
    first_of : List ℕ → ℕ
    first_of ys = get_or ys 0 0

pub not_inner : (c : Content) → ((word : List ℕ) (temporary : Bool) → c ≡ Discriminator word temporary → ⊥) → is_inner c ≡ false
not_inner (State q) other = refl
not_inner (Discriminator word temporary) other = absurd (other word temporary refl)
not_inner Gone other = refl

-- a crowd of a call whose stop is handed on
pub handed_crowd : {X : Type 0} (ks : List Answer) (t : TreeState) (stop : GrowStop) (result : Result X GrowStop) → TellsCrowd {X = X} ks t (Err stop) → IsErrAnd result (λ e. e ≡ stop) → TellsCrowd {X = X} ks t result
handed_crowd {X} ks t stop result crowd is = subst (λ (r : Result X GrowStop). TellsCrowd {X = X} ks t r) (sym (handed_stop stop result is)) crowd

abbrev told_stop : {X : Type 0} → GrowStop → Result X GrowStop → GrowStop
told_stop d (Ok _) = d
told_stop d (Err stop) = stop

-- a crowd of a stop that is made in place
pub own_crowd : {X : Type 0} (ks : List Answer) (t : TreeState) (stop : GrowStop) → ((words : List (List ℕ)) → stop ≡ Crowd words → IsCrowdOf ks t words) → TellsCrowd {X = X} ks t (Err stop)
own_crowd ks t stop is words same = is words (ap (told_stop stop) same)

-- the answers that an oracle keeps, over a tree's numbers
pub kept_words : (o : OracleState) (a b : ℕ) → a ≡ o.inputs → b ≡ o.outputs → Keeps o → AreAnswers a (answers_of o.kept) × All (λ k. IsWord b k.outs) (answers_of o.kept)
kept_words o a b same_a same_b keeps = (
  kept_are_answers o a same_a keeps,
  subst (λ (n : ℕ). All (λ k. IsWord n k.outs) (answers_of o.kept)) (sym same_b) (All-map (λ k. IsWord o.outputs k.outs) answer_of o.kept keeps.outputs_below),
)

module _ (ks : List Answer) (t : TreeState) (cut : Cut) (old new : List ℕ) (are : AreAnswers t.inputs ks) (cuts : (m : Rows) × IsMachineOf t m × IsCut ks t.inputs m t.access cut) where
  abbrev edge : Edge
  edge = record { state = cut.state; letter = cut.letter }

  pub cut_from : IsTransition t edge
  cut_from = (subst (λ (n : ℕ). cut.state < n) cuts.1.states cuts.2.state, cuts.2.letter)

  pub cut_target : cut.target < length t.access
  cut_target = subst (λ (q : ℕ). q < length t.access) (sym cuts.2.target) (cuts.1.within cut.state cut.letter cut_from.0 cut_from.1)

  module _ (told_old : Tells ks (word_at t.access cut.target) cut.suffix old) (told_new : Tells ks (word_of t edge) cut.suffix new) where
    differ : old ≢ new
    differ same =
        let s = cuts.2.separates in
        let one : told_new.0 ≡ s.one = reads_once t.inputs ks (word_of t edge ++ cut.suffix) told_new.0 s.one are told_new.1 s.one_read in
        let other : told_old.0 ≡ s.other = reads_once t.inputs ks (word_at t.access cut.target ++ cut.suffix) told_old.0 s.other are told_old.1 s.other_read in
        s.differ (ap (drop (length (word_of t edge))) (sym one) ∙ (sym told_new.2 ∙ (sym same ∙ (told_old.2 ∙ ap (drop (length (word_at t.access cut.target))) other))))

    pub cut_splits : length old ≡ length cut.suffix → length new ≡ length cut.suffix → IsNextSplit t edge (output cuts.0 cut.state cut.letter) cut.target cut.suffix old new
    cut_splits old_size new_size =
        record {
          from = cut_from;
          target = cut_target;
          there = cuts.1.targets cut.state cut.letter cut_from.0 cut_from.1 ∙ ap (leaf_at t.leaves) (sym cuts.2.target);
          known = cuts.1.outs cut.state cut.letter cut_from.0 cut_from.1;
          letters = cuts.2.suffix;
          some = cuts.2.some;
          old_size = old_size;
          new_size = new_size;
          differ = differ;
          other = λ same.
              let told : Tells ks (word_at t.access cut.target) cut.suffix new = subst (λ (w : List ℕ). Tells ks w cut.suffix new) same told_new in
              let outs : told.0 ≡ told_old.0 = reads_once t.inputs ks (word_at t.access cut.target ++ cut.suffix) told.0 told_old.0 are told.1 told_old.1 in
              differ (told_old.2 ∙ (ap (drop (length (word_at t.access cut.target))) (sym outs) ∙ sym told.2));
        }

-- a tree that was split has grown
pub split_grown : (ks : List Answer) (t : TreeState) (edge : Edge) (output q : ℕ) (suffix old new : List ℕ) → IsTree t → IsNextSplit t edge output q suffix old new → IsTree (split_tree t edge output q suffix old new) → BranchesAreRead ks t → Tells ks (word_at t.access q) suffix old → Tells ks (word_of t edge) suffix new → HasGrown ks t (split_tree t edge output q suffix old new)
split_grown ks t edge output q suffix old new g next tree read told_old told_new =
    record { inputs = refl; outputs = refl; most = refl; more = word_of t edge ∷ []; access = refl; tree = tree; read = split_read ks t edge output q suffix old new (shape_of t g) next read told_old told_new }

-- an oracle after a call that stopped by itself
pub leaves_after : {X : Type 0} (before now : OracleState) (stop : GrowStop) (result : Result X GrowStop) → Leaves before now None → IsOwn stop → IsErrAnd result (λ e. e ≡ stop) → Leaves before now (grown_stop result)
leaves_after {X} before now stop result leaves own is = subst (λ (r : Result X GrowStop). Leaves before now (grown_stop r)) (sym (handed_stop stop result is)) (of stop own)
  where
    of : (s : GrowStop) → IsOwn s → Leaves before now (grown_stop {X = X} (Err s))
    of (Ask a) same = subst (λ (b : AskStop). Leaves before now (Some b)) (sym same) (leaves_short before now leaves)
    of (Crowd words) same = leaves
