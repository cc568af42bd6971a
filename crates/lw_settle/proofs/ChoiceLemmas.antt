-- The word that takes the place of a block's root.
use Rattle.std.proofs.Common.{◌≡◌, ◌≢◌, ◌⊎◌, inl, inr, ⊎_elim, ℕ, zero, suc, ◌<◌, ◌≤◌, true, false, List, [], ◌∷◌, ◌++◌, length, drop, get_or, Contains, refl, ap, sym, ◌∙◌, subst, arith, append_assoc}
use Rattle.std.specs.List.{All}
use Rattle.std.proofs.lemmas.Bool.{cases_eq, cases_lt}
use Rattle.std.proofs.lemmas.List.{length-append, drop-drop}
use Rattle.std.proofs.lemmas.List.Elements.{All-cons, All-nil, All-contains, All-from_get_or, Contains-get_or}
use Rattle.lw_words.specs.Word.{Answer}
use Rattle.lw_mealy.specs.Machine.{Rows, next, output}
use Rattle.lw_cache.specs.Crowd.{Separates}
use Rattle.lw_cache.specs.Cut.{word_at}
use Rattle.lw_cache.specs.Known.{Reads}
use Rattle.lw_tree.specs.Blocks.{IsMember, IsBlock, AreOfOneClass, AreTold}
use Rattle.lw_tree.specs.Tree.{TreeState, node_at, leaf_at, discriminator, IsLive, IsFinal, IsInner, IsTree, IsOnWay, IsAbove, Tells, Agrees, IsClosed, IsMachineOf, BranchesAreRead}
use Rattle.lw_tree.specs.bodies.Sprouts.{AreBranched}
use Rattle.lw_tree.specs.declared.nodes.Node.{Node}
use Rattle.lw_tree.specs.declared.nodes.Content.{Content}
use Rattle.lw_tree.specs.declared.nodes.Content.TheVariants.{State, Discriminator, Gone}
use Rattle.lw_tree.proofs.ClassLemmas.{above_up, above_here, above_down, above_live, root_below, some_root}
use Rattle.lw_tree.proofs.MachineLemmas.{has_machine}
use Rattle.lw_tree.proofs.NodeLemmas.{final_is_inner}
use Rattle.lw_tree.proofs.ShapeLemmas.{shape_of, leaf_live}
use Rattle.lw_tree.proofs.WayLemmas.{joined, live_parent}
use Rattle.lw_settle.specs.bodies.Parting.{number_at, AreRoots, AreLeast, AreAllAlike, IsParting, IsPartingOf, AreMembers, IsForkOf, IsChosen, NothingIsParted}
use Rattle.lw_settle.specs.declared.parting.Parting.{Parting}
use Rattle.lw_settle.proofs.PartingLemmas.{all_below, class_once, block_of_two}

-- words after which different outputs are told are separated
separate : (ks : List Answer) (suffix u v one other : List ℕ) → Tells ks u suffix one → Tells ks v suffix other → one ≢ other → Separates ks suffix u v
separate ks suffix u v one other told_one told_other differ =
    record { one = told_one.0; other = told_other.0; one_read = told_one.1; other_read = told_other.1; differ = λ e. differ (told_one.2 ∙ (e ∙ sym told_other.2)) }

-- so are they by the letter and the suffix, where they are so after the letter
later : (u : List ℕ) (x : ℕ) (o : List ℕ) → drop (length (u ++ x ∷ [])) o ≡ drop 1 (drop (length u) o)
later u x o = ap (λ (n : ℕ). drop n o) (length-append u (x ∷ [])) ∙ sym (drop-drop 1 (length u) o)

separate_later : (ks : List Answer) (x : ℕ) (suffix u v one other : List ℕ) → Tells ks (u ++ x ∷ []) suffix one → Tells ks (v ++ x ∷ []) suffix other → one ≢ other → Separates ks (x ∷ suffix) u v
separate_later ks x suffix u v one other told_one told_other differ =
    record {
      one = told_one.0;
      other = told_other.0;
      one_read = subst (λ (w : List ℕ). Reads ks w told_one.0) (append_assoc u (x ∷ []) suffix) told_one.1;
      other_read = subst (λ (w : List ℕ). Reads ks w told_other.0) (append_assoc v (x ∷ []) suffix) told_other.1;
      differ = λ e. differ (told_one.2 ∙ (later u x told_one.0 ∙ (ap (drop 1) e ∙ (sym (later v x told_other.0) ∙ sym told_other.2))));
    }

final_or_not : (c : Content) → IsFinal c ⊎ (IsFinal c → ⊥)
final_or_not (State q) = inr (λ is. is)
final_or_not (Discriminator word true) = inr (λ is. is)
final_or_not (Discriminator word false) = inl tt
final_or_not Gone = inr (λ is. is)

-- a child of one node, on the way to another one
record IsToward (node : ℕ → Node) (m n c : ℕ) : Type 0 where
  some : 0 < c
  live : IsLive (node c).content
  parent : (node c).parent ≡ m
  above : IsAbove node c n

module _ (a : ℕ) (node : ℕ → Node) (g : AreBranched a node) where
  toward_below : (bound m n : ℕ) → n < bound → IsLive (node n).content → IsAbove node m n → m ≢ n → (c : ℕ) × IsToward node m n c
  toward_below zero m n lt live above differ = absurd (omega (arith, lt))
  toward_below (suc bound) m zero lt live above differ =
      ⊎_elim
      (λ (root : m ≡ 0). absurd (differ root))
      (λ (on : IsOnWay node m 0). elim on [ ])
      above
  toward_below (suc bound) m (suc n) lt live above differ =
      let some : 0 < suc n = omega arith in
      let lower = (g.branches (suc n) some live).lower in
      let live_up = live_parent a node g (suc n) some live in
      ⊎_elim
      (λ (here : m ≡ suc n). absurd (differ here))
      (λ (up : IsAbove node m (node (suc n)).parent). ⊎_elim
      (λ (same : m ≡ (node (suc n)).parent). (suc n, record { some = some; live = live; parent = sym same; above = above_here a node g (suc n) }))
      (λ (other : m ≢ (node (suc n)).parent).
      let r = toward_below bound m (node (suc n)).parent (omega (arith, lower, lt)) live_up up other in
      (r.0, record { some = r.1.some; live = r.1.live; parent = r.1.parent; above = above_down a node g r.0 (suc n) some live r.1.above }))
      (cases_eq m (node (suc n)).parent))
      (above_up a node g m (suc n) some live above)

  toward : (m n : ℕ) → IsLive (node n).content → IsAbove node m n → m ≢ n → (c : ℕ) × IsToward node m n c
  toward m n live above differ = toward_below (suc n) m n (omega arith) live above differ

  -- different children have different branches
  branches_differ : (m k n b c : ℕ) → IsToward node m k b → IsToward node m n c → b ≢ c → (node b).branch ≢ (node c).branch
  branches_differ m k n b c one other differ same =
      ⊎_elim
      (λ (lt : b < c). g.apart b c one.some lt one.live other.live (one.parent ∙ sym other.parent) same)
      (λ (ge : c ≤ b). ⊎_elim
      (λ (lt : c < b). g.apart c b other.some lt other.live one.live (other.parent ∙ sym one.parent) (sym same))
      (λ (le : b ≤ c). differ (omega (arith, ge, le)))
      (cases_lt c b))
      (cases_lt b c)

-- two of the targets that are below different children of the fork
record IsSpread (t : TreeState) (m : Rows) (states : List ℕ) (x n : ℕ) : Type 0 where
  one : ℕ
  other : ℕ
  in_one : Contains states one
  in_other : Contains states other
  left : ℕ
  right : ℕ
  to_one : IsToward (node_at t.nodes) n (leaf_at t.leaves (next m one x)) left
  to_other : IsToward (node_at t.nodes) n (leaf_at t.leaves (next m other x)) right
  differ : left ≢ right

module _ (t : TreeState) (m : Rows) (g : IsTree t) (is : IsMachineOf t m) (members : List ℕ) (x n : ℕ) (small : x < t.inputs) (inside : All (λ q. q < length t.access) members) (fork : IsForkOf t m members x n) (final : IsFinal (node_at t.nodes n).content) where
  abbrev node : ℕ → Node
  node = node_at t.nodes

  abbrev ways : AreBranched t.inputs node
  ways = joined t.inputs node g.nodes

  target : (q : ℕ) → Contains members q → next m q x < length t.access
  target q has = is.within q x (All-contains (λ p. p < length t.access) members q inside has) small

  abbrev leaf : ℕ → ℕ
  leaf q = leaf_at t.leaves (next m q x)

  step_down : (q : ℕ) → Contains members q → (c : ℕ) × IsToward node n (leaf q) c
  step_down q has =
      let lt = target q has in
      let content = g.leaves.leaves (next m q x) lt in
      toward t.inputs node ways n (leaf q) (leaf_live t (shape_of t g) (next m q x) lt) (All-contains (λ p. IsAbove node n (leaf p)) members q fork.above has)
      (λ same. subst IsFinal (ap (λ (k : ℕ). (node k).content) same ∙ content) final)

  spread : (one : ℕ) → Contains members one → IsSpread t m members x n
  spread one has =
      let first = step_down one has in
      ⊎_elim
      (λ (found : IsSpread t m members x n). found)
      (λ (all : (i : ℕ) → i < length members → IsAbove node first.0 (leaf (get_or members i 0))).
      let over : IsAbove node first.0 n = fork.lowest first.0 (All-from_get_or (λ q. IsAbove node first.0 (leaf q)) members 0 all) in
      let low = (above_live t.inputs node ways first.0 n (above_live t.inputs node ways n (leaf one) (leaf_live t (shape_of t g) (next m one x) (target one has)) (All-contains (λ p. IsAbove node n (leaf p)) members one fork.above has)).0 over).1 in
      let lower = (ways.branches first.0 first.1.some first.1.live).lower in
      let up = first.1.parent in
      absurd (omega (arith, low, lower, up)))
      (all_below (length members) (IsSpread t m members x n) (λ i. IsAbove node first.0 (leaf (get_or members i 0))) (λ i lt.
      let q : ℕ = get_or members i 0 in
      let is_in : Contains members q = Contains-get_or members i 0 lt in
      let second = step_down q is_in in
      ⊎_elim
      (λ (same : first.0 ≡ second.0). inr (subst (λ (c : ℕ). IsAbove node c (leaf q)) (sym same) second.1.above))
      (λ (differ : first.0 ≢ second.0). inl (record { one = one; other = q; in_one = has; in_other = is_in; left = first.0; right = second.0; to_one = first.1; to_other = second.1; differ = differ }))
      (cases_eq first.0 second.0)))

  on_way : (c q : ℕ) → IsToward node n (leaf q) c → IsOnWay node c (leaf q)
  on_way c q to =
      ⊎_elim
      (λ (root : c ≡ 0). let some = to.some in absurd (omega (arith, root, some)))
      (λ (on : IsOnWay node c (leaf q)). on)
      to.above

  told_below : (ks : List Answer) (q c : ℕ) → BranchesAreRead ks t → Contains members q → IsToward node n (leaf q) c → Tells ks (word_at t.access q ++ x ∷ []) (discriminator (node n).content) (node c).branch
  told_below ks q c read has to =
      let lt = All-contains (λ p. p < length t.access) members q inside has in
      let agrees : Agrees ks node (word_at t.access q ++ x ∷ []) (leaf q) = subst (Agrees ks node (word_at t.access q ++ x ∷ [])) (is.targets q x lt small) (read.transitions q x lt small) in
      subst (λ (p : ℕ). Tells ks (word_at t.access q ++ x ∷ []) (discriminator (node p).content) (node c).branch) to.parent (agrees c (on_way c q to))

  -- two of the states are told apart by the letter and the fork's discriminator
  pub fork_tells : (one r : ℕ) → Contains members one → AreMembers t r members → (ks : List Answer) → BranchesAreRead ks t → AreTold ks t r (x ∷ discriminator (node n).content)
  fork_tells one r has are ks read =
      let s = spread one has in
      record {
        one = s.one;
        other = s.other;
        one_member = All-contains (IsMember t r) members s.one are.all s.in_one;
        other_member = All-contains (IsMember t r) members s.other are.all s.in_other;
        differ = separate_later ks x (discriminator (node n).content) (word_at t.access s.one) (word_at t.access s.other) (node s.left).branch (node s.right).branch
            (told_below ks s.one s.left read s.in_one s.to_one) (told_below ks s.other s.right read s.in_other s.to_other)
            (branches_differ t.inputs node ways n (leaf s.one) (leaf s.other) s.left s.right s.to_one s.to_other s.differ);
      }

module _ (t : TreeState) (g : IsTree t) (closed : IsClosed t) (members : List ℕ) (parting : Parting) (is : IsPartingOf t members parting) where
  abbrev at_node : ℕ → Node
  at_node = node_at t.nodes

  abbrev x : ℕ
  x = parting.letter

  inside : (r : ℕ) → AreMembers t r members → All (λ q. q < length t.access) members
  inside r are = λ i d lt. (are.all i d lt).0

  -- where two of the states answer the letter differently, that is the word
  pub letter_chosen : (q r : ℕ) (word : List ℕ) → word ≡ x ∷ [] → Contains members q → ((m : Rows) → IsMachineOf t m → output m parting.one x ≢ output m q x) → AreMembers t r members → IsChosen t r word
  letter_chosen q r word at has differ are =
      let m = has_machine t g closed in
      let one_lt = All-contains (λ p. p < length t.access) members parting.one (inside r are) is.one in
      let lt = All-contains (λ p. p < length t.access) members q (inside r are) has in
      subst (IsChosen t r) (sym at)
      (record {
        letters = All-cons (λ y. y < t.inputs) x [] is.small (All-nil (λ y. y < t.inputs));
        tail = (x, inl refl);
        told = λ ks read. record {
          one = parting.one;
          other = q;
          one_member = All-contains (IsMember t r) members parting.one are.all is.one;
          other_member = All-contains (IsMember t r) members q are.all has;
          differ = separate ks (x ∷ []) (word_at t.access parting.one) (word_at t.access q) (output m.0 parting.one x ∷ []) (output m.0 q x ∷ [])
              (read.outs parting.one x (output m.0 parting.one x) one_lt is.small (m.1.outs parting.one x one_lt is.small))
              (read.outs q x (output m.0 q x) lt is.small (m.1.outs q x lt is.small))
              (λ e. differ m.0 m.1 (ap head_of e));
        };
      })
    where
      head_of : List ℕ → ℕ
      head_of [] = 0
      head_of (y ∷ ys) = y

  -- where they answer it in the same way, their targets aren't of one class
  apart : (m : Rows) → IsMachineOf t m → All (λ q. output m parting.one x ≡ output m q x) members → AreOfOneClass t (next m parting.one x) (next m parting.other x) → ⊥
  apart m of same one =
      ⊎_elim
      (λ (differ : output m parting.one x ≢ output m parting.other x). differ (All-contains (λ q. output m parting.one x ≡ output m q x) members parting.other same is.other))
      (λ (other : AreOfOneClass t (next m parting.one x) (next m parting.other x) → ⊥). other one)
      (is.parts m of)

  -- so the fork of the targets is final
  pub fork_final : (m : Rows) (r n : ℕ) → IsMachineOf t m → AreMembers t r members → All (λ q. output m parting.one x ≡ output m q x) members → IsForkOf t m members x n → IsLive (at_node n).content → IsFinal (at_node n).content
  fork_final m r n of are same fork live =
      ⊎_elim
      (λ (final : IsFinal (at_node n).content). final)
      (λ (lower : IsFinal (at_node n).content → ⊥).
      let root = some_root t.inputs at_node (joined t.inputs at_node g.nodes) n live lower in
      let member : (q : ℕ) → Contains members q → IsMember t root.0 (next m q x) = λ q has.
      let lt = of.within q x (All-contains (λ p. p < length t.access) members q (inside r are) has) is.small in (
        lt,
        root_below t.inputs at_node (joined t.inputs at_node g.nodes) root.0 n (leaf_at t.leaves (next m q x)) (leaf_live t (shape_of t g) (next m q x) lt)
            (All-contains (λ p. IsAbove at_node n (leaf_at t.leaves (next m p x))) members q fork.above has) root.1,
      ) in
      absurd (apart m of same (root.0, member parting.one is.one, member parting.other is.other)))
      (final_or_not (at_node n).content)

  pub fork_inner : (r n : ℕ) → AreMembers t r members → ((m : Rows) → IsMachineOf t m → All (λ q. output m parting.one x ≡ output m q x) members) → ((m : Rows) → IsMachineOf t m → IsForkOf t m members x n) → IsLive (at_node n).content → IsInner (at_node n).content
  fork_inner r n are same fork live =
      let m = has_machine t g closed in
      final_is_inner (at_node n).content (fork_final m.0 r n m.1 are (same m.0 m.1) (fork m.0 m.1) live)

  -- and the word is the letter and its discriminator
  pub fork_chosen : (r n : ℕ) (word : List ℕ) → word ≡ x ∷ discriminator (at_node n).content → ((m : Rows) → IsMachineOf t m → All (λ q. output m parting.one x ≡ output m q x) members) → ((m : Rows) → IsMachineOf t m → IsForkOf t m members x n) → IsLive (at_node n).content → AreMembers t r members → IsChosen t r word
  fork_chosen r n word at same fork live are =
      let m = has_machine t g closed in
      let final = fork_final m.0 r n m.1 are (same m.0 m.1) (fork m.0 m.1) live in
      subst (IsChosen t r) (sym at)
      (record {
        letters = All-cons (λ y. y < t.inputs) x (discriminator (at_node n).content) is.small (g.nodes.words n (final_is_inner (at_node n).content final)).0;
        tail = (x, inr (n, final, refl));
        told = fork_tells t m.0 g m.1 members x n is.small (inside r are) (fork m.0 m.1) final parting.one r is.one are;
      })

-- two states of a class, by its root and its states
module _ (t : TreeState) (g : IsTree t) (roots : List ℕ) (are : AreRoots t roots) where
  pub parting_of : (members : List ℕ) (parting : Parting) → IsParting t roots parting → AreMembers t (number_at roots parting.one) members → IsPartingOf t members parting
  parting_of members parting is of =
      record {
        one = of.each parting.one (are.members parting.one is.one);
        other = of.each parting.other (subst (λ (r : ℕ). IsMember t r parting.other) (sym is.same) (are.members parting.other is.other));
        small = is.small;
        parts = λ m machine. ⊎_elim
            (λ (differ : output m parting.one parting.letter ≢ output m parting.other parting.letter). inl differ)
            (λ (other : number_at roots (next m parting.one parting.letter) ≢ number_at roots (next m parting.other parting.letter)).
            inr (λ both. other (class_once t g (number_at roots (next m parting.one parting.letter)) both.0 (next m parting.one parting.letter) (are.members (next m parting.one parting.letter) both.1.0) both.1
            ∙ class_once t g both.0 (number_at roots (next m parting.other parting.letter)) (next m parting.other parting.letter) both.2 (are.members (next m parting.other parting.letter) both.2.0))))
            (is.parts m machine);
      }

  pub parting_block : (parting : Parting) → IsClosed t → IsParting t roots parting → IsBlock t (number_at roots parting.one)
  parting_block parting closed is =
      let m = has_machine t g closed in
      block_of_two t g (number_at roots parting.one) parting.one parting.other (are.members parting.one is.one)
      (subst (λ (r : ℕ). IsMember t r parting.other) (sym is.same) (are.members parting.other is.other))
      (λ same. ⊎_elim
      (λ (differ : output m.0 parting.one parting.letter ≢ output m.0 parting.other parting.letter). differ (ap (λ (q : ℕ). output m.0 q parting.letter) same))
      (λ (other : number_at roots (next m.0 parting.one parting.letter) ≢ number_at roots (next m.0 parting.other parting.letter)). other (ap (λ (q : ℕ). number_at roots (next m.0 q parting.letter)) same))
      (is.parts m.0 m.1))

  -- where each state is like the least one of its class, no letter parts a block
  pub nothing_parted : (least : List ℕ) → AreLeast roots least → ((q : ℕ) → q < length t.access → AreAllAlike t roots (number_at least q) q) → NothingIsParted t
  nothing_parted least first alike m machine r x p =
      let root_of : (q : ℕ) → IsMember t r q → number_at roots q ≡ r = λ q is. class_once t g (number_at roots q) r q (are.members q is.0) is in
      let low : (q : ℕ) → IsMember t r q → q < length roots = λ q is. subst (λ (n : ℕ). q < n) (sym are.each) is.0 in
      let same : number_at least p.one ≡ number_at least p.other = first.once p.one p.other (low p.one p.one_member) (low p.other p.other_member) (root_of p.one p.one_member ∙ sym (root_of p.other p.other_member)) in
      let one = alike p.one p.one_member.0 m machine x p.small in
      let other = subst (λ (q : ℕ). (output m q x ≡ output m p.other x) × (number_at roots (next m q x) ≡ number_at roots (next m p.other x))) (sym same) (alike p.other p.other_member.0 m machine x p.small) in
      ⊎_elim
      (λ (differ : output m p.one x ≢ output m p.other x). differ (sym one.0 ∙ other.0))
      (λ (off : AreOfOneClass t (next m p.one x) (next m p.other x) → ⊥).
      let lone = machine.within p.one x p.one_member.0 p.small in
      let lother = machine.within p.other x p.other_member.0 p.small in
      off (number_at roots (next m p.one x), are.members (next m p.one x) lone, subst (λ (k : ℕ). IsMember t k (next m p.other x)) (sym (sym one.1 ∙ other.1)) (are.members (next m p.other x) lother)))
      p.parts
