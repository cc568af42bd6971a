-- While a node is temporary, some letter parts some block.
use Rattle.std.proofs.Common.{◌≡◌, ◌≢◌, ◌⊎◌, inl, inr, ⊎_elim, ℕ, zero, suc, ◌+◌, ◌<◌, ◌≤◌, Bool, true, false, true≢false, if◌then◌else◌, List, [], ◌∷◌, ◌++◌, length, drop, refl, ap, ap₂, sym, ◌∙◌, subst, arith}
use Rattle.std.proofs.Math.Seq.{drop-append_seam}
use Rattle.std.proofs.lemmas.Bool.{cases_lt, cases_eq}
use Rattle.std.proofs.lemmas.List.Elements.{All-head, All-tail}
use Rattle.lw_words.specs.Word.{Answer, IsWord}
use Rattle.lw_mealy.specs.Machine.{Gives, Rows, next, output, after, out}
use Rattle.lw_mealy.proofs.WordLemmas.{length-out, out-append}
use Rattle.lw_cache.specs.Cut.{word_at}
use Rattle.lw_cache.proofs.CrowdLemmas.{reads_given}
use Rattle.lw_tree.specs.Blocks.{IsMember, AreOfOneClass, IsBlock}
use Rattle.lw_tree.specs.Tree.{TreeState, node_at, leaf_at, temporaries, is_temporary, discriminator, IsLive, IsInner, IsFinal, HasTwo, IsTree, IsOnWay, IsAbove, Tells, BranchesAreRead, IsMachineOf}
use Rattle.lw_tree.specs.declared.nodes.Node.{Node}
use Rattle.lw_tree.specs.declared.nodes.Content.{Content}
use Rattle.lw_tree.specs.declared.nodes.Content.TheVariants.{State, Discriminator, Gone}
use Rattle.lw_settle.specs.Settling.{IsParted, SomeBlockIsParted}
use Rattle.lw_tree.proofs.ClassLemmas.{temporary_not_final, temporary_is_inner, state_not_final, above_here, above_down, above_trans, above_state, root_once, root_below, some_root}
use Rattle.lw_tree.proofs.MachineLemmas.{leads}
use Rattle.lw_tree.proofs.NodeLemmas.{live_within}
use Rattle.lw_tree.proofs.ShapeLemmas.{shape_of, leaves_once, leaf_live}
use Rattle.lw_tree.proofs.WayLemmas.{joined, inner_is_live}

-- for each number below a bound a property, or else a fact
pub all_below : (n : ℕ) (F : Type 0) (P : ℕ → Type 0) → ((k : ℕ) → k < n → F ⊎ P k) → F ⊎ ((k : ℕ) → k < n → P k)
all_below zero F P decide = inr (λ k lt. absurd (omega (arith, lt)))
all_below (suc n) F P decide =
    ⊎_elim
    (λ (f : F). inl f)
    (λ (before : (k : ℕ) → k < n → P k). ⊎_elim
    (λ (f : F). inl f)
    (λ (here : P n). inr (λ k lt. ⊎_elim
    (λ (low : k < n). before k low)
    (λ (high : n ≤ k). let at : n ≡ k = omega (arith, lt, high) in subst P at here)
    (cases_lt k n)))
    (decide n (omega arith)))
    (all_below n F P (λ k lt. decide k (omega (arith, lt))))

abbrev one_if : Bool → ℕ
one_if b = if b then 1 else 0

-- where the nodes are counted, there is one
pub some_temporary : (nodes : List Node) → 0 < temporaries nodes → (n : ℕ) × (is_temporary (node_at nodes n).content ≡ true)
some_temporary [] some = absurd (omega (arith, some))
some_temporary (m ∷ nodes) some =
    of (is_temporary m.content) refl (λ e. let none : one_if (is_temporary m.content) ≡ 0 = ap one_if e in some_temporary nodes (omega (arith, some, none)))
  where
    of : (b : Bool) → is_temporary m.content ≡ b → (is_temporary m.content ≡ false → (n : ℕ) × (is_temporary (node_at nodes n).content ≡ true)) → (n : ℕ) × (is_temporary (node_at (m ∷ nodes) n).content ≡ true)
    of true e rest = (0, e)
    of false e rest = let r = rest e in (suc r.0, r.1)

pub temporary_counts : (nodes : List Node) (n : ℕ) → is_temporary (node_at nodes n).content ≡ true → 0 < temporaries nodes
temporary_counts [] zero is = absurd (true≢false (sym is))
temporary_counts [] (suc n) is = absurd (true≢false (sym is))
temporary_counts (m ∷ nodes) zero is =
    let one : one_if (is_temporary m.content) ≡ 1 = ap one_if is in
    omega (arith, one)
temporary_counts (m ∷ nodes) (suc n) is = let rest = temporary_counts nodes n is in omega (arith, rest)

-- a machine that gives the answers gives what is read of a state's access word and a suffix
pub told_out : (m : Rows) (ks : List Answer) (u suffix outs : List ℕ) (q : ℕ) → Gives m ks → after m 0 u ≡ q → Tells ks u suffix outs → outs ≡ out m q suffix
told_out m ks u suffix outs q gives lead told =
    let o : List ℕ = told.0 in
    let whole : o ≡ out m 0 u ++ out m q suffix = reads_given m ks (u ++ suffix) o gives told.1 ∙ (out-append m 0 u suffix ∙ ap (λ (s : ℕ). out m 0 u ++ out m s suffix) lead) in
    told.2 ∙ (ap (drop (length u)) whole ∙ (ap (λ (n : ℕ). drop n (out m 0 u ++ out m q suffix)) (sym (length-out m 0 u)) ∙ drop-append_seam (out m 0 u) (out m q suffix)))

module _ (t : TreeState) (g : IsTree t) where
  abbrev node : ℕ → Node
  node = node_at t.nodes

  abbrev count : ℕ
  count = length t.access

  live : (q : ℕ) → q < count → IsLive (node (leaf_at t.leaves q)).content
  live q lt = leaf_live t (shape_of t g) q lt

  -- each state is of one class
  pub some_class : (q : ℕ) → q < count → (r : ℕ) × IsMember t r q
  some_class q lt =
      let leaf : ℕ = leaf_at t.leaves q in
      let r = some_root t.inputs node (joined t.inputs node g.nodes) leaf (live q lt) (state_not_final (node leaf).content q (g.leaves.leaves q lt)) in
      (r.0, (lt, r.1))

  pub class_once : (r s q : ℕ) → IsMember t r q → IsMember t s q → r ≡ s
  class_once r s q one two = root_once t.inputs node (joined t.inputs node g.nodes) r s (leaf_at t.leaves q) (live q one.0) one.1 two.1

  pub one_class : (p q : ℕ) → p < count → q < count → AreOfOneClass t p q ⊎ (AreOfOneClass t p q → ⊥)
  one_class p q lp lq =
      let r = some_class p lp in
      let s = some_class q lq in
      ⊎_elim
      (λ (same : r.0 ≡ s.0). inl (r.0, r.1, subst (λ (k : ℕ). IsMember t k q) (sym same) s.1))
      (λ (other : r.0 ≢ s.0). inr (λ both. other (class_once r.0 both.0 p r.1 both.1 ∙ class_once both.0 s.0 q both.2 s.1)))
      (cases_eq r.0 s.0)

  temporary_of : (c : Content) → IsLive c → (IsFinal c → ⊥) → ((q : ℕ) → c ≡ State q → ⊥) → is_temporary c ≡ true
  temporary_of (State q) is lower no_leaf = absurd (no_leaf q refl)
  temporary_of (Discriminator word true) is lower no_leaf = refl
  temporary_of (Discriminator word false) is lower no_leaf = absurd (lower tt)
  temporary_of Gone is lower no_leaf = elim is [ ]

  -- a class of two states is a block
  pub block_of_two : (r p q : ℕ) → IsMember t r p → IsMember t r q → p ≢ q → IsBlock t r
  block_of_two r p q one two differ = record {
    temporary = temporary_of (node r).content one.1.live one.1.lower (λ s leaf.
        differ (leaves_once t (shape_of t g) p q one.0 two.0
        (sym (above_state t.inputs node (joined t.inputs node g.nodes) s r (leaf_at t.leaves p) leaf (live p one.0) one.1.above) ∙ above_state t.inputs node (joined t.inputs node g.nodes) s r (leaf_at t.leaves q) leaf (live q two.0) two.1.above)));
    highest = one.1.highest;
  }

  leaf_within : (fuel n : ℕ) → length t.nodes < n + fuel → IsLive (node n).content → (q : ℕ) × (q < count) × IsAbove node n (leaf_at t.leaves q)
  leaf_within zero n short is = let low = live_within t.nodes n is in absurd (omega (arith, low, short))
  leaf_within (suc fuel) n short is =
      of (node n).content refl (λ c live_c up lt. leaf_within fuel c (omega (arith, lt, up, short)) live_c)
    where
      of : (c : Content) → (node n).content ≡ c → ((c : ℕ) → IsLive (node c).content → (node c).parent ≡ n → (node c).parent < c → (q : ℕ) × (q < count) × IsAbove node c (leaf_at t.leaves q)) → (q : ℕ) × (q < count) × IsAbove node n (leaf_at t.leaves q)
      of (State q) e down =
          let at = g.leaves.states n q e in
          (q, at.0, subst (IsAbove node n) (sym at.1) (above_here t.inputs node (joined t.inputs node g.nodes) n))
      of (Discriminator word temporary) e down =
          let two : HasTwo node n = g.nodes.two n (subst IsInner (sym e) tt) in
          let rest = down two.one two.one_live two.one_parent (g.nodes.branches two.one two.below two.one_live).lower in
          let here : IsAbove node n two.one = above_down t.inputs node (joined t.inputs node g.nodes) n two.one two.below two.one_live (subst (IsAbove node n) (sym two.one_parent) (above_here t.inputs node (joined t.inputs node g.nodes) n)) in
          (rest.0, rest.1, above_trans t.inputs node (joined t.inputs node g.nodes) n two.one (leaf_at t.leaves rest.0) (live rest.0 rest.1) here rest.2)
      of Gone e down = elim (subst IsLive e is) [ ]

  -- below each node stands the leaf of a state
  pub some_leaf : (n : ℕ) → IsLive (node n).content → (q : ℕ) × (q < count) × IsAbove node n (leaf_at t.leaves q)
  some_leaf n is = leaf_within (suc (length t.nodes)) n (omega arith) is

module _ (t : TreeState) (m : Rows) (g : IsTree t) (is : IsMachineOf t m) where
  abbrev Alike : ℕ → ℕ → ℕ → Type 0
  Alike p q x = AreOfOneClass t p q → (output m p x ≡ output m q x) × AreOfOneClass t (next m p x) (next m q x)

  abbrev Found : Type 0
  Found = (r letter : ℕ) × IsParted t m r letter

  pub decide : (p q x : ℕ) → p < length t.access → q < length t.access → x < t.inputs → Found ⊎ Alike p q x
  decide p q x lp lq lx =
      ⊎_elim
      (λ (one : AreOfOneClass t p q).
      let found : p ≢ q → (output m p x ≢ output m q x) ⊎ (AreOfOneClass t (next m p x) (next m q x) → ⊥) → Found = λ differ parts.
      (one.0, x, record { block = block_of_two t g one.0 p q one.1 one.2 differ; small = lx; one = p; other = q; one_member = one.1; other_member = one.2; parts = parts }) in
      ⊎_elim
      (λ (same : output m p x ≡ output m q x). ⊎_elim
      (λ (on : AreOfOneClass t (next m p x) (next m q x)). inr (λ both. (same, on)))
      (λ (off : AreOfOneClass t (next m p x) (next m q x) → ⊥).
      let self = some_class t g (next m p x) (is.within p x lp lx) in
      inl (found (λ e. off (self.0, self.1, subst (λ (k : ℕ). IsMember t self.0 (next m k x)) e self.1)) (inr off)))
      (one_class t g (next m p x) (next m q x) (is.within p x lp lx) (is.within q x lq lx)))
      (λ (differ : output m p x ≢ output m q x). inl (found (λ e. differ (ap (λ (k : ℕ). output m k x) e)) (inl differ)))
      (cases_eq (output m p x) (output m q x)))
      (λ (other : AreOfOneClass t p q → ⊥). inr (λ both. absurd (other both)))
      (one_class t g p q lp lq)

  -- where no letter parts a block, the states of a class have the same outputs on each word
  pub same_outs : ((p q x : ℕ) → p < length t.access → q < length t.access → x < t.inputs → Alike p q x) → (w : List ℕ) (p q : ℕ) → IsWord t.inputs w → AreOfOneClass t p q → out m p w ≡ out m q w
  same_outs alike [] p q letters one = refl
  same_outs alike (x ∷ w) p q letters one =
      let here = alike p q x one.1.0 one.2.0 (All-head (λ y. y < t.inputs) x w letters) one in
      ap₂ (λ (y : ℕ) (o : List ℕ). y ∷ o) here.0 (same_outs alike w (next m p x) (next m q x) (All-tail (λ y. y < t.inputs) x w letters) here.1)

module _ (ks : List Answer) (t : TreeState) (m : Rows) (g : IsTree t) (read : BranchesAreRead ks t) (is : IsMachineOf t m) (gives : Gives m ks) where
  on_way : (c q : ℕ) → 0 < c → IsAbove (node_at t.nodes) c (leaf_at t.leaves q) → IsOnWay (node_at t.nodes) c (leaf_at t.leaves q)
  on_way c q some above =
      ⊎_elim
      (λ (root : c ≡ 0). absurd (omega (arith, root, some)))
      (λ (on : IsOnWay (node_at t.nodes) c (leaf_at t.leaves q)). on)
      above

  -- the branch to a child above a state's leaf is what the machine answers there
  branch_out : (n c q : ℕ) → q < length t.access → 0 < c → (node_at t.nodes c).parent ≡ n → IsAbove (node_at t.nodes) c (leaf_at t.leaves q) → (node_at t.nodes c).branch ≡ out m q (discriminator (node_at t.nodes n).content)
  branch_out n c q lt some up above =
      told_out m ks (word_at t.access q) (discriminator (node_at t.nodes n).content) (node_at t.nodes c).branch q gives (leads t m g is q lt)
      (subst (λ (p : ℕ). Tells ks (word_at t.access q) (discriminator (node_at t.nodes p).content) (node_at t.nodes c).branch) up (read.access q lt c (on_way c q some above)))

  -- so no node is temporary then
  pub none_temporary : ((p q x : ℕ) → p < length t.access → q < length t.access → x < t.inputs → Alike t m g is p q x) → (n : ℕ) → is_temporary (node_at t.nodes n).content ≡ true → ⊥
  none_temporary alike n temporary =
      let inner : IsInner (node_at t.nodes n).content = temporary_is_inner (node_at t.nodes n).content temporary in
      let live_n : IsLive (node_at t.nodes n).content = inner_is_live (node_at t.nodes n).content inner in
      let two : HasTwo (node_at t.nodes) n = g.nodes.two n inner in
      let some_other : 0 < two.other = (let one = two.below in let rise = two.rising in omega (arith, one, rise)) in
      let p = some_leaf t g two.one two.one_live in
      let q = some_leaf t g two.other two.other_live in
      let root = some_root t.inputs (node_at t.nodes) (joined t.inputs (node_at t.nodes) g.nodes) n live_n (temporary_not_final (node_at t.nodes n).content temporary) in
      let below : (c k : ℕ) → 0 < c → IsLive (node_at t.nodes c).content → (node_at t.nodes c).parent ≡ n → k < length t.access → IsAbove (node_at t.nodes) c (leaf_at t.leaves k) → IsMember t root.0 k = λ c k some live_c up lt above.
      let leaf_is : IsLive (node_at t.nodes (leaf_at t.leaves k)).content = leaf_live t (shape_of t g) k lt in
      let here : IsAbove (node_at t.nodes) n c = above_down t.inputs (node_at t.nodes) (joined t.inputs (node_at t.nodes) g.nodes) n c some live_c (subst (IsAbove (node_at t.nodes) n) (sym up) (above_here t.inputs (node_at t.nodes) (joined t.inputs (node_at t.nodes) g.nodes) n)) in
      (lt, root_below t.inputs (node_at t.nodes) (joined t.inputs (node_at t.nodes) g.nodes) root.0 n (leaf_at t.leaves k) leaf_is (above_trans t.inputs (node_at t.nodes) (joined t.inputs (node_at t.nodes) g.nodes) n c (leaf_at t.leaves k) leaf_is here above) root.1) in
      let one : AreOfOneClass t p.0 q.0 = (root.0, below two.one p.0 two.below two.one_live two.one_parent p.1 p.2, below two.other q.0 some_other two.other_live two.other_parent q.1 q.2) in
      let same = same_outs t m g is alike (discriminator (node_at t.nodes n).content) p.0 q.0 (g.nodes.words n inner).0 one in
      g.nodes.apart two.one two.other two.below two.rising two.one_live two.other_live (two.one_parent ∙ sym two.other_parent)
      (branch_out n two.one p.0 p.1 two.below two.one_parent p.2 ∙ (same ∙ sym (branch_out n two.other q.0 q.1 some_other two.other_parent q.2)))

  pub some_parted : 0 < temporaries t.nodes → (r letter : ℕ) × IsParted t m r letter
  some_parted some =
      let n = some_temporary t.nodes some in
      let count : ℕ = length t.access in
      ⊎_elim
      (λ (found : (r letter : ℕ) × IsParted t m r letter). found)
      (λ (alike : (p : ℕ) → p < count → (q : ℕ) → q < count → (x : ℕ) → x < t.inputs → Alike t m g is p q x).
      absurd (none_temporary (λ p q x lp lq lx. alike p lp q lq x lx) n.0 n.1))
      (all_below count ((r letter : ℕ) × IsParted t m r letter) (λ p. (q : ℕ) → q < count → (x : ℕ) → x < t.inputs → Alike t m g is p q x) (λ p lp.
      all_below count ((r letter : ℕ) × IsParted t m r letter) (λ q. (x : ℕ) → x < t.inputs → Alike t m g is p q x) (λ q lq.
      all_below t.inputs ((r letter : ℕ) × IsParted t m r letter) (λ x. Alike t m g is p q x) (λ x lx. decide t m g is p q x lp lq lx))))

pub some_block_is_parted : SomeBlockIsParted
some_block_is_parted ks t m g read closed is gives some = some_parted ks t m g read is gives some
