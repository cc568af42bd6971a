-- There are fewer inner nodes than states, since two nodes stand below each; and discriminators are short.
use Rattle.std.proofs.Common.{◌≡◌, ◌≢◌, ⊎_elim, ℕ, zero, suc, ◌+◌, ◌<◌, ◌≤◌, true, false, if◌then◌else◌, List, [], ◌∷◌, ◌++◌, length, refl, ap, sym, ◌∙◌, subst, arith}
use Rattle.std.specs.List.{All, AllByRecursion, IsDistinct, list_any}
use Rattle.std.proofs.Math.Dec.{eqb}
use Rattle.std.proofs.lemmas.Bool.{cases_eq, eqb-false, eq-eqb, ne_eqb}
use Rattle.std.proofs.lemmas.List.{length-append}
use Rattle.std.proofs.lemmas.List.Elements.{All-nil, All-cons}
use Rattle.std.proofs.lemmas.Map.Steps.{le-length_from_below}
use Rattle.lw_tree.specs.Laws.{InnersAreFew, FinalsAreFew, DiscriminatorsAreShort}
use Rattle.lw_tree.specs.Tree.{TreeState, node_at, IsLive, IsInner, IsFinal, HasTwo, HasTail, IsTree, discriminator, discriminators, final_discriminators, temporaries, is_temporary, words_of, final_words_of}
use Rattle.lw_tree.specs.declared.nodes.Node.{Node}
use Rattle.lw_tree.specs.declared.nodes.Content.{Content}
use Rattle.lw_tree.specs.declared.nodes.Content.TheVariants.{State, Discriminator, Gone}
use Rattle.lw_tree.proofs.NumberLemmas.{Has, Lacks, or_first, or_second, all_weaker, has_left, has_right, has_at, no_more}

-- the numbers of the inner nodes, where the first node has this one
abbrev number_of : Content → ℕ → List ℕ
number_of (State q) k = []
number_of (Discriminator word temporary) k = k ∷ []
number_of Gone k = []

abbrev inner_numbers : List Node → ℕ → List ℕ
inner_numbers [] k = []
inner_numbers (n ∷ nodes) k = number_of n.content k ++ inner_numbers nodes (suc k)

-- they are as many as the discriminators
many_at : (c : Content) (k : ℕ) (ns : List ℕ) (ws : List (List ℕ)) → length ns ≡ length ws → length (number_of c k ++ ns) ≡ length (words_of c ++ ws)
many_at (State q) k ns ws same = same
many_at (Discriminator word temporary) k ns ws same = ap suc same
many_at Gone k ns ws same = same

inner_many : (nodes : List Node) (k : ℕ) → length (inner_numbers nodes k) ≡ length (discriminators nodes)
inner_many [] k = refl
inner_many (n ∷ nodes) k = many_at n.content k (inner_numbers nodes (suc k)) (discriminators nodes) (inner_many nodes (suc k))

-- what holds of inner nodes holds of these
all_at : (P : ℕ → Type 0) (c : Content) (k : ℕ) (ns : List ℕ) → (IsInner c → P k) → AllByRecursion P ns → AllByRecursion P (number_of c k ++ ns)
all_at P (State q) k ns here all = all
all_at P (Discriminator word temporary) k ns here all = (here tt, all)
all_at P Gone k ns here all = all

inner_all : (P : ℕ → Type 0) (nodes : List Node) (k : ℕ) → ((i : ℕ) → IsInner (node_at nodes i).content → P (k + i)) → AllByRecursion P (inner_numbers nodes k)
inner_all P [] k each = tt
inner_all P (n ∷ nodes) k each =
    let here : k + 0 ≡ k = omega arith in
    all_at P n.content k (inner_numbers nodes (suc k)) (λ is. subst P here (each 0 is))
    (inner_all P nodes (suc k) (λ i is. let there : k + suc i ≡ suc k + i = omega arith in subst P there (each (suc i) is)))

-- they are all of them
has_number : (c : Content) (k : ℕ) (ns : List ℕ) → IsInner c → Has (number_of c k ++ ns) k
has_number (State q) k ns is = elim is [ ]
has_number (Discriminator word temporary) k ns is = or_first (eqb k k) (list_any (eqb k) ns) (eq-eqb k k refl)
has_number Gone k ns is = elim is [ ]

has_inner : (nodes : List Node) (k i : ℕ) → IsInner (node_at nodes i).content → Has (inner_numbers nodes k) (k + i)
has_inner [] k i is = elim is [ ]
has_inner (n ∷ nodes) k zero is =
    let here : k ≡ k + 0 = omega arith in
    subst (Has (inner_numbers (n ∷ nodes) k)) here (has_number n.content k (inner_numbers nodes (suc k)) is)
has_inner (n ∷ nodes) k (suc i) is =
    let there : suc k + i ≡ k + suc i = omega arith in
    subst (Has (inner_numbers (n ∷ nodes) k)) there (has_right (number_of n.content k) (inner_numbers nodes (suc k)) (suc k + i) (has_inner nodes (suc k) i is))

-- none of them comes twice
apart_at : (c : Content) (k : ℕ) (ns : List ℕ) → Lacks ns k → IsDistinct eqb ns → IsDistinct eqb (number_of c k ++ ns)
unfolding IsDistinct
apart_at (State q) k ns lacks apart = apart
apart_at (Discriminator word temporary) k ns lacks apart = (lacks, apart)
apart_at Gone k ns lacks apart = apart

inner_apart : (nodes : List Node) (k : ℕ) → IsDistinct eqb (inner_numbers nodes k)
unfolding IsDistinct
inner_apart [] k = tt
inner_apart (n ∷ nodes) k =
    apart_at n.content k (inner_numbers nodes (suc k))
    (inner_all (λ m. eqb k m ≡ false) nodes (suc k) (λ i is. ne_eqb k (suc k + i) (λ same. omega (arith, same))))
    (inner_apart nodes (suc k))

-- the two below each of some nodes
module _ (node : ℕ → Node) where
  abbrev twos : (ms : List ℕ) → AllByRecursion (HasTwo node) ms → List ℕ
  twos [] each = []
  twos (m ∷ ms) each = each.0.one ∷ each.0.other ∷ twos ms each.1

  two_many : (ms : List ℕ) (each : AllByRecursion (HasTwo node) ms) → length (twos ms each) ≡ length ms + length ms
  two_many [] each = refl
  two_many (m ∷ ms) each = let rest = two_many ms each.1 in omega (arith, rest)

  -- what holds of live nodes below these nodes holds of them
  abbrev HoldsBelow : (ℕ → Type 0) → ℕ → Type 0
  HoldsBelow P m = (x : ℕ) → 0 < x → IsLive (node x).content → (node x).parent ≡ m → P x

  two_all : (P : ℕ → Type 0) (ms : List ℕ) (each : AllByRecursion (HasTwo node) ms) → AllByRecursion (HoldsBelow P) ms → AllByRecursion P (twos ms each)
  two_all P [] each all = tt
  two_all P (m ∷ ms) each all =
      let below = each.0.below in
      let rising = each.0.rising in (
        all.0 each.0.one below each.0.one_live each.0.one_parent,
        (all.0 each.0.other (omega (arith, below, rising)) each.0.other_live each.0.other_parent, two_all P ms each.1 all.1),
      )

  two_lacks : (ms : List ℕ) (each : AllByRecursion (HasTwo node) ms) (m x : ℕ) → (node x).parent ≡ m → Lacks ms m → Lacks (twos ms each) x
  two_lacks ms each m x up lacks =
      two_all (λ y. eqb x y ≡ false) ms each
      (all_weaker (λ n. eqb m n ≡ false) (HoldsBelow (λ y. eqb x y ≡ false)) ms
      (λ n other y some live down. ne_eqb x y (λ same. eqb-false m n other (sym up ∙ (ap (λ (k : ℕ). (node k).parent) same ∙ down)))) lacks)

  two_apart : (ms : List ℕ) (each : AllByRecursion (HasTwo node) ms) → IsDistinct eqb ms → IsDistinct eqb (twos ms each)
  unfolding IsDistinct
  two_apart [] each apart = tt
  two_apart (m ∷ ms) each apart =
      let rising = each.0.rising in (
        (ne_eqb each.0.one each.0.other (λ same. omega (arith, same, rising)), two_lacks ms each.1 m each.0.one each.0.one_parent apart.0),
        (two_lacks ms each.1 m each.0.other each.0.other_parent apart.0, two_apart ms each.1 apart.1),
      )

  -- the root is none of them
  two_rootless : (ms : List ℕ) (each : AllByRecursion (HasTwo node) ms) → AllByRecursion (λ m. HoldsBelow (λ y. eqb 0 y ≡ false) m) ms → IsDistinct eqb ms → IsDistinct eqb (0 ∷ twos ms each)
  unfolding IsDistinct
  two_rootless ms each below apart = (two_all (λ y. eqb 0 y ≡ false) ms each below, two_apart ms each apart)

all_of : (P : ℕ → Type 0) (xs : List ℕ) → ((x : ℕ) → P x) → AllByRecursion P xs
all_of P [] each = tt
all_of P (x ∷ xs) each = (each x, all_of P xs each)

-- each live node is an inner one or the leaf of a state
module _ (t : TreeState) (g : IsTree t) where
  abbrev node : ℕ → Node
  node = node_at t.nodes

  abbrev inners : List ℕ
  inners = inner_numbers t.nodes 0

  live_is : (n : ℕ) (c : Content) → (node n).content ≡ c → IsLive c → Has (inners ++ t.leaves) n
  live_is n (State q) is live =
      let state = g.leaves.states n q is in
      let lt : q < length t.leaves = (let each = g.each_leaf in let below = state.0 in omega (arith, each, below)) in
      has_right inners t.leaves n (subst (Has t.leaves) state.1 (has_at t.leaves q 0 lt))
  live_is n (Discriminator word temporary) is live = (let whole : 0 + n ≡ n = omega arith in
      has_left inners t.leaves n (subst (Has inners) whole (has_inner t.nodes 0 n (subst IsInner (sym is) tt))))
  live_is n Gone is live = elim live [ ]

  each_two : AllByRecursion (HasTwo node) inners
  each_two = inner_all (HasTwo node) t.nodes 0 (λ i is. let whole : i ≡ 0 + i = omega arith in subst (HasTwo node) whole (g.nodes.two i is))

  each_live : AllByRecursion (Has (inners ++ t.leaves)) (0 ∷ twos node inners each_two)
  each_live = (
    live_is 0 (node 0).content refl g.nodes.root,
    two_all node (Has (inners ++ t.leaves)) inners each_two (all_of (HoldsBelow node (Has (inners ++ t.leaves))) inners (λ m x some live up. live_is x (node x).content refl live)),
  )

  each_apart : IsDistinct eqb (0 ∷ twos node inners each_two)
  each_apart = two_rootless node inners each_two (all_of (HoldsBelow node (λ y. eqb 0 y ≡ false)) inners (λ m x some live up. ne_eqb 0 x (λ same. omega (arith, same, some)))) (inner_apart t.nodes 0)

  pub few_inners : length (discriminators t.nodes) < length t.access
  few_inners =
      let few = no_more (0 ∷ twos node inners each_two) (inners ++ t.leaves) each_apart each_live in
      let all = length-append inners t.leaves in
      let double = two_many node inners each_two in
      let many = inner_many t.nodes 0 in
      let leaves = g.each_leaf in
      omega (arith, few, all, double, many, leaves)

pub inners_are_few : InnersAreFew
inners_are_few t g = few_inners t g

-- final discriminators are some of the discriminators
finals_at : (c : Content) (fs ws : List (List ℕ)) → length fs ≤ length ws → length (final_words_of c ++ fs) ≤ length (words_of c ++ ws)
finals_at (State q) fs ws few = few
finals_at (Discriminator word true) fs ws few = omega (arith, few)
finals_at (Discriminator word false) fs ws few = omega (arith, few)
finals_at Gone fs ws few = few

finals_within : (nodes : List Node) → length (final_discriminators nodes) ≤ length (discriminators nodes)
finals_within [] = omega arith
finals_within (n ∷ nodes) = finals_at n.content (final_discriminators nodes) (discriminators nodes) (finals_within nodes)

pub finals_are_few : FinalsAreFew
finals_are_few t g = let few = few_inners t g in let within = finals_within t.nodes in omega (arith, few, within)

-- how many letters words have
abbrev lengths : List (List ℕ) → List ℕ
lengths [] = []
lengths (w ∷ ws) = length w ∷ lengths ws

lengths_many : (ws : List (List ℕ)) → length (lengths ws) ≡ length ws
lengths_many [] = refl
lengths_many (w ∷ ws) = ap suc (lengths_many ws)

-- that of a final discriminator is one of theirs
size_at : (c : Content) (ws : List (List ℕ)) → IsFinal c → Has (lengths (final_words_of c ++ ws)) (length (discriminator c))
size_at (State q) ws is = elim is [ ]
size_at (Discriminator word true) ws is = elim is [ ]
size_at (Discriminator word false) ws is = or_first (eqb (length word) (length word)) (list_any (eqb (length word)) (lengths ws)) (eq-eqb (length word) (length word) refl)
size_at Gone ws is = elim is [ ]

size_more : (c : Content) (ws : List (List ℕ)) (n : ℕ) → Has (lengths ws) n → Has (lengths (final_words_of c ++ ws)) n
size_more (State q) ws n has = has
size_more (Discriminator word true) ws n has = has
size_more (Discriminator word false) ws n has = or_second (eqb n (length word)) (list_any (eqb n) (lengths ws)) has
size_more Gone ws n has = has

has_size : (nodes : List Node) (i : ℕ) → IsFinal (node_at nodes i).content → Has (lengths (final_discriminators nodes)) (length (discriminator (node_at nodes i).content))
has_size [] i is = elim is [ ]
has_size (n ∷ nodes) zero is = size_at n.content (final_discriminators nodes) is
has_size (n ∷ nodes) (suc i) is = size_more n.content (final_discriminators nodes) (length (discriminator (node_at nodes i).content)) (has_size nodes i is)

module _ (nodes : List Node) (tails : (n : ℕ) → IsFinal (node_at nodes n).content → HasTail (node_at nodes) (discriminator (node_at nodes n).content)) where
  abbrev sizes : List ℕ
  sizes = 0 ∷ lengths (final_discriminators nodes)

  -- with a discriminator there is one of each length below
  each_size : (bound n : ℕ) → IsFinal (node_at nodes n).content → length (discriminator (node_at nodes n).content) ≤ bound → (q : ℕ) → q ≤ length (discriminator (node_at nodes n).content) → Has sizes q
  each_size zero n is few q le = or_first (eqb q 0) (list_any (eqb q) (lengths (final_discriminators nodes))) (eq-eqb q 0 (omega (arith, few, le)))
  each_size (suc bound) n is few q le =
      ⊎_elim
      (λ (same : q ≡ length (discriminator (node_at nodes n).content)).
      or_second (eqb q 0) (list_any (eqb q) (lengths (final_discriminators nodes))) (subst (Has (lengths (final_discriminators nodes))) (sym same) (has_size nodes n is)))
      (λ (other : q ≢ length (discriminator (node_at nodes n).content)).
      let tail = tails n is in
      let lt : q < length (discriminator (node_at nodes n).content) = omega (arith, other, le) in
      ⊎_elim
      (λ (one : discriminator (node_at nodes n).content ≡ tail.0 ∷ []).
      let size : length (discriminator (node_at nodes n).content) ≡ 1 = ap (λ (w : List ℕ). length w) one in
      or_first (eqb q 0) (list_any (eqb q) (lengths (final_discriminators nodes))) (eq-eqb q 0 (omega (arith, size, lt))))
      (λ (more : (m : ℕ) × IsFinal (node_at nodes m).content × (discriminator (node_at nodes n).content ≡ tail.0 ∷ discriminator (node_at nodes m).content)).
      let size : length (discriminator (node_at nodes n).content) ≡ suc (length (discriminator (node_at nodes more.0).content)) = ap (λ (w : List ℕ). length w) more.2 in
      each_size bound more.0 more.1 (omega (arith, size, few)) q (omega (arith, size, lt)))
      tail.1)
      (cases_eq q (length (discriminator (node_at nodes n).content)))

  final_short : (n : ℕ) → IsFinal (node_at nodes n).content → length (discriminator (node_at nodes n).content) ≤ length (final_discriminators nodes)
  final_short n is =
      let all = le-length_from_below sizes (suc (length (discriminator (node_at nodes n).content))) (λ q lt. each_size (length (discriminator (node_at nodes n).content)) n is (omega arith) q (omega (arith, lt))) in
      let many = lengths_many (final_discriminators nodes) in
      omega (arith, all, many)

-- where no node is temporary, what holds of final discriminators holds of all
all_final_at : (P : List ℕ → Type 0) (c : Content) (ws : List (List ℕ)) (rest : ℕ) → (if is_temporary c then 1 else 0) + rest ≡ 0 → (IsFinal c → P (discriminator c)) → (rest ≡ 0 → All P ws) → All P (words_of c ++ ws)
all_final_at P (State q) ws rest none here all = all (omega (arith, none))
all_final_at P (Discriminator word true) ws rest none here all = absurd (omega (arith, none))
all_final_at P (Discriminator word false) ws rest none here all = All-cons P word ws (here tt) (all (omega (arith, none)))
all_final_at P Gone ws rest none here all = all (omega (arith, none))

all_final : (P : List ℕ → Type 0) (nodes : List Node) → temporaries nodes ≡ 0 → ((n : ℕ) → IsFinal (node_at nodes n).content → P (discriminator (node_at nodes n).content)) → All P (discriminators nodes)
all_final P [] none each = All-nil P
all_final P (n ∷ nodes) none each = all_final_at P n.content (discriminators nodes) (temporaries nodes) none (each 0) (λ rest. all_final P nodes rest (λ i is. each (suc i) is))

pub discriminators_are_short : DiscriminatorsAreShort
discriminators_are_short t g none =
    all_final (λ w. length w < length t.access) t.nodes none
    (λ n is. let short = final_short t.nodes g.nodes.tails n is in let few = finals_are_few t g in omega (arith, short, few))
