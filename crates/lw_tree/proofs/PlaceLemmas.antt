-- Transitions by number, and their places.
use Rattle.std.proofs.Common.{◌≡◌, ⊎_elim, ℕ, zero, suc, ◌+◌, ◌-◌, ◌*◌, ◌/◌, ◌%◌, ◌<◌, ◌≤◌, Bool, true, false, ◌||◌, true≢false, List, ◌++◌, length, replicate, get_or, set, Option, Some, None, IsSome, is_none, refl, ap, ap₂, sym, ◌∙◌, subst, arith}
use Rattle.std.proofs.Math.ListN.{get_or-append}
use Rattle.std.proofs.Math.Seq.{get_or-append_right}
use Rattle.std.proofs.Math.Nat.{div-lt_iff_lt-mul, mod-lt, mul-le-mul_right}
use Rattle.std.proofs.lemmas.Nat.{div-add-mod', div-mul-add}
use Rattle.std.proofs.lemmas.Bool.{cases_lt}
use Rattle.std.proofs.lemmas.List.{length-append, length-set, get_or_past, length-replicate}
use Rattle.lw_tree.specs.Tree.{no_place, place_at, is_inner, is_open, IsInner}
use Rattle.lw_tree.specs.declared.nodes.Node.{Node}
use Rattle.lw_tree.specs.declared.nodes.Content.{Content}
use Rattle.lw_tree.specs.declared.nodes.Content.TheVariants.{State, Discriminator, Gone}
use Rattle.lw_tree.specs.declared.transitions.Place.{Place}
use Rattle.lw_tree.proofs.NodeLemmas.{Updates, written}

-- a number is that of one transition
pub one_transition : (a q x p y : ℕ) → x < a → y < a → q * a + x ≡ p * a + y → (q ≡ p) × (x ≡ y)
one_transition a q x p y lx ly even =
    let one : q ≡ p = sym (div-mul-add q a x lx) ∙ (ap (λ (n : ℕ). n / a) even ∙ div-mul-add p a y ly) in
    let here : p * a + x ≡ p * a + y = subst (λ (n : ℕ). n * a + x ≡ p * a + y) one even in
    (one, omega (arith, here))

pub number_within : (a n q x : ℕ) → q < n → x < a → q * a + x < n * a
number_within a n q x lq lx =
    let more : suc q * a ≤ n * a = mul-le-mul_right a (omega (arith, lq)) in
    let next : suc q * a ≡ q * a + a = omega arith in
    omega (arith, more, next, lx)

-- a number below their count is that of a transition
pub by_number : (a n k : ℕ) → 1 ≤ a → k < n * a → (q : ℕ) × (x : ℕ) × (q < n) × (x < a) × (k ≡ q * a + x)
by_number a n k some lt =
    let whole : (k / a) * a + k % a ≡ k = div-add-mod' k a in
    (k / a, k % a, (div-lt_iff_lt-mul {k = a} {x = k} {y = n} (omega (arith, some))).1 lt, mod-lt k {m = a} (omega (arith, some)), sym whole)

-- whether a place is open
not_none : (o : Option ℕ) → IsSome o → is_none o ≡ false
not_none None is = absurd (true≢false (sym is))
not_none (Some y) is = refl

pub known_leaf : (node : ℕ → Node) (p : Place) (q : ℕ) → IsSome p.output → (node p.node).content ≡ State q → is_open node p ≡ false
known_leaf node p q known leaf = ap₂ (λ (a b : Bool). a || b) (not_none p.output known) (ap is_inner leaf)

inner_is : (c : Content) → IsInner c → is_inner c ≡ true
inner_is (State q) is = elim is [ ]
inner_is (Discriminator word temporary) is = refl
inner_is Gone is = elim is [ ]

or_true : (b : Bool) → (b || true) ≡ true
or_true true = refl
or_true false = refl

pub inner_open : (node : ℕ → Node) (p : Place) → IsInner (node p.node).content → is_open node p ≡ true
inner_open node p is = ap (λ (b : Bool). is_none p.output || b) (inner_is (node p.node).content is) ∙ or_true (is_none p.output)

-- unasked transitions behind the others change no place
pub unasked_at : (n i : ℕ) → get_or {A = Place} (replicate n no_place) i no_place ≡ no_place
unasked_at zero i = refl
unasked_at (suc n) zero = refl
unasked_at (suc n) (suc i) = unasked_at n i

pub past_place : (places : List Place) (k : ℕ) → length places ≤ k → place_at places k ≡ no_place
past_place places k past = get_or_past places k no_place past

pub more_places : (places : List Place) (n k : ℕ) → place_at (places ++ replicate n no_place) k ≡ place_at places k
more_places places n k =
    ⊎_elim
    (λ (lt : k < length places). get_or-append places (replicate n no_place) no_place k lt)
    (λ (past : length places ≤ k). get_or-append_right places (replicate n no_place) k no_place past ∙ (unasked_at n (k - length places) ∙ sym (past_place places k past)))
    (cases_lt k (length places))

pub set_and_more : (places : List Place) (at n : ℕ) (p : Place) → at < length places → Updates (place_at places) (place_at (set places at p ++ replicate n no_place)) at p
set_and_more places at n p inside =
    let u = written places at p no_place inside in
    record {
      here = more_places (set places at p) n at ∙ u.here;
      others = λ k other. more_places (set places at p) n k ∙ u.others k other;
    }

pub length-set_and_more : (places : List Place) (at n : ℕ) (p : Place) → length (set places at p ++ replicate n no_place) ≡ length places + n
length-set_and_more places at n p = length-append (set places at p) (replicate n no_place) ∙ ap₂ (λ (x y : ℕ). x + y) (length-set places at p) (length-replicate {A = Place} n no_place)
