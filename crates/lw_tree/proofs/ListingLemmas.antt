-- Words that are listed one after another.
use Rattle.std.proofs.Common.{◌≡◌, ⊎_elim, ℕ, ◌+◌, ◌*◌, ◌<◌, ◌≤◌, Bool, false, true≢false, List, [], ◌∷◌, ◌++◌, length, Contains, refl, ap, ap₂, sym, ◌∙◌, subst, arith, append_assoc}
use Rattle.std.specs.List.{All}
use Rattle.std.proofs.Math.Seq.{get_or-append_seam}
use Rattle.std.proofs.lemmas.Bool.{cases_lt}
use Rattle.std.proofs.lemmas.List.{length-append}
use Rattle.std.proofs.lemmas.List.Elements.{All-push, All-contains, Contains-append_left}
use Rattle.lw_words.specs.Word.{IsWord}
use Rattle.lw_tree.specs.Tree.{TreeState, IsInner, discriminator, is_open, node_at, place_at}
use Rattle.lw_tree.specs.bodies.Transitions.{IsTransition, IsAsked, AreAsked, word_of, content_by}
use Rattle.lw_tree.specs.declared.nodes.Content.{Content}
use Rattle.lw_tree.specs.declared.nodes.Content.TheVariants.{State, Discriminator, Gone}
use Rattle.lw_tree.specs.declared.transitions.Edge.{Edge}
use Rattle.lw_tree.proofs.PlaceLemmas.{one_transition}

pub pushed_last : (was now : List (List ℕ)) (w : List ℕ) → now ≡ was ++ w ∷ [] → Contains now w
pushed_last was now w grown =
    subst (λ (l : List (List ℕ)). Contains l w) (sym grown) (length was, (let e = length-append was (w ∷ []) in omega (arith, e)), get_or-append_seam was w [] w)

pub pushed_two : (was middle now : List (List ℕ)) (u v : List ℕ) → middle ≡ was ++ u ∷ [] → now ≡ middle ++ v ∷ [] → Contains now u × Contains now v
pushed_two was middle now u v one two = (
  subst (λ (l : List (List ℕ)). Contains l u) (sym two) (Contains-append_left middle (v ∷ []) u (pushed_last was middle u one)),
  pushed_last middle now v two,
)

pub added_two : (was middle now : List (List ℕ)) (u v : List ℕ) → middle ≡ was ++ u ∷ [] → now ≡ middle ++ v ∷ [] → now ≡ was ++ u ∷ v ∷ []
added_two was middle now u v one two = two ∙ (ap (λ (l : List (List ℕ)). l ++ v ∷ []) one ∙ append_assoc was (u ∷ []) (v ∷ []))

pub all_pushed : (a : ℕ) (was now : List (List ℕ)) (w : List ℕ) → now ≡ was ++ w ∷ [] → IsWord a w → All (IsWord a) was → All (IsWord a) now
all_pushed a was now w grown is each = subst (All (IsWord a)) (sym grown) (All-push (IsWord a) was w each is)

contained_more : (was now : List (List ℕ)) → (more : List (List ℕ)) × (now ≡ was ++ more) → (w : List ℕ) → Contains was w → Contains now w
contained_more was now grown w has = subst (λ (l : List (List ℕ)). Contains l w) (sym grown.1) (Contains-append_left was grown.0 w has)

-- the words of one transition more
pub asked_more : (t : TreeState) (was now : List (List ℕ)) (to : ℕ) (edge : Edge) → (more : List (List ℕ)) × (now ≡ was ++ more) → AreAsked (Contains was) t 0 to → to ≡ edge.state * t.inputs + edge.letter → IsTransition t edge → IsAsked (Contains now) t edge → AreAsked (Contains now) t 0 (to + 1)
asked_more t was now to edge grown asked at from here other is ge lt stands =
    ⊎_elim
    (λ (below : other.state * t.inputs + other.letter < to).
    let r = asked other is ge below stands in
    (contained_more was now grown (word_of t other) r.0, contained_more was now grown (word_of t other ++ discriminator (content_by t other)) r.1))
    (λ (above : to ≤ other.state * t.inputs + other.letter).
    let one = one_transition t.inputs edge.state edge.letter other.state other.letter from.1 is.1 (omega (arith, at, above, lt)) in
    let same : edge ≡ other = ap₂ (λ (q x : ℕ). record { state = q; letter = x }) one.0 one.1 in
    subst (λ (e : Edge). IsAsked (Contains now) t e) same here stands)
    (cases_lt (other.state * t.inputs + other.letter) to)

pub no_discriminator : (c : Content) → ((word : List ℕ) (temporary : Bool) → c ≡ Discriminator word temporary → ⊥) → discriminator c ≡ []
no_discriminator (State q) other = refl
no_discriminator (Discriminator word temporary) other = absurd (other word temporary refl)
no_discriminator Gone other = refl

-- a discriminator is a word, where it is one at an inner node
pub letters_of : (a : ℕ) (c : Content) → (IsInner c → IsWord a (discriminator c)) → IsWord a (discriminator c)
letters_of a (State q) words = λ k d lt. absurd (omega (arith, lt))
letters_of a (Discriminator word temporary) words = words tt
letters_of a Gone words = λ k d lt. absurd (omega (arith, lt))

-- transitions that have a target are asked nothing
pub asked_past : (P : List ℕ → Type 0) (t : TreeState) (to upto : ℕ) → AreAsked P t 0 to → ((k : ℕ) → to ≤ k → k < upto → is_open (node_at t.nodes) (place_at t.places k) ≡ false) → AreAsked P t 0 upto
asked_past P t to upto asked closed other from ge lt stands =
    ⊎_elim
    (λ (below : other.state * t.inputs + other.letter < to). asked other from ge below stands)
    (λ (above : to ≤ other.state * t.inputs + other.letter). absurd (true≢false (sym stands ∙ closed (other.state * t.inputs + other.letter) above lt)))
    (cases_lt (other.state * t.inputs + other.letter) to)

-- where all words are known, so are those that transitions are asked by
pub asked_by_all : (P : List ℕ → Type 0) (t : TreeState) (from to : ℕ) (words : List (List ℕ)) → All P words → AreAsked (Contains words) t from to → AreAsked P t from to
asked_by_all P t from to words all asked edge is ge lt stands =
    let r = asked edge is ge lt stands in
    (All-contains P words (word_of t edge) all r.0, All-contains P words (word_of t edge ++ discriminator (content_by t edge)) all r.1)
