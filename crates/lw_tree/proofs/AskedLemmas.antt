-- The words by which a tree is sifted.
use Rattle.std.proofs.Common.{◌≡◌, ◌⊎◌, inl, inr, ⊎_elim, ℕ, zero, suc, ◌+◌, ◌<◌, true, false, List, [], ◌∷◌, ◌++◌, length, Contains, refl, ap, ap₂, sym, ◌∙◌, subst, append_assoc, arith}
use Rattle.std.specs.List.{All}
use Rattle.std.proofs.lemmas.List.{length-append}
use Rattle.std.proofs.lemmas.List.Elements.{All-push, All-head, Contains-append_left, Contains-append_right, Contains-append_cases}
use Rattle.lw_words.specs.Word.{Answer, IsWord}
use Rattle.lw_words.specs.declared.kept.KeptAnswer.{KeptAnswer}
use Rattle.lw_cache.specs.Cut.{word_at}
use Rattle.lw_cache.specs.Settling.{GainsOnly}
use Rattle.lw_cache.proofs.SettlingLemmas.{gains_then, gains_wider}
use Rattle.lw_tree.specs.Blocks.{HasFinal}
use Rattle.lw_tree.specs.Grown.{HasGrown, IsLevelWord, IsSifted}
use Rattle.lw_tree.specs.Tree.{TreeState, node_at, place_of, words_of, final_words_of, discriminator, discriminators, final_discriminators, IsFinal, HasTail}
use Rattle.lw_tree.specs.bodies.Steps.{refined_once}
use Rattle.lw_tree.specs.bodies.Transitions.{IsTransition, word_of, content_by, is_open_by}
use Rattle.lw_tree.specs.declared.nodes.Node.{Node}
use Rattle.lw_tree.specs.declared.nodes.Content.{Content}
use Rattle.lw_tree.specs.declared.nodes.Content.TheVariants.{State, Discriminator, Gone}
use Rattle.lw_tree.specs.declared.transitions.Edge.{Edge}
use Rattle.lw_tree.proofs.GrownLemmas.{words_stay}

first_word : (word : List ℕ) (words : List (List ℕ)) → Contains (word ∷ words) word
first_word word words = (0, omega arith, refl)

-- a node's discriminator is one of those of the nodes, if there is one
told_at : (nodes : List Node) (n : ℕ) → (discriminator (node_at nodes n).content ≡ []) ⊎ Contains (discriminators nodes) (discriminator (node_at nodes n).content)
told_at [] n = inl refl
told_at (x ∷ nodes) zero = of x.content
  where
    of : (c : Content) → (discriminator c ≡ []) ⊎ Contains (words_of c ++ discriminators nodes) (discriminator c)
    of (State q) = inl refl
    of (Discriminator word temporary) = inr (first_word word (discriminators nodes))
    of Gone = inl refl
told_at (x ∷ nodes) (suc n) =
    ⊎_elim
    (λ (none : discriminator (node_at nodes n).content ≡ []). inl none)
    (λ (has : Contains (discriminators nodes) (discriminator (node_at nodes n).content)). inr (Contains-append_right (words_of x.content) (discriminators nodes) (discriminator (node_at nodes n).content) has))
    (told_at nodes n)

-- that of a final node is one of those of the final nodes
final_at : (nodes : List Node) (n : ℕ) → IsFinal (node_at nodes n).content → Contains (final_discriminators nodes) (discriminator (node_at nodes n).content)
final_at [] n final = elim final [ ]
final_at (x ∷ nodes) zero final = of x.content final
  where
    of : (c : Content) → IsFinal c → Contains (final_words_of c ++ final_discriminators nodes) (discriminator c)
    of (State q) is = elim is [ ]
    of (Discriminator word true) is = elim is [ ]
    of (Discriminator word false) is = first_word word (final_discriminators nodes)
    of Gone is = elim is [ ]
final_at (x ∷ nodes) (suc n) final = Contains-append_right (final_words_of x.content) (final_discriminators nodes) (discriminator (node_at nodes n).content) (final_at nodes n final)

-- a final discriminator is a discriminator
pub final_is_told : (nodes : List Node) (word : List ℕ) → Contains (final_discriminators nodes) word → Contains (discriminators nodes) word
final_is_told [] word has = has
final_is_told (x ∷ nodes) word has =
    ⊎_elim
    (λ (here : Contains (final_words_of x.content) word). Contains-append_left (words_of x.content) (discriminators nodes) word (of x.content here))
    (λ (there : Contains (final_discriminators nodes) word). Contains-append_right (words_of x.content) (discriminators nodes) word (final_is_told nodes word there))
    (Contains-append_cases (final_words_of x.content) (final_discriminators nodes) word has)
  where
    of : (c : Content) → Contains (final_words_of c) word → Contains (words_of c) word
    of (State q) is = is
    of (Discriminator w true) is = let lt = is.1 in absurd (omega (arith, lt))
    of (Discriminator w false) is = is
    of Gone is = is

-- where a final node comes, the final discriminators that there were are discriminators
pub final_stays : (word : List ℕ) (t now : TreeState) → HasFinal word t now → (suffix : List ℕ) → Contains (final_discriminators t.nodes) suffix → Contains (discriminators now.nodes) suffix
final_stays word t now final suffix has =
    final_is_told now.nodes suffix
    (subst (λ (words : List (List ℕ)). Contains words suffix) (sym final.are)
    (⊎_elim
    (λ (front : Contains final.front suffix). Contains-append_left final.front (word ∷ final.back) suffix front)
    (λ (back : Contains final.back suffix). Contains-append_right final.front (word ∷ final.back) suffix (Contains-append_right (word ∷ []) final.back suffix back))
    (Contains-append_cases final.front final.back suffix (subst (λ (words : List (List ℕ)). Contains words suffix) final.were has))))

-- the words by which a transition is asked
module _ (t : TreeState) (edge : Edge) (from : IsTransition t edge) (stands : is_open_by t edge ≡ true) where
  pub level_word : IsLevelWord t (word_of t edge)
  level_word = record { state = edge.state; letter = edge.letter; suffix = []; from = from.0; small = from.1; stands = stands; told = inl refl; word_is = refl }

  pub level_long : IsLevelWord t (word_of t edge ++ discriminator (content_by t edge))
  level_long =
      record {
        state = edge.state;
        letter = edge.letter;
        suffix = discriminator (content_by t edge);
        from = from.0;
        small = from.1;
        stands = stands;
        told = inr refl;
        word_is = append_assoc (word_at t.access edge.state) (edge.letter ∷ []) (discriminator (content_by t edge));
      }

pub level_pushed : (t : TreeState) (was now : List (List ℕ)) (w : List ℕ) → now ≡ was ++ w ∷ [] → IsLevelWord t w → All (IsLevelWord t) was → All (IsLevelWord t) now
level_pushed t was now w grown is each = subst (All (IsLevelWord t)) (sym grown) (All-push (IsLevelWord t) was w each is)

pub level_is_sifted : (t : TreeState) (w : List ℕ) → IsLevelWord t w → IsSifted t w
level_is_sifted t w is =
    let n : ℕ = (place_of t.inputs t.places is.state is.letter).node in
    record {
      state = is.state;
      letter = is.letter;
      suffix = is.suffix;
      from = is.from;
      small = is.small;
      told = ⊎_elim
          (λ (none : is.suffix ≡ []). inl none)
          (λ (here : is.suffix ≡ discriminator (node_at t.nodes n).content). subst (λ (s : List ℕ). (s ≡ []) ⊎ Contains (discriminators t.nodes) s) (sym here) (told_at t.nodes n))
          is.told;
      word_is = is.word_is;
    }

-- what a tree was sifted by, it is sifted by once it has grown and has each discriminator still
pub sifted_later : (ks : List Answer) (t now : TreeState) → HasGrown ks t now → ((s : List ℕ) → Contains (discriminators t.nodes) s → Contains (discriminators now.nodes) s) → (w : List ℕ) → IsSifted t w → IsSifted now w
sifted_later ks t now grown more w is =
    let from = is.from in
    let long : length now.access ≡ length t.access + length grown.more = ap (λ (l : List (List ℕ)). length l) grown.access ∙ length-append t.access grown.more in
    record {
      state = is.state;
      letter = is.letter;
      suffix = is.suffix;
      from = omega (arith, from, long);
      small = subst (λ (a : ℕ). is.letter < a) (sym grown.inputs) is.small;
      told = ⊎_elim (λ (none : is.suffix ≡ []). inl none) (λ (has : Contains (discriminators t.nodes) is.suffix). inr (more is.suffix has)) is.told;
      word_is = is.word_is ∙ ap (λ (access : List ℕ). access ++ is.letter ∷ is.suffix) (sym (words_stay ks t now grown is.state is.from));
    }

-- a level after others
pub level_then : (ks : List Answer) (t now : TreeState) (a b c : List KeptAnswer) → HasGrown ks t now → discriminators now.nodes ≡ discriminators t.nodes → GainsOnly (IsSifted t) a b → GainsOnly (IsLevelWord t) b c → GainsOnly (IsSifted now) a c
level_then ks t now a b c grown same first level =
    gains_then (IsSifted now) a b c (gains_wider (IsSifted t) (IsSifted now) a b later first) (gains_wider (IsLevelWord t) (IsSifted now) b c (λ w is. later w (level_is_sifted t w is)) level)
  where
    later : (w : List ℕ) → IsSifted t w → IsSifted now w
    later = sifted_later ks t now grown (λ s has. subst (λ (words : List (List ℕ)). Contains words s) (sym same) has)

-- a split that is counted
pub gains_refined : (t now : TreeState) (a b : List KeptAnswer) → now ≡ refined_once t → GainsOnly (IsSifted t) a b → GainsOnly (IsSifted now) a b
gains_refined t now a b is gains =
    subst (λ (u : TreeState). GainsOnly (IsSifted u) a b) (sym is)
    (gains_wider (IsSifted t) (IsSifted (refined_once t)) a b (λ w s. record { state = s.state; letter = s.letter; suffix = s.suffix; from = s.from; small = s.small; told = s.told; word_is = s.word_is }) gains)

-- an access word and a letter, maybe with a final discriminator behind it
pub tail_sifted : (ks : List Answer) (t now : TreeState) → HasGrown ks t now → ((s : List ℕ) → Contains (final_discriminators t.nodes) s → Contains (discriminators now.nodes) s) → (q : ℕ) (word : List ℕ) → q < length t.access → IsWord t.inputs word → HasTail (node_at t.nodes) word → IsSifted now (word_at t.access q ++ word)
tail_sifted ks t now grown more q word lt letters tail =
    let x : ℕ = tail.0 in
    ⊎_elim
    (λ (one : word ≡ x ∷ []). with_suffix [] one (inl refl))
    (λ (long : (n : ℕ) × IsFinal (node_at t.nodes n).content × (word ≡ x ∷ discriminator (node_at t.nodes n).content)).
    let suffix : List ℕ = discriminator (node_at t.nodes long.0).content in
    with_suffix suffix long.2 (inr (more suffix (final_at t.nodes long.0 long.1))))
    tail.1
  where
    with_suffix : (suffix : List ℕ) → word ≡ tail.0 ∷ suffix → (suffix ≡ []) ⊎ Contains (discriminators now.nodes) suffix → IsSifted now (word_at t.access q ++ word)
    with_suffix suffix is told =
        let long : length now.access ≡ length t.access + length grown.more = ap (λ (l : List (List ℕ)). length l) grown.access ∙ length-append t.access grown.more in
        let first : tail.0 < t.inputs = All-head (λ y. y < t.inputs) tail.0 suffix (subst (IsWord t.inputs) is letters) in
        record {
          state = q;
          letter = tail.0;
          suffix = suffix;
          from = omega (arith, lt, long);
          small = subst (λ (a : ℕ). tail.0 < a) (sym grown.inputs) first;
          told = told;
          word_is = ap₂ (λ (access end : List ℕ). access ++ end) (sym (words_stay ks t now grown q lt)) is;
        }
