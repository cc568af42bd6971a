-- What is looked up in a cache, as contracts see it.
use Rattle.std.proofs.Common.{◌≡◌, ◌≢◌, ℕ, ◌<◌, ◌≤◌, inr, ⊎_elim, List, [], length, take, get_or, slice_get, Some, ap, sym, ◌∙◌, subst, arith}
use Rattle.std.proofs.lemmas.List.{get_or_default}
use Rattle.lw_words.specs.Word.{Answer, answer_at, answer_of, answers_of, IsPrefix}
use Rattle.lw_words.specs.declared.kept.KeptAnswer.{KeptAnswer}
use Rattle.lw_cache.specs.Caching.{Caching}
use Rattle.lw_cache.specs.Clash.{IsClear}
use Rattle.lw_cache.specs.Known.{IsKnown, Reads}
use Rattle.lw_cache.specs.Standing.{Stands}
use Rattle.lw_cache.specs.declared.known.Known.{Known}
use Rattle.lw_cache.specs.declared.known.Known.TheVariants.{Yes, Pending, No}
use Rattle.lw_cache.specs.declared.node.Node.{Node}
use Rattle.lw_cache.specs.declared.node.Held.{Held}
use Rattle.lw_cache.specs.bodies.Trie.{no_node, node_at, word_of, claims_of, no_answer, no_claim, IsStored}
use Rattle.lw_cache.specs.bodies.Filling.{IsFound}
use Rattle.lw_cache.proofs.KnownLemmas.{prefix_long}
use Rattle.lw_cache.proofs.PlainLemmas.{kept_at, kept_count}
use Rattle.lw_cache.proofs.StoredLemmas.{stands_no, stands_yes, stands_pending, stands_free, unknown_at}

-- this node is that of the word, at this place
pub record IsHere (nodes : List Node) (w : List ℕ) (i : ℕ) (b : Node) : Type 0 where
  pub positive : 0 < i
  pub within : i < length nodes
  pub word : word_of (node_at nodes) i ≡ w
  pub node : node_at nodes i ≡ b

pub here : (slice nodes : List Node) (v w : List ℕ) (i : ℕ) (b : Node) → slice ≡ nodes → v ≡ w → IsFound (node_at slice) (length slice) v i → i ≢ 0 → b ≡ get_or nodes i b → IsHere nodes w i b
here slice nodes v w i b same is found some at =
    let f : IsFound (node_at nodes) (length nodes) w i =
    subst (λ (u : List ℕ). IsFound (node_at nodes) (length nodes) u i) is (subst (λ (l : List Node). IsFound (node_at l) (length l) v i) same found) in
    ⊎_elim
    (λ (none : (i ≡ 0) × ((j : ℕ) → 0 < j → j < length nodes → IsPrefix w (word_of (node_at nodes) j) → w ≡ [])). absurd (some none.0))
    (λ (r : (0 < i) × (i < length nodes) × (word_of (node_at nodes) i ≡ w)).
    record {
      positive = r.0;
      within = r.1;
      word = r.2;
      node = get_or_default nodes i no_node b r.1 ∙ sym at;
    })
    f

pub filled : (w : List ℕ) (k : ℕ) → k ≡ length w → k ≢ 0 → w ≢ []
filled w k long some e = some (long ∙ ap (λ (v : List ℕ). length v) e)

module _ (nodes : List Node) (held : List Held) (kept : List KeptAnswer) (words letters : ℕ) (v : Caching)
    (view : record { kept = kept; claims = claims_of (node_at nodes) held; words = words; letters = letters } ≡ v)
    (s : IsStored (node_at nodes) (length nodes) held kept) (few : length kept ≤ no_answer) where
  few_answers : length (answers_of kept) ≤ no_answer
  few_answers = omega (arith, few, kept_count kept)

  of_view : (w : List ℕ) (k : Known) → Stands (answers_of kept) v.claims w k → Stands (answers_of v.kept) v.claims w k
  of_view w k is = subst (λ (l : List KeptAnswer). Stands (answers_of l) v.claims w k) (ap (λ (c : Caching). c.kept) view) is

  pub look_missing : (slice : List Node) (u w : List ℕ) (i k : ℕ) → slice ≡ nodes → u ≡ w → IsFound (node_at slice) (length slice) u i → i ≡ 0 → k ≡ length w → k ≢ 0 → Stands (answers_of v.kept) v.claims w No
  look_missing slice u w i k same is found none long some =
      let f : IsFound (node_at nodes) (length nodes) w i =
      subst (λ (x : List ℕ). IsFound (node_at nodes) (length nodes) x i) is (subst (λ (l : List Node). IsFound (node_at l) (length l) u i) same found) in
      of_view w No (stands_no nodes held kept v.claims (ap (λ (c : Caching). c.claims) view) s w (filled w k long some)
      (⊎_elim
      (λ (r : (i ≡ 0) × ((j : ℕ) → 0 < j → j < length nodes → IsPrefix w (word_of (node_at nodes) j) → w ≡ [])). r.1)
      (λ (r : (0 < i) × (i < length nodes) × (word_of (node_at nodes) i ≡ w)). absurd (omega (arith, r.0, none)))
      f))

  pub look_known : (w : List ℕ) (i : ℕ) (b : Node) → IsHere nodes w i b → b.answer ≢ no_answer → Stands (answers_of v.kept) v.claims w Yes
  look_known w i b h some =
      of_view w Yes (stands_yes nodes held kept v.claims (ap (λ (c : Caching). c.claims) view) s w i h.positive h.within h.word (subst (λ (x : Node). x.answer ≢ no_answer) (sym h.node) some))

  pub look_pending : (w : List ℕ) (i : ℕ) (b : Node) → IsHere nodes w i b → b.answer ≡ no_answer → b.claim ≢ no_claim → Stands (answers_of v.kept) v.claims w (Pending b.claim) × (b.claim < no_claim)
  look_pending w i b h none some =
      let r = stands_pending nodes held kept v.claims (ap (λ (c : Caching). c.claims) view) s w i few_answers h.positive h.within h.word (ap (λ (x : Node). x.answer) h.node ∙ none) (subst (λ (x : Node). x.claim ≢ no_claim) (sym h.node) some) in
      let is : (node_at nodes i).claim ≡ b.claim = ap (λ (x : Node). x.claim) h.node in
      (of_view w (Pending b.claim) (subst (λ (k : ℕ). Stands (answers_of kept) v.claims w (Pending k)) is r.0), omega (arith, r.1, is))

  pub look_free : (w : List ℕ) (i : ℕ) (b : Node) → IsHere nodes w i b → b.answer ≡ no_answer → b.claim ≡ no_claim → Stands (answers_of v.kept) v.claims w No
  look_free w i b h none free =
      of_view w No (stands_free nodes held kept v.claims (ap (λ (c : Caching). c.claims) view) s w i few_answers h.positive h.within h.word (ap (λ (x : Node). x.answer) h.node ∙ none) (ap (λ (x : Node). x.claim) h.node ∙ free))

  pub unknown_seen : (w : List ℕ) (i : ℕ) (b : Node) → IsHere nodes w i b → b.answer ≡ no_answer → ¬ IsKnown (answers_of v.kept) w
  unknown_seen w i b h none known =
      unknown_at nodes held kept v.claims (ap (λ (c : Caching). c.claims) view) s w i few_answers h.positive h.within h.word (ap (λ (x : Node). x.answer) h.node ∙ none)
      (subst (λ (l : List KeptAnswer). IsKnown (answers_of l) w) (ap (λ (c : Caching). c.kept) (sym view)) known)

  -- the answer that a node tells: there is one, and it has the word's outputs
  pub answer_seen : (w : List ℕ) (i : ℕ) (b : Node) → IsHere nodes w i b → b.answer ≢ no_answer → b.answer < length kept
  answer_seen w i b h some =
      let r = s.answered.clear i h.positive h.within (subst (λ (x : Node). x.answer ≢ no_answer) (sym h.node) some) in
      omega (arith, r.0.0, ap (λ (x : Node). x.answer) h.node, kept_count kept)

  pub outputs_seen : (w : List ℕ) (i : ℕ) (b : Node) (k : KeptAnswer) → IsHere nodes w i b → b.answer ≢ no_answer → slice_get kept b.answer ≡ Some k → (length w ≤ length k.outs) × Reads (answers_of v.kept) w (take (length w) k.outs)
  outputs_seen w i b k h some at =
      let r = s.answered.clear i h.positive h.within (subst (λ (x : Node). x.answer ≢ no_answer) (sym h.node) some) in
      let lt : b.answer < length kept = answer_seen w i b h some in
      let number : (node_at nodes i).answer ≡ b.answer = ap (λ (x : Node). x.answer) h.node in
      let is : answer_at (answers_of kept) b.answer ≡ answer_of k = kept_at kept b.answer k lt at in
      let in_word : IsPrefix w (answer_at (answers_of kept) b.answer).word =
      subst (λ (u : List ℕ). IsPrefix u (answer_at (answers_of kept) b.answer).word) h.word (subst (λ (a : ℕ). IsPrefix (word_of (node_at nodes) i) (answer_at (answers_of kept) a).word) number r.1) in
      let whole : length (answer_at (answers_of kept) b.answer).outs ≡ length (answer_at (answers_of kept) b.answer).word = s.whole b.answer (record { word = []; outs = [] }) (omega (arith, lt, kept_count kept)) in (
        omega (arith, prefix_long w (answer_at (answers_of kept) b.answer).word in_word, whole, ap (λ (a : Answer). length a.outs) is),
        subst (λ (l : List KeptAnswer). Reads (answers_of l) w (take (length w) k.outs)) (ap (λ (c : Caching). c.kept) view)
            (inr (b.answer, subst (IsClear (answers_of kept)) number r.0, in_word, ap (λ (a : Answer). take (length w) a.outs) (sym is))),
      )
