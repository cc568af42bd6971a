-- The first node.
use Rattle.std.proofs.Common.{◌≡◌, ℕ, ◌<◌, ◌≤◌, inl, List, [], ◌∷◌, length, refl, ap, sym, ◌∙◌, subst, arith}
use Rattle.lw_words.specs.declared.kept.KeptAnswer.{KeptAnswer}
use Rattle.lw_cache.specs.bodies.Trie.{root, node_at, claims_of, IsChildOf, IsNewest, IsStored}
use Rattle.lw_cache.specs.declared.node.Node.{Node}
use Rattle.lw_cache.specs.declared.node.Held.{Held}

no_children : (j : ℕ) → IsChildOf (node_at (root ∷ [])) 0 1 j → j ≤ 0
no_children j child = omega (arith, child.1)

-- nothing is stored where there is no node, and so nothing under a root alone
root_stored : (held : List Held) (kept : List KeptAnswer) → IsStored (node_at []) 0 held kept → IsStored (node_at (root ∷ [])) 1 held kept
root_stored held kept s =
    record {
      trie = record {
        up = λ i pos lt. absurd (omega arith);
        first = λ i lt. let e : 0 ≡ i = omega arith in subst (λ (k : ℕ). IsNewest (node_at (root ∷ [])) k 1 (node_at (root ∷ []) k).first) e (record { is = inl refl; newest = no_children });
        next = λ c pos lt. absurd (omega arith);
        differ = λ i j pos before lt parents letters. absurd (omega arith);
      };
      answered = record {
        clear = λ i pos lt some. absurd (omega arith);
        each = λ a clear i pos lt p. absurd (omega arith);
        has = λ a clear. absurd (omega (arith, (s.answered.has a clear).1));
      };
      ends = record {
        within = λ k lt. absurd (omega (arith, (s.ends.within k lt).1));
        told = λ k lt. absurd (omega (arith, (s.ends.within k lt).1));
        few = s.ends.few;
        only = λ i pos lt some. absurd (omega arith);
        once = s.ends.once;
      };
      least = λ i pos lt. absurd (omega arith);
      whole = s.whole;
    }

root_claims : (held : List Held) (kept : List KeptAnswer) → IsStored (node_at []) 0 held kept → claims_of (node_at (root ∷ [])) held ≡ claims_of (node_at []) held
root_claims [] kept s = refl
root_claims (h ∷ held) kept s = absurd (omega (arith, (s.ends.within 0 (omega arith)).1))

pub plant_stored : (nodes now : List Node) (held : List Held) (kept : List KeptAnswer) → (nodes ≡ [] → now ≡ root ∷ []) → (0 < length nodes → now ≡ nodes) → IsStored (node_at nodes) (length nodes) held kept → IsStored (node_at now) (length now) held kept
plant_stored [] now held kept first later s = subst (λ (l : List Node). IsStored (node_at l) (length l) held kept) (sym (first refl)) (root_stored held kept s)
plant_stored (b ∷ nodes) now held kept first later s = subst (λ (l : List Node). IsStored (node_at l) (length l) held kept) (sym (later (omega arith))) s

pub plant_claims : (nodes now : List Node) (held : List Held) (kept : List KeptAnswer) → (nodes ≡ [] → now ≡ root ∷ []) → (0 < length nodes → now ≡ nodes) → IsStored (node_at nodes) (length nodes) held kept → claims_of (node_at now) held ≡ claims_of (node_at nodes) held
plant_claims [] now held kept first later s = ap (λ (l : List Node). claims_of (node_at l) held) (first refl) ∙ root_claims held kept s
plant_claims (b ∷ nodes) now held kept first later s = ap (λ (l : List Node). claims_of (node_at l) held) (later (omega arith))
