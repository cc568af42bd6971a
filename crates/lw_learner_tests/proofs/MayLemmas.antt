-- A letter that may take the place of the root.
use Rattle.std.proofs.Common.{◌≡◌, ◌≢◌, inl, ℕ, ◌<◌, true, List, [], ◌∷◌, ◌++◌, length, refl, ap, sym, ◌∙◌, arith}
use Rattle.std.proofs.lemmas.List.Elements.{All-push, All-nil}
use Rattle.lw_words.specs.Word.{Answer}
use Rattle.lw_mealy.specs.Machine.{Rows, output}
use Rattle.lw_cache.specs.Cut.{word_at}
use Rattle.lw_cache.specs.Known.{IsKnown}
use Rattle.lw_cache.proofs.KnownLemmas.{known_is_read}
use Rattle.lw_tree.specs.Blocks.{IsMember, MayReplace}
use Rattle.lw_tree.specs.Tree.{TreeState, node_at, is_temporary, IsMachineOf, BranchesAreRead, Tells}

abbrev first_of : List ℕ → ℕ
first_of [] = 0
first_of (y ∷ ys) = y

module _ (ks : List Answer) (t : TreeState) (m : Rows) (x : ℕ) (machine : IsMachineOf t m) (read : BranchesAreRead ks t) (small : x < t.inputs) where
  told : (q : ℕ) → q < length t.access → Tells ks (word_at t.access q) (x ∷ []) (output m q x ∷ [])
  told q lt = read.outs q x (output m q x) lt small (machine.outs q x lt small)

  known : (q : ℕ) → q < length t.access → IsKnown ks (word_at t.access q ++ x ∷ [])
  known q lt = let w = told q lt in (known_is_read ks (word_at t.access q ++ x ∷ [])).1 (w.0, w.1)

  pub letter_may : (one other : ℕ) → is_temporary (node_at t.nodes 0).content ≡ true → IsMember t 0 one → IsMember t 0 other → output m one x ≢ output m other x → MayReplace ks t 0 (x ∷ [])
  letter_may one other temporary one_member other_member differ =
      let first = told one one_member.0 in
      let second = told other other_member.0 in
      record {
        block = record { temporary = temporary; highest = λ some. absurd (omega (arith, some)) };
        letters = All-push (λ y. y < t.inputs) [] x (All-nil (λ y. y < t.inputs)) small;
        tail = (x, inl refl);
        known = λ q member. known q member.0;
        told = record {
          one = one;
          other = other;
          one_member = one_member;
          other_member = other_member;
          differ = record {
            one = first.0;
            other = second.0;
            one_read = first.1;
            other_read = second.1;
            differ = λ same. differ (ap first_of (first.2 ∙ (same ∙ sym second.2)));
          };
        };
      }
