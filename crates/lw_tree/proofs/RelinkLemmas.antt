-- Nodes that are put into lists anew, and cleared one by one.
use Rattle.std.proofs.Common.{◌≡◌, ◌≢◌, ⊎_elim, ℕ, zero, suc, ◌+◌, ◌<◌, ◌≤◌, Bool, true, false, true≢false, ◌==◌, if◌then◌else◌, List, [], ◌∷◌, length, set, Option, Some, None, refl, ap, sym, ◌∙◌, subst, arith}
use Rattle.std.proofs.lemmas.Bool.{cases_lt, cases_eq, eq-eqb, ne_eqb, cond-true, cond-false}
use Rattle.std.proofs.lemmas.List.{length-set, ext_get_or}
use Rattle.lw_links.specs.Owners.{ListsByOwner, owner_of, pushed}
use Rattle.lw_tree.specs.Tree.{no_node, node_at, IsLive}
use Rattle.lw_tree.specs.bodies.Nodes.{IsChild, AreLinked}
use Rattle.lw_tree.specs.bodies.Sprouts.{mark_at, gone_node, cleared}
use Rattle.lw_tree.specs.declared.nodes.Node.{Node}
use Rattle.lw_tree.specs.declared.nodes.Content.{Content}
use Rattle.lw_tree.specs.declared.nodes.Content.TheVariants.{State, Discriminator, Gone}
use Rattle.lw_tree.proofs.ArrivalLemmas.{size_pushed}
use Rattle.lw_tree.proofs.NodeLemmas.{written, live_within}
use Rattle.lw_tree.proofs.ClearedLemmas.{cleared_long}

-- the nodes before a number are in their lists
pub record AreLinkedTo (nodes : List Node) (upto : ℕ) (v : ListsByOwner) : Type 0 where
  pub owners : length v.lists ≡ v.cells
  pub each : length nodes ≤ v.cells
  pub linked : (p n : ℕ) → n < upto → IsChild (node_at nodes) p n → owner_of v n ≡ Some p
  pub child : (p n : ℕ) → owner_of v n ≡ Some p → (n < upto) × IsChild (node_at nodes) p n

pub linked_none : (nodes : List Node) (v : ListsByOwner) → length v.lists ≡ v.cells → length nodes ≤ v.cells → ((k : ℕ) → owner_of v k ≡ None) → AreLinkedTo nodes 1 v
linked_none nodes v owners each none =
    record {
      owners = owners;
      each = each;
      linked = λ p n lt child. let some = child.0 in absurd (omega (arith, lt, some));
      child = λ p n is. let both : None ≡ Some p = sym (none n) ∙ is in absurd cc;
    }

pub live_else : (c : Content) → (c ≡ Gone → ⊥) → IsLive c
live_else (State q) other = tt
live_else (Discriminator word temporary) other = tt
live_else Gone other = absurd (other refl)

module _ (nodes : List Node) (upto : ℕ) (v : ListsByOwner) (l : AreLinkedTo nodes upto v) where
  -- a node that isn't live stands in no list
  pub linked_gone : (node_at nodes upto).content ≡ Gone → AreLinkedTo nodes (upto + 1) v
  linked_gone is =
      record {
        owners = l.owners;
        each = l.each;
        linked = λ p n lt child. ⊎_elim
            (λ (less : n < upto). l.linked p n less child)
            (λ (ge : upto ≤ n). let same : n ≡ upto = omega (arith, lt, ge) in elim (subst IsLive (ap (λ (k : ℕ). (node_at nodes k).content) same ∙ is) child.1) [ ])
            (cases_lt n upto);
        child = λ p n e. let here = l.child p n e in let lt = here.0 in (omega (arith, lt), here.1);
      }

  -- the next one stands in none yet
  pub next_free : owner_of v upto ≡ None
  next_free = by (owner_of v upto) refl
    where
      by : (s : Option ℕ) → owner_of v upto ≡ s → owner_of v upto ≡ None
      by None e = e
      by (Some p) e = let lt = (l.child p upto e).0 in absurd (omega (arith, lt))

  pub linked_first : (w : ListsByOwner) → 0 < upto → IsLive (node_at nodes upto).content → w ≡ pushed v (node_at nodes upto).parent upto → ((k : ℕ) → owner_of w k ≡ (if k == upto then Some (node_at nodes upto).parent else owner_of v k)) → AreLinkedTo nodes (upto + 1) w
  linked_first w some live is owner =
      let size = size_pushed v (node_at nodes upto).parent upto in
      let cells : w.cells ≡ v.cells = ap (λ (u : ListsByOwner). u.cells) is ∙ size.cells in
      let each = l.each in
      record {
        owners = ap (λ (u : ListsByOwner). length u.lists) is ∙ (size.owners ∙ (l.owners ∙ sym cells));
        each = omega (arith, each, cells);
        linked = λ p n lt child. ⊎_elim
            (λ (same : n ≡ upto). owner n ∙ (cond-true _ _ _ (eq-eqb n upto same) ∙ ap Some (ap (λ (m : ℕ). (node_at nodes m).parent) (sym same) ∙ child.2)))
            (λ (other : n ≢ upto). owner n ∙ (cond-false _ _ _ (ne_eqb n upto other) ∙ l.linked p n (omega (arith, lt, other)) child))
            (cases_eq n upto);
        child = λ p n e. ⊎_elim
            (λ (same : n ≡ upto).
            let both : Some (node_at nodes upto).parent ≡ Some p = sym (owner n ∙ cond-true _ _ _ (eq-eqb n upto same)) ∙ e in
            let up : (node_at nodes upto).parent ≡ p = cc in
            (omega (arith, same), subst (λ (m : ℕ). IsChild (node_at nodes) p m) (sym same) (some, live, up)))
            (λ (other : n ≢ upto).
            let here = l.child p n (sym (owner n ∙ cond-false _ _ _ (ne_eqb n upto other)) ∙ e) in
            let lt = here.0 in
            (omega (arith, lt), here.1))
            (cases_eq n upto);
      }

pub linked_all : (nodes : List Node) (upto : ℕ) (v : ListsByOwner) → upto ≡ length nodes → AreLinkedTo nodes upto v → AreLinked nodes v
linked_all nodes upto v all l =
    record {
      owners = l.owners;
      each = l.each;
      linked = λ p n child. l.linked p n (let lt = live_within nodes n child.1 in omega (arith, lt, all)) child;
      child = λ p n e. (l.child p n e).1;
    }

-- the nodes before a number are cleared
pub record AreClearedTo (was : List Node) (marks : List Bool) (upto : ℕ) (nodes : List Node) : Type 0 where
  pub size : length nodes ≡ length was
  pub before : (n : ℕ) → n < upto → node_at nodes n ≡ node_at (cleared was marks) n
  pub after : (n : ℕ) → upto ≤ n → node_at nodes n ≡ node_at was n

cleared_yes : (nodes : List Node) (marks : List Bool) (n : ℕ) → mark_at marks n ≡ true → node_at (cleared nodes marks) n ≡ gone_node (node_at nodes n)
cleared_yes [] marks n is = refl
cleared_yes (x ∷ nodes) [] n is = absurd (true≢false (sym is))
cleared_yes (x ∷ nodes) (true ∷ marks) zero is = refl
cleared_yes (x ∷ nodes) (true ∷ marks) (suc n) is = cleared_yes nodes marks n is
cleared_yes (x ∷ nodes) (false ∷ marks) zero is = absurd (true≢false (sym is))
cleared_yes (x ∷ nodes) (false ∷ marks) (suc n) is = cleared_yes nodes marks n is

cleared_no : (nodes : List Node) (marks : List Bool) (n : ℕ) → mark_at marks n ≡ false → node_at (cleared nodes marks) n ≡ node_at nodes n
cleared_no [] marks n is = refl
cleared_no (x ∷ nodes) [] n is = refl
cleared_no (x ∷ nodes) (true ∷ marks) zero is = absurd (true≢false is)
cleared_no (x ∷ nodes) (true ∷ marks) (suc n) is = cleared_no nodes marks n is
cleared_no (x ∷ nodes) (false ∷ marks) zero is = refl
cleared_no (x ∷ nodes) (false ∷ marks) (suc n) is = cleared_no nodes marks n is

pub cleared_none : (was : List Node) (marks : List Bool) → AreClearedTo was marks 0 was
cleared_none was marks = record { size = refl; before = λ n lt. absurd (omega (arith, lt)); after = λ n le. refl }

module _ (was : List Node) (marks : List Bool) (upto : ℕ) (nodes : List Node) (l : AreClearedTo was marks upto nodes) where
  pub cleared_skip : mark_at marks upto ≡ false → AreClearedTo was marks (upto + 1) nodes
  cleared_skip no_mark =
      record {
        size = l.size;
        before = λ n lt. ⊎_elim
            (λ (less : n < upto). l.before n less)
            (λ (ge : upto ≤ n). let same : upto ≡ n = omega (arith, lt, ge) in l.after n ge ∙ sym (cleared_no was marks n (subst (λ (k : ℕ). mark_at marks k ≡ false) same no_mark)))
            (cases_lt n upto);
        after = λ n le. l.after n (omega (arith, le));
      }

  pub cleared_next : mark_at marks upto ≡ true → upto < length nodes → AreClearedTo was marks (upto + 1) (set nodes upto (gone_node (node_at nodes upto)))
  cleared_next mark inside =
      let update = written nodes upto (gone_node (node_at nodes upto)) no_node inside in
      record {
        size = length-set nodes upto (gone_node (node_at nodes upto)) ∙ l.size;
        before = λ n lt. ⊎_elim
            (λ (same : n ≡ upto). ap (node_at (set nodes upto (gone_node (node_at nodes upto)))) same ∙ (update.here ∙ (ap gone_node (l.after upto (omega arith)) ∙ (sym (cleared_yes was marks upto mark) ∙ ap (node_at (cleared was marks)) (sym same)))))
            (λ (other : n ≢ upto). update.others n other ∙ l.before n (⊎_elim (λ (less : n < upto). less) (λ (ge : upto ≤ n). absurd (other (omega (arith, lt, ge)))) (cases_lt n upto)))
            (cases_eq n upto);
        after = λ n le. update.others n (λ same. omega (arith, same, le)) ∙ l.after n (omega (arith, le));
      }

  pub cleared_all : length was ≤ upto → nodes ≡ cleared was marks
  cleared_all past = ext_get_or no_node nodes (cleared was marks) (l.size ∙ sym (cleared_long was marks)) (λ n lt. l.before n (omega (arith, lt, past, l.size)))
