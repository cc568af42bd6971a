-- What the calls give by which two states that part are picked, taken together.
use Rattle.std.proofs.Common.{◌≡◌, ℕ, ◌<◌, List, get_or, sym, subst}
use Rattle.lw_tree.specs.Blocks.{IsBlock}
use Rattle.lw_tree.specs.Tree.{TreeState, IsTree, IsClosed}
use Rattle.lw_settle.specs.bodies.Parting.{number_at, AreRoots, AreMembers, IsParting, IsPartingOf}
use Rattle.lw_settle.specs.declared.parting.Parting.{Parting}
use Rattle.lw_settle.proofs.BlockLemmas.{root_read}
use Rattle.lw_settle.proofs.ChoiceLemmas.{parting_of, parting_block}

-- two states of one class that part, the root of their class, and its members
pub record ArePicked (t : TreeState) (roots : List ℕ) (parting : Parting) (root : ℕ) (members : List ℕ) : Type 0 where
  pub tree : IsTree t
  pub are : AreRoots t roots
  pub is : IsParting t roots parting
  pub at : root ≡ number_at roots parting.one
  pub of : AreMembers t root members

pub picked : {t : TreeState} {roots seen again members : List ℕ} (parting : Parting) {from root : ℕ} → IsTree t → AreRoots t roots → seen ≡ roots → IsParting t seen parting → from ≡ parting.one → root ≡ get_or roots from root → again ≡ roots → ((u : TreeState) → IsTree u → AreRoots u again → AreMembers u root members)
    → ArePicked t roots parting root members
picked {t = t} {roots = roots} parting {from = from} {root = root} g are seen_is parts from_is root_is again_is of =
    let is : IsParting t roots parting = subst (λ (l : List ℕ). IsParting t l parting) seen_is parts in
    record {
      tree = g;
      are = are;
      is = is;
      at = root_read roots from parting.one root (subst (λ (n : ℕ). parting.one < n) (sym are.each) is.one) from_is root_is;
      of = of t g (subst (AreRoots t) (sym again_is) are);
    }

module _ {t : TreeState} {roots : List ℕ} {parting : Parting} {root : ℕ} {members : List ℕ} (w : ArePicked t roots parting root members) where
  pub picked_members : {stood : List ℕ} → stood ≡ members → AreMembers t root stood
  picked_members same = subst (AreMembers t root) (sym same) w.of

  pub picked_parting : {stood : List ℕ} → stood ≡ members → IsPartingOf t stood parting
  picked_parting same = subst (λ (l : List ℕ). IsPartingOf t l parting) (sym same) (parting_of t w.tree roots w.are members parting w.is (subst (λ (r : ℕ). AreMembers t r members) w.at w.of))

  pub picked_block : IsClosed t → IsBlock t root
  picked_block closed = subst (IsBlock t) (sym w.at) (parting_block t w.tree roots w.are parting closed w.is)
