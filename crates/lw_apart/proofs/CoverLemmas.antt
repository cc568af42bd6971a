-- Answers that cover a machine fix it.
use Rattle.std.proofs.Common.{◌∷◌, inl, arith, ◌≡◌, ℕ, ◌+◌, ◌<◌, ◌≤◌, List, [], ◌++◌, length, get_or, take, refl, sym, ◌∙◌, subst}
use Rattle.std.proofs.lemmas.List.Elements.{recursion_from_All, All-from_recursion}
use Rattle.lw_words.specs.Word.{Answer, IsWord}
use Rattle.lw_separate.proofs.Before.{of_cases}
use Rattle.std.proofs.lemmas.List.Elements.{All-nil}
use Rattle.lw_mealy.specs.Machine.{Rows, IsMachine, Gives, IsMinimal}
use Rattle.lw_separate.specs.Canonical.{AreLeastAccess, IsLeastAccess}
use Rattle.lw_cache.specs.Known.{IsKnown}
use Rattle.lw_apart.specs.Covers.{KnownApart, ApartWhereDifferent, Covers, CoversIsSure}
use Rattle.lw_apart.proofs.Cover.{Apart, IsAccess, IsToldApart}
use Rattle.lw_chunks.proofs.NumberLemmas.{Over}
use Rattle.lw_apart.proofs.Known.{same_on_known}
use Rattle.lw_apart.proofs.Meets.{all_alike}

-- nothing leads to state 0 before the empty word
pub root_word : (a : ℕ) (h : Rows) (w : List ℕ) → IsLeastAccess a h 0 w → w ≡ []
root_word a h [] l = refl
root_word a h (x ∷ w) l = absurd (l.least [] (All-nil (λ y. y < a), refl) (of_cases [] (x ∷ w) (inl (omega arith))))

module _ (a : ℕ) (h : Rows) (access : List (List ℕ)) (machine : IsMachine a h) (least : AreLeastAccess a h access) where
  abbrev pub at : ℕ → List ℕ
  at q = get_or access q []

  over : (w : List ℕ) → IsWord a w → Over a w
  over w word = recursion_from_All (λ x. x < a) w word

  word : (w : List ℕ) → Over a w → IsWord a w
  word w o = All-from_recursion (λ x. x < a) w o

  pub is_access : IsAccess a h at
  is_access = record {
    root = root_word a h (at 0) (least.words 0 machine.some_state);
    over = λ q lt. over (at q) (least.words q lt).does.0;
    leads = λ q lt. (least.words q lt).does.1;
  }

  module _ (ks : List Answer) (k : ℕ) where
    pair : (u v : List ℕ) → KnownApart h ks u v → Apart h (IsKnown ks) u v
    pair u v r = (r.suffix, r.one, r.other, r.differ)

    pub told_of : (c : Covers a h ks k) → c.access ≡ access → IsToldApart a h at k (IsKnown ks)
    told_of c e =
        let known : (q : ℕ) (w : List ℕ) → q < length h → IsWord a w → length w ≤ k + 1 → IsKnown ks (at q ++ w) =
        subst (λ (ws : List (List ℕ)). (q : ℕ) (w : List ℕ) → q < length h → IsWord a w → length w ≤ k + 1 → IsKnown ks (get_or ws q [] ++ w)) e c.known in
        let apart : (p q : ℕ) (w : List ℕ) → p < length h → q < length h → IsWord a w → length w ≤ k + 1 → ApartWhereDifferent h ks (at p) (at q ++ w) =
        subst (λ (ws : List (List ℕ)). (p q : ℕ) (w : List ℕ) → p < length h → q < length h → IsWord a w → length w ≤ k + 1 → ApartWhereDifferent h ks (get_or ws p []) (get_or ws q [] ++ w)) e c.apart in
        let along : (q : ℕ) (w : List ℕ) (i j : ℕ) → q < length h → IsWord a w → length w ≡ k + 1 → 0 < i → i < j → j ≤ k + 1 → ApartWhereDifferent h ks (at q ++ take i w) (at q ++ take j w) =
        subst (λ (ws : List (List ℕ)). (q : ℕ) (w : List ℕ) (i j : ℕ) → q < length h → IsWord a w → length w ≡ k + 1 → 0 < i → i < j → j ≤ k + 1 → ApartWhereDifferent h ks (get_or ws q [] ++ take i w) (get_or ws q [] ++ take j w)) e c.along in
        record {
          bare = λ q lq mid o le. known q mid lq (word mid o) le;
          homes = λ s q ls lq mid o le n. pair (at s) (at q ++ mid) (apart s q mid ls lq (word mid o) le (λ is. n (sym is ∙ is_access.leads s ls)));
          ways = λ q lq mid o len i j some lo hi n. pair (at q ++ take i mid) (at q ++ take j mid) (along q mid i j lq (word mid o) len some lo hi n);
        }

    unpair : (u v : List ℕ) → Apart h (IsKnown ks) u v → KnownApart h ks u v
    unpair u v r = record { suffix = r.0; one = r.1; other = r.2; differ = r.3 }

    pub covers_of : IsToldApart a h at k (IsKnown ks) → IsMinimal a h → Gives h ks → Covers a h ks k
    covers_of t minimal gives = record {
      minimal = minimal;
      gives = gives;
      access = access;
      least = least;
      known = λ q w lq is le. t.bare q lq w (over w is) le;
      apart = λ p q w lp lq is le n. unpair (at p) (at q ++ w) (t.homes p q lp lq w (over w is) le (λ e. n (is_access.leads p lp ∙ sym e)));
      along = λ q w i j lq is len some lo hi n. unpair (at q ++ take i w) (at q ++ take j w) (t.ways q lq w (over w is) len i j some lo hi n);
    }

pub covers_is_sure : CoversIsSure
covers_is_sure a h ks k machine c m machine_m few given_m w is =
    all_alike a h m (at a h c.access machine c.least) k (IsKnown ks) machine machine_m few (is_access a h c.access machine c.least) (told_of a h c.access machine c.least ks k c refl)
    (λ u known. same_on_known m h ks u given_m c.gives known) w (recursion_from_All (λ x. x < a) w is)
