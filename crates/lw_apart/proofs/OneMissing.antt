-- At most one word is missing.
use Rattle.std.proofs.Common.{◌≡◌, ◌⊎◌, ℕ, ◌+◌, ⊎_elim, List, [], ◌++◌, get_or, sym, ap, ◌∙◌, subst}
use Rattle.std.proofs.lemmas.List.Elements.{All-contains}
use Rattle.lw_words.specs.Word.{Answer}
use Rattle.lw_mealy.specs.Machine.{Rows, after}
use Rattle.lw_separate.proofs.Before.{neither_before}
use Rattle.lw_separate.proofs.OneLemmas.{one_least_access, one_separating_word}
use Rattle.lw_cache.specs.Known.{IsKnown}
use Rattle.lw_apart.specs.Pairs.{WordPair, fronts, pairs, IsKnownApart}
use Rattle.lw_apart.specs.Missing.{IsFirstOpen, IsWanted, IsLeastUnknown, IsWantedFirst, IsMissing, OneMissing}
use Rattle.lw_apart.proofs.Lists.{first_one}

module _ (a : ℕ) (h : Rows) (ks : List Answer) where
  one_wanted : (pair : WordPair) (u v : List ℕ) → IsWanted a h ks pair u → IsWanted a h ks pair v → u ≡ v
  one_wanted pair u v f g =
      let e : f.suffix ≡ g.suffix = one_separating_word a h (after h 0 pair.0) (after h 0 pair.1) f.suffix g.suffix f.least g.least in
      ⊎_elim
      (λ (r : (u ≡ pair.0 ++ f.suffix) × ¬ IsKnown ks (pair.0 ++ f.suffix)). ⊎_elim
      (λ (s : (v ≡ pair.0 ++ g.suffix) × ¬ IsKnown ks (pair.0 ++ g.suffix)). r.0 ∙ (ap (λ (w : List ℕ). pair.0 ++ w) e ∙ sym s.0))
      (λ (s : (v ≡ pair.1 ++ g.suffix) × IsKnown ks (pair.0 ++ g.suffix)). absurd (r.1 (subst (λ (w : List ℕ). IsKnown ks (pair.0 ++ w)) (sym e) s.1)))
      g.first)
      (λ (r : (u ≡ pair.1 ++ f.suffix) × IsKnown ks (pair.0 ++ f.suffix)). ⊎_elim
      (λ (s : (v ≡ pair.0 ++ g.suffix) × ¬ IsKnown ks (pair.0 ++ g.suffix)). absurd (s.1 (subst (λ (w : List ℕ). IsKnown ks (pair.0 ++ w)) e r.1)))
      (λ (s : (v ≡ pair.1 ++ g.suffix) × IsKnown ks (pair.0 ++ g.suffix)). r.0 ∙ (ap (λ (w : List ℕ). pair.1 ++ w) e ∙ sym s.0))
      g.first)
      f.first

  one_open : (list : List WordPair) (e f : WordPair) → IsFirstOpen h ks list e → IsFirstOpen h ks list f → e ≡ f
  one_open list e f p q =
      let n : p.number ≡ q.number = first_one (IsKnownApart h ks) list ([], []) p.number q.number p.first q.first in
      p.here ∙ (ap (λ (i : ℕ). get_or list i ([], [])) n ∙ sym q.here)

  one_wanted_first : (words : List (List ℕ)) (list : List WordPair) (u v : List ℕ) → IsWantedFirst a h ks words list u → IsWantedFirst a h ks words list v → u ≡ v
  one_wanted_first words list u v f g =
      let e : f.pair ≡ g.pair = one_open list f.pair g.pair f.open_pair g.open_pair in
      one_wanted g.pair u v (subst (λ (pair : WordPair). IsWanted a h ks pair u) e f.wanted) g.wanted

  one_least_unknown : (words : List (List ℕ)) (u v : List ℕ) → IsLeastUnknown ks words u → IsLeastUnknown ks words v → u ≡ v
  one_least_unknown words u v f g = neither_before u v (g.least u f.does) (f.least v g.does)

  known_not_unknown : (words : List (List ℕ)) (list : List WordPair) (u v : List ℕ) → IsWantedFirst a h ks words list u → IsLeastUnknown ks words v → ⊥
  known_not_unknown words list u v f g = g.does.1 (All-contains (IsKnown ks) words v f.known g.does.0)

  module _ (k : ℕ) where
    abbrev MissingOf : List (List ℕ) → List ℕ → Type 0
    MissingOf access word = IsLeastUnknown ks (fronts a access (k + 1)) word ⊎ IsWantedFirst a h ks (fronts a access (k + 1)) (pairs a access (k + 1)) word

    one_missing_of : (access : List (List ℕ)) (u v : List ℕ) → MissingOf access u → MissingOf access v → u ≡ v
    one_missing_of access u v f g =
        let words : List (List ℕ) = fronts a access (k + 1) in
        let list : List WordPair = pairs a access (k + 1) in
        ⊎_elim
        (λ (r : IsLeastUnknown ks words u). ⊎_elim
        (λ (s : IsLeastUnknown ks words v). one_least_unknown words u v r s)
        (λ (s : IsWantedFirst a h ks words list v). absurd (known_not_unknown words list v u s r))
        g)
        (λ (r : IsWantedFirst a h ks words list u). ⊎_elim
        (λ (s : IsLeastUnknown ks words v). absurd (known_not_unknown words list u v r s))
        (λ (s : IsWantedFirst a h ks words list v). one_wanted_first words list u v r s)
        g)
        f

    one_word : (u v : List ℕ) → IsMissing a h ks k u → IsMissing a h ks k v → u ≡ v
    one_word u v f g =
        one_missing_of g.access u v (subst (λ (us : List (List ℕ)). MissingOf us u) (one_least_access a h f.access g.access f.least g.least) f.missing) g.missing

pub one_missing : OneMissing
one_missing a h ks k u v f g = one_word a h ks k u v f g
