-- That answers cover a machine, by the lists of words and pairs; and what is missing isn't known.
use Rattle.std.proofs.Common.{◌≡◌, ℕ, ◌+◌, ◌<◌, ⊎_elim, List, [], ◌++◌, length, subst, arith}
use Rattle.std.specs.List.{All}
use Rattle.std.proofs.lemmas.List.Elements.{All-contains}
use Rattle.lw_words.specs.Word.{Answer}
use Rattle.lw_mealy.specs.Machine.{Rows, IsMinimal, Gives}
use Rattle.lw_separate.specs.Canonical.{AreLeastAccess}
use Rattle.lw_separate.proofs.OneLemmas.{one_least_access}
use Rattle.lw_cache.specs.Known.{IsKnown}
use Rattle.lw_apart.specs.Covers.{Covers}
use Rattle.lw_apart.specs.Pairs.{WordPair, fronts, pairs, IsKnownApart}
use Rattle.lw_apart.specs.Missing.{IsFirstOpen, IsWanted, IsLeastUnknown, IsWantedFirst, IsMissing, MissingIsUnknown}
use Rattle.lw_apart.proofs.Lists.{first_not_all}
use Rattle.lw_apart.proofs.ApartLemmas.{open_differs}
use Rattle.lw_apart.proofs.PairLemmas.{fronts_all, pairs_homes, pairs_ways, all_fronts, all_pairs}

module _ (a : ℕ) (h : Rows) (ks : List Answer) (k : ℕ) (access : List (List ℕ)) (least : AreLeastAccess a h access) where
  within : (q : ℕ) → q < length h → q < length access
  within q lt = omega (arith, lt, least.each)

  pub covered : IsMinimal a h → Gives h ks → All (IsKnown ks) (fronts a access (k + 1)) → All (IsKnownApart h ks) (pairs a access (k + 1)) → Covers a h ks k
  covered minimal gives known apart = record {
    minimal = minimal;
    gives = gives;
    access = access;
    least = least;
    known = λ q w lq is le. fronts_all a access (IsKnown ks) (k + 1) known q w (within q lq) is le;
    apart = λ p q w lp lq is le. pairs_homes a access (IsKnownApart h ks) (k + 1) apart p q w (within p lp) (within q lq) is le;
    along = λ q w i j lq is long some lt le. pairs_ways a access (IsKnownApart h ks) (k + 1) apart q w i j (within q lq) is long some lt le;
  }

  module _ (c : Covers a h ks k) where
    same : c.access ≡ access
    same = one_least_access a h c.access access c.least least

    pub known_all : All (IsKnown ks) (fronts a access (k + 1))
    known_all = subst (λ (us : List (List ℕ)). All (IsKnown ks) (fronts a us (k + 1))) same
        (all_fronts a c.access (IsKnown ks) (k + 1) (λ q w lq is le. c.known q w (omega (arith, lq, c.least.each)) is le))

    pub apart_all : All (IsKnownApart h ks) (pairs a access (k + 1))
    apart_all = subst (λ (us : List (List ℕ)). All (IsKnownApart h ks) (pairs a us (k + 1))) same
        (all_pairs a c.access (IsKnownApart h ks) (k + 1)
        (λ p q w lp lq is le. c.apart p q w (omega (arith, lp, c.least.each)) (omega (arith, lq, c.least.each)) is le)
        (λ q w i j lq is long some lt le. c.along q w i j (omega (arith, lq, c.least.each)) is long some lt le))

-- where a word is missing the answers don't cover the machine
pub missing_uncovered : (a : ℕ) (h : Rows) (ks : List Answer) (k : ℕ) (word : List ℕ) → IsMissing a h ks k word → Covers a h ks k → ⊥
missing_uncovered a h ks k word m c =
    ⊎_elim
    (λ (f : IsLeastUnknown ks (fronts a m.access (k + 1)) word).
    f.does.1 (All-contains (IsKnown ks) (fronts a m.access (k + 1)) word (known_all a h ks k m.access m.least c) f.does.0))
    (λ (f : IsWantedFirst a h ks (fronts a m.access (k + 1)) (pairs a m.access (k + 1)) word).
    first_not_all (IsKnownApart h ks) (pairs a m.access (k + 1)) ([], []) f.open_pair.number f.open_pair.first (apart_all a h ks k m.access m.least c))
    m.missing

-- the first open pair isn't known apart
pub is_open : (h : Rows) (ks : List Answer) (list : List WordPair) (pair : WordPair) → IsFirstOpen h ks list pair → ¬ IsKnownApart h ks pair
is_open h ks list pair f apart = f.first.fails ([], []) (subst (IsKnownApart h ks) f.here apart)

wanted_unknown : (a : ℕ) (h : Rows) (ks : List Answer) (pair : WordPair) (word : List ℕ) → ¬ IsKnownApart h ks pair → IsWanted a h ks pair word → ¬ IsKnown ks word
wanted_unknown a h ks pair word not_so w known =
    ⊎_elim
    (λ (r : (word ≡ pair.0 ++ w.suffix) × ¬ IsKnown ks (pair.0 ++ w.suffix)). r.1 (subst (IsKnown ks) r.0 known))
    (λ (r : (word ≡ pair.1 ++ w.suffix) × IsKnown ks (pair.0 ++ w.suffix)).
    (open_differs h ks pair not_so).1 (record { suffix = w.suffix; one = r.1; other = subst (IsKnown ks) r.0 known; differ = w.least.does.1 }))
    w.first

pub missing_is_unknown : MissingIsUnknown
missing_is_unknown a h ks k word m =
    ⊎_elim
    (λ (f : IsLeastUnknown ks (fronts a m.access (k + 1)) word). f.does.1)
    (λ (f : IsWantedFirst a h ks (fronts a m.access (k + 1)) (pairs a m.access (k + 1)) word).
    wanted_unknown a h ks f.pair word (is_open h ks (pairs a m.access (k + 1)) f.pair f.open_pair) f.wanted)
    m.missing
