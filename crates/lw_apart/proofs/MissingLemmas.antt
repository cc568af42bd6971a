-- What is missing, from the fronts that the code goes through.
use Rattle.std.proofs.Common.{◌≡◌, ◌≢◌, ℕ, ◌+◌, inl, inr, List, [], sym, ap₂, subst}
use Rattle.std.specs.List.{All}
use Rattle.std.proofs.lemmas.List.Elements.{All-get_or}
use Rattle.lw_words.specs.Word.{Answer}
use Rattle.lw_mealy.specs.Machine.{Rows, IsMinimal, Gives, after}
use Rattle.lw_separate.specs.Canonical.{AreLeastAccess}
use Rattle.lw_cache.specs.Known.{IsKnown}
use Rattle.lw_apart.specs.Covers.{Covers}
use Rattle.lw_apart.specs.Pairs.{WordPair, fronts, pairs, IsKnownApart}
use Rattle.lw_apart.specs.Missing.{IsFirstOpen, IsWanted, IsLeastUnknown, IsMissing}
use Rattle.lw_apart.specs.bodies.Stages.{all_fronts}
use Rattle.lw_apart.specs.declared.fronts.Fronts.{Fronts}
use Rattle.lw_apart.proofs.ApartLemmas.{open_differs}
use Rattle.lw_apart.proofs.PairLemmas.{AreWords, pairs_words}
use Rattle.lw_apart.proofs.VerdictLemmas.{covered, is_open}
use Rattle.lw_separate.proofs.ListLemmas.{access_are_words}

module _ (a : ℕ) (h : Rows) (ks : List Answer) (k : ℕ) (f : Fronts) (inputs : f.inputs ≡ a) (longest : f.longest ≡ k + 1) (least : AreLeastAccess a h f.access) where
  abbrev list : List WordPair
  list = pairs f.inputs f.access f.longest

  same_fronts : all_fronts f ≡ fronts a f.access (k + 1)
  same_fronts = ap₂ (λ (b n : ℕ). fronts b f.access n) inputs longest

  same_pairs : list ≡ pairs a f.access (k + 1)
  same_pairs = ap₂ (λ (b n : ℕ). pairs b f.access n) inputs longest

  pub word_missing : (word : List ℕ) → IsLeastUnknown ks (all_fronts f) word → IsMissing a h ks k word
  word_missing word m = record { access = f.access; least = least; missing = inl (subst (λ (ws : List (List ℕ)). IsLeastUnknown ks ws word) same_fronts m) }

  pub nothing_missing : IsMinimal a h → Gives h ks → All (IsKnown ks) (all_fronts f) → All (IsKnownApart h ks) list → Covers a h ks k
  nothing_missing minimal gives known apart =
      covered a h ks k f.access least minimal gives (subst (All (IsKnown ks)) same_fronts known) (subst (All (IsKnownApart h ks)) same_pairs apart)

  module _ (pair : WordPair) (first : IsFirstOpen h ks list pair) where
    pub pair_words : AreWords a pair
    pair_words =
        let words : All (AreWords a) list = subst (All (AreWords a)) (sym same_pairs) (pairs_words a f.access (k + 1) (access_are_words a h f.access least)) in
        subst (AreWords a) (sym first.here) (All-get_or (AreWords a) list first.number ([], []) first.first.within words)

    pub pair_differs : after h 0 pair.0 ≢ after h 0 pair.1
    pair_differs = (open_differs h ks pair (is_open h ks list pair first)).0

    pub pair_missing : (word : List ℕ) → All (IsKnown ks) (all_fronts f) → IsWanted a h ks pair word → IsMissing a h ks k word
    pair_missing word known wanted =
        record {
          access = f.access;
          least = least;
          missing = inr (record {
            known = subst (All (IsKnown ks)) same_fronts known;
            pair = pair;
            open_pair = subst (λ (ps : List WordPair). IsFirstOpen h ks ps pair) same_pairs first;
            wanted = wanted;
          });
        }
