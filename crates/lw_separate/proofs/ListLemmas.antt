-- The least access words and the separating words are words, and there are fewer separating words than states.
use Rattle.std.proofs.Common.{◌≡◌, ℕ, ◌<◌, inl, List, [], length, arith}
use Rattle.std.specs.List.{All}
use Rattle.std.proofs.lemmas.List.Elements.{All-from_get_or}
use Rattle.lw_words.specs.Word.{IsWord}
use Rattle.lw_mealy.specs.Machine.{Rows}
use Rattle.lw_separate.specs.Canonical.{AreLeastAccess}
use Rattle.lw_separate.specs.Separators.{IsSeparators}
use Rattle.lw_separate.proofs.CrowdLemmas.{fewer_words}

pub access_are_words : (a : ℕ) (m : Rows) (access : List (List ℕ)) → AreLeastAccess a m access → All (IsWord a) access
access_are_words a m access least =
    All-from_get_or (IsWord a) access [] (λ q lt. (least.words q (let each : length access ≡ length m = least.each in omega arith)).does.0)

pub ends_are_words : (a : ℕ) (m : Rows) (ends : List (List ℕ)) → IsSeparators a m ends → All (IsWord a) ends
ends_are_words a m ends s = All-from_get_or (IsWord a) ends [] (λ i lt. (s.least i lt).does.0)

pub few_ends : (a : ℕ) (m : Rows) (ends : List (List ℕ)) → IsSeparators a m ends → 0 < length m → length ends < length m
few_ends a m ends s some =
    fewer_words a m (length m, length m) ends
    (record {
      pairs = s.pairs;
      paired = s.paired;
      states = s.states;
      least = s.least;
      needed = s.needed;
      rising = s.rising;
      before = λ i lt. let pair = s.states i lt in inl (omega (arith, pair.0, pair.1));
      whole = λ p q lt lq earlier. s.whole p q lt lq;
    })
    some
