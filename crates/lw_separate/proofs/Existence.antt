-- A canonical machine of each machine exists.
use Rattle.std.proofs.Common.{◌≡◌, ℕ, ◌<◌, List, [], length, map, get_or, Option, None, unwrap_or, refl, ap, ◌∙◌, arith}
use Rattle.std.specs.List.{All}
use Rattle.std.proofs.Math.ListN.{get_or-map}
use Rattle.std.proofs.lemmas.List.Elements.{All-from_get_or}
use Rattle.lw_mealy.specs.Machine.{Rows, IsMachine, row, next}
use Rattle.lw_separate.specs.Canonical.{SomeCanonical}
use Rattle.lw_separate.specs.bodies.Renaming.{Merges, Renames, RenamesRow, renamed, IsAllStates, NamesPlaces}
use Rattle.lw_separate.proofs.MergeLemmas.{merges, merge_closed, number_closed}
use Rattle.lw_separate.proofs.CanonicalLemmas.{is_canonical}
use Rattle.lw_separate.proofs.ExistenceLevels.{collected, names}
use Rattle.lw_separate.proofs.ExistenceSearch.{searched}

module _ (a : ℕ) (m : Rows) where
  renamed_row : (names : List ℕ) (q : ℕ) → (r : List (ℕ × ℕ)) × RenamesRow a m names q r
  renamed_row names q =
      let r = collected (λ x c. c ≡ renamed m names q x) (0, 0) a (λ x lt. (renamed m names q x, refl)) in
      (r.0, record { long = r.1; cells = λ x xa. r.2 x (omega (arith, r.1)) })

  -- states whose targets are renamed to places of theirs are the rows of a machine
  renamed_machine : (states names : List ℕ) → 0 < length states → ((k x : ℕ) → k < length states → x < a → get_or names (next m (get_or states k 0) x) 0 < length states) → (c : Rows) × Renames a m states names c
  renamed_machine states names some closed =
      let c = collected (λ k r. RenamesRow a m names (get_or states k 0) r) [] (length states) (λ k lt. renamed_row names (get_or states k 0)) in (
        c.0,
        record {
          machine = record {
            some_state = omega (arith, c.1);
            complete = All-from_get_or (λ r. (length r ≡ a) × All (λ e. e.0 < length c.0) r) c.0 [] (λ k lt.
                let r = c.2 k lt in (
                  r.long,
                  All-from_get_or (λ e. e.0 < length c.0) (row c.0 k) (0, 0) (λ x lx.
                      let xa : x < a = omega (arith, r.long) in
                      let e = ap (λ (e : ℕ × ℕ). e.0) (r.cells x xa) in
                      omega (arith, e, closed k x (omega (arith, c.1)) xa, c.1)),
                ));
          };
          long = c.1;
          cells = λ k x lk xa. (c.2 k (omega (arith, c.1))).cells x xa;
        },
      )

  merged_machine : IsMachine a m → (h : Rows) × Merges a m h
  merged_machine machine =
      let n = names a m machine in
      let s = collected (λ k q. q ≡ k) 0 (length m) (λ k lt. (k, refl)) in
      let all : IsAllStates m s.0 = record { long = s.1; each = s.2 } in
      let h = renamed_machine s.0 n.0 (omega (arith, s.1, machine.some_state)) (merge_closed a m s.0 n.0 machine all n.1) in
      (h.0, merges a m s.0 n.0 h.0 machine all n.1 h.1)

-- the places as names, and 0 where there is none
abbrev names_of : List (Option ℕ) → List ℕ
names_of places = map (λ place. unwrap_or place 0) places

named_by_place : (places : List (Option ℕ)) → NamesPlaces places (names_of places)
named_by_place places q k at = get_or-map (λ (place : Option ℕ). unwrap_or place 0) places q None ∙ ap (λ (place : Option ℕ). unwrap_or place 0) at

pub some_canonical : SomeCanonical
some_canonical a m machine =
    let h = merged_machine a m machine in
    let s = searched a h.0 h.1.machine in
    let named = named_by_place s.places in
    let c = renamed_machine a h.0 s.states (names_of s.places) (omega (arith, s.search.some, s.search.paired)) (number_closed a h.0 s.words s.states s.places (names_of s.places) s.search named) in
    (c.0, is_canonical a m h.0 h.1 machine.some_state s.words s.states s.places s.search (names_of s.places) named c.0 c.1)
