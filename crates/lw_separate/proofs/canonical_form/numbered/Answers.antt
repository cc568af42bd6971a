use Rattle.std.proofs.Common.{◌≡◌, ◌∙◌, List, ℕ, length, get_or, Option, None, ap}
use Rattle.lw_separate.specs.bodies.Renaming.{NamesPlaces}
use Rattle.lw_separate.proofs.MergeLemmas.{can_number}
use Rattle.lw_separate.proofs.CanonicalLemmas.{canonical_of}
use Rattle.lw_separate.proofs.canonical_form.numbered.Goals as goal

pub rename-requires : goal.rename-requires
rename-requires c = record {
  can =
      let s = c.in_ok-search.search in
      let named : NamesPlaces s.places.items c.as_slice-3.result.now = λ q k at. ap (λ (l : List ℕ). get_or l q 0) c.as_slice-3.ensures.value ∙ c.in_ok-names.ensures.places q k (ap (λ (l : List (Option ℕ)). get_or l q None) c.as_slice.ensures.value ∙ at) in
      let long : length c.as_slice-3.result.now ≡ length s.places.items = ap (λ (l : List ℕ). length l) c.as_slice-3.ensures.value ∙ (c.in_ok-names.ensures.long ∙ ap (λ (l : List (Option ℕ)). length l) c.as_slice.ensures.value) in
      rw c.as_slice-2.ensures.value (can_number c.args.h.now.inputs c.args.h.now.rows s.words.items s.states.items s.places.items c.as_slice-3.result.now c.in_ok-search.ensures.complete.few c.in_ok-search.ensures.searched long named);
}

pub returns-clause-numbers : goal.returns-clause-numbers
returns-clause-numbers c =
    let s = c.in_ok-search.search in
    let named : NamesPlaces s.places.items c.as_slice-3.result.now = λ q k at. ap (λ (l : List ℕ). get_or l q 0) c.as_slice-3.ensures.value ∙ c.in_ok-names.ensures.places q k (ap (λ (l : List (Option ℕ)). get_or l q None) c.as_slice.ensures.value ∙ at) in
    λ m g. canonical_of c.args.h.now.inputs m c.args.h.now.rows c.in_ok-c.c.rows s.words.items s.states.items s.places.items c.as_slice-3.result.now c.as_slice-2.result.now g c.in_ok-search.ensures.searched named c.as_slice-2.ensures.value c.in_ok-c.ensures.renames
