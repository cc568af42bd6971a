use Rattle.std.proofs.Common.{◌≡◌, ◌<◌, ℕ, List, length, get_or, take, Contains, ap, sym, ◌∙◌, subst, arith}
use Rattle.std.proofs.lemmas.List.{take_more}
use Rattle.lw_cache.specs.Caching.{without_claim}
use Rattle.lw_desk.specs.bodies.Board.{numbers_of, without_all, without_numbers}
use Rattle.lw_desk.proofs.BoardLemmas.{used, held_at, numbers_without_all, without_all_more}
use Rattle.lw_desk.proofs.board.release_all.Goals as goal

pub release-requires : goal.release-requires
release-requires c =
    let i : ℕ = c.loop-place.place-index in
    let places = c.args.places.now in
    let claims = c.args.cache.now.claims in
    let lt : i < length places = omega arith in
    let numbers : without_numbers (take i places) (numbers_of claims) ≡ numbers_of c.loop-place.cache.claims = sym (ap numbers_of c.loop-place.invariant.claims ∙ numbers_without_all (take i places) claims) in
    used c.loop-place.cache.claims (get_or places i 0) (subst (λ (l : List ℕ). Contains l (get_or places i 0)) numbers (held_at (numbers_of claims) places i c.requires.held lt))

pub loop-place-preserved : goal.loop-place-preserved
loop-place-preserved c =
    let i : ℕ = c.loop-place.place-index in
    let places = c.args.places.now in
    let claims = c.args.cache.now.claims in
    let lt : i < length places = omega arith in
    record {
      kept = c.release.ensures.kept ∙ c.loop-place.invariant.kept;
      claims = c.release.ensures.claims
          ∙ (ap (without_claim (get_or places i 0)) c.loop-place.invariant.claims
          ∙ (sym (without_all_more (take i places) (get_or places i 0) claims)
          ∙ ap (λ (l : List ℕ). without_all l claims) (sym (take_more places i 0 lt))));
      words = c.release.ensures.room.0 ∙ c.loop-place.invariant.words;
      letters = c.release.ensures.room.1 ∙ c.loop-place.invariant.letters;
    }
