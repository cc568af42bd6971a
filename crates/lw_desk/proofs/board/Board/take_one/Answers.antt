use Rattle.std.proofs.Common.{◌≡◌, ◌<◌, ◌+◌, ℕ, List, [], length, map, drop, get_or, None, refl, ap, sym, ◌∙◌, subst, arith}
use Rattle.std.proofs.lemmas.List.{get_or_read, length-drop, map_push}
use Rattle.lw_words.specs.Word.{answers_of}
use Rattle.lw_cache.specs.Caching.{Claim, claim_of}
use Rattle.lw_cache.specs.Standing.{Stands}
use Rattle.lw_cache.specs.declared.known.Known.TheVariants.{No}
use Rattle.lw_desk.specs.Step.{DeskState, word_at_place, IsFirstFree, after_take}
use Rattle.lw_desk.specs.bodies.Board.{BoardState, Agrees, numbers_of}
use Rattle.lw_desk.specs.contracts.board.Board.{the_view}
use Rattle.lw_desk.proofs.BoardLemmas.{here_waits, here_free, here_unused, here_letters, here_first, here_taken}
use Rattle.lw_desk.proofs.TurnLemmas.{none_waits, first_is, agrees_take}
use Rattle.lw_desk.proofs.board.Board.take_one.Goals as goal

pub returns-then-self-len-clause-none : goal.returns-then-self-len-clause-none
returns-then-self-len-clause-none c s agrees =
    let b = c.self.inside in
    let batch : List (List ℕ) = map (λ p. p.0) b.batch.items in
    let next : ℕ = b.next in
    let order = b.order.items in
    let words = b.words.items in (
      none_waits c.args.self.now b.names batch b.cache.kept b.cache.claims b.stop words (drop next order) b.cache.words b.cache.letters c.self.view_is c.self.invariant.1 (omega (arith, length-drop next order, c.if-self-len.true, c.len.ensures, b.order.ok)) s agrees,
      agrees,
    )

pub index-requires : goal.index-requires
index-requires c =
    let b = c.self.inside in
    let batch : List (List ℕ) = map (λ p. p.0) b.batch.items in
    let next : ℕ = b.next in
    let order = b.order.items in
    let words = b.words.items in
    let lt : next < length order = omega (arith, c.self.invariant.0, c.if-self-len.false, c.len.ensures, b.order.ok) in
    let p : ℕ = c.index-place.result.now in
    let place : p ≡ get_or order next 0 = get_or_read order next p lt c.index-place.ensures 0 in
    let waits = here_waits batch b.cache.kept b.cache.claims b.stop words order next b.cache.words b.cache.letters c.self.invariant.1 lt p place in
    omega (arith, waits.at_hand.within, c.self.invariant.1.size, b.words.ok)

pub claim-requires-clause-unclaimed : goal.claim-requires-clause-unclaimed
claim-requires-clause-unclaimed c =
    let b = c.self.inside in
    let batch : List (List ℕ) = map (λ p. p.0) b.batch.items in
    let next : ℕ = b.next in
    let order = b.order.items in
    let words = b.words.items in
    let lt : next < length order = omega (arith, c.self.invariant.0, c.if-self-len.false, c.len.ensures, b.order.ok) in
    let p : ℕ = c.index-place.result.now in
    let place : p ≡ get_or order next 0 = get_or_read order next p lt c.index-place.ensures 0 in
    let waits = here_waits batch b.cache.kept b.cache.claims b.stop words order next b.cache.words b.cache.letters c.self.invariant.1 lt p place in
    let inside : p < length words = omega (arith, waits.at_hand.within, c.self.invariant.1.size) in
    let w = c.index.result.now in
    let word : w ≡ word_at_place words p = get_or_read words p w inside c.index.ensures [] in
    subst (λ (v : List ℕ). Stands (answers_of b.cache.kept) b.cache.claims v No) (sym (word ∙ waits.at_hand.word)) (here_free batch b.cache.kept b.cache.claims b.stop words order next b.cache.words b.cache.letters c.self.invariant.1 lt p place)

pub claim-requires-clause-unused : goal.claim-requires-clause-unused
claim-requires-clause-unused c =
    let b = c.self.inside in
    let batch : List (List ℕ) = map (λ p. p.0) b.batch.items in
    let next : ℕ = b.next in
    let order = b.order.items in
    let words = b.words.items in
    let lt : next < length order = omega (arith, c.self.invariant.0, c.if-self-len.false, c.len.ensures, b.order.ok) in
    let p : ℕ = c.index-place.result.now in
    let place : p ≡ get_or order next 0 = get_or_read order next p lt c.index-place.ensures 0 in
    here_unused batch b.cache.kept b.cache.claims b.stop words order next b.cache.words b.cache.letters c.self.invariant.1 lt p place

pub claim-requires-clause-letters : goal.claim-requires-clause-letters
claim-requires-clause-letters c =
    let b = c.self.inside in
    let batch : List (List ℕ) = map (λ p. p.0) b.batch.items in
    let next : ℕ = b.next in
    let order = b.order.items in
    let words = b.words.items in
    let lt : next < length order = omega (arith, c.self.invariant.0, c.if-self-len.false, c.len.ensures, b.order.ok) in
    let p : ℕ = c.index-place.result.now in
    let place : p ≡ get_or order next 0 = get_or_read order next p lt c.index-place.ensures 0 in
    let waits = here_waits batch b.cache.kept b.cache.claims b.stop words order next b.cache.words b.cache.letters c.self.invariant.1 lt p place in
    let inside : p < length words = omega (arith, waits.at_hand.within, c.self.invariant.1.size) in
    let w = c.index.result.now in
    let word : w ≡ word_at_place words p = get_or_read words p w inside c.index.ensures [] in
    omega (arith, here_letters batch b.cache.kept b.cache.claims b.stop words order next b.cache.words b.cache.letters c.self.invariant.1 lt p place, ap (λ (v : List ℕ). length v) word)

pub invariant_of-self : goal.invariant_of-self
invariant_of-self c =
    let b = c.self.inside in
    let batch : List (List ℕ) = map (λ p. p.0) b.batch.items in
    let next : ℕ = b.next in
    let order = b.order.items in
    let words = b.words.items in
    let lt : next < length order = omega (arith, c.self.invariant.0, c.if-self-len.false, c.len.ensures, b.order.ok) in
    let p : ℕ = c.index-place.result.now in
    let place : p ≡ get_or order next 0 = get_or_read order next p lt c.index-place.ensures 0 in
    let waits = here_waits batch b.cache.kept b.cache.claims b.stop words order next b.cache.words b.cache.letters c.self.invariant.1 lt p place in
    let inside : p < length words = omega (arith, waits.at_hand.within, c.self.invariant.1.size) in
    let w = c.index.result.now in
    let word : w ≡ word_at_place words p = get_or_read words p w inside c.index.ensures [] in
    let e = c.claim.ensures in
    (omega (arith, lt), here_taken batch b.cache.kept b.cache.claims b.stop words order next b.cache.words b.cache.letters c.self.invariant.1 lt p place w c.claim.new.self.kept c.claim.new.self.claims c.claim.new.self.words c.claim.new.self.letters word e.kept e.claims e.words e.letters)

pub returns-clause-some : goal.returns-clause-some
returns-clause-some c =
    let b = c.self.inside in
    let batch : List (List ℕ) = map (λ p. p.0) b.batch.items in
    let next : ℕ = b.next in
    let order = b.order.items in
    let words = b.words.items in
    let lt : next < length order = omega (arith, c.self.invariant.0, c.if-self-len.false, c.len.ensures, b.order.ok) in
    let p : ℕ = c.index-place.result.now in
    let place : p ≡ get_or order next 0 = get_or_read order next p lt c.index-place.ensures 0 in
    let waits = here_waits batch b.cache.kept b.cache.claims b.stop words order next b.cache.words b.cache.letters c.self.invariant.1 lt p place in
    let inside : p < length words = omega (arith, waits.at_hand.within, c.self.invariant.1.size) in
    let w = c.index.result.now in
    let word : w ≡ word_at_place words p = get_or_read words p w inside c.index.ensures [] in
    let e = c.claim.ensures in
    let live : b.stop ≡ None = ap (λ (v : BoardState). v.stop) c.self.view_is ∙ c.requires.live in
    let now : BoardState = record { naming = b.names; kept = c.claim.new.self.kept; claimed = numbers_of c.claim.new.self.claims; stop = b.stop; batch = batch; waiting = drop (next + 1) order } in
    subst (λ (v : BoardState). (actor : ℕ) (s : DeskState) → Agrees v s → IsFirstFree v.batch s p × Agrees now (after_take actor p s)) c.self.view_is (λ actor s agrees. (
      first_is (the_view b) s agrees p waits.at_hand.within waits.free (here_first batch b.cache.kept b.cache.claims b.stop words order next b.cache.words b.cache.letters c.self.invariant.1 lt p place live),
      agrees_take (the_view b) s agrees now actor p refl e.kept (ap numbers_of e.claims ∙ map_push (λ (d : Claim). d.number) b.cache.claims (claim_of p w)) refl,
    ))
