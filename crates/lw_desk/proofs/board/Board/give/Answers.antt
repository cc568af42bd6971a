use Rattle.std.proofs.Common.{◌≡◌, ◌<◌, ℕ, List, [], ◌∷◌, ◌++◌, length, map, drop, set, Contains, Option, ap, sym, ◌∙◌, subst, arith}
use Rattle.std.proofs.lemmas.List.{get_or_read, length-map}
use Rattle.lw_words.specs.Word.{answers_of, answer_of}
use Rattle.lw_words.specs.declared.kept.KeptAnswer.{KeptAnswer}
use Rattle.lw_cache.specs.Caching.{IsClaimOf, kept_answer}
use Rattle.lw_cache.specs.Known.{IsKnown}
use Rattle.lw_cache.specs.declared.stops.AskStop.{AskStop}
use Rattle.lw_names.specs.Naming.{Naming, shared, bring}
use Rattle.lw_desk.specs.Step.{DeskState, word_at_place, ActorGives, StopsBy, kept_of}
use Rattle.lw_desk.specs.bodies.Board.{BoardState, Agrees, IsAtHand, numbers_of, without_number, stop_after}
use Rattle.lw_desk.specs.contracts.board.Board.{the_view}
use Rattle.lw_desk.proofs.BoardLemmas.{hand_of, claim_of_place, give_board, numbers_without}
use Rattle.lw_desk.proofs.TurnLemmas.{agrees_give, stops_by, known_by}
use Rattle.lw_desk.proofs.board.Board.give.Goals as goal

pub index_mut-requires : goal.index_mut-requires
index_mut-requires c =
    let b = c.self.inside in
    let is = c.self.invariant.1 in
    let batch : List (List ℕ) = map (λ x. x.0) b.batch.items in
    let words = b.words.items in
    let p : ℕ = c.args.answer.place in
    let claimed : Contains (numbers_of b.cache.claims) p = subst (λ (v : BoardState). Contains v.claimed p) (sym c.self.view_is) c.requires.claimed in
    let hand : IsAtHand batch words p = hand_of batch words b.cache.claims is.places p claimed in
    omega (arith, hand.within, is.size, b.words.ok)

pub fill-filled-requires-clause-pending : goal.fill-filled-requires-clause-pending
fill-filled-requires-clause-pending c =
    let b = c.self.inside in
    let is = c.self.invariant.1 in
    let batch : List (List ℕ) = map (λ x. x.0) b.batch.items in
    let words = b.words.items in
    let p : ℕ = c.args.answer.place in
    let claimed : Contains (numbers_of b.cache.claims) p = subst (λ (v : BoardState). Contains v.claimed p) (sym c.self.view_is) c.requires.claimed in
    let hand : IsAtHand batch words p = hand_of batch words b.cache.claims is.places p claimed in
    let inside : p < length words = omega (arith, hand.within, is.size) in
    let at : c.index_mut.result.now ≡ word_at_place words p = get_or_read words p c.index_mut.result.now inside c.index_mut.ensures.value [] in
    let w = c.replace-word.result in
    let word : w ≡ word_at_place batch p = c.replace-word.ensures.value ∙ (at ∙ hand.word) in
    subst (IsClaimOf b.cache.claims p) (sym word) (claim_of_place batch words b.cache.claims is.places p claimed)

pub fill-filled-requires-clause-lengths : goal.fill-filled-requires-clause-lengths
fill-filled-requires-clause-lengths c =
    let b = c.self.inside in
    let is = c.self.invariant.1 in
    let batch : List (List ℕ) = map (λ x. x.0) b.batch.items in
    let words = b.words.items in
    let p : ℕ = c.args.answer.place in
    let claimed : Contains (numbers_of b.cache.claims) p = subst (λ (v : BoardState). Contains v.claimed p) (sym c.self.view_is) c.requires.claimed in
    let hand : IsAtHand batch words p = hand_of batch words b.cache.claims is.places p claimed in
    let inside : p < length words = omega (arith, hand.within, is.size) in
    let at : c.index_mut.result.now ≡ word_at_place words p = get_or_read words p c.index_mut.result.now inside c.index_mut.ensures.value [] in
    let w = c.replace-word.result in
    let word : w ≡ word_at_place batch p = c.replace-word.ensures.value ∙ (at ∙ hand.word) in
    let own : length c.args.answer.outs ≡ length (word_at_place batch p) = subst (λ (v : BoardState). length c.args.answer.outs ≡ length (word_at_place v.batch p)) (sym c.self.view_is) c.requires.outs in
    ap (λ (l : List ℕ). length l) c.renumber-outs.ensures ∙ (length-map c.args.answer.outs _ ∙ (own ∙ ap (λ (l : List ℕ). length l) (sym word)))

pub invariant_of-self : goal.invariant_of-self
invariant_of-self c =
    let b = c.self.inside in
    let is = c.self.invariant.1 in
    let batch : List (List ℕ) = map (λ x. x.0) b.batch.items in
    let words = b.words.items in
    let p : ℕ = c.args.answer.place in
    let claimed : Contains (numbers_of b.cache.claims) p = subst (λ (v : BoardState). Contains v.claimed p) (sym c.self.view_is) c.requires.claimed in
    let hand : IsAtHand batch words p = hand_of batch words b.cache.claims is.places p claimed in
    let inside : p < length words = omega (arith, hand.within, is.size) in
    let at : c.index_mut.result.now ≡ word_at_place words p = get_or_read words p c.index_mut.result.now inside c.index_mut.ensures.value [] in
    let w = c.replace-word.result in
    let word : w ≡ word_at_place batch p = c.replace-word.ensures.value ∙ (at ∙ hand.word) in
    let e = c.fill-filled.ensures in
    let now = c.fill-filled.new.self in
    let new : KeptAnswer = kept_answer c.args.actor c.args.answer.run w c.renumber-outs.result in
    let stop : c.stop_by-self-inside.result ≡ stop_after b.stop c.fill-filled.result = c.stop_by-self-inside.ensures ∙ ap (λ (o : Option AskStop). stop_after o c.fill-filled.result) c.replace-stop.ensures.value in
    let out : set words p c.replace-word.new.dest ≡ set words p [] = ap (λ (l : List ℕ). set words p l) (c.replace-word.ensures.after ∙ c.new.ensures) in (
      c.self.invariant.0,
      give_board batch b.cache.kept now.kept b.cache.claims now.claims b.stop c.stop_by-self-inside.result words (set words p c.replace-word.new.dest) (drop b.next b.order.items) b.cache.words b.cache.letters now.words now.letters p new is claimed word
          (λ live. let k = known_by b.stop c.fill-filled.result b.cache.kept new e.ok (sym stop ∙ live) in (k.0, subst (IsKnown (answers_of (b.cache.kept ++ new ∷ []))) word k.1))
          e.kept e.claims out e.room.0 e.room.1,
    )

pub returns-clause-gives : goal.returns-clause-gives
returns-clause-gives c =
    let b = c.self.inside in
    let is = c.self.invariant.1 in
    let batch : List (List ℕ) = map (λ x. x.0) b.batch.items in
    let words = b.words.items in
    let p : ℕ = c.args.answer.place in
    let claimed : Contains (numbers_of b.cache.claims) p = subst (λ (v : BoardState). Contains v.claimed p) (sym c.self.view_is) c.requires.claimed in
    let hand : IsAtHand batch words p = hand_of batch words b.cache.claims is.places p claimed in
    let inside : p < length words = omega (arith, hand.within, is.size) in
    let at : c.index_mut.result.now ≡ word_at_place words p = get_or_read words p c.index_mut.result.now inside c.index_mut.ensures.value [] in
    let w = c.replace-word.result in
    let word : w ≡ word_at_place batch p = c.replace-word.ensures.value ∙ (at ∙ hand.word) in
    let e = c.fill-filled.ensures in
    let actor : ℕ = c.args.actor in
    let g = c.args.answer in
    let naming = c.bring.ensures.brings in
    let new : KeptAnswer = kept_answer actor g.run w c.renumber-outs.result in
    let outs : c.renumber-outs.result ≡ shared (bring b.names actor g.names) actor g.outs = c.renumber-outs.ensures ∙ ap (λ (n : Naming). shared n actor g.outs) naming in
    let same : new ≡ kept_of batch (bring b.names actor g.names) actor g =
    ap (λ (v : List ℕ). kept_answer actor g.run v c.renumber-outs.result) word ∙ ap (λ (v : List ℕ). kept_answer actor g.run (word_at_place batch p) v) outs in
    let stop : c.stop_by-self-inside.result ≡ stop_after b.stop c.fill-filled.result = c.stop_by-self-inside.ensures ∙ ap (λ (o : Option AskStop). stop_after o c.fill-filled.result) c.replace-stop.ensures.value in
    let stops : StopsBy b.stop (answers_of b.cache.kept) (answer_of (kept_of batch (bring b.names actor g.names) actor g)) c.stop_by-self-inside.result =
    subst (λ (k : KeptAnswer). StopsBy b.stop (answers_of b.cache.kept) (answer_of k) c.stop_by-self-inside.result) same
    (subst (StopsBy b.stop (answers_of b.cache.kept) (answer_of new)) (sym stop) (stops_by b.stop c.fill-filled.result b.cache.kept new e.ok e.err)) in
    let now : BoardState = record { naming = c.bring.new.self; kept = c.fill-filled.new.self.kept; claimed = numbers_of c.fill-filled.new.self.claims; stop = c.stop_by-self-inside.result; batch = batch; waiting = drop b.next b.order.items } in
    subst (λ (v : BoardState). (s : DeskState) → Agrees v s → (t : DeskState) × ActorGives v.batch actor g s t × Agrees now t) c.self.view_is (λ s agrees.
    agrees_give (the_view b) s agrees now actor g naming (e.kept ∙ ap (λ (k : KeptAnswer). b.cache.kept ++ k ∷ []) same) (ap numbers_of e.claims ∙ numbers_without p b.cache.claims) stops)

pub returns-clause-claimed : goal.returns-clause-claimed
returns-clause-claimed c =
    let p : ℕ = c.args.answer.place in
    ap numbers_of c.fill-filled.ensures.claims ∙ (numbers_without p c.self.inside.cache.claims ∙ ap (λ (v : BoardState). without_number p v.claimed) c.self.view_is)
