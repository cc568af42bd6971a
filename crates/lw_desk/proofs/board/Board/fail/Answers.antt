use Rattle.std.proofs.Common.{ℕ, List, Option, drop, ap, sym, ◌∙◌, subst}
use Rattle.lw_cache.specs.declared.stops.AskStop.{AskStop}
use Rattle.lw_desk.specs.Step.{first_stop, stop_of}
use Rattle.lw_desk.specs.bodies.Board.{BoardState, AreHeld, numbers_of, without_all, without_numbers}
use Rattle.lw_desk.proofs.BoardLemmas.{fail_board, numbers_without_all}
use Rattle.lw_desk.proofs.TurnLemmas.{agrees_fail, stopped_by}
use Rattle.lw_desk.proofs.board.Board.fail.Goals as goal

pub release_all-requires : goal.release_all-requires
release_all-requires c = record {
  held = subst (λ (l : List ℕ). AreHeld (numbers_of c.self.inside.cache.claims) l) (sym c.as_slice.ensures.value)
      (subst (λ (b : BoardState). AreHeld b.claimed c.args.failed.places) (sym c.self.view_is) c.requires.held);
}

pub invariant_of-self : goal.invariant_of-self
invariant_of-self c =
    let b = c.self.inside in
    let r = c.release_all in
    let last = c.stop_first-self-inside in (
      c.self.invariant.0,
      fail_board _ b.cache.kept r.new.cache.kept b.cache.claims r.new.cache.claims b.stop last.result b.words.items (drop b.next b.order.items) b.cache.words b.cache.letters r.new.cache.words r.new.cache.letters c.as_slice.result.now c.self.invariant.1
          (λ live. stopped_by c.replace-stop.result (stop_of c.args.actor c.args.failed.stop) (sym last.ensures ∙ live))
          r.ensures.kept r.ensures.claims r.ensures.room.0 r.ensures.room.1,
    )

pub returns-clause-fails : goal.returns-clause-fails
returns-clause-fails c s agrees =
    let b = c.self.inside in
    let r = c.release_all in
    let view = c.self.view_is in
    let failed = c.args.failed in
    agrees_fail c.args.self.now s agrees _ c.args.actor failed
    (ap (λ (x : BoardState). x.naming) view)
    (r.ensures.kept ∙ ap (λ (x : BoardState). x.kept) view)
    (ap numbers_of (r.ensures.claims ∙ ap (λ (l : List ℕ). without_all l b.cache.claims) c.as_slice.ensures.value)
    ∙ (numbers_without_all failed.places b.cache.claims
    ∙ ap (λ (x : BoardState). without_numbers failed.places x.claimed) view))
    (c.stop_first-self-inside.ensures
    ∙ ap (λ (o : Option AskStop). first_stop o (stop_of c.args.actor failed.stop)) (c.replace-stop.ensures.value ∙ ap (λ (x : BoardState). x.stop) view))
