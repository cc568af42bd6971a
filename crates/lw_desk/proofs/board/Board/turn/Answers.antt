use Rattle.std.proofs.Common.{◌≡◌, ◌≤◌, ℕ, List, length, map, is_some, refl, ap, sym, ◌∙◌, subst}
use Rattle.lw_desk.specs.Step.{DeskState, GivesAll, ActorTakesAll, NothingToTake, CountsLeft, after_fail, after_done}
use Rattle.lw_desk.specs.History.{settled_places, failed_places}
use Rattle.lw_desk.specs.bodies.Board.{BoardState, Agrees, AreApart, AreHeld}
use Rattle.lw_desk.proofs.BoardLemmas.{held_front, held_back}
use Rattle.lw_desk.proofs.TurnLemmas.{seat_held, agrees_done}
use Rattle.lw_desk.proofs.board.Board.turn.Goals as goal

pub give_all-requires-clause-held : goal.give_all-requires-clause-held
give_all-requires-clause-held c =
    let b = c.args.self.now in
    let m = c.requires.may in
    let apart : AreApart b.claimed = subst (λ (v : BoardState). AreApart v.claimed) c.self.view_is c.self.invariant.1.apart in
    let all : AreHeld b.claimed (settled_places c.args.ask) = subst (AreHeld b.claimed) (sym (m.2).places) (seat_held b m.0 c.args.actor m.1 apart) in
    held_front b.claimed (map (λ g. g.place) c.args.ask.gives.items) (failed_places c.args.ask.failed) all

pub fail_some-requires : goal.fail_some-requires
fail_some-requires c =
    let b = c.args.self.now in
    let m = c.requires.may in
    let apart : AreApart b.claimed = subst (λ (v : BoardState). AreApart v.claimed) c.self.view_is c.self.invariant.1.apart in
    let all : AreHeld b.claimed (settled_places c.args.ask) = subst (AreHeld b.claimed) (sym (m.2).places) (seat_held b m.0 c.args.actor m.1 apart) in
    let gone = map (λ g. g.place) c.args.ask.gives.items in
    record {
      held = subst (λ (l : List ℕ). AreHeld l (failed_places c.args.ask.failed)) (sym c.give_all.ensures.claimed) (held_back b.claimed gone (failed_places c.args.ask.failed) all);
    }

pub returns-clause-makes : goal.returns-clause-makes
returns-clause-makes c o s same lt may agrees =
    let actor : ℕ = c.args.actor in
    let ask = c.args.ask in
    let g = c.give_all.ensures.gives s agrees in
    let failed : DeskState = after_fail actor ask.failed g.0 in
    let t = c.take-places.ensures.takes actor failed (c.fail_some.ensures.fails g.0 g.2) in
    let batch : c.fail_some.new.self.batch ≡ o.batch = c.fail_some.ensures.batch ∙ (c.give_all.ensures.batch ∙ sym same) in
    let last : c.take-places.new.self.batch ≡ o.batch = c.take-places.ensures.batch ∙ batch in
    let end : DeskState = after_done actor c.is_done-done.result t.0 in
    let end_agrees : Agrees c.take-places.new.self end = agrees_done c.take-places.new.self actor c.is_done-done.result t.0 t.2 in (
      end,
      record {
        actor = lt;
        may = may;
        given = g.0;
        gives = subst (λ (l : List (List ℕ)). GivesAll l actor ask.gives.items s g.0) (sym same) g.1;
        taken = t.0;
        takes = subst (λ (l : List (List ℕ)). ActorTakesAll l actor ask.wanted c.take-places.result failed t.0) batch t.1;
        done = c.is_done-done.ensures;
        after = refl;
        stopped = c.is_stopped.ensures ∙ ap is_some (sym end_agrees.stop);
        left = subst (λ (l : List (List ℕ)). CountsLeft l end c.left.result) last (c.left.ensures.counts end end_agrees);
        none_left = λ zero. subst (λ (l : List (List ℕ)). NothingToTake l end) last (c.left.ensures.none zero end end_agrees);
        few_left = subst (λ (l : List (List ℕ)). c.left.result ≤ length l) last c.left.ensures.few;
      },
      end_agrees,
    )
