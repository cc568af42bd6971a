use Rattle.std.proofs.Common.{◌<◌, ◌+◌, ℕ, List, length, sym, ◌∙◌, subst}
use Rattle.lw_desk.specs.History.{MayGiveAll}
use Rattle.lw_desk.specs.declared.ask.Give.{Give}
use Rattle.lw_sessions_tests.proofs.tests.desk.trial.after_ask.Goals as goal

pub returns-clause-may : goal.returns-clause-may
returns-clause-may g c =
    let words = c.args.words.now in
    let free = c.args.free in
    let seat = c.args.seat.now in
    let ask = c.args.ask.now in
    let places = c.settled-places.ensures in
    record {
      live = c.if-assert.false;
      places = sym places ∙ (sym c.deref.ensures.value ∙ (c.same_places.ensures c.if-assert-2.false ∙ c.as_slice.ensures.value));
      gives = subst (λ (l : List (List ℕ)). MayGiveAll words free l ask.gives.items) c.deref-3.ensures.value (subst (λ (l : List Give). MayGiveAll words free c.deref-3.result.now l) c.deref-4.ensures.value c.after_gives.ensures.may);
      fails = c.fails_well.ensures c.if-assert-5.false;
      some = subst (λ (l : List ℕ). 0 < length l + ask.wanted) (c.deref-2.ensures.value ∙ places) (c.asks_something.ensures c.if-assert-4.false);
      few = c.if-assert-3.false;
    }
