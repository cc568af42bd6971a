use Rattle.std.proofs.Common.{◌≡◌, ℕ, List, [], ◌∷◌, ◌++◌, map, is_some, refl, ap, sym, ◌∙◌, subst, append_assoc}
use Rattle.std.proofs.lemmas.List.{map_push}
use Rattle.std.specs.Vec.Iter.{into_iter_items}
use Rattle.lw_names.specs.Naming.{own_names}
use Rattle.lw_desk.specs.Step.{ActorGives}
use Rattle.lw_desk.specs.History.{MayGiveAll}
use Rattle.lw_desk.specs.bodies.Board.{AreHeld, without_number, without_numbers}
use Rattle.lw_desk.specs.declared.ask.Give.{Give}
use Rattle.lw_desk.proofs.BoardLemmas.{held_first, held_rest}
use Rattle.lw_desk.proofs.TurnLemmas.{gives_more, without_numbers_more}
use Rattle.lw_desk.proofs.board.Board.give_all.Goals as goal

abbrev places : List Give → List ℕ
places gs = map (λ g. g.place) gs

pub loop-answer-init : goal.loop-answer-init
loop-answer-init c =
    let items : into_iter_items c.into_iter-answer-iterator.result ≡ c.args.answers.items = c.into_iter-answer-iterator.ensures.into_iter_gives.0 in
    let b = c.args.self.now in
    record {
      can = tt;
      ends = tt;
      rest = sym items;
      gives = λ s agrees. (s, refl, agrees);
      claimed = refl;
      held = subst (λ (l : List Give). AreHeld b.claimed (places l)) (sym items) c.requires.held;
      may = subst (MayGiveAll b.batch (is_some b.naming.brought) (own_names b.naming c.args.actor)) (sym items) c.requires.may;
      kind = refl;
      batch = refl;
    }

pub give-requires-clause-claimed : goal.give-requires-clause-claimed
give-requires-clause-claimed c =
    let x = c.in-Some.answer in
    let rest = into_iter_items c.next.new.self in
    let claimed = c.loop-answer.self.claimed in
    held_first claimed x.place (places rest) (subst (λ (l : List Give). AreHeld claimed (places l)) c.in-Some.ensures.steps.0 c.loop-answer.invariant.held)

pub loop-answer-preserved : goal.loop-answer-preserved
loop-answer-preserved c =
    let x = c.in-Some.answer in
    let i = c.loop-answer.invariant in
    let b = c.args.self.now in
    let rest = into_iter_items c.next.new.self in
    let yielded = c.loop-answer.yielded in
    let claimed = c.loop-answer.self.claimed in
    let more : into_iter_items c.loop-answer.answer-iterator ≡ x ∷ rest = c.in-Some.ensures.steps.0 in
    let held : AreHeld claimed (x.place ∷ places rest) = subst (λ (l : List Give). AreHeld claimed (places l)) more i.held in
    let may = subst (MayGiveAll b.batch (is_some b.naming.brought) (own_names c.loop-answer.self.naming c.args.actor)) more i.may in
    record {
      can = tt;
      ends = tt;
      rest = i.rest ∙ (ap (λ (l : List Give). yielded ++ l) more ∙ sym (append_assoc yielded (x ∷ []) rest));
      gives = λ s agrees.
          let t = i.gives s agrees in
          let g = c.give.ensures.gives t.0 t.2 in
          (g.0, gives_more b.batch c.args.actor yielded x s t.0 g.0 t.1 (subst (λ (l : List (List ℕ)). ActorGives l c.args.actor x t.0 g.0) i.batch g.1), g.2);
      claimed = c.give.ensures.claimed
          ∙ (ap (without_number x.place) i.claimed
          ∙ (sym (without_numbers_more (places yielded) x.place b.claimed)
          ∙ ap (λ (l : List ℕ). without_numbers l b.claimed) (sym (map_push (λ (g : Give). g.place) yielded x))));
      held = subst (λ (l : List ℕ). AreHeld l (places rest)) (sym c.give.ensures.claimed) (held_rest claimed x.place (places rest) held);
      may = subst (λ (l : List (List ℕ)). MayGiveAll b.batch (is_some b.naming.brought) l rest) (sym c.give.ensures.own) may.2;
      kind = c.give.ensures.kind ∙ i.kind;
      batch = c.give.ensures.batch ∙ i.batch;
    }
