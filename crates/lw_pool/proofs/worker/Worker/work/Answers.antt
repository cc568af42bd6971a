use Rattle.std.proofs.Common.{rules, ℕ, ◌<◌, List, length, is_some, refl, sym, ap, ◌∙◌, subst, subst₂}
use Rattle.std.specs.List.{All}
use Rattle.lw_words.specs.Word.{IsWord}
use Rattle.lw_turn.specs.declared.view.View.{View}
use Rattle.lw_names.specs.Naming.{own_names}
use Rattle.lw_desk.specs.History.{DeskOpening}
use Rattle.lw_desk.specs.declared.ask.Ask.{Ask}
use Rattle.lw_desk.specs.declared.ask.Reply.{Reply}
use Rattle.lw_pool.specs.bodies.Engaged.{IsReady}
use Rattle.lw_pool.specs.bodies.Working.{HasAnswered}
use Rattle.lw_pool.proofs.GiveLemmas.{same_not, same_both, answered_same, some_places}
use Rattle.lw_pool.proofs.WorkLemmas.{working_may, working_more}
use Rattle.lw_pool.proofs.worker.Worker.work.Goals as goal

pub loop-init : goal.loop-init
loop-init g c = (
  search rules,
  search rules,
  record {
    ours = c.requires.ours;
    working = c.requires.begun;
    session = same_not c.args.self.now.seen;
    opening = refl;
    number = refl;
    made = refl;
    ended = refl;
  },
)

pub returns-then-is_empty-clause-ours : goal.returns-then-is_empty-clause-ours
returns-then-is_empty-clause-ours g c = c.loop.invariant.2.ours

pub returns-then-is_empty-clause-worked : goal.returns-then-is_empty-clause-worked
returns-then-is_empty-clause-worked g c = c.loop.invariant.2.working

pub returns-then-is_empty-clause-session : goal.returns-then-is_empty-clause-session
returns-then-is_empty-clause-session g c = c.loop.invariant.2.session

pub returns-then-is_empty-clause-same : goal.returns-then-is_empty-clause-same
returns-then-is_empty-clause-same g c = (c.loop.invariant.2.opening, c.loop.invariant.2.number, c.loop.invariant.2.made, c.loop.invariant.2.ended)

pub answer-ask-requires-clause-within : goal.answer-ask-requires-clause-within
answer-ask-requires-clause-within g c = subst (λ (b : List (List ℕ)). All (λ p. p < length b) c.loop.reply.places) (ap (λ (o : DeskOpening). o.batch) c.loop.invariant.2.opening ∙ c.requires.batch) c.loop.invariant.2.working.within

pub answer-ask-requires-clause-letters : goal.answer-ask-requires-clause-letters
answer-ask-requires-clause-letters g c = subst (λ (n : ℕ). All (IsWord n) c.args.batch.now) (sym c.loop.invariant.2.session.inputs) c.requires.letters

pub turn-reply-requires-clause-ours : goal.turn-reply-requires-clause-ours
turn-reply-requires-clause-ours g c = c.loop.invariant.2.ours

pub turn-reply-requires-clause-may : goal.turn-reply-requires-clause-may
turn-reply-requires-clause-may g c =
    let v = c.loop.pass.knows in
    let e = c.args.engaged.pass.knows in
    let ready : IsReady (is_some v.opening.naming.brought) (own_names v.opening.naming v.number) c.args.self.now.seen = subst₂ (λ (o : DeskOpening) (n : ℕ). IsReady (is_some o.naming.brought) (own_names o.naming n) c.args.self.now.seen) (sym c.loop.invariant.2.opening) (sym c.loop.invariant.2.number) c.requires.ready in
    let answered : HasAnswered v.opening.batch c.loop.reply.places c.loop.self.seen c.answer-ask.new.self.seen c.answer-ask.result = subst (λ (b : List (List ℕ)). HasAnswered b c.loop.reply.places c.loop.self.seen c.answer-ask.new.self.seen c.answer-ask.result) (sym (ap (λ (o : DeskOpening). o.batch) c.loop.invariant.2.opening ∙ c.requires.batch)) c.answer-ask.ensures in
    working_may c.args.self.now.seen c.loop.self.seen c.answer-ask.new.self.seen v v c.loop.reply c.loop.reply c.answer-ask.result (is_some v.opening.naming.brought) c.loop.invariant.2.working ready (some_places c.as_slice.result.now c.loop.reply.places c.is_empty.result c.if-is_empty.false c.is_empty.ensures c.as_slice.ensures.value) answered refl

pub loop-preserved : goal.loop-preserved
loop-preserved g c =
    let v = c.loop.pass.knows in
    let e = c.args.engaged.pass.knows in
    let ready : IsReady (is_some v.opening.naming.brought) (own_names v.opening.naming v.number) c.args.self.now.seen = subst₂ (λ (o : DeskOpening) (n : ℕ). IsReady (is_some o.naming.brought) (own_names o.naming n) c.args.self.now.seen) (sym c.loop.invariant.2.opening) (sym c.loop.invariant.2.number) c.requires.ready in
    let answered : HasAnswered v.opening.batch c.loop.reply.places c.loop.self.seen c.answer-ask.new.self.seen c.answer-ask.result = subst (λ (b : List (List ℕ)). HasAnswered b c.loop.reply.places c.loop.self.seen c.answer-ask.new.self.seen c.answer-ask.result) (sym (ap (λ (o : DeskOpening). o.batch) c.loop.invariant.2.opening ∙ c.requires.batch)) c.answer-ask.ensures in
    let w = c.turn-reply.new.pass.knows in
    let turned = c.turn-reply.ensures.entry in (
      search rules,
      search rules,
      record {
        ours = c.turn-reply.ensures.ours ∙ c.loop.invariant.2.ours;
        working = working_more c.args.self.now.seen c.loop.self.seen c.answer-ask.new.self.seen v w c.loop.reply c.turn-reply.result c.answer-ask.result (is_some v.opening.naming.brought) c.loop.invariant.2.working ready (some_places c.as_slice.result.now c.loop.reply.places c.is_empty.result c.if-is_empty.false c.is_empty.ensures c.as_slice.ensures.value) answered turned;
        session = same_both c.args.self.now.seen c.loop.self.seen c.answer-ask.new.self.seen c.loop.invariant.2.session (answered_same v.opening.batch c.loop.reply.places c.loop.self.seen c.answer-ask.new.self.seen c.answer-ask.result answered);
        opening = ap (λ (x : View DeskOpening Ask Reply). x.opening) turned.same ∙ c.loop.invariant.2.opening;
        number = ap (λ (x : View DeskOpening Ask Reply). x.number) turned.same ∙ c.loop.invariant.2.number;
        made = ap (λ (x : View DeskOpening Ask Reply). x.made) turned.same ∙ c.loop.invariant.2.made;
        ended = ap (λ (x : View DeskOpening Ask Reply). x.ended) turned.same ∙ c.loop.invariant.2.ended;
      },
    )
