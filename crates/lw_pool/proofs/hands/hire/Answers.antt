use Rattle.std.proofs.Common.{◌≡◌, ℕ, ◌+◌, ◌<◌, length, refl, sym, ◌∙◌, ap, arith, length-set}
use Rattle.std.proofs.lemmas.List.{get_or_default, get_or-set_other}
use Rattle.lw_turn.specs.declared.view.View.{View}
use Rattle.lw_desk.specs.History.{DeskOpening}
use Rattle.lw_desk.specs.declared.ask.Ask.{Ask}
use Rattle.lw_desk.specs.declared.ask.Reply.{Reply}
use Rattle.lw_pool.specs.bodies.Crew.{IsHired}
use Rattle.lw_pool.proofs.CrewLemmas.{more_places, left_places, write_place, working_made}
use Rattle.lw_pool.proofs.hands.hire.Goals as goal

pub loop-i-preserved : goal.loop-i-preserved
loop-i-preserved g c =
    let i = c.loop-i.i in let x = c.index-hands-i.result in
    let lt : i < length c.args.hands.now = omega (arith, c.loop-i-test.true, c.loop-i.invariant.len) in
    let first = c.engage_next-place.ensures.first in
    record {
      len = length-set c.loop-i.hands i _ ∙ c.loop-i.invariant.len;
      hired = λ k d below some. more_places c.args.hands.now c.loop-i.hands i _ c.loop-i.invariant.len lt
          (λ k was now. 0 < k → IsHired (λ p. p.turnstile ≡ c.args.turnstile.now) c.args.first.knows.opening k was now)
          c.loop-i.invariant.hired
          (λ e more. record {
            worker = ap (λ h. h.worker) (c.loop-i.invariant.left i x (omega arith) lt ∙ get_or_default c.args.hands.now i x e lt);
            place = c.engage_next-place.result;
            is = refl;
            ours = c.engage_next-place.ensures.ours.1;
            opening = c.engage_next-place.ensures.next.0 ∙ c.loop-i.invariant.opening;
            number_is = c.engage_next-place.ensures.next.1 ∙ c.loop-i.invariant.made;
            begun = c.engage_next-place.ensures.begun;
            first = λ z. absurd (omega (arith, z, more));
          })
          k d below some;
      left = left_places c.args.hands.now c.loop-i.hands i _ c.loop-i.invariant.len lt c.loop-i.invariant.left;
      zero = λ d. get_or-set_other c.loop-i.hands i 0 _ d (λ e. omega (arith, e, c.loop-i.invariant.some)) ∙ c.loop-i.invariant.zero d;
      ours = c.engage_next-place.ensures.ours.0;
      number = ap (λ (v : View DeskOpening Ask Reply). v.number) first ∙ c.loop-i.invariant.number;
      opening = ap (λ (v : View DeskOpening Ask Reply). v.opening) first ∙ c.loop-i.invariant.opening;
      made = ap (λ (v : View DeskOpening Ask Reply). v.made) first ∙ ap (λ (n : ℕ). n + 1) c.loop-i.invariant.made;
      ended = ap (λ (v : View DeskOpening Ask Reply). v.ended) first ∙ c.loop-i.invariant.ended;
      begun = λ start. working_made start start c.loop-i.pass.knows c.engage_next-place.new.first.knows c.engage-reply.result first (c.loop-i.invariant.begun start);
      some = omega arith;
      busy = omega (arith, c.loop-i.invariant.busy, c.holding-busy-in-loop-i.ensures);
      most = omega (arith, lt);
    }

pub returns-clause-hired : goal.returns-clause-hired
returns-clause-hired g c i d lt =
    let all : c.loop-i.i ≡ length c.args.hands.now = omega (arith, c.loop-i-test.false, c.loop-i.invariant.len, c.loop-i.invariant.most) in
    write_place (IsHired (λ p. p.turnstile ≡ c.args.turnstile.now) c.args.first.knows.opening) c.args.hands.now c.loop-i.hands 0 _ (omega (arith, c.loop-i.invariant.len, c.requires.some)) i d
    (λ other. c.loop-i.invariant.hired i d (omega (arith, lt, all)) (omega (arith, other)))
    (record {
      worker = ap (λ h. h.worker) (c.loop-i.invariant.zero c.index-hands-0.result ∙ get_or_default c.args.hands.now 0 c.index-hands-0.result d c.requires.some);
      place = record { pass = c.loop-i.pass; reply = c.engage-reply.result };
      is = refl;
      ours = c.loop-i.invariant.ours;
      opening = c.loop-i.invariant.opening;
      number_is = c.loop-i.invariant.number;
      begun = c.loop-i.invariant.begun;
      first = λ z. (c.loop-i.invariant.made ∙ (all ∙ sym c.requires.crew), c.loop-i.invariant.ended);
    })
