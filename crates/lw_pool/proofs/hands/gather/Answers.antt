use Rattle.std.proofs.Common.{◌≡◌, ℕ, ◌<◌, length, get_or, sym, ◌∙◌, ap, arith, length-set}
use Rattle.std.proofs.lemmas.List.{get_or_default}
use Rattle.lw_turn.specs.declared.view.View.{View}
use Rattle.lw_desk.specs.History.{DeskOpening}
use Rattle.lw_desk.specs.declared.ask.Ask.{Ask}
use Rattle.lw_desk.specs.declared.ask.Reply.{Reply}
use Rattle.lw_pool.proofs.CrewLemmas.{left_places, write_place, joined_more}
use Rattle.lw_pool.proofs.hands.gather.Goals as goal

pub loop-i-preserved : goal.loop-i-preserved
loop-i-preserved g c =
    let i = c.loop-i.i in let x = c.index-hands-i.result in
    let lt : i < length c.args.hands.now = omega (arith, c.loop-i-test.true, c.loop-i.invariant.len) in
    let held = c.requires.others i x c.loop-i.invariant.some lt in
    let here = c.loop-i.invariant.left i x (omega arith) lt in
    let pass = c.leave-pass.ensures.pass held.place (ap (λ h. h.engaged) here ∙ held.is) in
    record {
      len = length-set c.loop-i.hands i _ ∙ c.loop-i.invariant.len;
      workers = λ k d. write_place (λ n was now. now.worker ≡ was.worker) c.args.hands.now c.loop-i.hands i c.leave-pass.new.self (omega (arith, lt, c.loop-i.invariant.len)) k d (λ other. c.loop-i.invariant.workers k d)
          (c.leave-pass.ensures.worker ∙ ap (λ h. h.worker) (here ∙ get_or_default c.args.hands.now i x d lt));
      left = left_places c.args.hands.now c.loop-i.hands i c.leave-pass.new.self c.loop-i.invariant.len lt c.loop-i.invariant.left;
      joined = λ k d e some below engaged. joined_more c.loop-i.whole.knows c.join.new.first.knows c.leave-pass.result.knows i k e.pass.knows c.join.ensures.joined
          (ap (λ p. p.knows.number) pass ∙ held.number_is)
          (λ other. c.loop-i.invariant.joined k d e some (omega (arith, other, below)) engaged)
          (λ same. ap (λ p. p.knows) (c.leave-pass.ensures.pass e (ap (λ h. h.engaged) (here ∙ (get_or_default c.args.hands.now i x d lt ∙ ap (λ (n : ℕ). get_or c.args.hands.now n d) (sym same))) ∙ engaged)));
      ours = c.join.ensures.ours ∙ c.loop-i.invariant.ours;
      number = ap (λ (v : View DeskOpening Ask Reply). v.number) c.join.ensures.joined ∙ c.loop-i.invariant.number;
      opening = ap (λ (v : View DeskOpening Ask Reply). v.opening) c.join.ensures.joined ∙ c.loop-i.invariant.opening;
      made = ap (λ (v : View DeskOpening Ask Reply). v.made) c.join.ensures.joined ∙ c.loop-i.invariant.made;
      mine = ap (λ (v : View DeskOpening Ask Reply). v.mine) c.join.ensures.joined ∙ c.loop-i.invariant.mine;
      some = omega arith;
    }

pub returns-clause-joined : goal.returns-clause-joined
returns-clause-joined g c i d e some lt engaged = c.loop-i.invariant.joined i d e some (omega (arith, c.loop-i-test.false, c.loop-i.invariant.len, lt, some)) engaged
