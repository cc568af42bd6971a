use Rattle.std.proofs.Common.{◌≡◌, ◌<◌, ◌∙◌, ℕ, List, length, ap, sym, arith, get_or, subst}
use Rattle.std.proofs.lemmas.List.{take_more_same}
use Rattle.lw_mealy.specs.Machine.{answer, cell}
use Rattle.lw_mealy.proofs.WordLemmas.{length-out, answer_at}
use Rattle.lw_mealy.proofs.mealy.Mealy.agrees.Goals as goal

pub returns-then-output-outs-clause-some : goal.returns-then-output-outs-clause-some
returns-then-output-outs-clause-some c =
    let lt : c.loop-place.place < length c.args.w.now = subst (λ (w : List ℕ). c.loop-place.place < length w) c.as_slice-x-items.ensures c.loop-place-test.true in
    let is : c.step-target.result ≡ cell c.args.self.now.rows c.loop-place.state (get_or c.args.w.now c.loop-place.place 0) =
    c.step-target.ensures.value ∙ ap (λ (w : List ℕ). cell c.args.self.now.rows c.loop-place.state (get_or w c.loop-place.place 0)) c.as_slice-x-items.ensures in
    let h = answer_at c.args.self.now.rows c.args.w.now c.loop-place.state c.loop-place.place c.step-target.result lt is c.loop-place.invariant.left in
    let long = length-out c.args.self.now.rows 0 c.args.w.now in
    record {
      within = omega arith;
      before = c.loop-place.invariant.same;
      here = λ same. c.if-output-outs.true (sym h.0 ∙ (same ∙ ap (λ (o : List ℕ). get_or o c.loop-place.place 0) (sym c.as_slice-outs.ensures)));
    }

pub loop-place-preserved : goal.loop-place-preserved
loop-place-preserved c =
    let lt : c.loop-place.place < length c.args.w.now = subst (λ (w : List ℕ). c.loop-place.place < length w) c.as_slice-x-items.ensures c.loop-place-test.true in
    let is : c.step-target.result ≡ cell c.args.self.now.rows c.loop-place.state (get_or c.args.w.now c.loop-place.place 0) =
    c.step-target.ensures.value ∙ ap (λ (w : List ℕ). cell c.args.self.now.rows c.loop-place.state (get_or w c.loop-place.place 0)) c.as_slice-x-items.ensures in
    let h = answer_at c.args.self.now.rows c.args.w.now c.loop-place.state c.loop-place.place c.step-target.result lt is c.loop-place.invariant.left in
    let long = length-out c.args.self.now.rows 0 c.args.w.now in
    let given = c.requires.lengths in
    let here : get_or (answer c.args.self.now.rows c.args.w.now) c.loop-place.place 0 ≡ get_or c.args.o.now c.loop-place.place 0 =
    h.0 ∙ (c.if-output-outs.false ∙ ap (λ (o : List ℕ). get_or o c.loop-place.place 0) c.as_slice-outs.ensures) in
    record {
      state = c.step-target.ensures.state;
      left = h.1;
      same = take_more_same (answer c.args.self.now.rows c.args.w.now) c.args.o.now c.loop-place.place 0 (omega arith) (omega arith) c.loop-place.invariant.same here;
    }
