use Rattle.std.proofs.Common.{inl, inr, ℕ, List, length, ap, sym, ◌∙◌, subst, arith}
use Rattle.std.proofs.lemmas.List.{length_push}
use Rattle.lw_desk.specs.Step.{NothingToTake, IsFirstFree, after_take}
use Rattle.lw_desk.proofs.TurnLemmas.{TakesFront, front_more, front_all}
use Rattle.lw_desk.proofs.board.Board.take.Goals as goal

pub returns-in_default-clause-takes : goal.returns-in_default-clause-takes
returns-in_default-clause-takes c actor s agrees =
    let t = c.loop.invariant.takes actor s agrees in
    let n = c.in_default.ensures.none t.0 t.2 in (
      t.0,
      front_all c.args.self.now.batch actor c.args.wanted c.loop.places s t.0 t.1 (inr (subst (λ (b : List (List ℕ)). NothingToTake b t.0) c.loop.invariant.batch n.0)),
      n.1,
    )

pub loop-preserved : goal.loop-preserved
loop-preserved c =
    let i = c.loop.invariant in
    let batch = c.args.self.now.batch in
    let wanted : ℕ = c.args.wanted in
    let p : ℕ = c.in-Some.place in
    record {
      takes = λ actor s agrees.
          let t = i.takes actor s agrees in
          let n = c.in-Some.ensures.some actor t.0 t.2 in (
            after_take actor p t.0,
            subst (λ (l : List ℕ). TakesFront batch actor wanted l s (after_take actor p t.0)) (sym c.push.ensures)
                (front_more batch actor wanted c.loop.places p s t.0 t.1 (omega (arith, i.long, c.loop-test.true)) ((t.2).stop ∙ i.live) (subst (λ (b : List (List ℕ)). IsFirstFree b t.0 p) i.batch n.0)),
            n.1,
          );
      long = omega (arith, i.long, ap (λ (l : List ℕ). length l) c.push.ensures, length_push c.loop.places p);
      live = c.in-Some.ensures.stop;
      naming = c.in-Some.ensures.naming ∙ i.naming;
      batch = c.in-Some.ensures.batch ∙ i.batch;
    }

pub returns-clause-takes : goal.returns-clause-takes
returns-clause-takes c actor s agrees =
    let t = c.loop.invariant.takes actor s agrees in (
      t.0,
      front_all c.args.self.now.batch actor c.args.wanted c.loop.places s t.0 t.1 (inl (omega (arith, c.loop.invariant.long, c.loop-test.false))),
      t.2,
    )
