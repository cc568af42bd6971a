use Rattle.std.proofs.Common.{◌≡◌, ◌<◌, length, sym, ◌∙◌, subst, arith, length-set}
use Rattle.std.proofs.lemmas.List.{get_or_default}
use Rattle.std.proofs.lemmas.List.Elements.{All-get_or}
use Rattle.lw_pool.specs.bodies.Crew.{CanRun, HasRun}
use Rattle.lw_pool.proofs.CrewLemmas.{more_places, left_places}
use Rattle.lw_pool.proofs.hands.run_each.Goals as goal

pub run-requires : goal.run-requires
run-requires g c =
    let i = c.loop-i.i in let x = c.index-hands-i.result in
    let lt : i < length c.args.hands.now = omega (arith, c.loop-i-test.true, c.loop-i.invariant.len) in
    record { can = subst (CanRun (λ p. p.turnstile ≡ c.args.turnstile.now) c.args.batch.now) (sym (c.loop-i.invariant.left i x (omega arith) lt)) (All-get_or (CanRun (λ p. p.turnstile ≡ c.args.turnstile.now) c.args.batch.now) c.args.hands.now i x lt c.requires.can) }

pub loop-i-preserved : goal.loop-i-preserved
loop-i-preserved g c =
    let i = c.loop-i.i in let x = c.index-hands-i.result in
    let lt : i < length c.args.hands.now = omega (arith, c.loop-i-test.true, c.loop-i.invariant.len) in
    record {
      len = length-set c.loop-i.hands i c.run.new.self ∙ c.loop-i.invariant.len;
      run = more_places c.args.hands.now c.loop-i.hands i c.run.new.self c.loop-i.invariant.len lt (λ k. HasRun (λ p. p.turnstile ≡ c.args.turnstile.now)) c.loop-i.invariant.run
          (λ d. subst (λ h. HasRun (λ p. p.turnstile ≡ c.args.turnstile.now) h c.run.new.self) (c.loop-i.invariant.left i x (omega arith) lt ∙ get_or_default c.args.hands.now i x d lt) c.run.ensures.run);
      left = left_places c.args.hands.now c.loop-i.hands i c.run.new.self c.loop-i.invariant.len lt c.loop-i.invariant.left;
    }
