use Rattle.std.proofs.Common.{◌≡◌, ◌++◌, sym, subst}
use Rattle.std.specs.List.{All}
use Rattle.lw_pool.specs.bodies.Crew.{CanRun, HasRun, AllRun}
use Rattle.lw_pool.proofs.CrewLemmas.{both_parts, left_part, right_part}
use Rattle.lw_pool.proofs.hands.run_all.Goals as goal

pub run_threads-requires-clause-can : goal.run_threads-requires-clause-can
run_threads-requires-clause-can g c κs within =
    let can = CanRun (λ p. p.turnstile ≡ c.args.turnstile.now) c.args.batch.now in
    left_part can c.split_at_mut-front.result.0.now c.split_at_mut-front.result.1.now (subst (All can) c.split_at_mut-front.ensures.value c.requires.can)

pub run_each-requires-2 : goal.run_each-requires-2
run_each-requires-2 g c =
    let can = CanRun (λ p. p.turnstile ≡ c.args.turnstile.now) c.args.batch.now in
    record { can = right_part can c.split_at_mut-front.result.0.now c.split_at_mut-front.result.1.now (subst (All can) c.split_at_mut-front.ensures.value c.requires.can) }

pub returns-clause-run : goal.returns-clause-run
returns-clause-run g c =
    let run = HasRun (λ p. p.turnstile ≡ c.args.turnstile.now) in
    subst (λ l. AllRun (λ p. p.turnstile ≡ c.args.turnstile.now) l (c.run_threads.new.hands ++ c.run_each-2.new.hands)) (sym c.split_at_mut-front.ensures.value)
    (both_parts run c.split_at_mut-front.result.0.now c.split_at_mut-front.result.1.now c.run_threads.new.hands c.run_each-2.new.hands c.run_threads.ensures.length c.run_threads.ensures.run c.run_each-2.ensures.run)
