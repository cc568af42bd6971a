use Rattle.std.proofs.Common.{◌≡◌, length, refl, sym, ap, subst}
use Rattle.lw_turn.specs.declared.view.View.{View}
use Rattle.lw_desk.specs.History.{DeskOpening, Replays, opened}
use Rattle.lw_names.specs.Naming.{HasLists}
use Rattle.lw_desk.specs.declared.ask.Ask.{Ask}
use Rattle.lw_desk.specs.declared.ask.Reply.{Reply}
use Rattle.lw_pool.specs.bodies.Running.{opening_of}
use Rattle.lw_pool.proofs.PoolLemmas.{idle_after, run_of_desk}
use Rattle.lw_pool.proofs.pool.run.Goals as goal

pub close-requires : goal.close-requires
close-requires g c =
    let o : DeskOpening = opening_of c.args.parts c.args.batch.now (length c.args.hands.now) in
    let same : c.in-Ok.first.knows.opening ≡ o = ap (λ (v : View DeskOpening Ask Reply). v.opening) c.in-Ok.ensures.first in
    record {
      idle = λ t r. idle_after c.in-Ok.first.knows.opening c.work_off-desk.result.entries c.args.hands.now c.work_off-desk.new.hands (ap (λ (x : DeskOpening). x.actors) same) (subst (λ (x : DeskOpening). HasLists x.naming.brought (length c.args.hands.now)) (sym same) c.requires.lists) c.work_off-desk.ensures.worked c.work_off-desk.ensures.others c.work_off-desk.ensures.length t
          (subst (λ (x : DeskOpening). Replays x (opened x) c.work_off-desk.result.entries t) c.work_off-desk.ensures.opening r);
    }

pub returns-in-Ok-clause-after : goal.returns-in-Ok-clause-after
returns-in-Ok-clause-after g c =
    let o : DeskOpening = opening_of c.args.parts c.args.batch.now (length c.args.hands.now) in
    let same : c.in-Ok.first.knows.opening ≡ o = ap (λ (v : View DeskOpening Ask Reply). v.opening) c.in-Ok.ensures.first in
    run_of_desk o c.in-Ok.first.knows.opening c.work_off-desk.result c.args.hands.now c.work_off-desk.new.hands (c.close.result.0.cache, c.close.result.0.names, c.close.result.1) c.close.result.0 c.close.result.1 c.work_off-desk.ensures.opening same c.close.ensures.finishes refl refl refl c.work_off-desk.ensures.worked c.work_off-desk.ensures.others c.work_off-desk.ensures.length
