use Rattle.std.proofs.Common.{◌∙◌, ℕ, ap, refl, sym, subst, subst₂, arith, length, List, Result, Err, OnOk}
use Rattle.std.specs.List.{All}
use Rattle.lw_words.specs.Word.{answers_of, IsWord}
use Rattle.lw_words.specs.declared.kept.KeptAnswer.{KeptAnswer}
use Rattle.lw_cache.specs.Clash.{NothingClashes}
use Rattle.lw_cache.specs.Settling.{MayAsk}
use Rattle.lw_names.specs.Naming.{Naming}
use Rattle.lw_desk.specs.Ending.{IsShared}
use Rattle.lw_pool.specs.Sharing.{declared_by}
use Rattle.lw_rounds.specs.declared.learned.Learned.{Learned}
use Rattle.lw_rounds.specs.declared.stops.LearnStop.{LearnStop}
use Rattle.lw_workers.proofs.MachineLemmas.{enough_as}
use Rattle.lw_children.proofs.AskedLemmas.{asked_never, cut_never, enough_never}
use Rattle.lw_children.proofs.ComingUp.{came_up_as, first_come_up}
use Rattle.lw_workers.specs.Asking.{AnswersWords}
use Rattle.lw_children.proofs.EndLemmas.{all_linked, begun_linked, begun_pool, given_up, of_pool, refused_pool}
use Rattle.lw_children.proofs.PoolLemmas.{children_join, first_lists, first_shared}
use Rattle.lw_workers.proofs.PlainLemmas.{plain_never, runs_as}
use Rattle.lw_children.proofs.learning.learn_over.Goals as goal

pub give_up-requires-clause-linked : goal.give_up-requires-clause-linked
give_up-requires-clause-linked g c κs within = begun_linked g.P.Link.Link.state c.args.command.now.inputs c.args.command.now.outputs c.args.command.now.words (g.P.Spawner.state c.args.spawner.now) (g.P.Spawner.state c.start_all.new.spawner) c.in-Err.broken.sessions.items c.in-Err.broken.unmade.link c.in-Err.ensures.broken c.in-Err.ensures.some

pub returns-in-Err-clause-found : goal.returns-in-Err-clause-found
returns-in-Err-clause-found g c = given_up c.args.settings.kind g.P.Link.Link.state c.args.command.now.words c.args.command.now.inputs c.args.command.now.outputs c.args.settings.workers c.args.settings.extra c.args.settings.max_states c.args.start.cache.kept (g.P.Spawner.state c.args.spawner.now) (g.P.Spawner.state c.start_all.new.spawner) (g.P.Spawner.state c.give_up.new.spawner) c.args.start.names c.in-Err.broken.sessions.items c.in-Err.broken.unmade.link c.in-Err.broken.unmade.stop c.requires.prior c.in-Err.ensures.broken c.in-Err.ensures.some c.give_up.ensures.retires c.in-Err.ensures.few.0 c.in-Err.ensures.few.1 c.in-Err.ensures.failed c.give_up.result.learned c.give_up.result.kept.answers c.give_up.result.names.names c.give_up.ensures.learned c.give_up.ensures.kept (ap (λ (n : Naming). n.names) c.give_up.ensures.names)

pub new-requires-clause-lists : goal.new-requires-clause-lists
new-requires-clause-lists g c = first_lists c.args.command.now.outputs c.args.start.names (length c.in-Ok.sessions.items) c.requires.named (omega (arith, c.in-Ok.ensures.count, c.args.settings.workers_in_range.1))

pub new-requires-clause-shared : goal.new-requires-clause-shared
new-requires-clause-shared g c = subst (λ (n : Naming). IsShared n) (sym c.requires.named) (first_shared c.args.command.now.outputs)

pub new-requires-clause-come_up : goal.new-requires-clause-come_up
new-requires-clause-come_up g c = first_come_up c.args.command.now.outputs c.args.start.cache.kept c.args.start.names c.requires.named

pub new-requires-clause-join : goal.new-requires-clause-join
new-requires-clause-join g c = children_join g.P.Link.Link.state c.args.command.now.inputs c.args.command.now.outputs (g.P.Spawner.state c.args.spawner.now).started c.args.start.names c.len-inputs.result c.count_outputs-outputs.result c.in-Ok.sessions.items c.in-Ok.ensures.made.new c.requires.named c.len-inputs.ensures.value c.count_outputs-outputs.ensures.count

pub learn_and_retire-requires-clause-nothing : goal.learn_and_retire-requires-clause-nothing
learn_and_retire-requires-clause-nothing g c κs within = subst (λ (ks : List KeptAnswer). NothingClashes (answers_of ks)) (sym c.in-Ok-new.ensures.begun.2) c.requires.nothing

pub learn_and_retire-requires-clause-named_letters : goal.learn_and_retire-requires-clause-named_letters
learn_and_retire-requires-clause-named_letters g c κs within = subst₂ (λ (n : ℕ) (ws : List (List ℕ)). All (IsWord n) ws) (sym (c.in-Ok-new.ensures.numbers.0 ∙ c.len-inputs.ensures.value)) (sym c.as_slice.ensures) c.requires.named_letters

pub learn_and_retire-requires-clause-children : goal.learn_and_retire-requires-clause-children
learn_and_retire-requires-clause-children g c κs within = begun_pool g.P.Link.Link.state c.args.command.now.words c.args.command.now.inputs c.args.command.now.outputs c.args.settings.workers (g.P.Spawner.state c.args.spawner.now) (g.P.Spawner.state c.start_all.new.spawner) c.in-Ok.sessions.items c.in-Ok.ensures.made c.in-Ok.ensures.all c.in-Ok.ensures.count c.in-Ok-new.pool c.in-Ok-new.ensures.members (c.in-Ok-new.ensures.begun.0 ∙ c.requires.named)

pub retire_all-requires-clause-linked : goal.retire_all-requires-clause-linked
retire_all-requires-clause-linked g c κs within = all_linked g.P.Link.Link.state c.args.command.now.words c.args.command.now.inputs c.args.command.now.outputs c.args.settings.workers (g.P.Spawner.state c.args.spawner.now) (g.P.Spawner.state c.start_all.new.spawner) c.in-Ok.sessions.items c.in-Ok.ensures.made c.in-Ok.ensures.all c.in-Ok.ensures.count c.in-Err-new.sessions.items (ap (λ v. v.items) c.in-Err-new.ensures.back.0)

pub returns-in-Ok-new-clause-found : goal.returns-in-Ok-new-clause-found
returns-in-Ok-new-clause-found g c = of_pool c.args.settings.kind g.P.Link.Link.state c.args.command.now.words c.args.command.now.inputs c.args.command.now.outputs c.args.settings.workers c.args.settings.extra c.args.settings.max_states c.args.start.cache.kept (g.P.Spawner.state c.args.spawner.now) (g.P.Spawner.state c.start_all.new.spawner) (g.P.Spawner.state c.learn_and_retire.new.spawner) c.in-Ok.sessions.items c.in-Ok.ensures.made.new c.in-Ok.ensures.all c.in-Ok.ensures.count c.in-Ok-new.pool (sym c.in-Ok-new.ensures.members) (c.in-Ok-new.ensures.begun.0 ∙ c.requires.named) c.in-Ok-new.ensures.begun.1 (c.in-Ok-new.ensures.numbers.0 ∙ c.len-inputs.ensures.value) (c.in-Ok-new.ensures.numbers.1 ∙ c.count_outputs-outputs.ensures.count) c.in-Ok-new.ensures.begun.4 (subst MayAsk (sym c.in-Ok-new.ensures.begun.3) tt) (subst (λ (ks : List KeptAnswer). NothingClashes (answers_of ks)) (sym c.in-Ok-new.ensures.begun.2) c.requires.nothing) c.learn_and_retire.result.learned c.learn_and_retire.result.kept.answers c.learn_and_retire.result.names c.learn_and_retire.ensures.ended c.model_is_least.ensures c.too_many_is_none.ensures c.too_large_for_all.ensures

pub returns-clause-found : goal.returns-clause-found
returns-clause-found g c = refused_pool g.P.Link.Link.state c.args.command.now.words c.args.command.now.inputs c.args.command.now.outputs c.args.settings.workers (g.P.Spawner.state c.args.spawner.now) (g.P.Spawner.state c.start_all.new.spawner) c.in-Ok.sessions.items c.in-Ok.ensures.made c.in-Ok.ensures.all c.in-Ok.ensures.count c.args.settings.kind c.args.settings.extra c.args.settings.max_states c.args.start.cache.kept (g.P.Spawner.state c.retire_all.new.spawner) c.args.start.names c.in-Err-new.sessions.items c.requires.prior (ap (λ v. v.items) c.in-Err-new.ensures.back.0) c.retire_all.ensures (Err c.from.result) c.into_kept.result.answers c.in-Err-new.names.names (ap (λ (e : LearnStop). let r : Result Learned LearnStop = Err e in r) c.from.ensures) (c.into_kept.ensures ∙ ap (λ k. k.kept) c.in-Err-new.ensures.back.2) (ap (λ (n : Naming). n.names) c.in-Err-new.ensures.back.1)

pub returns-in-Err-clause-sharing : goal.returns-in-Err-clause-sharing
returns-in-Err-clause-sharing g c = ap (λ (n : Naming). declared_by n.names n.brought) c.give_up.ensures.names

pub returns-in-Ok-new-clause-sharing : goal.returns-in-Ok-new-clause-sharing
returns-in-Ok-new-clause-sharing g c =
    let ended = c.learn_and_retire.ensures.ended in
    ap (λ (n : Naming). declared_by n.names n.brought) ended.naming_is ∙ (ended.learned.leaves.same.names ∙ ap (λ (n : Naming). declared_by n.names n.brought) c.in-Ok-new.ensures.begun.0)

pub returns-clause-sharing : goal.returns-clause-sharing
returns-clause-sharing g c = ap (λ (n : Naming). declared_by n.names n.brought) c.in-Err-new.ensures.back.1

pub returns-in-Err-clause-come_up : goal.returns-in-Err-clause-come_up
returns-in-Err-clause-come_up g c = first_come_up c.args.command.now.outputs c.give_up.result.kept.answers c.give_up.result.names (c.give_up.ensures.names ∙ c.requires.named)

pub returns-in-Ok-new-clause-come_up : goal.returns-in-Ok-new-clause-come_up
returns-in-Ok-new-clause-come_up g c =
    let ended = c.learn_and_retire.ensures.ended in
    came_up_as c.learn_and_retire.result.kept.answers ended.left.kept c.learn_and_retire.result.names ended.left.naming ended.kept_is ended.naming_is ended.learned.stands.come_up

pub returns-clause-come_up : goal.returns-clause-come_up
returns-clause-come_up g c = first_come_up c.args.command.now.outputs c.into_kept.result.answers c.in-Err-new.names (c.in-Err-new.ensures.back.1 ∙ c.requires.named)

pub returns-in-Err-clause-asked : goal.returns-in-Err-clause-asked
returns-in-Err-clause-asked g c = asked_never c.args.start.words c.give_up.result.learned _ c.give_up.result.kept.answers c.give_up.ensures.learned

pub returns-in-Err-clause-cut : goal.returns-in-Err-clause-cut
returns-in-Err-clause-cut g c = cut_never c.give_up.result.learned c.give_up.result.cut c.give_up.ensures.cut

pub returns-in-Ok-new-clause-asked : goal.returns-in-Ok-new-clause-asked
returns-in-Ok-new-clause-asked g c =
    subst (λ (words : List (List ℕ)). OnOk c.learn_and_retire.result.learned (AnswersWords words c.learn_and_retire.result.kept.answers)) c.as_slice.ensures c.learn_and_retire.ensures.asked

pub returns-in-Err-clause-enough : goal.returns-in-Err-clause-enough
returns-in-Err-clause-enough g c = enough_never c.args.settings.testing (length c.args.command.now.inputs) c.args.settings.extra c.give_up.result.learned _ c.give_up.result.kept.answers c.give_up.ensures.learned

pub returns-in-Ok-new-clause-enough : goal.returns-in-Ok-new-clause-enough
returns-in-Ok-new-clause-enough g c =
    let kept = c.learn_and_retire.result.kept.answers in
    enough_as c.args.settings.testing c.in-Ok-new.pool.inputs (length c.args.command.now.inputs) c.args.settings.extra kept kept c.learn_and_retire.result.learned (c.in-Ok-new.ensures.numbers.0 ∙ c.len-inputs.ensures.value) refl c.learn_and_retire.ensures.enough

pub returns-in-Err-clause-plainly : goal.returns-in-Err-clause-plainly
returns-in-Err-clause-plainly g c =
    plain_never c.args.settings.kind c.args.settings.testing (length c.args.command.now.inputs) c.args.settings.extra c.args.settings.max_states c.args.start.words c.give_up.result.learned _ c.args.start.cache.kept c.give_up.result.kept.answers c.give_up.ensures.learned

pub returns-in-Ok-new-clause-plainly : goal.returns-in-Ok-new-clause-plainly
returns-in-Ok-new-clause-plainly g c =
    let kept = c.learn_and_retire.result.kept.answers in
    runs_as c.args.settings.kind c.args.settings.testing c.in-Ok-new.pool.inputs (length c.args.command.now.inputs) c.args.settings.extra c.args.settings.max_states c.as_slice.result.now c.args.start.words c.learn_and_retire.result.learned c.in-Ok-new.pool.kept c.args.start.cache.kept
    kept kept (c.in-Ok-new.ensures.numbers.0 ∙ c.len-inputs.ensures.value) c.as_slice.ensures c.in-Ok-new.ensures.begun.2 refl c.learn_and_retire.ensures.plainly
