use Rattle.std.proofs.Common.{ℕ, List, OnOk, refl, sym, ◌∙◌, ap, subst}
use Rattle.lw_words.specs.Word.{answers_of}
use Rattle.lw_words.specs.declared.kept.KeptAnswer.{KeptAnswer}
use Rattle.lw_cache.specs.Caching.{Caching}
use Rattle.lw_cache.specs.Clash.{NothingClashes}
use Rattle.lw_rounds.specs.Stops.{learn_stop}
use Rattle.lw_workers.specs.Asking.{AnswersWords}
use Rattle.lw_workers.specs.Machines.{KeepsRuns}
use Rattle.lw_workers.proofs.InstanceLemmas.{member}
use Rattle.lw_workers.proofs.MachineLemmas.{enough_as, has_ended, never_stopped}
use Rattle.lw_workers.proofs.RunLemmas.{keeps_naming, keeps_prior}
use Rattle.lw_workers.proofs.PlainLemmas.{runs_as}
use Rattle.lw_workers.proofs.machine.learn_machine.Goals as goal

pub returns-clause-learned : goal.returns-clause-learned
returns-clause-learned g c =
    let learned = c.learn_with-learned.ensures in
    let parts = c.into_parts-left.ensures in
    let never = never_stopped member _ _ parts.sessions (λ s. refl) in
    (has_ended c.args.settings.kind c.args.system.now c.args.settings.workers c.args.settings.extra c.args.settings.max_states c.args.start.names c.args.start.cache.kept c.in-Ok.pool c.learn_with-learned.result.pool c.learn_with-learned.result.learned c.into_kept-2.result.answers c.model_is_least.ensures c.too_many_is_none.ensures c.too_large_for_all.ensures c.in-Ok.ensures.pool c.requires.nothing learned.leaves never learned.learned learned.stops (c.into_kept-2.ensures ∙ parts.cache.0)).ok

pub returns-clause-enough : goal.returns-clause-enough
returns-clause-enough g c =
    let learned = c.learn_with-learned.ensures in
    let parts = c.into_parts-left.ensures in
    enough_as c.args.settings.testing c.in-Ok.pool.inputs c.args.system.now.inputs c.args.settings.extra c.learn_with-learned.result.pool.kept c.into_kept-2.result.answers c.learn_with-learned.result.learned c.in-Ok.ensures.pool.inputs (sym (c.into_kept-2.ensures ∙ parts.cache.0)) learned.enough

pub returns-clause-stops : goal.returns-clause-stops
returns-clause-stops g c =
    let learned = c.learn_with-learned.ensures in
    let parts = c.into_parts-left.ensures in
    let never = never_stopped member _ _ parts.sessions (λ s. refl) in
    (has_ended c.args.settings.kind c.args.system.now c.args.settings.workers c.args.settings.extra c.args.settings.max_states c.args.start.names c.args.start.cache.kept c.in-Ok.pool c.learn_with-learned.result.pool c.learn_with-learned.result.learned c.into_kept-2.result.answers c.model_is_least.ensures c.too_many_is_none.ensures c.too_large_for_all.ensures c.in-Ok.ensures.pool c.requires.nothing learned.leaves never learned.learned learned.stops (c.into_kept-2.ensures ∙ parts.cache.0)).stops

pub returns-clause-caused : goal.returns-clause-caused
returns-clause-caused g c =
    let learned = c.learn_with-learned.ensures in
    let parts = c.into_parts-left.ensures in
    let never = never_stopped member _ _ parts.sessions (λ s. refl) in
    (has_ended c.args.settings.kind c.args.system.now c.args.settings.workers c.args.settings.extra c.args.settings.max_states c.args.start.names c.args.start.cache.kept c.in-Ok.pool c.learn_with-learned.result.pool c.learn_with-learned.result.learned c.into_kept-2.result.answers c.model_is_least.ensures c.too_many_is_none.ensures c.too_large_for_all.ensures c.in-Ok.ensures.pool c.requires.nothing learned.leaves never learned.learned learned.stops (c.into_kept-2.ensures ∙ parts.cache.0)).caused

pub returns-clause-reached : goal.returns-clause-reached
returns-clause-reached g c =
    let learned = c.learn_with-learned.ensures in
    let parts = c.into_parts-left.ensures in
    let never = never_stopped member _ _ parts.sessions (λ s. refl) in
    (has_ended c.args.settings.kind c.args.system.now c.args.settings.workers c.args.settings.extra c.args.settings.max_states c.args.start.names c.args.start.cache.kept c.in-Ok.pool c.learn_with-learned.result.pool c.learn_with-learned.result.learned c.into_kept-2.result.answers c.model_is_least.ensures c.too_many_is_none.ensures c.too_large_for_all.ensures c.in-Ok.ensures.pool c.requires.nothing learned.leaves never learned.learned learned.stops (c.into_kept-2.ensures ∙ parts.cache.0)).reached_by

pub returns-clause-kept : goal.returns-clause-kept
returns-clause-kept g c =
    let learned = c.learn_with-learned.ensures in
    let parts = c.into_parts-left.ensures in
    let never = never_stopped member _ _ parts.sessions (λ s. refl) in
    (has_ended c.args.settings.kind c.args.system.now c.args.settings.workers c.args.settings.extra c.args.settings.max_states c.args.start.names c.args.start.cache.kept c.in-Ok.pool c.learn_with-learned.result.pool c.learn_with-learned.result.learned c.into_kept-2.result.answers c.model_is_least.ensures c.too_many_is_none.ensures c.too_large_for_all.ensures c.in-Ok.ensures.pool c.requires.nothing learned.leaves never learned.learned learned.stops (c.into_kept-2.ensures ∙ parts.cache.0)).runs

pub returns-clause-names : goal.returns-clause-names
returns-clause-names g c =
    let parts = c.into_parts-left.ensures in
    parts.names ∙ keeps_naming c.args.system.now c.args.settings.workers c.args.names.now c.args.start.names c.args.start.cache.kept c.in-Ok.pool c.learn_with-learned.result.pool (learn_stop c.learn_with-learned.result.learned) c.requires.shared c.in-Ok.ensures.pool c.learn_with-learned.ensures.leaves

pub learn_with-learned-requires-clause-nothing : goal.learn_with-learned-requires-clause-nothing
learn_with-learned-requires-clause-nothing g c κs within = subst (λ (ks : List KeptAnswer). NothingClashes (answers_of ks)) (sym c.in-Ok.ensures.pool.kept) c.requires.nothing

pub returns-in-Err-clause-kept : goal.returns-in-Err-clause-kept
returns-in-Err-clause-kept g c =
    subst (KeepsRuns c.args.system.now c.args.settings.workers c.args.start.cache.kept) (sym (c.into_kept.ensures ∙ ap (λ (x : Caching). x.kept) c.in-Err.ensures.back.1))
    (keeps_prior c.args.system.now c.args.settings.workers c.args.start.names c.args.start.cache.kept c.requires.prior)

pub returns-clause-asked : goal.returns-clause-asked
returns-clause-asked g c =
    subst (λ (kept : List KeptAnswer). OnOk c.learn_with-learned.result.learned (AnswersWords c.args.start.words kept)) (sym (c.into_kept-2.ensures ∙ c.into_parts-left.ensures.cache.0))
    (subst (λ (words : List (List ℕ)). OnOk c.learn_with-learned.result.learned (AnswersWords words c.learn_with-learned.result.pool.kept)) c.as_slice.ensures c.learn_with-learned.ensures.asked)

pub returns-in-Err-clause-plainly : goal.returns-in-Err-clause-plainly
returns-in-Err-clause-plainly g c = λ is_table by_w none m machine gives. tt

pub returns-clause-plainly : goal.returns-clause-plainly
returns-clause-plainly g c =
    let pool = c.in-Ok.ensures.pool in
    runs_as c.args.settings.kind c.args.settings.testing c.in-Ok.pool.inputs c.args.system.now.inputs c.args.settings.extra c.args.settings.max_states c.as_slice.result.now c.args.start.words c.learn_with-learned.result.learned c.in-Ok.pool.kept c.args.start.cache.kept
    c.learn_with-learned.result.pool.kept c.into_kept-2.result.answers pool.inputs c.as_slice.ensures pool.kept (sym (c.into_kept-2.ensures ∙ c.into_parts-left.ensures.cache.0)) c.learn_with-learned.ensures.plainly
