use Rattle.std.proofs.Common.{List, length, sym, ◌∙◌, subst}
use Rattle.std.specs.List.{All}
use Rattle.lw_words.specs.Word.{answers_of, IsWhole}
use Rattle.lw_words.specs.declared.kept.KeptAnswer.{KeptAnswer}
use Rattle.lw_prior.proofs.PriorLemmas.{prior_kept, may_begin, whole_renumbered}
use Rattle.lw_prior.proofs.prior.prior_of.Goals as goal

pub place-requires : goal.place-requires
place-requires c =
    let a = c.args.answers in
    subst (λ (l : List KeptAnswer). All IsWhole (answers_of l)) (sym c.renumbered-kept.ensures)
    (whole_renumbered (length a.inputs) (length a.outputs) c.as_slice.result.now a.kept.answers a.over)

pub returns-clause-kept : goal.returns-clause-kept
returns-clause-kept c =
    let a = c.args.answers in
    prior_kept a.outputs c.args.outputs.now (length a.inputs) c.as_slice.result.now a.kept.answers c.renumbered-kept.result.answers c.in_ok-prior.prior.cache.kept
    (c.as_slice.ensures.value ∙ c.in_ok-to.ensures.numbers) a.over c.renumbered-kept.ensures c.in_ok-prior.ensures.kept

pub returns-clause-may : goal.returns-clause-may
returns-clause-may c =
    let a = c.args.answers in
    may_begin a.outputs c.args.outputs.now a.inputs c.args.inputs.now a.kept.answers c.in_ok-prior.prior.cache.kept
    (prior_kept a.outputs c.args.outputs.now (length a.inputs) c.as_slice.result.now a.kept.answers c.renumbered-kept.result.answers c.in_ok-prior.prior.cache.kept
    (c.as_slice.ensures.value ∙ c.in_ok-to.ensures.numbers) a.over c.renumbered-kept.ensures c.in_ok-prior.ensures.kept)
    a.over c.in_ok-to.ensures.fits
