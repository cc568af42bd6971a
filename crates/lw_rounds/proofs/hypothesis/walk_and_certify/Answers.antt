use Rattle.std.proofs.Common.{List, ℕ, sym, ◌∙◌, subst}
use Rattle.lw_words.specs.Word.{answers_of}
use Rattle.lw_words.specs.declared.kept.KeptAnswer.{KeptAnswer}
use Rattle.lw_cache.proofs.SettlingLemmas.{kept_are_answers}
use Rattle.lw_mealy.specs.Machine.{IsMinimal}
use Rattle.lw_separate.specs.Canonical.{IsCanonical}
use Rattle.lw_rounds.specs.Learned.{IsEnoughFor}
use Rattle.lw_rounds.proofs.CanonicalLemmas.{of_itself}
use Rattle.lw_rounds.proofs.HypothesisLemmas.{enough_walked, kept_words, sure_of}
use Rattle.lw_rounds.proofs.hypothesis.walk_and_certify.Goals as goal

pub settle_walks-requires-clause-minimal : goal.settle_walks-requires-clause-minimal
settle_walks-requires-clause-minimal g c = subst (λ (a : ℕ). IsMinimal a c.args.model.rows) (sym c.requires.alphabets.0) c.requires.canonical.minimal

pub certified-requires-clause-letters : goal.certified-requires-clause-letters
certified-requires-clause-letters g c =
    let leaves = c.in_ok-found.ensures.leaves in
    kept_words (g.O.Oracle.state c.settle_walks.new.oracle) c.args.model.inputs c.cache.result.now.kept (c.requires.alphabets.0 ∙ (c.requires.inputs ∙ sym leaves.same.inputs)) c.cache.ensures.kept leaves.keeps

pub certified-requires-clause-enough : goal.certified-requires-clause-enough
certified-requires-clause-enough g c =
    let before = g.O.Oracle.state c.args.oracle.now in
    let now = g.O.Oracle.state c.settle_walks.new.oracle in
    let a = c.args.hypothesis.now.inputs in
    let leaves = c.in_ok-found.ensures.leaves in
    subst (λ (kept : List KeptAnswer). IsEnoughFor c.args.settings.testing c.args.model.inputs c.args.settings.extra (answers_of kept) c.args.model) (sym c.cache.ensures.kept)
    (enough_walked c.args.settings.testing a c.args.hypothesis.now.rows c.args.model c.args.settings.extra before.kept leaves.gained now.kept leaves.at_end c.requires.alphabets.0 c.requires.canonical
    (kept_are_answers now a (c.requires.inputs ∙ sym leaves.same.inputs) leaves.keeps) c.requires.passed c.requires.size (rw c.in-None.is at c.in_ok-found.ensures.comes))

pub certified-requires-clause-canonical : goal.certified-requires-clause-canonical
certified-requires-clause-canonical g c =
    subst (λ (a : ℕ). IsCanonical a c.args.model.rows c.args.model.rows) (sym c.requires.alphabets.0) (of_itself c.args.hypothesis.now.inputs c.args.hypothesis.now.rows c.args.model.rows c.requires.canonical)

pub returns-in_ok-certified-in-None-clause-tested : goal.returns-in_ok-certified-in-None-clause-tested
returns-in_ok-certified-in-None-clause-tested g c =
    let now = g.O.Oracle.state c.settle_walks.new.oracle in
    let e = c.in_ok-certified-in-None.ensures in
    sure_of c.args.hypothesis.now c.args.model c.in_ok-certified-in-None.field-0 c.args.settings.testing c.args.settings.extra c.cache.result.now.kept now.kept c.requires.alphabets e.value c.cache.ensures.kept e.certified e.enough c.requires.canonical
