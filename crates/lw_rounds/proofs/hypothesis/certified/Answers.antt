use Rattle.lw_words.specs.Word.{answers_of}
use Rattle.lw_certify.specs.declared.verdict.Verdict.TheVariants.{Sure}
use Rattle.lw_certify.proofs.OneVerdict.{one_verdict}
use Rattle.lw_rounds.proofs.hypothesis.certified.Goals as goal

pub unreachable-requires : goal.unreachable-requires
unreachable-requires c =
    c.in_default.not-Sure (one_verdict c.args.settings.testing.suite c.args.model.inputs c.args.model.rows (answers_of c.args.cache.now.kept) c.args.settings.extra c.in_ok-verdict.verdict Sure c.in_ok-verdict.ensures.verdict c.requires.enough.verdict)
