use Rattle.std.proofs.Common.{List, subst}
use Rattle.lw_words.specs.Word.{answers_of}
use Rattle.lw_words.specs.declared.kept.KeptAnswer.{KeptAnswer}
use Rattle.lw_certify.specs.Verdict.{DiffersAt}
use Rattle.lw_separate.specs.FirstAlike.{IsFirstAlike}
use Rattle.lw_certify.proofs.CertifyLemmas.{words_found, all_reached, minimal, sure_verdict}
use Rattle.lw_certify.proofs.certificate.certify.Goals as goal

pub returns-in-Some-clause-verdict : goal.returns-in-Some-clause-verdict
returns-in-Some-clause-verdict c =
    let words = words_found c.args.h.now.inputs c.args.h.now.rows c.in_ok-words.field-0 c.in-Words.words c.in-Words.is c.in_ok-words.ensures.access in
    (all_reached c.args.h.now.inputs c.args.h.now.rows c.in-Words.words words, subst (IsFirstAlike c.args.h.now.inputs c.args.h.now.rows) c.in-Some.is c.in_ok-p.ensures)

pub returns-in-Some-first_difference-clause-verdict : goal.returns-in-Some-first_difference-clause-verdict
returns-in-Some-first_difference-clause-verdict c =
    let words = words_found c.args.h.now.inputs c.args.h.now.rows c.in_ok-words.field-0 c.in-Words.words c.in-Words.is c.in_ok-words.ensures.access in
    (minimal c.args.h.now.inputs c.args.h.now.rows c.in-Words.words words (subst (IsFirstAlike c.args.h.now.inputs c.args.h.now.rows) c.in_default.is c.in_ok-p.ensures), subst (λ (kept : List KeptAnswer). DiffersAt c.args.h.now.rows (answers_of kept) c.in-Some-first_difference.answer c.in-Some-first_difference.place) c.kept.ensures.value c.in-Some-first_difference.ensures.some)

pub certify_suite-requires-clause-minimal : goal.certify_suite-requires-clause-minimal
certify_suite-requires-clause-minimal c =
    let words = words_found c.args.h.now.inputs c.args.h.now.rows c.in_ok-words.field-0 c.in-Words.words c.in-Words.is c.in_ok-words.ensures.access in
    minimal c.args.h.now.inputs c.args.h.now.rows c.in-Words.words words (subst (IsFirstAlike c.args.h.now.inputs c.args.h.now.rows) c.in_default.is c.in_ok-p.ensures)

pub returns-clause-sure : goal.returns-clause-sure
returns-clause-sure c = sure_verdict c.args.method c.args.h.now.inputs c.args.h.now.rows (answers_of c.args.cache.now.kept) c.args.extra c.certify_suite.result c.in_ok-words.ensures.complete.machine c.certify_suite.ensures.verdict
