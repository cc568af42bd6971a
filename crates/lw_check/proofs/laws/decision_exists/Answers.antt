use Rattle.std.proofs.Common.{ℕ, ⊎_elim, List, length, refl}
use Rattle.std.proofs.lemmas.List.Elements.{All-weaker}
use Rattle.lw_words.specs.Word.{Answer, IsAnswer, IsWhole, answers_of}
use Rattle.lw_cache.specs.Clash.{NothingClashes}
use Rattle.lw_cache.specs.declared.stops.Clash.{Clash}
use Rattle.lw_separate.proofs.CrowdLemmas.{same_or_not}
use Rattle.lw_separate.proofs.Decided.{decides_both, decides_same}
use Rattle.lw_chunks.specs.declared.method.Method.{Method}
use Rattle.lw_certify.specs.declared.verdict.Verdict.{Verdict}
use Rattle.lw_certify.specs.declared.verdict.Verdict.TheVariants as verdict
use Rattle.lw_cache.specs.FirstClash.{IsFirstClash}
use Rattle.lw_report.specs.declared.role.Role.TheVariants.{Answers}
use Rattle.lw_report.specs.declared.outcome.Outcome.{Outcome}
use Rattle.lw_report.specs.declared.outcome.Outcome.TheVariants.{Yes, No, Alphabets, Nondeterministic, SuiteTooLarge}
use Rattle.lw_check.specs.Decision.{Pair, SameNames, HasVerdict, IsDecision}
use Rattle.lw_check.proofs.ExistenceClash.{first_clash_or_none}
use Rattle.lw_check.proofs.laws.decision_exists.Goals as goal

by_verdict : (method : Method) (p : Pair) (extra : ℕ) (v : Verdict) → HasVerdict method p extra v → (outcome : Outcome) × IsDecision method p extra outcome
by_verdict method p extra (verdict.Unreached q) has = (No (verdict.Unreached q), (has, tt))
by_verdict method p extra (verdict.Alike q r) has = (No (verdict.Alike q r), (has, tt))
by_verdict method p extra (verdict.Differs number place) has = (No (verdict.Differs number place), (has, tt))
by_verdict method p extra (verdict.TooLarge size) has = (SuiteTooLarge (length p.mealy.rows) size, (has, refl))
by_verdict method p extra (verdict.Missing word) has = (No (verdict.Missing word), (has, tt))
by_verdict method p extra verdict.Sure has = (Yes (length p.mealy.rows), (has, refl))

pub returns : goal.returns
returns c method p extra machine are =
    let ks : List Answer = answers_of p.kept in
    ⊎_elim
    (λ (same : SameNames p).
    ⊎_elim
    (λ (f : (clash : Clash) × IsFirstClash ks clash). (Nondeterministic f.0, (same, f.1)))
    (λ (none : NothingClashes ks).
    let v = c.verdict_exists.ensures method p.mealy.inputs p.mealy.rows ks extra machine (All-weaker (IsAnswer (length p.answer_inputs)) IsWhole (λ k is. is.1) ks are) in
    by_verdict method p extra v.0 (same, none, v.1))
    (first_clash_or_none (length p.answer_inputs) ks are))
    (λ (other : ¬ SameNames p). (Alphabets Answers, (refl, other)))
    (decides_both (decides_same same_or_not p.answer_inputs p.inputs) (decides_same same_or_not p.answer_outputs p.outputs))
