-- Answers over a model's inputs, and what their verdict comes to.
use Rattle.std.proofs.Common.{◌≡◌, ℕ, ◌<◌, ◌⊎◌, inl, inr, ⊎_elim, List, [], length, refl, sym, subst}
use Rattle.std.specs.List.{All}
use Rattle.std.proofs.lemmas.List.{length-map, get_or-map}
use Rattle.lw_words.specs.Word.{Answer, answer_of, answers_of, IsWhole, IsWord}
use Rattle.lw_words.specs.declared.kept.KeptAnswer.{KeptAnswer}
use Rattle.lw_json.specs.KeptOver.{AreKeptOver}
use Rattle.lw_cache.specs.Clash.{NothingClashes}
use Rattle.lw_certify.specs.declared.verdict.Verdict.{Verdict}
use Rattle.lw_certify.specs.declared.verdict.Verdict.TheVariants as verdict
use Rattle.lw_chunks.specs.declared.method.Method.{Method}
use Rattle.lw_certify.specs.Verdict.{IsVerdict}
use Rattle.lw_check.specs.Decision.{Pair, SameNames, IsDecision}
use Rattle.lw_check.specs.bodies.Verdicts.{HasOutcome, outcome_of}
use Rattle.lw_report.specs.declared.outcome.Outcome.{Outcome}
use Rattle.lw_report.specs.declared.outcome.Outcome.TheVariants.{NoMemory}

blank : KeptAnswer
blank = record { instance = 0; run = 0; word = []; outs = [] }

pub all_answers : (P : Answer → Type 0) (ks : List KeptAnswer) → All (λ k. P (answer_of k)) ks → All P (answers_of ks)
all_answers P ks all i d lt =
    let lt' : i < length ks = rw length-map at lt in
    subst P (sym (get_or-map answer_of ks i (record { instance = 0; run = 0; word = []; outs = [] }) d lt')) (all i (record { instance = 0; run = 0; word = []; outs = [] }) lt')

pub all_whole : (a b : ℕ) (ks : List KeptAnswer) → AreKeptOver a b ks → All IsWhole (answers_of ks)
all_whole a b ks over = all_answers IsWhole ks (λ i d lt. (over i d lt).even)

pub all_words : (a b c : ℕ) (ks kept : List KeptAnswer) → AreKeptOver a b ks → a ≡ c → kept ≡ ks → All (λ k. IsWord c k.word) (answers_of kept)
all_words a b c ks kept over e is = rw (is, ← e) (all_answers (λ k. IsWord a k.word) ks (λ i d lt. (over i d lt).word))

-- the decision of a verdict
pub decided : (method : Method) (p : Pair) (extra : ℕ) (kept : List KeptAnswer) (outcome : Outcome) → SameNames p → NothingClashes (answers_of p.kept) → kept ≡ p.kept → HasOutcome method p.mealy (answers_of kept) extra outcome → IsDecision method p extra outcome
decided method p extra kept outcome names none is (v, has, comes) =
    let has' : IsVerdict method p.mealy.inputs p.mealy.rows (answers_of p.kept) extra v = subst (λ (l : List KeptAnswer). IsVerdict method p.mealy.inputs p.mealy.rows (answers_of l) extra v) is has in
    rw comes (of_verdict v has')
  where
    of_verdict : (v : Verdict) → IsVerdict method p.mealy.inputs p.mealy.rows (answers_of p.kept) extra v → IsDecision method p extra (outcome_of (length p.mealy.rows) v)
    of_verdict (verdict.Unreached q) h = ((names, none, h), tt)
    of_verdict (verdict.Alike q r) h = ((names, none, h), tt)
    of_verdict (verdict.Differs i q) h = ((names, none, h), tt)
    of_verdict (verdict.TooLarge s) h = ((names, none, h), refl)
    of_verdict (verdict.Missing w) h = ((names, none, h), tt)
    of_verdict verdict.Sure h = ((names, none, h), refl)

pub decided_or : (method : Method) (p : Pair) (extra : ℕ) (kept : List KeptAnswer) (outcome : Outcome) → SameNames p → NothingClashes (answers_of p.kept) → kept ≡ p.kept → (outcome ≡ NoMemory) ⊎ HasOutcome method p.mealy (answers_of kept) extra outcome
    → (outcome ≡ NoMemory) ⊎ IsDecision method p extra outcome
decided_or method p extra kept outcome names none is told = ⊎_elim (λ (e : outcome ≡ NoMemory). inl e) (λ (h : HasOutcome method p.mealy (answers_of kept) extra outcome). inr (decided method p extra kept outcome names none is h)) told
