use Rattle.std.proofs.Common.{ℕ, List, ◌<◌, ◌≤◌, ⊎_elim, length, refl}
use Rattle.std.proofs.lemmas.Bool.{cases_lt}
use Rattle.lw_mealy.specs.Machine.{IsMinimal, Gives}
use Rattle.lw_separate.specs.FirstAlike.{AreFirstAlike, AnyTwoDiffer}
use Rattle.lw_separate.proofs.ExistenceAlike.{first_alike_or_none}
use Rattle.lw_chunks.specs.Size.{suite_size, greatest_suite}
use Rattle.lw_certify.specs.Verdict.{IsFirstUnreached, AllReached, DiffersAt, IsMissingBy, AreEnoughBy}
use Rattle.lw_certify.specs.declared.verdict.Verdict.TheVariants as verdict
use Rattle.lw_certify.proofs.ExistenceVerdict.{unreached_or_all_reached, differs_or_gives, enough_or_missing}
use Rattle.lw_certify.proofs.laws.verdict_exists.Goals as goal

pub returns : goal.returns
returns c method a h ks k machine whole =
    ⊎_elim
    (λ (f : (q : ℕ) × IsFirstUnreached a h q). (verdict.Unreached f.0, f.1))
    (λ (reached : AllReached a h).
    ⊎_elim
    (λ (f : (pair : ℕ × ℕ) × AreFirstAlike a h pair). (verdict.Alike f.0.0 f.0.1, (reached, f.1)))
    (λ (apart : AnyTwoDiffer a h).
    let minimal : IsMinimal a h = record { reached = reached; apart = apart } in
    ⊎_elim
    (λ (f : (number : ℕ) × (place : ℕ) × DiffersAt h ks number place). (verdict.Differs f.0 f.1, (minimal, f.2)))
    (λ (given : Gives h ks).
    ⊎_elim
    (λ (large : greatest_suite < suite_size (length h) a k). (verdict.TooLarge (suite_size (length h) a k), (minimal, given, large, refl)))
    (λ (small : suite_size (length h) a k ≤ greatest_suite).
    ⊎_elim
    (λ (enough : AreEnoughBy method a h ks k). (verdict.Sure, (minimal, given, small, enough)))
    (λ (f : (word : List ℕ) × IsMissingBy method a h ks k word). (verdict.Missing f.0, (minimal, given, small, f.1)))
    (enough_or_missing method a h ks k c.suite_exists.ensures c.wp_suite_exists.ensures c.covered_or_missing.ensures machine minimal given))
    (cases_lt greatest_suite (suite_size (length h) a k)))
    (differs_or_gives h ks whole))
    (first_alike_or_none a h machine))
    (unreached_or_all_reached a h machine)
