-- Two models compare in one way at most.
use Rattle.std.proofs.Common.{◌≡◌, ℕ, List, refl, ap, ap₂, sym, ◌∙◌}
use Rattle.lw_json.specs.declared.files.Machine.{Machine}
use Rattle.lw_report.specs.declared.comparison.Comparison.{Comparison}
use Rattle.lw_report.specs.declared.comparison.Comparison.TheVariants.{Equal, Differ, OtherInputs}
use Rattle.lw_report.specs.declared.comparison.Difference.{Difference}
use Rattle.lw_separate.proofs.Before.{neither_before}
use Rattle.lw_compare.specs.Comparing.{IsLeastDifference}
use Rattle.lw_compare.specs.Decision.{OneComparison, difference_of}

one_word : (m n : Machine) (u v : List ℕ) → IsLeastDifference m n u → IsLeastDifference m n v → u ≡ v
one_word m n u v one two = neither_before u v (λ less. one.differs (two.least u one.word less)) (λ less. two.differs (one.least v two.word less))

pub one_comparison : OneComparison
one_comparison m n Equal Equal c d = refl
one_comparison m n Equal (Differ e) c d = absurd (d.1.1.differs (c.1 d.1.0 d.1.1.word))
one_comparison m n Equal (OtherInputs f s) c d = absurd (d.0 c.0)
one_comparison m n (Differ e) Equal c d = absurd (c.1.1.differs (d.1 c.1.0 c.1.1.word))
one_comparison m n (Differ e) (Differ g) c d =
    ap (λ (x : Difference). Differ x) (c.1.2 ∙ (ap (λ (w : List ℕ). difference_of m n w) (one_word m n c.1.0 d.1.0 c.1.1 d.1.1) ∙ sym d.1.2))
one_comparison m n (Differ e) (OtherInputs f s) c d = absurd (d.0 c.0)
one_comparison m n (OtherInputs f s) Equal c d = absurd (c.0 d.0)
one_comparison m n (OtherInputs f s) (Differ e) c d = absurd (c.0 d.0)
one_comparison m n (OtherInputs f s) (OtherInputs g t) c d = ap₂ (λ (x y : List (List ℕ)). OtherInputs x y) (c.1 ∙ sym d.1) (c.2 ∙ sym d.2)
