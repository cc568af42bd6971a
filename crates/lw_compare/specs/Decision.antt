-- How two models compare.
use Rattle.std.specs.Prelude.{◌≡◌, ℕ, List}
use Rattle.lw_json.specs.declared.files.Machine.{Machine}
use Rattle.lw_report.specs.declared.comparison.Comparison.{Comparison}
use Rattle.lw_report.specs.declared.comparison.Comparison.TheVariants.{Equal, Differ, OtherInputs}
use Rattle.lw_report.specs.declared.comparison.Difference.{Difference}
use Rattle.lw_compare.specs.Comparing.{Agree, IsLeastDifference, SameInputs, lacking, reply, second_reply}
use Rattle.lw_words.specs.Word.{named}

-- a word, and what both models give for it, by their names
abbrev pub difference_of : Machine → Machine → List ℕ → Difference
difference_of first second w = record { word = named first.inputs w; first = reply first w; second = second_reply first second w }

-- equal exactly where they give the same for every word, else the least word on which they don't; where one has an input that
-- the other one hasn't, those inputs of each
abbrev pub IsComparison : Machine → Machine → Comparison → Type 0
IsComparison first second Equal = SameInputs first second × Agree first second
IsComparison first second (Differ d) = SameInputs first second × ((w : List ℕ) × IsLeastDifference first second w × (d ≡ difference_of first second w))
IsComparison first second (OtherInputs alone other) = (¬ SameInputs first second) × (alone ≡ lacking first.inputs second.inputs) × (other ≡ lacking second.inputs first.inputs)

-- two models compare in one way at most
abbrev pub OneComparison : Type 0
OneComparison = (first second : Machine) (c d : Comparison) → IsComparison first second c → IsComparison first second d → c ≡ d
