-- The verdict on a model and recorded answers: the first of six that applies.
use Rattle.std.specs.Prelude.{◌≡◌, ℕ, ◌<◌, ◌≤◌, List, length, slice_index_or, []}
use Rattle.std.specs.List.{All}
use Rattle.lw_words.specs.Word.{Answer, answer_at, IsWhole, IsWord}
use Rattle.lw_words.specs.First.{FailsFirst}
use Rattle.lw_mealy.specs.Machine.{Rows, IsMachine, answer, Reached, IsMinimal, Gives, Sure}
use Rattle.lw_mealy.specs.Difference.{DifferFirst}
use Rattle.lw_separate.specs.FirstAlike.{AreFirstAlike}
use Rattle.lw_chunks.specs.Size.{suite_size, greatest_suite}
use Rattle.lw_suite.specs.Suite.{IsSuite}
use Rattle.lw_wp.specs.GreedySuite.{IsGreedySuite}
use Rattle.lw_wp.specs.WpSuite.{IsWpSuite}
use Rattle.lw_apart.specs.Covers.{Covers}
use Rattle.lw_apart.specs.Missing.{IsMissing}
use Rattle.lw_chunks.specs.declared.method.Method.{Method}
use Rattle.lw_chunks.specs.declared.method.Method.TheVariants.{W, Wp, H}
use Rattle.lw_cache.specs.Known.{IsKnown}
use Rattle.lw_certify.specs.declared.verdict.Verdict.{Verdict}
use Rattle.lw_certify.specs.declared.verdict.Verdict.TheVariants as verdict

-- no word leads to the state, and one leads to each before it
pub record IsFirstUnreached (a : ℕ) (h : Rows) (q : ℕ) : Type 0 where
  pub state : q < length h
  pub unreached : ¬ Reached a h q
  pub before : (p : ℕ) → p < q → Reached a h p

abbrev pub AllReached : ℕ → Rows → Type 0
AllReached a h = (q : ℕ) → q < length h → Reached a h q

-- the machine disagrees with this answer, from this place on, and agrees with those before it
pub record DiffersAt (h : Rows) (ks : List Answer) (number place : ℕ) : Type 0 where
  pub first : FailsFirst (λ k. answer h k.word ≡ k.outs) ks number
  pub here : DifferFirst (answer h (answer_at ks number).word) (answer_at ks number).outs place

-- the suite of the machine for k extra states, by how suites are made: a machine has one at most of each method
abbrev pub IsSuiteBy : Method → ℕ → Rows → ℕ → List (List ℕ) → Type 0
IsSuiteBy W a h k suite = IsSuite a h k suite
IsSuiteBy Wp a h k suite = IsWpSuite a h k suite
IsSuiteBy H a h k suite = IsGreedySuite a h k suite

-- the word is the first of the suite that isn't known
pub record IsFirstMissing (method : Method) (a : ℕ) (h : Rows) (ks : List Answer) (k : ℕ) (word : List ℕ) : Type 0 where
  pub suite : List (List ℕ)
  pub whole : IsSuiteBy method a h k suite
  pub number : ℕ
  pub first : FailsFirst (IsKnown ks) suite number
  pub here : word ≡ slice_index_or suite number []

-- all words of the suite are known
pub record SuiteIsKnown (method : Method) (a : ℕ) (h : Rows) (ks : List Answer) (k : ℕ) : Type 0 where
  pub suite : List (List ℕ)
  pub whole : IsSuiteBy method a h k suite
  pub known : All (IsKnown ks) suite

-- the word is the one that is missing: of the suite, or by the H-method so that the answers cover the machine
abbrev pub IsMissingBy : Method → ℕ → Rows → List Answer → ℕ → List ℕ → Type 0
IsMissingBy W a h ks k word = IsFirstMissing W a h ks k word
IsMissingBy Wp a h ks k word = IsFirstMissing Wp a h ks k word
IsMissingBy H a h ks k word = IsMissing a h ks k word

-- the answers are enough: they make the suite known, or by the H-method they cover the machine, however they came
abbrev pub AreEnoughBy : Method → ℕ → Rows → List Answer → ℕ → Type 0
AreEnoughBy W a h ks k = SuiteIsKnown W a h ks k
AreEnoughBy Wp a h ks k = SuiteIsKnown Wp a h ks k
AreEnoughBy H a h ks k = Covers a h ks k

-- what each verdict says, by how suites are made; each comes where none before it does
abbrev pub IsVerdict : Method → ℕ → Rows → List Answer → ℕ → Verdict → Type 0
IsVerdict method a h ks k (verdict.Unreached state) = IsFirstUnreached a h state
IsVerdict method a h ks k (verdict.Alike p q) = AllReached a h × AreFirstAlike a h (p, q)
IsVerdict method a h ks k (verdict.Differs number place) = IsMinimal a h × DiffersAt h ks number place
IsVerdict method a h ks k (verdict.TooLarge size) = IsMinimal a h × Gives h ks × (greatest_suite < size) × (size ≡ suite_size (length h) a k)
IsVerdict method a h ks k (verdict.Missing word) = IsMinimal a h × Gives h ks × (suite_size (length h) a k ≤ greatest_suite) × IsMissingBy method a h ks k word
IsVerdict method a h ks k verdict.Sure = IsMinimal a h × Gives h ks × (suite_size (length h) a k ≤ greatest_suite) × AreEnoughBy method a h ks k

-- the completeness of each method: where the verdict is that the answers suffice, they do
abbrev pub SureIsSure : Type 0
SureIsSure = (method : Method) (a : ℕ) (h : Rows) (ks : List Answer) (k : ℕ) → IsMachine a h → IsVerdict method a h ks k verdict.Sure → Sure a h ks k

-- a machine and answers have one verdict at most
abbrev pub OneVerdict : Type 0
OneVerdict = (method : Method) (a : ℕ) (h : Rows) (ks : List Answer) (k : ℕ) (v w : Verdict) → IsVerdict method a h ks k v → IsVerdict method a h ks k w → v ≡ w

-- a machine and answers with an output for each letter have a verdict
abbrev pub SomeVerdict : Type 0
SomeVerdict = (method : Method) (a : ℕ) (h : Rows) (ks : List Answer) (k : ℕ) → IsMachine a h → All IsWhole ks
    → (v : Verdict) × IsVerdict method a h ks k v

-- where the answers are enough by a method, they cover the machine
abbrev pub EnoughCovers : Type 0
EnoughCovers = (method : Method) (a : ℕ) (h : Rows) (ks : List Answer) (k : ℕ) → IsMachine a h → IsMinimal a h → Gives h ks
    → AreEnoughBy method a h ks k → Covers a h ks k

-- answers that the machine agrees with, and that make a suite of it known, are enough by the method that made the suite
abbrev pub SuiteIsEnough : Type 0
SuiteIsEnough = (method : Method) (a : ℕ) (h : Rows) (ks : List Answer) (k : ℕ) (suite : List (List ℕ)) → IsMachine a h → IsMinimal a h → Gives h ks
    → IsSuiteBy method a h k suite → All (IsKnown ks) suite → AreEnoughBy method a h ks k

-- the words of a suite are over the machine's letters
abbrev pub SuitesAreOfWords : Type 0
SuitesAreOfWords = (method : Method) (a : ℕ) (h : Rows) (k : ℕ) (suite : List (List ℕ)) → IsSuiteBy method a h k suite → All (IsWord a) suite
