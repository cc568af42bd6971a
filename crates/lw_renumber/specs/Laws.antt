-- That outputs under other names change nothing of what was learned.
use Rattle.std.specs.Prelude.{◌≡◌, ℕ, ◌≤◌, ◌↔◌, List, length, map}
use Rattle.std.specs.List.{All}
use Rattle.lw_words.specs.Word.{Answer, AreAnswers, IsWhole, IsWord}
use Rattle.lw_mealy.specs.Machine.{Rows, IsMachine, answer, Gives, MealyMachine, mealy_of, AnswersBelow, Sure}
use Rattle.lw_cache.specs.Clash.{Clash, NothingClashes, IsClear}
use Rattle.lw_cache.specs.Crowd.{IsCrowd}
use Rattle.lw_cache.specs.Known.{IsKnown, Reads}
use Rattle.lw_separate.specs.Canonical.{IsCanonical}
use Rattle.lw_plain.specs.Rounds.{Task, LearnsPlainly}
use Rattle.lw_suite.specs.Suite.{IsSuite}
use Rattle.lw_rounds.specs.declared.settings.Testing.{Testing}
use Rattle.lw_rounds.specs.Learned.{IsCertified, IsEnoughFor, IsTooMany, IsTooLarge}
use Rattle.lw_renumber.specs.Renaming.{Renames, renamed_rows, renamed_answer, renamed_answers, OutsBelow}

-- a machine's answers, renamed, are those of the renamed machine
abbrev pub RenamedAnswers : Type 0
RenamedAnswers = (f : ℕ → ℕ) (a : ℕ) (m : Rows) (w : List ℕ) → IsMachine a m → IsWord a w
    → answer (renamed_rows f m) w ≡ map f (answer m w)

-- a renamed machine agrees with the renamed answers
abbrev pub RenamedGives : Type 0
RenamedGives = (f : ℕ → ℕ) (a : ℕ) (m : Rows) (ks : List Answer) → IsMachine a m → AreAnswers a ks
    → Gives m ks → Gives (renamed_rows f m) (renamed_answers f ks)

-- whole answers clash exactly where they do so renamed
abbrev pub RenamedClashes : Type 0
RenamedClashes = (f g : ℕ → ℕ) (k l : Answer) → Renames f g → IsWhole k → IsWhole l
    → Clash (renamed_answer f k) (renamed_answer f l) ↔ Clash k l

-- where nothing clashes nothing does renamed
abbrev pub RenamedNeverClash : Type 0
RenamedNeverClash = (f g : ℕ → ℕ) (a : ℕ) (ks : List Answer) → Renames f g → AreAnswers a ks
    → NothingClashes ks → NothingClashes (renamed_answers f ks)

-- the same answers are clear
abbrev pub RenamedIsClear : Type 0
RenamedIsClear = (f g : ℕ → ℕ) (a : ℕ) (ks : List Answer) (i : ℕ) → Renames f g → AreAnswers a ks
    → IsClear (renamed_answers f ks) i ↔ IsClear ks i

-- the same words are known
abbrev pub RenamedIsKnown : Type 0
RenamedIsKnown = (f g : ℕ → ℕ) (a : ℕ) (ks : List Answer) (w : List ℕ) → Renames f g
    → AreAnswers a ks
    → IsKnown (renamed_answers f ks) w ↔ IsKnown ks w

-- with the renamed outputs
abbrev pub RenamedIsRead : Type 0
RenamedIsRead = (f g : ℕ → ℕ) (a : ℕ) (ks : List Answer) (w o : List ℕ) → Renames f g
    → AreAnswers a ks
    → Reads ks w o → Reads (renamed_answers f ks) w (map f o)

-- words that are pairwise apart stay so
abbrev pub RenamedIsCrowd : Type 0
RenamedIsCrowd = (f g : ℕ → ℕ) (a : ℕ) (ks : List Answer) (words : List (List ℕ)) → Renames f g
    → AreAnswers a ks
    → IsCrowd ks words → IsCrowd (renamed_answers f ks) words

-- a canonical form, renamed, is that of the renamed machine
abbrev pub RenamedIsCanonical : Type 0
RenamedIsCanonical = (f g : ℕ → ℕ) (a : ℕ) (m c : Rows) → Renames f g → IsMachine a m
    → IsCanonical a m c → IsCanonical a (renamed_rows f m) (renamed_rows f c)

-- a machine's suite is that of the renamed machine
abbrev pub RenamedIsSuite : Type 0
RenamedIsSuite = (f g : ℕ → ℕ) (a : ℕ) (m : Rows) (k : ℕ) (suite : List (List ℕ)) → Renames f g
    → IsMachine a m
    → IsSuite a m k suite → IsSuite a (renamed_rows f m) k suite

-- answers that are worth so much of a machine are, renamed, worth as much of the renamed machine
abbrev pub RenamedIsSure : Type 0
RenamedIsSure = (f g : ℕ → ℕ) (a : ℕ) (h : Rows) (ks : List Answer) (k : ℕ) → Renames f g
    → IsMachine a h
    → AreAnswers a ks → Sure a h ks k → Sure a (renamed_rows f h) (renamed_answers f ks) k

-- a certified model, renamed, is certified by the renamed answers
abbrev pub RenamedIsCertified : Type 0
RenamedIsCertified = (f g : ℕ → ℕ) (a b c k : ℕ) (ks : List Answer) (model : MealyMachine)
    → Renames f g → AreAnswers a ks → IsCertified a b k ks model
    → (1 ≤ c) × (c ≤ 4096) → AnswersBelow c (renamed_rows f model.rows)
    → IsCertified a c k (renamed_answers f ks) (mealy_of a c (renamed_rows f model.rows))

-- answers that are enough for a model by such tests are, renamed, enough for the renamed model
abbrev pub RenamedIsEnough : Type 0
RenamedIsEnough = (f g : ℕ → ℕ) (testing : Testing) (a c k : ℕ) (ks : List Answer) (model : MealyMachine)
    → Renames f g → AreAnswers a ks → IsMachine a model.rows → IsEnoughFor testing a k ks model
    → IsEnoughFor testing a k (renamed_answers f ks) (mealy_of a c (renamed_rows f model.rows))

-- where no machine of fewer than n states agrees with the answers, none agrees with the renamed answers
abbrev pub RenamedIsLeast : Type 0
RenamedIsLeast = (f g : ℕ → ℕ) (a n : ℕ) (ks : List Answer) → Renames f g → AreAnswers a ks
    → ((m : Rows) → IsMachine a m → Gives m ks → n ≤ length m)
    → (m : Rows) → IsMachine a m → Gives m (renamed_answers f ks) → n ≤ length m

-- words that are too many stay so
abbrev pub RenamedIsTooMany : Type 0
RenamedIsTooMany = (f g : ℕ → ℕ) (a most : ℕ) (ks : List Answer) (words : List (List ℕ))
    → Renames f g → AreAnswers a ks → IsTooMany most ks words
    → IsTooMany most (renamed_answers f ks) words

-- so does a suite that is too large, of the renamed model
abbrev pub RenamedIsTooLarge : Type 0
RenamedIsTooLarge = (f g : ℕ
    → ℕ) (a b c k most : ℕ) (ks : List Answer) (model : MealyMachine) (number : ℕ)
    → Renames f g → AreAnswers a ks → IsTooLarge a b k most ks model number
    → (1 ≤ c) × (c ≤ 4096) → AnswersBelow c (renamed_rows f model.rows)
    → IsTooLarge a c k most (renamed_answers f ks) (mealy_of a c (renamed_rows f model.rows)) number

-- each output of a certified model came in an answer: where those of the answers are below a number, the model's are
abbrev pub OutputsOccur : Type 0
OutputsOccur = (a b k n : ℕ) (ks : List Answer) (model : MealyMachine) → AreAnswers a ks
    → IsCertified a b k ks model → OutsBelow n ks → AnswersBelow n model.rows

-- the task of learning a renamed machine
abbrev pub renamed_task : (ℕ → ℕ) → Task → Task
renamed_task f task = record { letters = task.letters; machine = renamed_rows f task.machine; extra = task.extra; most = task.most }

-- the plain learner asks the same of a renamed machine, and ends with the renamed model
abbrev pub RenamedLearnsPlainly : Type 0
RenamedLearnsPlainly = (f g : ℕ → ℕ) (task : Task) (given : List (List ℕ)) (model : Rows) (refinements : ℕ) (batches : List (List (List ℕ)))
    → Renames f g → IsMachine task.letters task.machine → All (IsWord task.letters) given
    → LearnsPlainly task given model refinements batches
    → LearnsPlainly (renamed_task f task) given (renamed_rows f model) refinements batches
