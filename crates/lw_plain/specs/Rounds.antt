-- A learner as a function of the machine that it learns: its rounds, and its result.
-- Source: Angluin (1987), whose equivalence query is here a suite, as that of Vasilevskii (1973) and Chow (1978).
use Rattle.std.specs.Prelude.{◌≡◌, ◌≢◌, ◌⊎◌, ℕ, zero, suc, ◌+◌, ◌-◌, ◌*◌, ◌/◌, ◌<◌, ◌≤◌, List, [], ◌∷◌, ◌++◌, map, length, take, drop, Contains, Option, Some, None}
use Rattle.std.specs.List.{All, flat_map, range_with_len}
use Rattle.lw_words.specs.First.{FailsFirst}
use Rattle.lw_words.specs.Word.{IsPrefix}
use Rattle.lw_mealy.specs.Machine.{Rows, answer}
use Rattle.lw_mealy.specs.Difference.{DifferFirst}
use Rattle.lw_separate.specs.Canonical.{LeastWord, IsCanonical}
use Rattle.lw_chunks.specs.Size.{suite_size, greatest_suite}
use Rattle.lw_suite.specs.Suite.{IsSuite}
use Rattle.lw_cache.specs.Cut.{word_at}
use Rattle.lw_plain.specs.Table.{PlainTable, first_table, first_new, close, machine_of, search_word, split_by, with_batches}

-- what is learned, and how: the number of letters and the rows of the machine, the extra states of the suites, and the greatest number
-- of states
pub record Task : Type 0 where
  pub letters : ℕ
  pub machine : Rows
  pub extra : ℕ
  pub most : ℕ

abbrev pub hypothesis_of : Task → PlainTable → Rows
hypothesis_of task t = machine_of task.letters task.machine t

abbrev pub new_row_of : Task → PlainTable → Option (List ℕ)
new_row_of task t = first_new task.letters task.machine t

-- closed, as far as there may be states
abbrev pub closed_by : Task → PlainTable → PlainTable
closed_by task t = close task.letters task.machine (task.most - length t.access) t

-- all words of the batches
abbrev pub asked_words : List (List (List ℕ)) → List (List ℕ)
asked_words batches = flat_map (λ batch. batch) batches

-- machine h answers otherwise to a word that begins one of these
pub record Reveals (m h : Rows) (words : List (List ℕ)) (w : List ℕ) : Type 0 where
  pub whole : List ℕ
  pub asked : Contains words whole
  pub front : IsPrefix w whole
  pub differ : answer h w ≢ answer m w

-- 512 words of a list, and the first n of such chunks
abbrev pub chunk_at : List (List ℕ) → ℕ → List (List ℕ)
chunk_at words j = take 512 (drop (512 * j) words)

abbrev pub first_chunks : List (List ℕ) → ℕ → List (List (List ℕ))
first_chunks words n = map (chunk_at words) (range_with_len 0 n)

abbrev pub AgreesOn : Rows → Rows → List ℕ → Type 0
AgreesOn m h w = answer h w ≡ answer m w

-- the shortest prefix of a word to which machine h answers otherwise
pub record IsShortest (m h : Rows) (word front : List ℕ) : Type 0 where
  pub place : ℕ
  pub first : DifferFirst (answer h word) (answer m word) place
  pub is : front ≡ take (place + 1) word

-- the shortest prefix of the first such word of a list; the chunks up to the one with that word were asked
pub record FailsWords (m h : Rows) (words : List (List ℕ)) (front : List ℕ) (asked : List (List (List ℕ))) : Type 0 where
  pub number : ℕ
  pub first : FailsFirst (AgreesOn m h) words number
  pub here : IsShortest m h (word_at words number) front
  pub chunks : asked ≡ first_chunks words (number / 512 + 1)

-- machine h agrees with the machine on all words of a list, and all chunks were asked
pub record PassesWords (m h : Rows) (words : List (List ℕ)) (asked : List (List (List ℕ))) : Type 0 where
  pub agrees : All (AgreesOn m h) words
  pub chunks : asked ≡ first_chunks words ((length words + 511) / 512)

-- the table is closed, and its machine agrees with the machine on all that was asked for
pub record IsUnrefuted (task : Task) (t : PlainTable) : Type 0 where
  pub closed : new_row_of task t ≡ None
  pub gives : (w : List ℕ) → ¬ Reveals task.machine (hypothesis_of task t) (asked_words t.batches) w

-- the suite of the canonical form of a machine, and that form; it isn't too large
pub record IsSuiteFor (task : Task) (h model : Rows) (suite : List (List ℕ)) : Type 0 where
  pub canonical : IsCanonical task.letters h model
  pub of_model : IsSuite task.letters model task.extra suite
  pub few : suite_size (length model) task.letters task.extra ≤ greatest_suite

-- the least word that was asked for to which the closed table's machine answers otherwise
pub record IsRevealed (task : Task) (t : PlainTable) (word : List ℕ) : Type 0 where
  pub closed : new_row_of task t ≡ None
  pub least : LeastWord (Reveals task.machine (hypothesis_of task t) (asked_words t.batches)) word

-- there is no such word, and the suite finds this one by these batches more
pub record IsFoundBySuite (task : Task) (t : PlainTable) (word : List ℕ) (asked : List (List (List ℕ))) : Type 0 where
  pub ready : IsUnrefuted task t
  pub model : Rows
  pub suite : List (List ℕ)
  pub made : IsSuiteFor task (hypothesis_of task t) model suite
  pub fails : FailsWords task.machine (hypothesis_of task t) suite word asked

-- the counterexample of a table, and the batches that were asked to find it
abbrev pub IsCounterexample : Task → PlainTable → List ℕ → List (List (List ℕ)) → Type 0
IsCounterexample task t word asked = (IsRevealed task t word × (asked ≡ [])) ⊎ IsFoundBySuite task t word asked

-- the table once it is split by a counterexample, and closed again
abbrev pub refined_by : Task → PlainTable → List ℕ → List (List (List ℕ)) → PlainTable
refined_by task t word asked =
    let h : Rows = hypothesis_of task t in
    closed_by task (split_by task.letters h (with_batches t asked) word (search_word task.machine h t.access (length word) word))

pub record IsRefined (task : Task) (before now : PlainTable) : Type 0 where
  pub word : List ℕ
  pub asked : List (List (List ℕ))
  pub counterexample : IsCounterexample task before word asked
  pub is : now ≡ refined_by task before word asked

-- a table after n refinements
abbrev pub IsRefinedTimes : Task → ℕ → PlainTable → PlainTable → Type 0
IsRefinedTimes task zero start t = t ≡ start
IsRefinedTimes task (suc n) start t = (before : PlainTable) × IsRefinedTimes task n start before × IsRefined task before t

-- the learner's table after n refinements, where words were given that are asked before all others
abbrev pub IsTableAfter : Task → List (List ℕ) → ℕ → PlainTable → Type 0
IsTableAfter task given n t = IsRefinedTimes task n (closed_by task (first_table task.letters given)) t

-- The result of the learner.

-- the model is the canonical form of a table's machine, which gives its suite
pub record LearnsPlainly (task : Task) (given : List (List ℕ)) (model : Rows) (refinements : ℕ) (batches : List (List (List ℕ))) : Type 0 where
  pub table : PlainTable
  pub after : IsTableAfter task given refinements table
  pub ready : IsUnrefuted task table
  pub suite : List (List ℕ)
  pub made : IsSuiteFor task (hypothesis_of task table) model suite
  pub asked : List (List (List ℕ))
  pub passes : PassesWords task.machine (hypothesis_of task table) suite asked
  pub all : batches ≡ table.batches ++ asked

-- an access word more than there may be states would be needed: the access words and that one
pub record IsPlainCrowd (task : Task) (given words : List (List ℕ)) (batches : List (List (List ℕ))) : Type 0 where
  pub table : PlainTable
  pub refinements : ℕ
  pub after : IsTableAfter task given refinements table
  pub word : List ℕ
  pub new : new_row_of task table ≡ Some word
  pub is : words ≡ table.access ++ word ∷ []
  pub all : batches ≡ table.batches

-- the suite of the canonical form of a table's machine would be too large
pub record IsPlainTooLarge (task : Task) (given : List (List ℕ)) (model : Rows) (number : ℕ) (batches : List (List (List ℕ))) : Type 0 where
  pub table : PlainTable
  pub refinements : ℕ
  pub after : IsTableAfter task given refinements table
  pub ready : IsUnrefuted task table
  pub canonical : IsCanonical task.letters (hypothesis_of task table) model
  pub size : number ≡ suite_size (length model) task.letters task.extra
  pub large : greatest_suite < number
  pub all : batches ≡ table.batches
