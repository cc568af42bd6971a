-- The one text that is written for answers, in format 2.
use Rattle.std.specs.Prelude.{◌≡◌, ℕ, List, [], ◌∷◌, ◌++◌, map, codes}
use Rattle.std.specs.List.Sorted.{IsPermutation, IsSorted, IsStable}
use Rattle.std.specs.Ordering.{nat_cmp, ordering_then}
use Rattle.std.specs.declared.cmp.Ordering.{Ordering}
use Rattle.serde_json.specs.Data.{Data, array, string, number, unsigned, object, member, no_members}
use Rattle.serde_json.specs.View.{items_of}
use Rattle.serde_json.specs.Written.{compact_text}
use Rattle.lw_words.specs.Word.{shortlex_cmp, word_text}
use Rattle.lw_words.specs.declared.kept.KeptAnswer.{KeptAnswer}
use Rattle.lw_json.specs.Formats.{IsAnswersFile}
use Rattle.lw_json.specs.MachineText.{texts_data}
use Rattle.lw_json.specs.declared.files.Answers.{Answers}

-- the shortlex order of the words, then the instances, then the runs
abbrev pub answer_cmp : KeptAnswer → KeptAnswer → Ordering
answer_cmp k l = ordering_then (ordering_then (shortlex_cmp k.word l.word) (nat_cmp k.instance l.instance)) (nat_cmp k.run l.run)

-- ys are xs in the order in which they are written: answers that tie stand as in xs
pub record IsWrittenOrder (xs ys : List KeptAnswer) : Type 0 where
  pub same : IsPermutation xs ys
  pub sorted : IsSorted answer_cmp ys
  pub stable : IsStable answer_cmp xs ys

-- any answers have one written order at most
abbrev pub HaveOneOrder : Type 0
HaveOneOrder = (xs ys zs : List KeptAnswer) → IsWrittenOrder xs ys → IsWrittenOrder xs zs → ys ≡ zs

-- an answer: the instance, the run and the two texts, in a list
abbrev pub run_data : ℕ → ℕ → List ℕ → List ℕ → Data
run_data instance run word outs = array (items_of (number (unsigned instance) ∷ number (unsigned run) ∷ string word ∷ string outs ∷ []))

abbrev pub answer_data : List (List ℕ) → List (List ℕ) → KeptAnswer → Data
answer_data inputs outputs k = run_data k.instance k.run (word_text inputs k.word) (word_text outputs k.outs)

abbrev pub list_data : List (List ℕ) → List (List ℕ) → List KeptAnswer → Data
list_data inputs outputs ks = array (items_of (map (answer_data inputs outputs) ks))

-- exactly four members, in the order of their names' bytes
abbrev pub answers_data : List (List ℕ) → List (List ℕ) → List KeptAnswer → Data
answers_data inputs outputs ks =
    object
    (member (codes "answers") (list_data inputs outputs ks)
    (member (codes "format") (number (unsigned 2)) (member (codes "inputs") (texts_data inputs) (member (codes "outputs") (texts_data outputs) no_members))))

-- serde_json's compact text of the answers in their written order, and a line feed
abbrev pub IsAnswersText : List (List ℕ) → List (List ℕ) → List KeptAnswer → List ℕ → Type 0
IsAnswersText inputs outputs kept text = (ys : List KeptAnswer) × IsWrittenOrder kept ys × (text ≡ compact_text (answers_data inputs outputs ys) ++ 10 ∷ [])

-- the bytes are a file of these answers in their written order, with their instances and runs
abbrev pub IsReadInOrder : List (List ℕ) → List (List ℕ) → List KeptAnswer → List ℕ → Type 0
IsReadInOrder inputs outputs kept text =
    (a : Answers) → a.inputs ≡ inputs → a.outputs ≡ outputs → IsWrittenOrder kept a.kept.answers → IsAnswersFile text a
