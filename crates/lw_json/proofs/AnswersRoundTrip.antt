-- The value that is written for answers spells them.
use Rattle.std.proofs.Common.{◌≡◌, ◌∙◌, ℕ, ◌≤◌, List, [], ◌∷◌, ◌++◌, Bool, length, map, Some, None, nat_lt, if◌then◌else◌, refl, sym, ap, subst, arith, false}
use Rattle.std.specs.List.{All}
use Rattle.std.proofs.lemmas.Bool.Decides.{Decides-ltb}
use Rattle.std.proofs.lemmas.List.{map-id}
use Rattle.serde_json.specs.Data.{string, depth}
use Rattle.serde_json.specs.Written.{compact_text, has_float}
use Rattle.serde_json.proofs.OnLiterals.{serde_json_on_literals}
use Rattle.lw_words.specs.Word.{IsNames, word_text}
use Rattle.lw_words.specs.declared.kept.KeptAnswer.{KeptAnswer}
use Rattle.lw_json.specs.Formats.{WrittenAnswer, WrittenAnswers, SaysMembers, SpellsAnswers, written_answer_of, numbered_answer, each_of, AreInputs}
use Rattle.lw_json.specs.AnswersText.{IsWrittenOrder, answer_data, answers_data}
use Rattle.lw_json.specs.Journal.{is_journal}
use Rattle.lw_json.specs.KeptOver.{IsKeptOver}
use Rattle.lw_json.specs.declared.files.Answers.{Answers}
use Rattle.lw_json.proofs.EachLemmas.{no_float_items}
use Rattle.lw_json.proofs.RoundTrip.{each_of-map, read_list, read_texts, shallow}
use Rattle.lw_json.proofs.WordTexts.{read_back}
use Rattle.lw_json.proofs.WrittenOrder.{one_written_order}

small : (n : ℕ) → n ≤ 16 → (if nat_lt n 17 then Some n else None) ≡ Some n
small n le = ap (λ (b : Bool). if b then Some n else None) ((Decides-ltb n 17).1 (omega arith))

module _ (inputs outputs : List (List ℕ)) where
  -- an answer as it is written
  abbrev pub written : KeptAnswer → WrittenAnswer
  written k = record { instance = k.instance; run = k.run; word = word_text inputs k.word; outs = word_text outputs k.outs }

  abbrev pub written_of : List KeptAnswer → WrittenAnswers
  written_of ks = record { inputs = inputs; outputs = outputs; answers = map written ks }

  abbrev pub IsOver : KeptAnswer → Type 0
  IsOver k = IsKeptOver (length inputs) (length outputs) k

  pub read_answer : (k : KeptAnswer) → IsOver k → written_answer_of (answer_data inputs outputs k) ≡ Some (written k)
  read_answer k h = rw (small k.instance h.instance) refl

  pub says_it : (ks : List KeptAnswer) → All IsOver ks → SaysMembers (answers_data inputs outputs ks) (written_of ks)
  says_it ks over = record {
    inputs = read_texts inputs;
    outputs = read_texts outputs;
    answers = read_list (answer_data inputs outputs) written_answer_of written IsOver read_answer ks over;
  }

  module _ (inputs_named : IsNames inputs) (outputs_named : IsNames outputs) where
    read_words : (k : KeptAnswer) → IsOver k → numbered_answer inputs outputs (written k) ≡ Some k
    read_words k h = rw (read_back inputs inputs_named k.word h.word, read_back outputs outputs_named k.outs h.outs) refl

    pub read_kept : (ks : List KeptAnswer) → All IsOver ks → each_of (numbered_answer inputs outputs) (map written ks) ≡ Some ks
    read_kept ks over = each_of-map written (numbered_answer inputs outputs) (λ k. k) IsOver read_words ks over ∙ ap (λ (l : List KeptAnswer). Some l) (map-id ks)

    -- what is written are the answers, in the one order in which they are written
    pub spelled : (kept ks : List KeptAnswer) (a : Answers) → length inputs ≤ 64 → All IsOver ks → a.inputs ≡ inputs → a.outputs ≡ outputs → IsWrittenOrder kept ks → IsWrittenOrder kept a.kept.answers → SpellsAnswers (written_of ks) a
    spelled kept ks a few over in_is out_is order order' =
        let same : ks ≡ a.kept.answers = one_written_order kept ks a.kept.answers order order' in
        let spelt : each_of (numbered_answer inputs outputs) (map written ks) ≡ Some a.kept.answers = read_kept ks over ∙ ap (λ (l : List KeptAnswer). Some l) same in
        let first : each_of (numbered_answer a.inputs outputs) (map written ks) ≡ Some a.kept.answers = subst (λ (i : List (List ℕ)). each_of (numbered_answer i outputs) (map written ks) ≡ Some a.kept.answers) (sym in_is) spelt in
        record {
          inputs = sym in_is;
          outputs = sym out_is;
          answers = subst (λ (o : List (List ℕ)). each_of (numbered_answer a.inputs o) (map written ks) ≡ Some a.kept.answers) (sym out_is) first;
          even = λ k d below. (a.over k d below).even;
          inputs_named = subst (λ (i : List (List ℕ)). AreInputs i) (sym in_is) (inputs_named, few);
          outputs_named = subst (λ (o : List (List ℕ)). IsNames o) (sym out_is) outputs_named;
        }

  pub no_float : (ks : List KeptAnswer) → has_float (answers_data inputs outputs ks) ≡ false
  no_float ks =
      rw (
        no_float_items (answer_data inputs outputs) (λ _. refl) ks,
        no_float_items string (λ _. refl) inputs,
        no_float_items string (λ _. refl) outputs,
      ) refl

  pub answers_depth : (ks : List KeptAnswer) → depth (answers_data inputs outputs ks) ≤ 127
  answers_depth ks =
      let ins = shallow string 0 (λ _. omega arith) inputs in
      let outs = shallow string 0 (λ _. omega arith) outputs in
      let list = shallow (answer_data inputs outputs) 1 (λ _. omega arith) ks in
      omega arith

  -- what is written begins with another member than a journal
  pub no_journal : (ks : List KeptAnswer) → is_journal (compact_text (answers_data inputs outputs ks) ++ 10 ∷ []) ≡ false
  unfolding serde_json_on_literals
  no_journal ks = refl
