-- An answers file has one value.
use Rattle.std.proofs.Common.{◌≡◌, List, ℕ, sym, ap, ap₂, ◌∙◌, subst, true≢false}
use Rattle.json.proofs.Found.{Some_inj}
use Rattle.serde_json.specs.Data.{Data}
use Rattle.lw_json.specs.Formats.{IsJson, Document, whole, lines, IsDocument, WrittenAnswer, WrittenAnswers, SaysAnswers, SpellsAnswers, IsAnswersFile, SameAnswers, journal_outputs, numbered_answer, each_of}
use Rattle.lw_json.specs.declared.files.Answers.{Answers}

-- what two readings of one value say is the same
pub record SameSaid (v w : WrittenAnswers) : Type 0 where
  pub inputs : v.inputs ≡ w.inputs
  pub outputs : v.outputs ≡ w.outputs
  pub answers : v.answers ≡ w.answers

-- bytes are one value of JSON, and one document
pub one_json : (bytes : List ℕ) (d e : Data) → IsJson bytes d → IsJson bytes e → d ≡ e
one_json bytes d e i j = Some_inj d e (sym i.1 ∙ j.1)

pub one_document : (bytes : List ℕ) (d e : Document) → IsDocument bytes d → IsDocument bytes e → d ≡ e
one_document bytes (whole d) (whole e) i j = ap (λ (x : Data). whole x) (one_json bytes d e i.1 j.1)
one_document bytes (whole d) (lines es) i j = absurd (true≢false (sym j.0 ∙ i.0))
one_document bytes (lines ds) (whole e) i j = absurd (true≢false (sym i.0 ∙ j.0))
one_document bytes (lines ds) (lines es) i j = ap (λ (x : List Data). lines x) (sym i.1 ∙ j.1)

pub says_same : (d : Document) (v w : WrittenAnswers) → SaysAnswers d v → SaysAnswers d w → SameSaid v w
says_same (whole d) v w s t = record {
  inputs = Some_inj v.inputs w.inputs (sym s.inputs ∙ t.inputs);
  outputs = Some_inj v.outputs w.outputs (sym s.outputs ∙ t.outputs);
  answers = Some_inj v.answers w.answers (sym s.answers ∙ t.answers);
}
says_same (lines ds) v w s t =
    let answers : v.answers ≡ w.answers = Some_inj v.answers w.answers (sym s.answers ∙ t.answers) in
    record {
      inputs = Some_inj v.inputs w.inputs (sym s.inputs ∙ t.inputs);
      outputs = sym s.outputs ∙ (ap journal_outputs answers ∙ t.outputs);
      answers = answers;
    }

spell_same : (v w : WrittenAnswers) (a b : Answers) → SameSaid v w → SpellsAnswers v a → SpellsAnswers w b → SameAnswers a b
spell_same v w a b same s t =
    let inputs : a.inputs ≡ b.inputs = sym s.inputs ∙ (same.inputs ∙ t.inputs) in
    let outputs : a.outputs ≡ b.outputs = sym s.outputs ∙ (same.outputs ∙ t.outputs) in
    let one : each_of (numbered_answer a.inputs a.outputs) v.answers ≡ each_of (numbered_answer b.inputs b.outputs) v.answers = ap₂ (λ (i o : List (List ℕ)). each_of (numbered_answer i o) v.answers) inputs outputs in
    let two : each_of (numbered_answer b.inputs b.outputs) v.answers ≡ each_of (numbered_answer b.inputs b.outputs) w.answers = ap (λ (l : List WrittenAnswer). each_of (numbered_answer b.inputs b.outputs) l) same.answers in
    record { inputs = inputs; outputs = outputs; answers = Some_inj a.kept.answers b.kept.answers (sym s.answers ∙ (one ∙ (two ∙ t.answers))) }

pub one_answers : (bytes : List ℕ) (a b : Answers) → IsAnswersFile bytes a → IsAnswersFile bytes b → SameAnswers a b
one_answers bytes a b f g =
    let there : SaysAnswers g.0 f.2.0 = subst (λ (d : Document). SaysAnswers d f.2.0) (one_document bytes f.0 g.0 f.1 g.1) f.2.1 in
    spell_same f.2.0 g.2.0 a b (says_same g.0 f.2.0 g.2.0 there g.2.1) f.2.2 g.2.2
