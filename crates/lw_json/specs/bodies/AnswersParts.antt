-- What the parts of the reader of answers files find.
use Rattle.std.specs.Prelude.{ℕ, List, map, string_bytes}
use Rattle.lw_json.specs.Formats.{WrittenAnswer, WrittenAnswers}
use Rattle.lw_json.specs.declared.said_answer.Said.{Said}
use Rattle.lw_json.specs.declared.said_answer.SaidAnswer.{SaidAnswer}

abbrev pub said_answer : SaidAnswer → WrittenAnswer
said_answer a = record { instance = a.instance; run = a.run; word = a.word.now; outs = a.outs.now }

abbrev pub written : List (List ℕ) → List (List ℕ) → List WrittenAnswer → WrittenAnswers
written inputs outputs answers = record { inputs = inputs; outputs = outputs; answers = answers }

abbrev pub said_answers : Said → WrittenAnswers
said_answers s = written (map (λ t. string_bytes t) s.inputs.items) (map (λ t. string_bytes t) s.outputs.items) (map said_answer s.answers.items)
