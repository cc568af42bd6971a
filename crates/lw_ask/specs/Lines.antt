-- The lines of answers.
use Rattle.std.specs.Prelude.{ℕ, List, ◌++◌, codes}
use Rattle.std.specs.List.{flat_map}
use Rattle.lw_words.specs.declared.kept.KeptAnswer.{KeptAnswer}
use Rattle.lw_words.specs.Word.{word_text}

-- a word with its outputs, by their names, each list joined by one blank
abbrev pub line_of : (letters names : List (List ℕ)) → (word outs : List ℕ) → List ℕ
line_of letters names word outs = word_text letters word ++ (codes " / " ++ (word_text names outs ++ codes "\n"))

abbrev pub answer_line : (letters names : List (List ℕ)) → KeptAnswer → List ℕ
answer_line letters names k = line_of letters names k.word k.outs

abbrev pub answer_lines : (letters names : List (List ℕ)) → List KeptAnswer → List ℕ
answer_lines letters names kept = flat_map (answer_line letters names) kept
