-- A machine that gives what is kept.
use Rattle.std.proofs.Common.{◌≡◌, List, subst}
use Rattle.std.specs.List.{All}
use Rattle.std.proofs.lemmas.List.Elements.{All-map}
use Rattle.lw_words.specs.Word.{answer_of, answers_of}
use Rattle.lw_words.specs.declared.kept.KeptAnswer.{KeptAnswer}
use Rattle.lw_mealy.specs.Machine.{Gives, Rows, answer}

-- a machine that gives each kept answer
pub gives_kept : (m : Rows) (kept now : List KeptAnswer) → kept ≡ now → All (λ k. answer m k.word ≡ k.outs) kept → Gives m (answers_of now)
gives_kept m kept now same all = subst (λ (l : List KeptAnswer). Gives m (answers_of l)) same (All-map (λ k. answer m k.word ≡ k.outs) answer_of kept all)
