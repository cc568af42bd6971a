use Rattle.std.proofs.Common.{drop}
use Rattle.lw_words.specs.Word.{number_of}
use Rattle.lw_json.proofs.EachLemmas.{Going}
use Rattle.lw_json.proofs.word_reader.letters.Given as goal

abbrev pub invariant-loop-piece : goal.invariant-loop-piece
invariant-loop-piece l = Going (λ x. x.now) (λ name. number_of name l.names) l.letters.items (drop l.piece-index l.pieces) l.pieces
