use Rattle.std.proofs.Common.{drop, length, map}
use Rattle.std.specs.List.{All, AllWithin}
use Rattle.lw_words.specs.Word.{IsWord}
use Rattle.lw_json.proofs.EachLemmas.{Going}
use Rattle.lw_wordlist.specs.Words.{HasLetters, names_in, word_of_names}
use Rattle.lw_wordlist.proofs.words.words_from.Given as goal

abbrev pub invariant-loop-number : goal.invariant-loop-number
invariant-loop-number l = record {
  going : Going (λ t. t.now) (λ text. word_of_names l.letters (names_in text)) l.words (drop l.number l.texts) l.texts;
  words : All (IsWord (length l.letters)) l.words;
  known : AllWithin (HasLetters l.letters) (map (λ t. t.now) l.texts) 0 l.number;
}
