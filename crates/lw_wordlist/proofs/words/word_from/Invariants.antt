use Rattle.std.proofs.Common.{Contains, drop, length, map}
use Rattle.std.specs.List.{AllWithin}
use Rattle.lw_words.specs.Word.{number_of, IsWord}
use Rattle.lw_json.proofs.EachLemmas.{Going}
use Rattle.lw_wordlist.proofs.words.word_from.Given as goal

abbrev pub invariant-loop-place : goal.invariant-loop-place
invariant-loop-place l = record {
  going : Going (λ x. x.now) (λ name. number_of name l.letters) l.word (drop l.place l.names) l.names;
  word : IsWord (length l.letters) l.word;
  known : AllWithin (Contains l.letters) (map (λ x. x.now) l.names) 0 l.place;
}
