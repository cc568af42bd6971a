use Rattle.std.proofs.Common.{◌≡◌, ◌++◌, [], take, codes, string_bytes}
use Rattle.std.specs.List.{flat_map}
use Rattle.lw_words.specs.Word.{name_at}
use Rattle.lw_report.proofs.texts.put_blanks.Given as goal

abbrev pub invariant-loop-letter : goal.invariant-loop-letter
invariant-loop-letter l = string_bytes l.text ≡ string_bytes l.initial.text ++ flat_map (λ y. codes " " ++ name_at [] y) (take l._letter-index l.rest)
