use Rattle.std.proofs.Common.{◌≡◌, ◌++◌, take, length, option_map, string_bytes}
use Rattle.std.specs.List.{flat_map}
use Rattle.lw_report.specs.Text.{crowd_line, names_of, word_line}
use Rattle.lw_report.proofs.texts.crowd_text.Given as goal

abbrev pub invariant-loop-word : goal.invariant-loop-word
invariant-loop-word l = string_bytes l.text ≡ crowd_line (length l.words) ++ flat_map (word_line (names_of (option_map (λ n. n.now) l.names))) (take l.word-index l.words)
