use Rattle.std.proofs.Common.{◌≡◌, ◌++◌, map, take}
use Rattle.lw_top.specs.CommandLine.{texts}
use Rattle.lw_top.specs.Given.{Text, given_values}
use Rattle.lw_top.proofs.given.put_texts.Given as goal

abbrev pub invariant-loop-word : goal.invariant-loop-word
invariant-loop-word l = map given_values l.list.items ≡ map given_values l.initial.list.items ++ map Text (texts (take l.word-index l.words))
