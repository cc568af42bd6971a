use Rattle.std.proofs.Common.{◌≡◌, ◌++◌, take, codes}
use Rattle.std.specs.List.{flat_map}
use Rattle.lw_words.specs.Word.{name_at}
use Rattle.lw_ask.proofs.lines.put_outputs.Given as goal

abbrev pub invariant-loop-output : goal.invariant-loop-output
invariant-loop-output g l = l.line.items ≡ l.initial.line.items ++ flat_map (λ y. codes " " ++ name_at (g.S.Sul.state l.sul).names y) (take l.output-index l.rest)
