use Rattle.std.proofs.Common.{◌≡◌, ◌<◌, length, take}
use Rattle.std.specs.List.{All}
use Rattle.lw_words.specs.Word.{named}
use Rattle.lw_recheck.proofs.keeping.renamed.Given as goal

abbrev pub invariant-loop-y : goal.invariant-loop-y
invariant-loop-y g l = record {
  below : All (λ y. y < length l.names) l.word;
  named_so : named l.names l.word ≡ named (g.S.Sul.state l.sul).names (take l.y-index l.outs);
}
