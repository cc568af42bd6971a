use Rattle.std.proofs.Common.{◌≡◌, take}
use Rattle.lw_words.specs.Word.{named}
use Rattle.lw_recheck.proofs.asking.first_difference.Given as goal

-- the names are the same so far
abbrev pub invariant-loop-place : goal.invariant-loop-place
invariant-loop-place g l = take l.place (named (g.S.Sul.state l.sul).names l.given) ≡ take l.place (named l.outputs l.known)
