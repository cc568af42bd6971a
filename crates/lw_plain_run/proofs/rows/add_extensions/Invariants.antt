use Rattle.std.proofs.Common.{◌≡◌, ◌∷◌, ◌++◌, [], map}
use Rattle.std.specs.List.{range_with_len}
use Rattle.lw_plain_run.proofs.rows.add_extensions.Given as goal

abbrev pub invariant-loop-letter : goal.invariant-loop-letter
invariant-loop-letter l = l.words ≡ l.initial.words ++ map (λ x. l.word ++ x ∷ []) (range_with_len 0 l.letter)
