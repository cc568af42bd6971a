use Rattle.std.proofs.Common.{◌≡◌, ◌++◌, map, drop}
use Rattle.lw_plain_run.proofs.rows.add_cells.Given as goal

abbrev pub invariant-loop-suffix : goal.invariant-loop-suffix
invariant-loop-suffix l = l.words ++ map (λ e. l.row ++ e) (drop l.suffix-index l.suffixes) ≡ l.initial.words ++ map (λ e. l.row ++ e) l.suffixes
