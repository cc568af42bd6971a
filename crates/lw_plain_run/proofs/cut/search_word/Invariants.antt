use Rattle.std.proofs.Common.{◌≡◌, ◌-◌, ◌<◌, ◌≤◌, length}
use Rattle.std.specs.List.{All}
use Rattle.lw_plain.specs.Table.{agrees_at, search_cut, search_word}
use Rattle.lw_plain_run.specs.bodies.Tables.{search_of}
use Rattle.lw_plain_run.proofs.cut.search_word.Given as goal

abbrev pub invariant-loop-turn : goal.invariant-loop-turn
invariant-loop-turn l = record {
  left : search_cut (agrees_at l.m.rows l.h.rows l.access l.word) (length l.word - l.turn) (search_of l.search) ≡ search_word l.m.rows l.h.rows l.access (length l.word) l.word;
  order : l.search.low < l.search.high;
  within : l.search.high ≤ length l.word;
  tried : All (λ i. i ≤ length l.word) l.search.tried.items;
}
