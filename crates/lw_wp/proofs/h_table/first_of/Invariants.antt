use Rattle.std.proofs.Common.{◌≡◌, ℕ, [], get_or, drop}
use Rattle.std.specs.List.{filter}
use Rattle.lw_wp.specs.Identification.{separates}
use Rattle.lw_wp.proofs.h_table.first_of.Given as goal

abbrev pub invariant-loop-number : goal.invariant-loop-number
invariant-loop-number l =
    filter (λ (i : ℕ). separates l.m.rows l.q l.p (get_or l.by.words i [])) (drop l.number-index l.numbers) ≡ filter (λ (i : ℕ). separates l.m.rows l.q l.p (get_or l.by.words i [])) l.numbers
