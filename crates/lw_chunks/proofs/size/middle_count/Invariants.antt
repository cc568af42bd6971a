use Rattle.std.proofs.Common.{◌≡◌, ℕ, ◌^◌}
use Rattle.lw_chunks.specs.Size.{powers}
use Rattle.lw_chunks.proofs.size.middle_count.Given as goal

pub record Counted (a i count power : ℕ) : Type 0 where
  pub powered : power ≡ a ^ i
  pub summed : count ≡ powers a i

abbrev pub invariant-loop : goal.invariant-loop
invariant-loop l = Counted l.inputs l.counter l.count l.power
