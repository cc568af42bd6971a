use Rattle.std.proofs.Common.{◌≡◌, ◌≤◌, length, map, take, vec_len, vec_capacity}
use Rattle.lw_desk.specs.declared.ask.Give.{Give}
use Rattle.lw_pool.specs.Working.{GivesBetween}
use Rattle.lw_pool.proofs.worker.Worker.answer.Given as goal

abbrev pub invariant-loop-i : goal.invariant-loop-i
invariant-loop-i g l = record {
  gives : GivesBetween l.batch l.fn.self.seen l.self.seen l.gives.items;
  places : map (λ (x : Give). x.place) l.gives.items ≡ take l.i l.places;
  count : vec_len l.gives ≡ l.i;
  room : length l.places ≤ vec_capacity l.gives;
  inputs : l.self.seen.inputs ≡ l.fn.self.seen.inputs;
  items : l.place-items ≡ l.places;
}
