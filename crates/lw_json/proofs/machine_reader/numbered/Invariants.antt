use Rattle.std.proofs.Common.{map, drop}
use Rattle.std.specs.List.{All, AllWithin}
use Rattle.lw_json.specs.Formats.{each_of, numbered_cell}
use Rattle.lw_json.specs.MachineFault.{HasOutputIn}
use Rattle.lw_json.proofs.EachLemmas.{Going}
use Rattle.lw_json.proofs.machine_reader.numbered.Given as goal

abbrev pub invariant-loop-state : goal.invariant-loop-state
invariant-loop-state l = record {
  so_far : Going (λ w. map (λ c. (c.0, c.1.now)) w.items) (each_of (numbered_cell l.outputs)) (map (λ r. r.items) l.all.items) (drop l.state l.rows) l.rows;
  known : AllWithin (All (HasOutputIn l.outputs)) (map (λ w. map (λ c. (c.0, c.1.now)) w.items) l.rows) 0 l.state;
}
