use Rattle.std.proofs.Common.{◌≡◌, ◌≤◌, ◌-◌, ◌<◌, ◌++◌, ◌∷◌, [], length, min, take, drop, None, true, option_map, vec_capacity}
use Rattle.std.specs.List.{All}
use Rattle.lw_sul.specs.SessionState.{run_of}
use Rattle.lw_names.proofs.NameLemmas.{IsNaming}
use Rattle.lw_sul.proofs.RunLemmas.{Rests}
use Rattle.lw_sul.proofs.session.perform.Given as goal

abbrev pub invariant-loop-x : goal.invariant-loop-x
invariant-loop-x g l =
    let S = g.S.Sul in
    record {
      live : (S.state l.sul).stop ≡ None;
      started : (S.state l.sul).started ≡ true;
      inputs : (S.state l.sul).inputs ≡ (S.state l.fn.sul).inputs;
      outputs : (S.state l.sul).outputs ≡ (S.state l.fn.sul).outputs;
      origin : (S.state l.sul).origin ≡ (S.state l.fn.sul).origin;
      most : (S.state l.sul).most ≡ (S.state l.fn.sul).most;
      faults : (S.state l.fn.sul).faults ≤ (S.state l.sul).faults;
      count : length l.outs.items ≡ l.x-index;
      room : length l.x-items ≤ vec_capacity l.outs;
      names_room : min (length l.x-items) ((S.state l.fn.sul).most - length (S.state l.fn.sul).names) ≤ vec_capacity l.names;
      few : length l.names.items ≤ l.x-index;
      naming : IsNaming (S.state l.fn.sul).names (S.state l.sul).names l.names.items l.outs.items;
      below : All (λ y. y < (S.state l.fn.sul).outputs) l.outs.items;
      rests : Rests (S.state l.fn.sul).origin.machine (S.state l.sul).place l.outs.items (drop l.x-index l.x-items) l.x-items;
      runs : (S.state l.sul).runs ≡ option_map (λ rs. rs ++ run_of (take l.x-index l.x-items) l.outs.items ∷ []) (S.state l.fn.sul).runs;
    }
