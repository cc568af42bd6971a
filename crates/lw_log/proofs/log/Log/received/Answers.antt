use Rattle.std.proofs.Common.{option_map, string_bytes, sym, subst, List, ℕ, Bor, Option}
use Rattle.lw_log.specs.Lines.{received_line}
use Rattle.lw_log.specs.Putting.{PutsEach, received_lines}
use Rattle.lw_log.proofs.PutLemmas.{one_line}
use Rattle.lw_log.proofs.log.Log.received.Goals as goal

pub returns-in-Some-clause-put : goal.returns-in-Some-clause-put
returns-in-Some-clause-put g c =
    λ is_open.
    let before = c.args.self.now.file in
    let now = c.line-in-Some.new.self.file in
    let state = c.line-in-Some.new.self.state in
    let told = g.L.LogFile.state in
    let puts = one_line string_bytes told (received_line c.in-Some.received.now) c.received_line.result state before now c.received_line.ensures (c.line-in-Some.ensures.put is_open) (c.line-in-Some.ensures.unmade is_open) in
    subst (λ (r : Option (Bor (List ℕ))). PutsEach (received_lines (option_map (λ line. line.now) r)) state (told before) (told now)) (sym c.in-Some.is) puts
