use Rattle.std.proofs.Common.{rules, string_bytes, sym, subst, List, ℕ, ◌≡◌, ◌∷◌, []}
use Rattle.lw_log.specs.Lines.{rest_line}
use Rattle.lw_log.specs.Putting.{PutsEach, rest_lines}
use Rattle.lw_log.proofs.PutLemmas.{one_line}
use Rattle.lw_log.proofs.log.Log.rest.Goals as goal

pub returns-then-not-is_empty-clause-put : goal.returns-then-not-is_empty-clause-put
returns-then-not-is_empty-clause-put g c =
    λ is_open.
    let before = c.args.self.now.file in
    let now = c.line-then-not-is_empty.new.self.file in
    let state = c.line-then-not-is_empty.new.self.state in
    let told = g.L.LogFile.state in
    let puts = one_line string_bytes told (rest_line c.args.rest.now) c.rest_line.result state before now c.rest_line.ensures (c.line-then-not-is_empty.ensures.put is_open) (c.line-then-not-is_empty.ensures.unmade is_open) in
    let lines : rest_lines c.args.rest.now ≡ rest_line c.args.rest.now ∷ [] = search rules in
    subst (λ (ls : List (List ℕ)). PutsEach ls state (told before) (told now)) (sym lines) puts
