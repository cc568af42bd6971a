use Rattle.std.proofs.Common.{rules, option_map, string_bytes, ◌≡◌, ◌≢◌, ◌∷◌, []}
use Rattle.lw_log.specs.Lines.{cut_line}
use Rattle.lw_log.specs.Putting.{received_lines, rest_lines}
use Rattle.lw_log.specs.declared.log.LogState.TheVariants.{Open}
use Rattle.lw_log.proofs.PutLemmas.{one_line, then}
use Rattle.lw_log.proofs.log.Log.cut.Goals as goal

pub returns-clause-put : goal.returns-clause-put
returns-clause-put g c =
    λ is_open.
    let told = g.L.LogFile.state in
    let start = c.args.self.now.file in
    let one = c.line-2.new.self in
    let two = c.received.new.self in
    let three = c.rest.new.self in
    let cut = cut_line c.args.instance c.args.letters.now c.args.asked.now in
    let received = received_lines (option_map (λ line. line.now) c.args.received) in
    let rest = rest_lines c.args.rest.now in
    let first = one_line string_bytes told cut c.cut_line.result one.state start one.file c.cut_line.ensures (c.line-2.ensures.put is_open) (c.line-2.ensures.unmade is_open) in
    let same_two : one.state ≢ Open → (two.state ≡ one.state) × (told two.file ≡ told one.file) = search rules in
    let same_three : two.state ≢ Open → (three.state ≡ two.state) × (told three.file ≡ told two.file) = search rules in
    let second = then (cut ∷ []) received one.state two.state (told start) (told one.file) (told two.file) first same_two c.received.ensures.put in
    then (cut ∷ received) rest two.state three.state (told start) (told two.file) (told three.file) second same_three c.rest.ensures.put
