use Rattle.std.proofs.Common.{List, ℕ, Ok, subst, sym}
use Rattle.lw_json.specs.declared.fault.JsonFault.{JsonFault}
use Rattle.lw_json.specs.SetupFile.{HasSetupFault, IsSetupFault, IsSetupFile}
use Rattle.lw_system.proofs.HintLemmas.{tells_hint}
use Rattle.lw_system.proofs.ReadLemmas.{IsOfBytes, has_fault, no_setup, stops_of_bytes}
use Rattle.lw_system.proofs.reading.read_setup_with.Goals as goal

pub returns-in-Ok-read_setup_with_hint-clause-hint : goal.returns-in-Ok-read_setup_with_hint-clause-hint
returns-in-Ok-read_setup_with_hint-clause-hint g c =
    let F = g.F.Files in
    let file = c.in-Ok-read_setup_with_hint.file in
    tells_hint c.args.name.now c.in-Ok.bytes.items c.deref.result.now (F.state c.args.files.now).reads (F.state c.read.new.self).reads (Ok file) c.in-Ok.ensures.given c.deref.ensures.value c.in-Ok-read_setup_with_hint.ensures.hint

pub returns-clause-read : goal.returns-clause-read
returns-clause-read g c =
    let F = g.F.Files in
    let read = c.in-Ok.ensures in
    let bytes : List ℕ = c.in-Ok.bytes.items in
    let own : JsonFault = c.in-Err-read_setup_with_hint.fault in
    let has : HasSetupFault bytes own = subst (λ (b : List ℕ). HasSetupFault b own) c.deref.ensures.value c.in-Err-read_setup_with_hint.ensures.err in
    has_fault IsSetupFile IsSetupFault c.args.name.now
    (F.state c.args.files.now)
    (F.state c.read.new.self)
    bytes c.from-in-Err-read_setup_with_hint.result
    (record {
      read = record { given = read.given; short = read.short; held = read.told };
      calls = read.ok;
      quiet = read.quiet;
      counts = read.counts;
      same = read.same;
    })
    (subst (IsOfBytes IsSetupFile IsSetupFault bytes) (sym c.from-in-Err-read_setup_with_hint.ensures) (stops_of_bytes IsSetupFile HasSetupFault no_setup bytes own has))
