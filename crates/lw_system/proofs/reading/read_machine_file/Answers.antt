use Rattle.std.proofs.Common.{List, ℕ, subst, sym}
use Rattle.lw_json.specs.declared.fault.JsonFault.{JsonFault}
use Rattle.lw_json.specs.MachineFault.{HasMachineFault, IsMachineFault}
use Rattle.lw_json.specs.Formats.{IsMachineFile}
use Rattle.lw_system.proofs.ReadLemmas.{IsOfBytes, has_fault, no_machine, stops_of_bytes}
use Rattle.lw_system.proofs.reading.read_machine_file.Goals as goal

pub returns : goal.returns
returns g c =
    let F = g.F.Files in
    let read = c.in-Ok.ensures in
    let bytes : List ℕ = c.in-Ok.bytes.items in
    let own : JsonFault = c.in-Err-read_machine.fault in
    let has : HasMachineFault bytes own = subst (λ (b : List ℕ). HasMachineFault b own) c.deref.ensures.value c.in-Err-read_machine.ensures.err in
    has_fault IsMachineFile IsMachineFault c.args.name.now
    (F.state c.args.files.now)
    (F.state c.read.new.self)
    bytes c.from-in-Err-read_machine.result
    (record {
      read = record { given = read.given; short = read.short; held = read.told };
      calls = read.ok;
      quiet = read.quiet;
      counts = read.counts;
      same = read.same;
    })
    (subst (IsOfBytes IsMachineFile IsMachineFault bytes) (sym c.from-in-Err-read_machine.ensures) (stops_of_bytes IsMachineFile HasMachineFault no_machine bytes own has))
