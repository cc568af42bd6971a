use Rattle.std.proofs.Common.{List, ℕ, subst, sym}
use Rattle.lw_accept.specs.declared.fault.AcceptorFault.{AcceptorFault}
use Rattle.lw_accept.specs.AcceptorFile.{HasAcceptorFault, IsAcceptorFault, IsAcceptorFile}
use Rattle.lw_system.proofs.ReadLemmas.{IsOfBytes, has_fault}
use Rattle.lw_system.proofs.AcceptorLemmas.{acceptor_of_bytes, no_acceptor}
use Rattle.lw_system.proofs.acceptors.read_acceptor_file.Goals as goal

pub returns : goal.returns
returns g c =
    let F = g.F.Files in
    let read = c.in-Ok.ensures in
    let bytes : List ℕ = c.in-Ok.bytes.items in
    let own : AcceptorFault = c.in-Err-read_acceptor.fault in
    let has : HasAcceptorFault bytes own = subst (λ (b : List ℕ). HasAcceptorFault b own) c.deref.ensures.value c.in-Err-read_acceptor.ensures.err in
    has_fault IsAcceptorFile IsAcceptorFault c.args.name.now
    (F.state c.args.files.now)
    (F.state c.read.new.self)
    bytes c.from-in-Err-read_acceptor.result
    (record {
      read = record { given = read.given; short = read.short; held = read.told };
      calls = read.ok;
      quiet = read.quiet;
      counts = read.counts;
      same = read.same;
    })
    (subst (IsOfBytes IsAcceptorFile IsAcceptorFault bytes) (sym c.from-in-Err-read_acceptor.ensures) (acceptor_of_bytes no_acceptor bytes own has))
