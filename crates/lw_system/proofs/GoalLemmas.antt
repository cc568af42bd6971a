-- What is found by what is to be learned of it, and the file of an acceptor's machine.
use Rattle.std.proofs.Common.{◌≡◌, ℕ, ◌≤◌, List, length, Result, Ok, Err, IfOk, ap, subst, arith}
use Rattle.lw_accept.specs.Acceptor.{NamedAcceptor}
use Rattle.lw_accept.specs.AcceptorFile.{IsAcceptorFault, IsAcceptorFile}
use Rattle.lw_accept.specs.declared.fault.AcceptorFault.{AcceptorFault}
use Rattle.lw_json.specs.declared.files.Machine.{Machine}
use Rattle.lw_outside.specs.Files.{File, FilesState}
use Rattle.lw_system.specs.AcceptorFinding.{HasFoundAcceptor}
use Rattle.lw_system.specs.AcceptorSystems.{IsViewFile, IsViewOf}
use Rattle.lw_system.specs.Finding.{HasFound}
use Rattle.lw_system.specs.Goals.{HasFoundFor, IsSystemFor}
use Rattle.lw_system.specs.Reading.{HasRead, ReadsBadFile}
use Rattle.lw_system.specs.Systems.{letters_of}
use Rattle.lw_system.specs.declared.goal.Goal.TheVariants as aim
use Rattle.lw_system.specs.declared.source.Source.{Source}
use Rattle.lw_system.specs.declared.stops.AcceptorStop.{AcceptorStop}
use Rattle.lw_system.specs.declared.stops.NoSystem.{NoSystem}
use Rattle.lw_system.specs.declared.stops.NoSystem.TheVariants as none
use Rattle.lw_system.specs.declared.stops.ReadStop.{ReadStop}
use Rattle.lw_system.specs.declared.stops.ReadStop.TheVariants as read
use Rattle.lw_system.specs.declared.stops.SystemStop.{SystemStop}
use Rattle.lw_system.specs.declared.system.System.{System}
use Rattle.lw_system.proofs.ReadLemmas.{err_is, has_fault}

-- a system of which a machine is learned, or why there is none
module _ (kind : Source) (name : List ℕ) (f g : FilesState) (r : Result System SystemStop) (hint : List ℕ) (has : HasFound kind name f g r hint) where
  pub machine_found : (s : System) → r ≡ Ok s → HasFoundFor aim.Machine kind name f g (Ok s) hint
  machine_found s is = by (subst (λ (x : Result System SystemStop). HasFound kind name f g x hint) is has)
    where
      by : HasFound kind name f g (Ok s) hint → HasFoundFor aim.Machine kind name f g (Ok s) hint
      by h = record { ok = h.read.ok; made = h.read.made; quiet = h.read.quiet; told = h.told; err = tt; same = h.read.same; counts = h.read.counts }

  pub machine_unfound : (why : SystemStop) → r ≡ Err why → HasFoundFor aim.Machine kind name f g (Err (none.Machine why)) hint
  machine_unfound why is = by (subst (λ (x : Result System SystemStop). HasFound kind name f g x hint) is has)
    where
      by : HasFound kind name f g (Err why) hint → HasFoundFor aim.Machine kind name f g (Err (none.Machine why)) hint
      by h = record { ok = tt; made = tt; quiet = tt; told = tt; err = h.err; same = h.read.same; counts = h.read.counts }

-- one of which an acceptor is
module _ (kind : Source) (name : List ℕ) (f g : FilesState) (r : Result System AcceptorStop) (hint : List ℕ) (has : HasFoundAcceptor kind name f g r hint) where
  pub asked_found : (s : System) → r ≡ Ok s → HasFoundFor aim.Acceptor kind name f g (Ok s) hint
  asked_found s is = by (subst (λ (x : Result System AcceptorStop). HasFoundAcceptor kind name f g x hint) is has)
    where
      by : HasFoundAcceptor kind name f g (Ok s) hint → HasFoundFor aim.Acceptor kind name f g (Ok s) hint
      by h = record { ok = h.ok; made = h.made; quiet = h.quiet; told = h.told; err = tt; same = h.same; counts = h.counts }

  pub asked_unfound : (why : AcceptorStop) → r ≡ Err why → HasFoundFor aim.Acceptor kind name f g (Err (none.Acceptor why)) hint
  asked_unfound why is = by (subst (λ (x : Result System AcceptorStop). HasFoundAcceptor kind name f g x hint) is has)
    where
      by : HasFoundAcceptor kind name f g (Err why) hint → HasFoundFor aim.Acceptor kind name f g (Err (none.Acceptor why)) hint
      by h = record { ok = tt; made = tt; quiet = tt; told = tt; err = (h.err, h.told_err); same = h.same; counts = h.counts }

-- which has few letters
few_asked : (s : System) → IsSystemFor aim.Acceptor s → length (letters_of s) ≤ 64
few_asked s fits = omega (arith, ap (λ (l : List (List ℕ)). length l) fits.1.inputs, fits.1.free.0.1)

pub few_letters : (r : Result System NoSystem) → IfOk r (IsSystemFor aim.Acceptor) → IfOk r (λ s. length (letters_of s) ≤ 64)
few_letters (Ok s) fits = few_asked s fits
few_letters (Err why) fits = tt

-- an acceptor's file, for the machine in its place
module _ (name : List ℕ) (f g : FilesState) (r : Result NamedAcceptor (ReadStop AcceptorFault)) (has : HasRead IsAcceptorFile IsAcceptorFault name f g r) where
  pub view_read : (m : NamedAcceptor) (machine : Machine) → r ≡ Ok m → IsViewOf m machine → HasRead IsViewFile IsAcceptorFault name f g (Ok machine)
  view_read m machine is viewed = by (subst (λ (x : Result NamedAcceptor (ReadStop AcceptorFault)). HasRead IsAcceptorFile IsAcceptorFault name f g x) is has)
    where
      never : {P : Type 0} (one : ReadStop AcceptorFault) → ◌≡◌ {A = Result Machine (ReadStop AcceptorFault)} (Ok machine) (Err one) → P
      never one e = absurd (cc)

      by : HasRead IsAcceptorFile IsAcceptorFault name f g (Ok m) → HasRead IsViewFile IsAcceptorFault name f g (Ok machine)
      by h = record {
        ok = record { bytes = h.ok.bytes; read = h.ok.read; file = (m, h.ok.file, viewed) };
        ok_call = h.ok_call;
        quiet = h.quiet;
        bad = λ fault e. never (read.Bad fault) e;
        bad_call = λ fault e. never (read.Bad fault) e;
        long = λ e. never read.TooLong e;
        long_call = λ e. never read.TooLong e;
        long_unread = λ e. never read.TooLong e;
        failed = λ e. never read.Failed e;
        failed_call = λ e. never read.Failed e;
        failed_unread = λ e. never read.Failed e;
        memory = λ e. never read.NoMemory e;
        reads = h.reads;
        counts = h.counts;
        same = h.same;
      }

  pub view_wants : (m : NamedAcceptor) → r ≡ Ok m → HasRead IsViewFile IsAcceptorFault name f g (Err read.NoMemory)
  view_wants m is = by (subst (λ (x : Result NamedAcceptor (ReadStop AcceptorFault)). HasRead IsAcceptorFile IsAcceptorFault name f g x) is has)
    where
      by : HasRead IsAcceptorFile IsAcceptorFault name f g (Ok m) → HasRead IsViewFile IsAcceptorFault name f g (Err read.NoMemory)
      by h = has_fault IsViewFile IsAcceptorFault name f g h.ok.bytes read.NoMemory (record { read = h.ok.read; calls = h.ok_call; quiet = h.quiet; counts = h.counts; same = h.same }) tt

  pub view_unread : (why : ReadStop AcceptorFault) → r ≡ Err why → HasRead IsViewFile IsAcceptorFault name f g (Err why)
  view_unread why is = by (subst (λ (x : Result NamedAcceptor (ReadStop AcceptorFault)). HasRead IsAcceptorFile IsAcceptorFault name f g x) is has)
    where
      -- the same stop, of the acceptor
      own : (one : ReadStop AcceptorFault) → ◌≡◌ {A = Result Machine (ReadStop AcceptorFault)} (Err why) (Err one) → ◌≡◌ {A = Result NamedAcceptor (ReadStop AcceptorFault)} (Err why) (Err one)
      own one e = ap (λ (s : ReadStop AcceptorFault). Err s) (err_is why one e)

      no_view : (fault : AcceptorFault) → ReadsBadFile IsAcceptorFile IsAcceptorFault name f.holds f.reads g.reads fault → ReadsBadFile IsViewFile IsAcceptorFault name f.holds f.reads g.reads fault
      no_view fault b = record { bytes = b.bytes; read = b.read; first = b.first; bad = λ machine file. b.bad file.0 file.1 }

      by : HasRead IsAcceptorFile IsAcceptorFault name f g (Err why) → HasRead IsViewFile IsAcceptorFault name f g (Err why)
      by h = record {
        ok = tt;
        ok_call = tt;
        quiet = tt;
        bad = λ fault e. no_view fault (h.bad fault (own (read.Bad fault) e));
        bad_call = λ fault e. h.bad_call fault (own (read.Bad fault) e);
        long = λ e. h.long (own read.TooLong e);
        long_call = λ e. h.long_call (own read.TooLong e);
        long_unread = λ e. h.long_unread (own read.TooLong e);
        failed = λ e. h.failed (own read.Failed e);
        failed_call = λ e. h.failed_call (own read.Failed e);
        failed_unread = λ e. h.failed_unread (own read.Failed e);
        memory = λ e. h.memory (own read.NoMemory e);
        reads = h.reads;
        counts = h.counts;
        same = h.same;
      }
