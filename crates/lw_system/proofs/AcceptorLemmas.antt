-- The reading of a system that is asked for an acceptor.
use Rattle.std.proofs.Common.{◌≡◌, ◌≢◌, ◌∙◌, ℕ, ◌<◌, List, [], ◌++◌, length, Option, Some, Result, Ok, Err, IfOk, refl, ap, sym, subst, arith, append-nil}
use Rattle.lw_accept.specs.Acceptor.{NamedAcceptor}
use Rattle.lw_accept.specs.AcceptorFile.{HasAcceptorFault, IsAcceptorFault, IsAcceptorFile}
use Rattle.lw_accept.proofs.OneFault.{no_fault}
use Rattle.lw_accept.specs.AskedNames.{HaveNoRoom}
use Rattle.lw_accept.specs.declared.fault.AcceptorFault.{AcceptorFault}
use Rattle.lw_accept.specs.declared.fault.AcceptorFault.TheVariants.{NotJson, Shape, Inputs, Reserved, NoState, TooMany, Lengths, Ragged, Target, NoMemory}
use Rattle.lw_json.specs.SetupFile.{IsSetupFault, IsSetupFile}
use Rattle.lw_json.specs.declared.fault.JsonFault.{JsonFault}
use Rattle.lw_json.specs.declared.setup.Command.{Command}
use Rattle.lw_json.specs.declared.setup.Setup.{Setup}
use Rattle.lw_json.specs.declared.setup.Setup.TheVariants as setup
use Rattle.lw_outside.specs.Files.{File, FilesState, ReadsFile}
use Rattle.lw_system.specs.AcceptorFinding.{HasFoundAcceptor, IsNoAcceptorSystem, SaidSetup}
use Rattle.lw_system.specs.AcceptorSystems.{IsAskedFor, ReadsAcceptorSystem, SaysAcceptorSystem}
use Rattle.lw_system.specs.Reading.{HasRead}
use Rattle.lw_system.specs.Reads.{MadeReads}
use Rattle.lw_system.specs.SetupHint.{TellsHint}
use Rattle.lw_system.specs.Stops.{acceptor_stop}
use Rattle.lw_system.specs.Systems.{HasWords}
use Rattle.lw_system.specs.bodies.FoundAcceptor.{HasAskedCommand, HasReadAcceptor, HasSaidAcceptor, HasSaidTable, HasViewed, SaysNone, letters_stop}
use Rattle.lw_system.specs.declared.source.Source.{Source}
use Rattle.lw_system.specs.declared.source.Source.TheVariants as source
use Rattle.lw_system.specs.declared.stops.AcceptorStop.{AcceptorStop}
use Rattle.lw_system.specs.declared.stops.AcceptorStop.TheVariants as stop
use Rattle.lw_system.specs.declared.stops.ReadStop.{ReadStop}
use Rattle.lw_system.specs.declared.stops.ReadStop.TheVariants as read
use Rattle.lw_system.specs.declared.system.System.{System}
use Rattle.lw_system.specs.declared.system.System.TheVariants.{Table}
use Rattle.lw_system.proofs.FindingLemmas.{told_then}
use Rattle.lw_system.proofs.ReadLemmas.{IsOfBytes}
use Rattle.lw_system.proofs.ReadsLemmas.{made_none, made_then, read_made, read_none, some_made, some_reads}

-- bytes with a fault other than out of memory are no acceptor's
pub no_acceptor : (bytes : List ℕ) (fault : AcceptorFault) → HasAcceptorFault bytes fault → fault ≢ NoMemory → (m : NamedAcceptor) → ¬ IsAcceptorFile bytes m
no_acceptor bytes fault has own m file = own (no_fault bytes m fault file has)

-- why bytes say no acceptor
module _ (no_value : (bytes : List ℕ) (fault : AcceptorFault) → HasAcceptorFault bytes fault → fault ≢ NoMemory → (m : NamedAcceptor) → ¬ IsAcceptorFile bytes m) (bytes : List ℕ) where
  own_fault : (own : AcceptorFault) → HasAcceptorFault bytes own → own ≢ NoMemory → IsOfBytes IsAcceptorFile IsAcceptorFault bytes (read.Bad own)
  own_fault own has other = ((has, other), no_value bytes own has other)

  pub acceptor_of_bytes : (own : AcceptorFault) → HasAcceptorFault bytes own → IsOfBytes IsAcceptorFile IsAcceptorFault bytes (acceptor_stop own)
  acceptor_of_bytes NotJson has = own_fault NotJson has (λ n. cc)
  acceptor_of_bytes (Shape f) has = own_fault (Shape f) has (λ n. cc)
  acceptor_of_bytes (Inputs f) has = own_fault (Inputs f) has (λ n. cc)
  acceptor_of_bytes (Reserved i) has = own_fault (Reserved i) has (λ n. cc)
  acceptor_of_bytes NoState has = own_fault NoState has (λ n. cc)
  acceptor_of_bytes (TooMany n) has = own_fault (TooMany n) has (λ e. cc)
  acceptor_of_bytes Lengths has = own_fault Lengths has (λ n. cc)
  acceptor_of_bytes (Ragged q) has = own_fault (Ragged q) has (λ n. cc)
  acceptor_of_bytes (Target q x t) has = own_fault (Target q x t) has (λ n. cc)
  acceptor_of_bytes NoMemory has = tt

-- an acceptor file
module _ (name : List ℕ) (f g : FilesState) (r : Result NamedAcceptor (ReadStop AcceptorFault)) (has : HasRead IsAcceptorFile IsAcceptorFault name f g r) where
  grown : (more : List File) × (g.reads ≡ f.reads ++ more)
  grown = some_reads IsAcceptorFile IsAcceptorFault name f g has.reads

  pub asked_read : (m : NamedAcceptor) (s : System) → r ≡ Ok m → HasViewed m s → HasReadAcceptor name f g (Ok s)
  asked_read m s is viewed =
      let made = read_made IsAcceptorFile IsAcceptorFault name f g r m has is in
      record { ok = (m, made.0, viewed); made = made.1; quiet = made.2; err = tt; grown = grown; same = has.same; counts = has.counts }

  pub asked_unread : (why : ReadStop AcceptorFault) → r ≡ Err why → HasReadAcceptor name f g (Err why)
  asked_unread why is = record { ok = tt; made = tt; quiet = tt; err = read_none IsAcceptorFile IsAcceptorFault name f g r why has is; grown = grown; same = has.same; counts = has.counts }

  pub asked_wants : (m : NamedAcceptor) → r ≡ Ok m → HasReadAcceptor name f g (Err read.NoMemory)
  asked_wants m is =
      record { ok = tt; made = tt; quiet = tt; err = some_made f g (read_made IsAcceptorFile IsAcceptorFault name f g r m has is).1; grown = grown; same = has.same; counts = has.counts }

-- as the file of a system
pub table_read : (name : List ℕ) (f g : FilesState) (s : System) → HasReadAcceptor name f g (Ok s) → HasSaidTable name f g (Ok s)
table_read name f g s has = record {
  ok = has.ok;
  words = subst HasWords (sym has.ok.2.2) tt;
  made = has.made;
  quiet = has.quiet;
  err = tt;
  grown = has.grown;
  same = has.same;
  counts = has.counts;
}

pub table_unread : (name : List ℕ) (f g : FilesState) (why : ReadStop AcceptorFault) → HasReadAcceptor name f g (Err why) → HasSaidTable name f g (Err (stop.Table why))
table_unread name f g why has = record { ok = tt; words = tt; made = tt; quiet = tt; err = (why, refl, has.err); grown = has.grown; same = has.same; counts = has.counts }

-- and as the file that a setup names
pub table_said : (name : List ℕ) (f g : FilesState) (result : Result System AcceptorStop) → HasSaidTable name f g result → HasSaidAcceptor (setup.Table name) f g result
table_said name f g (Ok s) has = record { ok = has.ok; words = has.words; made = has.made; quiet = has.quiet; err = tt; grown = has.grown; same = has.same; counts = has.counts }
table_said name f g (Err why) has = record {
  ok = tt;
  words = tt;
  made = tt;
  quiet = tt;
  err = subst (SaysNone (setup.Table name) f g) (sym has.err.1) (name, refl, has.err.2);
  grown = has.grown;
  same = has.same;
  counts = has.counts;
}

-- a command
pub command_asked : (c : Command) (f : FilesState) (s : System) → 0 < length c.words → HasAskedCommand c (Ok s) → HasSaidAcceptor (setup.Command c) f f (Ok s)
command_asked c f s some has = record {
  ok = (refl, has.0, has.1);
  words = subst HasWords (sym has.1) some;
  made = made_none f;
  quiet = refl;
  err = tt;
  grown = ([], sym (append-nil f.reads));
  same = refl;
  counts = omega arith;
}

unasked : (c : Command) (f : FilesState) (fault : AcceptorFault) → HaveNoRoom c.inputs fault → fault ≢ NoMemory → HasSaidAcceptor (setup.Command c) f f (Err (stop.Letters fault))
unasked c f fault has other = record { ok = tt; words = tt; made = tt; quiet = tt; err = (c, refl, has, other, refl); grown = ([], sym (append-nil f.reads)); same = refl; counts = omega arith }

pub command_unasked : (c : Command) (f : FilesState) (fault : AcceptorFault) → HasAskedCommand c (Err fault) → HasSaidAcceptor (setup.Command c) f f (Err (letters_stop fault))
command_unasked c f NotJson has = absurd has
command_unasked c f (Shape field) has = absurd has
command_unasked c f (Inputs fault) has = unasked c f (Inputs fault) has (λ n. cc)
command_unasked c f (Reserved place) has = unasked c f (Reserved place) has (λ n. cc)
command_unasked c f NoState has = absurd has
command_unasked c f (TooMany n) has = absurd has
command_unasked c f Lengths has = absurd has
command_unasked c f (Ragged q) has = absurd has
command_unasked c f (Target q x t) has = absurd has
command_unasked c f NoMemory has = record { ok = tt; words = tt; made = tt; quiet = tt; err = (c, refl, has, refl); grown = ([], sym (append-nil f.reads)); same = refl; counts = omega arith }

-- a setup file
module _ (name : List ℕ) (f m : FilesState) (r : Result Setup (ReadStop JsonFault)) (has : HasRead IsSetupFile IsSetupFault name f m r) where
  module _ (g : FilesState) (v : Setup) (is : r ≡ Ok v) (hint : List ℕ) (tells : TellsHint name f.reads m.reads hint) where
    was_read : ReadsFile IsSetupFile name f.holds f.reads m.reads v × MadeReads f m [] × (m.faults ≡ f.faults)
    was_read = read_made IsSetupFile IsSetupFault name f m r v has is

    was_said : (w : Setup) → v ≡ w → SaidSetup name f m w
    was_said w e = record { file = subst (λ (x : Setup). ReadsFile IsSetupFile name f.holds f.reads m.reads x) e was_read.0; made = was_read.1; quiet = was_read.2; same = has.same }

    refused : (why : AcceptorStop) → HasSaidAcceptor v m g (Err why) → HasFoundAcceptor source.Setup name f g (Err why) hint
    refused (stop.Setup why) said = absurd said.err
    refused (stop.Table why) said = record {
      ok = tt;
      made = tt;
      quiet = tt;
      err = record { between = m; table = said.err.0; said = was_said (setup.Table said.err.0) said.err.1; unread = said.err.2 };
      told = tt;
      told_err = told_then name f.reads m.reads g.reads hint tells said.grown;
      same = said.same ∙ has.same;
      counts = omega (arith, has.counts, said.counts);
    }
    refused (stop.Letters fault) said =
        let e = said.err in
        record {
          ok = tt;
          made = tt;
          quiet = tt;
          err = record { command = e.0; said = subst (λ (n : FilesState). SaidSetup name f n (setup.Command e.0)) (sym e.4) (was_said (setup.Command e.0) e.1); fault_is = e.2; told = e.3 };
          told = tt;
          told_err = told_then name f.reads m.reads g.reads hint tells said.grown;
          same = said.same ∙ has.same;
          counts = omega (arith, has.counts, said.counts);
        }
    refused stop.NoMemory said = record {
      ok = tt;
      made = tt;
      quiet = tt;
      err = (said.err.0, subst (λ (n : FilesState). SaidSetup name f n (setup.Command said.err.0)) (sym said.err.3) (was_said (setup.Command said.err.0) said.err.1), said.err.2);
      told = tt;
      told_err = told_then name f.reads m.reads g.reads hint tells said.grown;
      same = said.same ∙ has.same;
      counts = omega (arith, has.counts, said.counts);
    }

    -- which says a system, or none
    pub setup_found : (result : Result System AcceptorStop) → HasSaidAcceptor v m g result → HasFoundAcceptor source.Setup name f g result hint
    setup_found (Ok s) said = record {
      ok = (m.reads, v, was_read.0, subst (λ (h : Option (List File)). SaysAcceptorSystem v h m.reads g.reads s) has.same said.ok);
      made = made_then f m g [] was_read.1 said.made;
      quiet = said.quiet ∙ was_read.2;
      err = tt;
      told = told_then name f.reads m.reads g.reads hint tells said.grown;
      told_err = tt;
      same = said.same ∙ has.same;
      counts = omega (arith, has.counts, said.counts);
    }
    setup_found (Err why) said = refused why said

  -- which is refused
  pub setup_unfound : (why : ReadStop JsonFault) (hint : List ℕ) → r ≡ Err why → hint ≡ [] → HasFoundAcceptor source.Setup name f m (Err (stop.Setup why)) hint
  setup_unfound why hint is none = record { ok = tt; made = tt; quiet = tt; err = read_none IsSetupFile IsSetupFault name f m r why has is; told = tt; told_err = none; same = has.same; counts = has.counts }

  -- whatever it says
  pub file_of : (v : Setup) → r ≡ Ok v → (bytes : List ℕ) × IsSetupFile bytes v
  file_of v is = let made = (read_made IsSetupFile IsSetupFault name f m r v has is).0 in (made.bytes, made.file)

-- an acceptor file alone: there is no hint
pub table_found : (name : List ℕ) (f g : FilesState) (result : Result System AcceptorStop) (hint : List ℕ) → HasSaidTable name f g result → hint ≡ [] → HasFoundAcceptor source.Table name f g result hint
table_found name f g (Ok s) hint said none = record { ok = said.ok; made = said.made; quiet = said.quiet; err = tt; told = none; told_err = tt; same = said.same; counts = said.counts }
table_found name f g (Err why) hint said none = record {
  ok = tt;
  made = tt;
  quiet = tt;
  err = subst (IsNoAcceptorSystem source.Table name f g) (sym said.err.1) said.err.2;
  told = tt;
  told_err = none;
  same = said.same;
  counts = said.counts;
}

-- what the files say is asked for an acceptor
says_asked : (v : Setup) (holds : Option (List File)) (before after : List File) (s : System) → SaysAcceptorSystem v holds before after s → (letters : List (List ℕ)) × IsAskedFor letters s
says_asked (setup.Table name) holds before after s says =
    let m = says.0 in
    let named = says.1.file.2.2.named in
    let e : s ≡ Table says.2.0 = says.2.2 in
    (m.inputs, subst (IsAskedFor m.inputs) (sym e) (record { free = (named.inputs, named.free); inputs = says.2.1.inputs; outputs = ap (λ (n : List (List ℕ)). Some n) says.2.1.outputs }))
says_asked (setup.Command c) holds before after s says = (c.inputs, subst (IsAskedFor c.inputs) (sym says.2) (record { free = says.1; inputs = refl; outputs = refl }))

pub asked : (kind : Source) (name : List ℕ) (holds : Option (List File)) (before after : List File) (s : System) → ReadsAcceptorSystem kind name holds before after s → (letters : List (List ℕ)) × IsAskedFor letters s
asked source.Table name holds before after s reads = says_asked (setup.Table name) holds before after s reads
asked source.Setup name holds before after s reads = says_asked reads.1 holds reads.0 after s reads.3

pub all_asked : (kind : Source) (name : List ℕ) (f g : FilesState) (result : Result System AcceptorStop) (hint : List ℕ) → HasFoundAcceptor kind name f g result hint → IfOk result (λ s. (letters : List (List ℕ)) × IsAskedFor letters s)
all_asked kind name f g (Ok s) hint found = asked kind name f.holds f.reads g.reads s found.ok
all_asked kind name f g (Err why) hint found = tt
