-- The reading of a setup or a table.
use Rattle.std.proofs.Common.{◌≡◌, ◌∙◌, ℕ, List, [], ◌∷◌, ◌++◌, Option, Result, Ok, Err, inl, inr, refl, ap, sym, subst, arith, append_assoc, append-nil}
use Rattle.lw_json.specs.MachineFault.{IsMachineFault}
use Rattle.lw_json.specs.Formats.{IsMachineFile}
use Rattle.lw_json.specs.SetupFile.{IsSetupFault, IsSetupFile}
use Rattle.lw_json.specs.declared.files.Machine.{Machine}
use Rattle.lw_json.specs.declared.setup.Command.{Command}
use Rattle.lw_json.specs.declared.setup.Setup.{Setup}
use Rattle.lw_json.specs.declared.setup.Setup.TheVariants as setup
use Rattle.lw_outside.specs.Files.{File, FilesState, ReadsFile}
use Rattle.lw_system.specs.Finding.{HasFound, IsNoSetup, IsNoTable, NamesNoTable}
use Rattle.lw_system.specs.Reading.{HasRead}
use Rattle.lw_system.specs.Reads.{MadeReads}
use Rattle.lw_system.specs.SetupHint.{TellsHint}
use Rattle.lw_system.specs.Systems.{SaysSystem}
use Rattle.lw_system.specs.bodies.Found.{HasReadMachine, HasReadSaid}
use Rattle.lw_system.specs.declared.source.Source.TheVariants as source
use Rattle.lw_json.specs.declared.fault.JsonFault.{JsonFault}
use Rattle.lw_system.specs.declared.stops.ReadStop.{ReadStop}
use Rattle.lw_system.specs.declared.stops.SystemStop.{SystemStop}
use Rattle.lw_system.specs.declared.system.System.{System}
use Rattle.lw_system.specs.declared.system.System.TheVariants.{Table, Children}
use Rattle.lw_system.proofs.ReadsLemmas.{made_none, made_then, read_made, read_none, some_reads}

-- a table file
module _ (name : List ℕ) (f g : FilesState) (r : Result Machine (ReadStop JsonFault)) (has : HasRead IsMachineFile IsMachineFault name f g r) where
  grown : (more : List File) × (g.reads ≡ f.reads ++ more)
  grown = some_reads IsMachineFile IsMachineFault name f g has.reads

  pub machine_read : (m : Machine) → r ≡ Ok m → HasReadMachine name f g (Ok (Table m))
  machine_read m is = let read = read_made IsMachineFile IsMachineFault name f g r m has is in record { ok = (m, read.0, refl); made = read.1; quiet = read.2; err = tt; grown = grown; same = has.same; counts = has.counts }

  pub machine_unread : (why : ReadStop JsonFault) → r ≡ Err why → HasReadMachine name f g (Err (record { file = source.Table; stop = why }))
  machine_unread why is = record {
    ok = tt;
    made = tt;
    quiet = tt;
    err = record { file = refl; unread = read_none IsMachineFile IsMachineFault name f g r why has is };
    grown = grown;
    same = has.same;
    counts = has.counts;
  }

-- a table file alone: there is no hint
pub table_found : (name : List ℕ) (f g : FilesState) (result : Result System SystemStop) (hint : List ℕ) → HasReadMachine name f g result → hint ≡ [] → HasFound source.Table name f g result hint
table_found name f g (Ok s) hint has none = record {
  read = record { ok = has.ok; made = has.made; quiet = has.quiet; err = tt; same = has.same; counts = has.counts };
  told = none;
  err = tt;
}
table_found name f g (Err why) hint has none = record {
  read = record { ok = tt; made = tt; quiet = tt; err = has.err; same = has.same; counts = has.counts };
  told = tt;
  err = (has.err, none);
}

-- a table file that a setup names
pub table_said : (table : List ℕ) (f g : FilesState) (result : Result System SystemStop) → HasReadMachine table f g result → HasReadSaid (setup.Table table) f g result
table_said table f g (Ok s) has = record { ok = has.ok; made = has.made; quiet = has.quiet; err = tt; grown = has.grown; same = has.same; counts = has.counts }
table_said table f g (Err why) has = record { ok = tt; made = tt; quiet = tt; err = (table, refl, has.err); grown = has.grown; same = has.same; counts = has.counts }

-- and a command
pub command_said : (c : Command) (f : FilesState) → HasReadSaid (setup.Command c) f f (Ok (Children c))
command_said c f = record { ok = (refl, refl); made = made_none f; quiet = refl; err = tt; grown = ([], sym (append-nil f.reads)); same = refl; counts = omega (arith) }

-- a hint stays that of its bytes while more is read
pub told_then : (name : List ℕ) (before mid after : List File) (hint : List ℕ) → TellsHint name before mid hint → (more : List File) × (after ≡ mid ++ more) → TellsHint name before after hint
told_then name before mid after hint tells more = record {
  bytes = tells.bytes;
  rest = tells.rest ++ more.0;
  given = more.1 ∙ (ap (λ (l : List File). l ++ more.0) tells.given ∙ append_assoc before ((name, tells.bytes) ∷ tells.rest) more.0);
  told = tells.told;
}

-- a setup file
module _ (name : List ℕ) (f m : FilesState) (r : Result Setup (ReadStop JsonFault)) (has : HasRead IsSetupFile IsSetupFault name f m r) where
  module _ (g : FilesState) (v : Setup) (is : r ≡ Ok v) (hint : List ℕ) (tells : TellsHint name f.reads m.reads hint) where
    was_read : ReadsFile IsSetupFile name f.holds f.reads m.reads v × MadeReads f m [] × (m.faults ≡ f.faults)
    was_read = read_made IsSetupFile IsSetupFault name f m r v has is

    no_table : (table : List ℕ) (why : SystemStop) → v ≡ setup.Table table → IsNoTable table m g why → NamesNoTable name f g why
    no_table table why names refused = record {
      between = m;
      table = table;
      setup_file = subst (λ (x : Setup). ReadsFile IsSetupFile name f.holds f.reads m.reads x) names was_read.0;
      made = was_read.1;
      quiet = was_read.2;
      same = has.same;
      refused = refused;
    }

    -- which says a system, or names a table file that is refused
    pub setup_found : (result : Result System SystemStop) → HasReadSaid v m g result → HasFound source.Setup name f g result hint
    setup_found (Ok s) said = record {
      read = record {
        ok = (m.reads, v, was_read.0, subst (λ (h : Option (List File)). SaysSystem v h m.reads g.reads s) has.same said.ok);
        made = made_then f m g [] was_read.1 said.made;
        quiet = said.quiet ∙ was_read.2;
        err = tt;
        same = said.same ∙ has.same;
        counts = omega (arith, has.counts, said.counts);
      };
      told = told_then name f.reads m.reads g.reads hint tells said.grown;
      err = tt;
    }
    setup_found (Err why) said =
        let none = no_table said.err.0 why said.err.1 said.err.2 in
        record {
          read = record { ok = tt; made = tt; quiet = tt; err = inr none; same = said.same ∙ has.same; counts = omega (arith, has.counts, said.counts) };
          told = tt;
          err = inr (none, told_then name f.reads m.reads g.reads hint tells said.grown);
        }

  -- which is refused
  pub setup_unfound : (why : ReadStop JsonFault) (hint : List ℕ) → r ≡ Err why → hint ≡ [] → HasFound source.Setup name f m (Err (record { file = source.Setup; stop = why })) hint
  setup_unfound why hint is none =
      let refused : IsNoSetup name f m (record { file = source.Setup; stop = why }) = record { file = refl; unread = read_none IsSetupFile IsSetupFault name f m r why has is } in
      record {
        read = record { ok = tt; made = tt; quiet = tt; err = inl refused; same = has.same; counts = has.counts };
        told = tt;
        err = inl (refused, none);
      }

  -- whatever it says
  pub file_of : (v : Setup) → r ≡ Ok v → (bytes : List ℕ) × IsSetupFile bytes v
  file_of v is = let read = (read_made IsSetupFile IsSetupFault name f m r v has is).0 in (read.bytes, read.file)
