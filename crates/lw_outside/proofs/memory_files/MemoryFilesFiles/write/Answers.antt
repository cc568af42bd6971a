use Rattle.std.proofs.Common.{rules, ◌≡◌, ◌∙◌, List, [], ◌∷◌, ◌++◌, map, string_bytes, refl, ap, sym}
use Rattle.std.proofs.lemmas.List.{map-append}
use Rattle.lw_outside.specs.Files.{File, file_at}
use Rattle.lw_outside.proofs.FileLemmas.{written_at, written_beside}
use Rattle.lw_outside.proofs.memory_files.MemoryFilesFiles.write.Goals as goal

pub returns-clause-every : goal.returns-clause-every
returns-clause-every c =
    let fs : List File = map (λ f. (string_bytes f.0, f.1.items)) c.self.inside.files.items in
    let pushed : map (λ f. (string_bytes f.0, f.1.items)) c.push_reserved-2.new.self.items ≡ fs ++ (c.args.name.now, c.args.bytes.now) ∷ [] = search (rules, map-append) in
    let held : c.args.self.now.holds ≡ fs = search rules in
    record {
      told = ap (file_at c.args.name.now) pushed ∙ written_at c.args.name.now c.args.bytes.now fs;
      beside = (_, refl, λ other differ. ap (file_at other) pushed ∙ (written_beside c.args.name.now c.args.bytes.now other fs differ ∙ ap (file_at other) (sym held)));
      ok = search (rules, map-append);
      failed = search rules;
      failed_call = search (rules, map-append);
      memory = search rules;
      reads = search rules;
      quiet = search rules;
      counts = search rules;
    }
