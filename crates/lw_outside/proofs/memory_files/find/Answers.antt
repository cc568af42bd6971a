use Rattle.std.proofs.Common.{◌≡◌, ◌∙◌, ℕ, List, true, false, map, take, option_map, string_bytes, ap, sym}
use Rattle.std.specs.Str.{bytes_eq}
use Rattle.lw_words.proofs.Lists.{take-map_more}
use Rattle.lw_outside.specs.Files.{File, file_at}
use Rattle.lw_outside.proofs.FileLemmas.{same_file}
use Rattle.lw_outside.proofs.memory_files.find.Goals as goal
use Rattle.lw_outside.proofs.memory_files.find.Goals.{then-eq, else-eq}

pub loop-file-preserved : goal.loop-file-preserved
loop-file-preserved c =
    let fs : List File = take c.loop-file.file-index (map (λ f. (string_bytes f.0, f.1.items)) c.args.files.now) in
    let f : File = (string_bytes c.file-item.result.0, c.file-item.result.1.items) in
    let more = take-map_more (λ f. (string_bytes f.0, f.1.items)) c.args.files.now c.loop-file.file-index c.file-item.result c.loop-file-test.true c.file-item.is in
    let eq : c.eq.result ≡ bytes_eq c.args.name.now f.0 = c.eq.ensures ∙ ap (λ (n : List ℕ). bytes_eq c.args.name.now n) c.as_str.ensures.value in
    elim c.if-eq.branch [
      | then-eq w ↦ ap (option_map (λ v. v.now.items)) w.found-is ∙ (sym (same_file c.args.name.now fs f true (sym eq ∙ w.if-eq.true)) ∙ ap (file_at c.args.name.now) more)
      | else-eq w ↦ ap (option_map (λ v. v.now.items)) w.found-is ∙ (c.loop-file.invariant ∙ (sym (same_file c.args.name.now fs f false (sym eq ∙ w.if-eq.false)) ∙ ap (file_at c.args.name.now) more))
    ]
