use Rattle.std.proofs.Common.{◌≡◌, ◌∙◌, ◌==◌, lit<, sym, subst, map, List, ℕ}
use Rattle.std.specs.List.{slice_split}
use Rattle.std.specs.Result.{OnOk}
use Rattle.std.specs.Str.{bytes_eq}
use Rattle.std.proofs.lemmas.Iterator.Splits.{YieldsList-from_str_split}
use Rattle.indexmap.specs.IndexSet.{insert_all}
use Rattle.lw_json.proofs.OutputNames.{extended, some_names}
use Rattle.lw_json.proofs.output_names.put_names.Goals as goal

pub returns : goal.returns
returns c =
    let text = c.args.text.now in
    let ran = c.extend.ensures.ran in
    let pieces = YieldsList-from_str_split 32 text (lit< tt) c.split.ensures.text c.split.ensures.has_more c.split.ensures.pattern in
    let put = extended _ _ c.split.result ran.0 ran.1 c.args.names.now.keys c.extend.new.self.keys (slice_split (λ b. b == 32) text) c.extend.result ran.2 ran.3.0 ran.4 pieces in
    subst (λ (all : List (List ℕ)). OnOk c.extend.result (map (λ n. n.now) c.extend.new.self.keys ≡ insert_all bytes_eq (map (λ n. n.now) c.args.names.now.keys) all)) (sym (some_names text (sym c.is_empty.ensures ∙ c.if-is_empty.false))) put
