use Rattle.std.proofs.Common.{◌≡◌, ◌∙◌, List, ℕ, Bool, Some, None, false, ap, sym, map, string_bytes, codes, option_and_then, if◌then◌else◌}
use Rattle.serde_json.specs.View.{view}
use Rattle.lw_json.specs.Formats.{texts_at}
use Rattle.lw_json.specs.SetupFile.{is_child_command}
use Rattle.lw_json.proofs.setup_reader.command_member.Goals as goal

pub returns-else-is_command : goal.returns-else-is_command
returns-else-is_command c =
    let words : List (List ℕ) = map (λ s. string_bytes s) c.in-Some.words.items in
    let there : Some words ≡ texts_at (codes "command") (view c.args.root.now) = rw c.in-Some.is at c.in_ok-words.ensures in
    let read : c.is_command.result ≡ is_child_command words = rw c.deref.ensures.value at c.is_command.ensures in
    let no : is_child_command words ≡ false = sym read ∙ c.if-is_command.false in
    sym (ap (λ (b : Bool). if b then Some words else None) no) ∙ ap (option_and_then (λ (l : List (List ℕ)). if is_child_command l then Some l else None)) there
