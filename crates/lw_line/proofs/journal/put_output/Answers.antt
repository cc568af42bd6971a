use Rattle.std.proofs.Common.{ℕ, List, subst, sym}
use Rattle.lw_words.specs.Word.{IsName}
use Rattle.lw_line.proofs.Naming.{name_is_text}
use Rattle.lw_line.proofs.journal.put_output.Goals as goal

pub unreachable-requires : goal.unreachable-requires
unreachable-requires c =
    let slice = c.as_slice.ensures in
    c.in-Err.ensures.cases.0 (name_is_text c.as_slice.result.now (subst (λ (l : List ℕ). IsName l) (sym slice.value) slice.name))
