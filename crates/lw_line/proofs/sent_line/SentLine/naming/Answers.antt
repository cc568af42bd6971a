use Rattle.std.proofs.Common.{ℕ, ◌+◌, List, ◌++◌, length, take, drop, ap, ◌∙◌}
use Rattle.lw_line.proofs.Pieces.{named_line}
use Rattle.lw_line.proofs.sent_line.SentLine.naming.Goals as goal

pub returns : goal.returns
returns c =
    let front : List ℕ = c.args.front.now in
    let name : List ℕ = c.args.name.now in
    ap (λ (bs : List ℕ). take (length front + length name + 1) bs)
    (c.write_at-2.ensures ∙ ap (λ (bs : List ℕ). take (length front) bs ++ (name ++ drop (length front + length name) bs)) c.write_at.ensures)
    ∙ named_line front name c.requires
