use Rattle.std.proofs.Common.{◌≡◌, ◌∙◌}
use Rattle.std.specs.Str.Parse.{ExplainsUnsignedError, HasUnsignedDigitsIfOk, ParsesUnsigned}
use Rattle.clap.proofs.WalkLemmas.{one_text-rows}
use Rattle.clap.specs.Words.{found_of, one_of, one_text, rows_of}
use Rattle.lw_top.proofs.ValueLemmas.{reads_number}
use Rattle.lw_top.proofs.values.number_at.Goals as goal

pub returns-clause-given : goal.returns-clause-given
returns-clause-given c =
    let found = found_of c.args.matches.now in
    let id = c.args.id.now in
    let same : one_text found id ≡ one_of id (rows_of found) = one_text-rows found id in
    c.within.ensures.same
    ∙ reads_number (λ bs r. ParsesUnsigned 64 10 bs r × ExplainsUnsignedError 10 bs r × HasUnsignedDigitsIfOk bs r) (λ u x h. h.0) c.args.range (one_of id (rows_of found)) c.get_one.result (λ none. c.get_one.ensures.none (same ∙ none)) (λ u is. c.get_one.ensures.value u (same ∙ is))
