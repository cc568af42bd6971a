use Rattle.std.proofs.Common.{is_none, map, string_bytes}
use Rattle.std.proofs.lemmas.Option.{slice_get_within}
use Rattle.lw_words.specs.Word.{number_of}
use Rattle.lw_compare.proofs.NameLemmas.{filter_step}
use Rattle.lw_compare.proofs.dictionary.lacking.Goals as goal

pub loop-place-preserved : goal.loop-place-preserved
loop-place-preserved c =
    filter_step (λ n. is_none (number_of n c.args.others.now)) c.args.names.now _ _ c.loop-place.place c.name.result.now (slice_get_within c.args.names.now c.loop-place.place c.name.result.now c.name.ensures.value) c.name.ensures.value c.in_ok-put_lacking.ensures c.loop-place.invariant
