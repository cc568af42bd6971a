use Rattle.std.proofs.Common.{rules, string_bytes}
use Rattle.lw_words.specs.Word.{IsName}
use Rattle.lw_words.proofs.Lists.{within-map_more}
use Rattle.lw_words.proofs.names.first_bad_name.Goals as goal

pub loop-place-preserved : goal.loop-place-preserved
loop-place-preserved c =
    let name : IsName (string_bytes c.index-list-place.result) = search rules in
    within-map_more (λ s. string_bytes s) IsName c.args.list.now c.loop-place.place c.index-list-place.result c.loop-place-test.true c.index-list-place.is name c.loop-place.invariant
