use Rattle.std.proofs.Common.{rules, tests, string_bytes}
use Rattle.std.proofs.lemmas.Iterator.{YieldsList-from_map_by, YieldsList-from_slice}
use Rattle.std.proofs.lemmas.Iterator.Consumers.{map_from_collect}
use Rattle.lw_wordlist.proofs.words.borrowed.Goals as goal

pub returns : goal.returns
returns c =
    map_from_collect _ c.collect.ensures.ran
    (YieldsList-from_map_by _ (λ t. t.now) (λ s. string_bytes s) (YieldsList-from_slice c.args.texts.now cc) (cc) (λ x r q k. search (rules, tests)))
