use Rattle.std.proofs.Common.{lit<, rules, tests}
use Rattle.std.proofs.lemmas.Iterator.Consumers.{YieldsList-from_filter, map_from_collect}
use Rattle.std.proofs.lemmas.Iterator.Splits.{YieldsList-from_str_split}
use Rattle.lw_wordlist.specs.Words.{is_some_text}
use Rattle.lw_wordlist.proofs.words.names_of.Goals as goal

pub returns : goal.returns
returns c =
    map_from_collect _ c.collect.ensures.ran
    (YieldsList-from_filter _ is_some_text (YieldsList-from_str_split 32 c.args.text.now (lit< tt) (cc) (cc) (cc)) c.filter.ensures.closure (λ x r q k. search (rules, tests)))
