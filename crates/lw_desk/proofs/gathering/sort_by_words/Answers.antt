use Rattle.std.proofs.Common.{is_lt, arith, rules}
use Rattle.std.proofs.lemmas.Fn.{always_returns_same}
use Rattle.lw_desk.specs.bodies.Gathering.{by_words, StandsBefore}
use Rattle.lw_desk.proofs.GatherLemmas.{stands_before, through_before, words_rank}
use Rattle.lw_names.proofs.Pairs.{pairs_of}
use Rattle.lw_desk.proofs.gathering.sort_by_words.Goals as goal

pub returns-clause-order : goal.returns-clause-order
returns-clause-order c =
    let words = c.args.words.now in
    pairs_of (StandsBefore words) (through_before words) c.sort_unstable_by.new.self.items (λ k d lt.
    stands_before words _ _ (c.sort_unstable_by.ensures.sorted (λ p q. is_lt (by_words words p q)) (words_rank words) (always_returns_same _ _ _ (λ a r q k. search rules)) k d (omega arith) lt))
