use Rattle.std.proofs.Common.{length, arith, rules}
use Rattle.std.proofs.lemmas.Fn.{always_returns_same}
use Rattle.lw_desk.specs.Step.{word_at_place}
use Rattle.lw_desk.specs.bodies.Gathering.{NotAfter}
use Rattle.lw_desk.proofs.GatherLemmas.{not_after, through_after}
use Rattle.lw_names.proofs.Pairs.{pairs_of}
use Rattle.lw_desk.proofs.gathering.sort_places.Goals as goal

pub returns-clause-order : goal.returns-clause-order
returns-clause-order c =
    let words = c.args.words.now in
    pairs_of (NotAfter words) (through_after words) c.sort_unstable_by_key.new.self.items (λ k d lt.
    not_after _ _ _ _ (c.sort_unstable_by_key.ensures.sorted (λ p. (record { 0 = length (word_at_place words p) }, p)) (always_returns_same _ _ _ (λ a r q k. search rules)) k d (omega arith) lt))
