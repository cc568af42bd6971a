-- A hint that is put to a stream.
use Rattle.std.proofs.Common.{[], refl, arith}
use Rattle.lw_outside.specs.Streams.{SinkState}
use Rattle.lw_ask.specs.Hints.{TakesHint}
use Rattle.lw_ask.proofs.LineLemmas.{takes_none}

-- where there is none nothing is put
pub no_hint : (e : SinkState) → TakesHint [] e e
no_hint e = record { whole = λ _. takes_none e.taken; part = (0, takes_none e.taken); none = λ _. refl; counts = omega (arith) }
