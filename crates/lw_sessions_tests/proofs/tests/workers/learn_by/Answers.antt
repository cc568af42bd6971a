use Rattle.std.proofs.Common.{◌≡◌, None, Result, Ok, Err, OnOk, refl}
use Rattle.lw_words.specs.Word.{answers_of}
use Rattle.lw_cache.specs.Clash.{NothingClashes}
use Rattle.lw_rounds.specs.Stops.{learn_stop}
use Rattle.lw_rounds.specs.declared.learned.Learned.{Learned}
use Rattle.lw_rounds.specs.declared.stops.LearnStop.{LearnStop}
use Rattle.lw_sessions_tests.proofs.tests.workers.learn_by.Goals as goal

unclashed : (result : Result Learned LearnStop) {P Q : Type 0} → P → (learn_stop result ≡ None → P → Q) → OnOk result Q
unclashed (Ok _) nothing keeps = keeps refl nothing
unclashed (Err _) nothing keeps = tt

pub returns-clause-nothing : goal.returns-clause-nothing
returns-clause-nothing g c = unclashed c.learn_with.result.learned c.requires.nothing c.learn_with.ensures.leaves.leaves.unclashed
