use Rattle.std.proofs.Common.{Ok, Err, Some, true, ap, refl, subst}
use Rattle.std.proofs.lemmas.Bool.{false≢true}
use Rattle.lw_cache.specs.Settling.{Settles}
use Rattle.test_oracle.specs.Recording.{RecordingState, state_of}
use Rattle.test_oracle.specs.contracts.recording.Recording.{the_view}
use Rattle.test_oracle.proofs.RecordingLemmas.{gained_own, short_cause}
use Rattle.test_oracle.proofs.recording.RecordingOracle.settle.Goals as goal

pub returns-in-Ok-clause-settles : goal.returns-in-Ok-clause-settles
returns-in-Ok-clause-settles c =
    subst
    (λ (t : RecordingState). Settles c.args.batch.now (state_of t) (state_of (record (the_view c.self.inside) { kept = c.record_and_answer.new.cache.kept; stop = _ })) (Ok tt))
    c.self.view_is
    (record {
      known = c.in-Ok.ensures.known;
      unclashed = c.in-Ok.ensures.unclashed;
      gains = c.record_and_answer.ensures.gains;
      instances = gained_own (the_view c.self.inside).machine (the_view c.self.inside).kept c.record_and_answer.ensures.gains.gained c.record_and_answer.new.cache.kept c.record_and_answer.ensures.gains.at_end c.record_and_answer.ensures.keeps;
      exactly = λ exact. absurd (false≢true exact);
      keeps = c.record_and_answer.ensures.keeps.answers;
      stop = refl;
      cause = λ may. tt;
      refused = refl;
      stops = record { count = refl; stay = λ i stop is. is; unrefused = λ was is none. none };
      same = record { inputs = refl; outputs = refl; names = refl; origins = refl; exact = refl };
    })

pub returns-in-Err-clause-settles : goal.returns-in-Err-clause-settles
returns-in-Err-clause-settles c =
    subst
    (λ (t : RecordingState). Settles c.args.batch.now (state_of t) (state_of (record (the_view c.self.inside) { kept = c.record_and_answer.new.cache.kept; stop = Some c.copy.result; refused = true })) (Err c.in-Err.stop))
    c.self.view_is
    (record {
      known = tt;
      unclashed = tt;
      gains = c.record_and_answer.ensures.gains;
      instances = gained_own (the_view c.self.inside).machine (the_view c.self.inside).kept c.record_and_answer.ensures.gains.gained c.record_and_answer.new.cache.kept c.record_and_answer.ensures.gains.at_end c.record_and_answer.ensures.keeps;
      exactly = tt;
      keeps = c.record_and_answer.ensures.keeps.answers;
      stop = ap Some c.copy.ensures;
      cause = λ may. short_cause (state_of (the_view c.self.inside)) (state_of (record (the_view c.self.inside) { kept = c.record_and_answer.new.cache.kept; stop = Some c.copy.result; refused = true })) c.in-Err.stop c.in-Err.ensures.short;
      refused = refl;
      stops = record { count = refl; stay = λ i stop is. is; unrefused = λ was is none. none };
      same = record { inputs = refl; outputs = refl; names = refl; origins = refl; exact = refl };
    })
