-- What a learning leaves of its oracle, by its stop.
use Rattle.std.proofs.Common.{◌≡◌, Option, Some, None, Result, Ok, Err, IsErrAnd, refl, ap, sym, ◌∙◌, subst}
use Rattle.lw_cache.specs.Settling.{OracleState, Leaves, grown_stop}
use Rattle.lw_cache.specs.declared.stops.AskStop.{AskStop}
use Rattle.lw_cache.specs.declared.stops.AskStop.TheVariants.{NoMemory}
use Rattle.lw_cache.specs.declared.stops.GrowStop.{GrowStop}
use Rattle.lw_cache.specs.declared.stops.GrowStop.TheVariants as grow
use Rattle.lw_cache.proofs.SettlingLemmas.{leaves_short}
use Rattle.lw_rounds.specs.declared.stops.LearnStop.{LearnStop}
use Rattle.lw_rounds.specs.declared.stops.LearnStop.TheVariants as learn
use Rattle.lw_rounds.specs.Stops.{of_growth, learn_stop}

-- a stop as a call without a value answers it
abbrev stop_of : LearnStop → Option AskStop
stop_of (learn.Ask stop) = Some stop
stop_of (learn.Crowd words) = None
stop_of (learn.TooLarge model number) = None

err_stop : (X : Type 0) (stop : LearnStop) → learn_stop {X = X} (Err stop) ≡ stop_of stop
err_stop X (learn.Ask stop) = refl
err_stop X (learn.Crowd words) = refl
err_stop X (learn.TooLarge model number) = refl

told_stop : {X : Type 0} (stop : LearnStop) (result : Result X LearnStop) → IsErrAnd result (λ e. e ≡ stop) → learn_stop result ≡ stop_of stop
told_stop {X = X} stop (Ok _) is = elim is [ ]
told_stop {X = X} stop (Err e) is = err_stop X e ∙ ap stop_of is

-- after answers alone, this call's own out of memory
pub leaves_learn_own : {X : Type 0} (before now : OracleState) (result : Result X LearnStop) → Leaves before now None → IsErrAnd result (λ e. e ≡ learn.Ask NoMemory) → Leaves before now (learn_stop result)
leaves_learn_own before now result leaves is = subst (Leaves before now) (sym (told_stop (learn.Ask NoMemory) result is)) (leaves_short before now leaves)

-- a stop of the oracle that is handed on
pub leaves_learn_asked : {X : Type 0} (before now : OracleState) (stop : AskStop) (result : Result X LearnStop) → Leaves before now (Some stop) → IsErrAnd result (λ e. e ≡ learn.Ask stop) → Leaves before now (learn_stop result)
leaves_learn_asked before now stop result leaves is = subst (Leaves before now) (sym (told_stop (learn.Ask stop) result is)) leaves

-- the stop of a table that grew
grown_is : (X : Type 0) (stop : GrowStop) → grown_stop {X = X} (Err stop) ≡ stop_of (of_growth stop)
grown_is X (grow.Ask stop) = refl
grown_is X (grow.Crowd words) = refl

pub leaves_learn_grown : {X : Type 0} (Y : Type 0) (before now : OracleState) (stop : GrowStop) (result : Result X LearnStop) → Leaves before now (grown_stop {X = Y} (Err stop)) → IsErrAnd result (λ e. e ≡ of_growth stop) → Leaves before now (learn_stop result)
leaves_learn_grown Y before now stop result leaves is = subst (Leaves before now) (grown_is Y stop ∙ sym (told_stop (of_growth stop) result is)) leaves

-- the same where it is handed on as it is
same_growth : {X : Type 0} (Y : Type 0) (stop : GrowStop) (result : Result X GrowStop) → IsErrAnd result (λ e. e ≡ stop) → grown_stop {X = Y} (Err stop) ≡ grown_stop result
same_growth {X = X} Y stop (Ok _) is = elim is [ ]
same_growth {X = X} Y stop (Err e) is = grown_is Y stop ∙ (ap (λ (s : GrowStop). stop_of (of_growth s)) (sym is) ∙ sym (grown_is X e))

pub leaves_grown_on : {X : Type 0} (Y : Type 0) (before now : OracleState) (stop : GrowStop) (result : Result X GrowStop) → Leaves before now (grown_stop {X = Y} (Err stop)) → IsErrAnd result (λ e. e ≡ stop) → Leaves before now (grown_stop result)
leaves_grown_on Y before now stop result leaves is = subst (Leaves before now) (same_growth Y stop result is) leaves

-- a stop of the learning that is handed on
pub leaves_learn_handed : {X : Type 0} (Y : Type 0) (before now : OracleState) (stop : LearnStop) (result : Result X LearnStop) → Leaves before now (learn_stop {X = Y} (Err stop)) → IsErrAnd result (λ e. e ≡ stop) → Leaves before now (learn_stop result)
leaves_learn_handed Y before now stop result leaves is = subst (Leaves before now) (err_stop Y stop ∙ sym (told_stop stop result is)) leaves
