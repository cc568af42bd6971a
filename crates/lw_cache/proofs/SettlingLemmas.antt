-- What a caller leaves of an oracle, from one settling to the next.
use Rattle.std.proofs.Common.{◌≡◌, ℕ, ◌<◌, List, ◌++◌, length, Contains, Option, Some, None, Result, Ok, Err, OnOk, IfErr, IsErrAnd, Bool, [], refl, ap, sym, ◌∙◌, subst, append-nil, append_assoc}
use Rattle.std.proofs.lemmas.List.Elements.{All-append, All-contains, All-map, All-nil, All-weaker}
use Rattle.std.specs.List.{All}
use Rattle.lw_words.specs.Word.{AreAnswers, IsAnswer, answer_of, answers_of, IsWord}
use Rattle.lw_words.specs.declared.kept.KeptAnswer.{KeptAnswer}
use Rattle.lw_mealy.specs.Machine.{Rows}
use Rattle.lw_mealy.specs.Origin.{Origin}
use Rattle.lw_cache.specs.Against.{Differs}
use Rattle.lw_cache.specs.Clash.{NothingClashes}
use Rattle.lw_cache.specs.Settling.{OracleState, IsSame, Keeps, Settles, TellsStop, refused_after, MayAsk, LeavesStop, asked_stop, grown_stop, GainsAnswers, GainsOnly, StopsStay, IsSettleCause, IsStopCause, Leaves}
use Rattle.std.specs.Prelude.{⊤}
use Rattle.lw_cache.specs.declared.stops.AskStop.{AskStop}
use Rattle.lw_cache.specs.declared.stops.AskStop.TheVariants.{Sul, Clash, NoMemory}
use Rattle.lw_cache.specs.declared.stops.GrowStop.{GrowStop}
use Rattle.lw_cache.specs.declared.stops.GrowStop.TheVariants.{Ask}
use Rattle.lw_cache.proofs.FirstLemmas.{new_is_first}
use Rattle.lw_cache.proofs.ReadLemmas.{read_is_word}

pub same_then : (a b c : OracleState) → IsSame a b → IsSame b c → IsSame a c
same_then a b c first next =
    record {
      inputs = next.inputs ∙ first.inputs;
      outputs = next.outputs ∙ first.outputs;
      names = next.names ∙ first.names;
      origins = next.origins ∙ first.origins;
      exact = next.exact ∙ first.exact;
    }

-- stops stay over two calls, of which the first was not refused
stops_then : (a b c : OracleState) → b.refused ≡ a.refused → StopsStay a b → StopsStay b c → StopsStay a c
stops_then a b c same first next =
    record {
      count = next.count ∙ first.count;
      stay = λ i stop is. next.stay i stop (first.stay i stop is);
      unrefused = λ was is none. next.unrefused (same ∙ was) is (first.unrefused was (same ∙ was) none);
    }

-- the cause of a later call's stop, since before an earlier one that answered none
cause_since : (a b c : OracleState) (stop : Option AskStop) → (NothingClashes (answers_of a.kept) → NothingClashes (answers_of b.kept)) → IsStopCause b c stop → IsStopCause a c stop
cause_since a b c None clear cause = tt
cause_since a b c (Some (Sul instance stop)) clear cause = cause
cause_since a b c (Some (Clash clash)) clear cause = λ nothing. cause (clear nothing)
cause_since a b c (Some NoMemory) clear cause = tt

-- one call after another that answered no stop
pub leaves_then : (a b c : OracleState) (stop : Option AskStop) → Leaves a b None → Leaves b c stop → Leaves a c stop
leaves_then a b c stop first next =
    record {
      gained = first.gained ++ next.gained;
      at_end = next.at_end ∙ (ap (λ (kept : List KeptAnswer). kept ++ next.gained) first.at_end ∙ append_assoc a.kept first.gained next.gained);
      instances = All-append (λ (k : KeptAnswer). k.instance < length a.origins) first.gained next.gained first.instances
          (subst (λ (origins : List Origin). All (λ (k : KeptAnswer). k.instance < length origins) next.gained) first.same.origins next.instances);
      keeps = next.keeps;
      same = same_then a b c first.same next.same;
      told = next.told;
      refused = λ none. next.refused none ∙ first.refused refl;
      unclashed = λ none nothing. next.unclashed none (first.unclashed refl nothing);
      stops = stops_then a b c (first.refused refl) first.stops next.stops;
      cause = λ may. cause_since a b c stop (first.unclashed refl) (next.cause first.told);
    }

-- an oracle's kept answers are answers over its inputs
pub kept_are_answers : (o : OracleState) (a : ℕ) → a ≡ o.inputs → Keeps o → AreAnswers a (answers_of o.kept)
kept_are_answers o a same keeps = subst (λ (n : ℕ). AreAnswers n (answers_of o.kept)) (sym same) (All-map (IsAnswer o.inputs) answer_of o.kept keeps.answers)

-- a word on which a machine differs from them is one over its inputs
pub differs_is_word : (o : OracleState) (a : ℕ) (m : Rows) (w : List ℕ) → a ≡ o.inputs → Keeps o → Differs m (answers_of o.kept) w → IsWord a w
differs_is_word o a m w same keeps differs = read_is_word a (answers_of o.kept) w differs.0 (kept_are_answers o a same keeps) differs.1

-- nothing was asked
pub leaves_nothing : (o : OracleState) → Keeps o → MayAsk o.stop → Leaves o o None
leaves_nothing o keeps may =
    record {
      gained = [];
      at_end = sym (append-nil o.kept);
      instances = All-nil (λ (k : KeptAnswer). k.instance < length o.origins);
      keeps = keeps;
      same = record { inputs = refl; outputs = refl; names = refl; origins = refl; exact = refl };
      told = may;
      refused = λ none. refl;
      unclashed = λ none nothing. nothing;
      stops = record { count = refl; stay = λ i stop is. is; unrefused = λ was is none. none };
      cause = λ may. tt;
    }

-- a settling alone
settled_stop : (result : Result ⊤ AskStop) (now : Option AskStop) → TellsStop result now → LeavesStop (asked_stop result) now
settled_stop (Ok _) now tells = subst MayAsk (sym tells) tt
settled_stop (Err (Sul instance stop)) now tells = tells
settled_stop (Err (Clash clash)) now tells = tells
settled_stop (Err NoMemory) now tells = subst MayAsk (sym tells) tt

settled_refused : (result : Result ⊤ AskStop) (before now : Bool) → now ≡ refused_after before result → asked_stop result ≡ None → now ≡ before
settled_refused (Ok _) before now is none = is
settled_refused (Err stop) before now is none = cc

settled_unclashed : (result : Result ⊤ AskStop) (P : Type 0) → OnOk result P → asked_stop result ≡ None → P
settled_unclashed (Ok _) P is none = is
settled_unclashed (Err stop) P is none = cc

settled_cause : (before now : OracleState) (result : Result ⊤ AskStop) (gained : List KeptAnswer) → now.kept ≡ before.kept ++ gained → IfErr result (IsSettleCause before now) → IsStopCause before now (asked_stop result)
settled_cause before now (Ok _) gained grown cause = tt
settled_cause before now (Err (Sul instance stop)) gained grown cause = cause
settled_cause before now (Err (Clash clash)) gained grown cause = λ nothing. new_is_first before.kept gained now.kept clash grown nothing cause
settled_cause before now (Err NoMemory) gained grown cause = tt

pub leaves_settled : (batch : List (List ℕ)) (before now : OracleState) (result : Result ⊤ AskStop) → Settles batch before now result → Leaves before now (asked_stop result)
leaves_settled batch before now result s =
    record {
      gained = s.gains.gained;
      at_end = s.gains.at_end;
      instances = s.instances;
      keeps = s.keeps;
      same = s.same;
      told = settled_stop result now.stop s.stop;
      refused = λ none. settled_refused result before.refused now.refused s.refused none;
      unclashed = λ none. settled_unclashed result (NothingClashes (answers_of before.kept) → NothingClashes (answers_of now.kept)) s.unclashed none;
      stops = s.stops;
      cause = λ may. settled_cause before now result s.gains.gained s.gains.at_end (s.cause may);
    }

-- after answers alone, this call's own out of memory
pub leaves_short : (before now : OracleState) → Leaves before now None → Leaves before now (Some NoMemory)
leaves_short before now leaves =
    record {
      gained = leaves.gained;
      at_end = leaves.at_end;
      instances = leaves.instances;
      keeps = leaves.keeps;
      same = leaves.same;
      told = leaves.told;
      refused = λ none. cc;
      unclashed = λ none. cc;
      stops = leaves.stops;
      cause = λ may. tt;
    }

own_stop : {X : Type 0} (result : Result X AskStop) → IsErrAnd result (λ e. e ≡ NoMemory) → asked_stop result ≡ Some NoMemory
own_stop {X = X} (Ok _) is = elim is [ ]
own_stop (Err stop) is = ap Some is

pub leaves_own : {X : Type 0} (before now : OracleState) (result : Result X AskStop) → Leaves before now None → IsErrAnd result (λ e. e ≡ NoMemory) → Leaves before now (asked_stop result)
leaves_own before now result leaves is = subst (Leaves before now) (sym (own_stop result is)) (leaves_short before now leaves)

-- a stop that is handed on
handed_stop : {X : Type 0} (stop : AskStop) (result : Result X AskStop) → IsErrAnd result (λ e. e ≡ stop) → asked_stop result ≡ Some stop
handed_stop {X = X} stop (Ok _) is = elim is [ ]
handed_stop stop (Err e) is = ap Some is

pub leaves_handed : {X : Type 0} (before now : OracleState) (stop : AskStop) (result : Result X AskStop) → Leaves before now (Some stop) → IsErrAnd result (λ e. e ≡ stop) → Leaves before now (asked_stop result)
leaves_handed before now stop result leaves is = subst (Leaves before now) (sym (handed_stop stop result is)) leaves

-- the same where a learner hands it on
grown_own : {X : Type 0} (result : Result X GrowStop) → IsErrAnd result (λ e. e ≡ Ask NoMemory) → grown_stop result ≡ Some NoMemory
grown_own {X = X} (Ok _) is = elim is [ ]
grown_own (Err stop) is = ap (λ (s : GrowStop). grown_stop {X = ⊤} (Err s)) is

pub leaves_grown_own : {X : Type 0} (before now : OracleState) (result : Result X GrowStop) → Leaves before now None → IsErrAnd result (λ e. e ≡ Ask NoMemory) → Leaves before now (grown_stop result)
leaves_grown_own before now result leaves is = subst (Leaves before now) (sym (grown_own result is)) (leaves_short before now leaves)

grown_handed : {X : Type 0} (stop : AskStop) (result : Result X GrowStop) → IsErrAnd result (λ e. e ≡ Ask stop) → grown_stop result ≡ Some stop
grown_handed {X = X} stop (Ok _) is = elim is [ ]
grown_handed stop (Err e) is = ap (λ (s : GrowStop). grown_stop {X = ⊤} (Err s)) is

pub leaves_grown_handed : {X : Type 0} (before now : OracleState) (stop : AskStop) (result : Result X GrowStop) → Leaves before now (Some stop) → IsErrAnd result (λ e. e ≡ Ask stop) → Leaves before now (grown_stop result)
leaves_grown_handed before now stop result leaves is = subst (Leaves before now) (sym (grown_handed stop result is)) leaves

-- answers to words of a kind: none; some and then more; of a wider kind; of a batch of such words
pub gains_none : (Asked : List ℕ → Type 0) (kept : List KeptAnswer) → GainsOnly Asked kept kept
gains_none Asked kept = record { gained = []; at_end = sym (append-nil kept); each = All-nil (λ (k : KeptAnswer). Asked k.word) }

pub gains_then : (Asked : List ℕ → Type 0) (a b c : List KeptAnswer) → GainsOnly Asked a b → GainsOnly Asked b c → GainsOnly Asked a c
gains_then Asked a b c first next =
    record {
      gained = first.gained ++ next.gained;
      at_end = next.at_end ∙ (ap (λ (kept : List KeptAnswer). kept ++ next.gained) first.at_end ∙ append_assoc a first.gained next.gained);
      each = All-append (λ (k : KeptAnswer). Asked k.word) first.gained next.gained first.each next.each;
    }

pub gains_wider : (Asked More : List ℕ → Type 0) (a b : List KeptAnswer) → ((w : List ℕ) → Asked w → More w) → GainsOnly Asked a b → GainsOnly More a b
gains_wider Asked More a b wider gains =
    record {
      gained = gains.gained;
      at_end = gains.at_end;
      each = All-weaker (λ (k : KeptAnswer). Asked k.word) (λ (k : KeptAnswer). More k.word) (λ (k : KeptAnswer) (is : Asked k.word). wider k.word is) gains.gained gains.each;
    }

pub gains_of_batch : (Asked : List ℕ → Type 0) (batch : List (List ℕ)) (a b : List KeptAnswer) → All Asked batch → GainsAnswers batch a b → GainsOnly Asked a b
gains_of_batch Asked batch a b asked gains =
    record {
      gained = gains.gained;
      at_end = gains.at_end;
      each = All-weaker (λ (k : KeptAnswer). Contains batch k.word) (λ (k : KeptAnswer). Asked k.word) (λ (k : KeptAnswer) (is : Contains batch k.word). All-contains Asked batch k.word asked is) gains.gained gains.of_batch;
    }
