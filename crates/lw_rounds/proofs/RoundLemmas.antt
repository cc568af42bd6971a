-- What is so of an oracle and a learner between the rounds.
use Rattle.std.proofs.Common.{◌≡◌, ℕ, ◌<◌, ◌≤◌, List, length, None, Result, Ok, Err, OnOk, IfErr, IsErrAnd, refl, sym, ◌∙◌, subst, subst₂, arith}
use Rattle.lw_words.specs.Word.{Answer, AreAnswers, answers_of}
use Rattle.lw_mealy.specs.Machine.{Gives, MealyMachine, IsMachine, Rows}
use Rattle.lw_cache.specs.Clash.{NothingClashes}
use Rattle.lw_cache.specs.Settling.{OracleState, Leaves, grown_stop}
use Rattle.lw_cache.specs.declared.stops.GrowStop.{GrowStop}
use Rattle.lw_cache.specs.declared.stops.GrowStop.TheVariants as grow
use Rattle.lw_cache.proofs.SettlingLemmas.{kept_are_answers}
use Rattle.lw_separate.specs.Canonical.{IsCanonical}
use Rattle.lw_chunks.specs.Size.{suite_size}
use Rattle.lw_rounds.specs.declared.settings.Testing.{Testing}
use Rattle.lw_rounds.specs.Learned.{IsCertified, IsEnoughFor, IsLearned, StopsAs}
use Rattle.lw_rounds.specs.Learner.{kind_of, inputs_of, outputs_of, most_of, access_of, refinements_of, HasNoTemporary, IsLearner, IsMachineOf}
use Rattle.lw_rounds.specs.Stops.{of_growth}
use Rattle.lw_rounds.specs.declared.learner.Kind.{Kind}
use Rattle.lw_rounds.specs.declared.learner.Learner.{Learner}
use Rattle.lw_rounds.specs.declared.stops.LearnStop.{LearnStop}
use Rattle.lw_rounds.specs.declared.stops.LearnStop.TheVariants as learn
use Rattle.lw_rounds.specs.bodies.Rounds.{IsSureOf, IsNew, IsReady, IsAlike, Grows, GoesOn, IsLearnedFrom, StopsFrom, StopsGrowth, StopsTest, finals_of}
use Rattle.lw_rounds.proofs.CanonicalLemmas.{equal_gives, as_many}
use Rattle.lw_rounds.proofs.LearnerLemmas.{access_is_crowd, few_finals, few_refinements, few_states, read_more, states_are}

-- after answers alone
pub ready_more : (o p : OracleState) (l : Learner) → Leaves o p None → IsReady o l → IsReady p l
ready_more o p l leaves ready =
    record {
      inputs = ready.inputs ∙ sym leaves.same.inputs;
      outputs = ready.outputs ∙ sym leaves.same.outputs;
      may = leaves.told;
      keeps = leaves.keeps;
      nothing = leaves.unclashed refl ready.nothing;
      learner = ready.learner;
      closed = ready.closed;
      read = read_more o.kept leaves.gained p.kept l leaves.at_end ready.read;
    }

-- after a call of a learner that answers Ok
pub ready_after : {X : Type 0} (o p : OracleState) (l m : Learner) (result : Result X GrowStop) → Leaves o p (grown_stop result) → Grows (answers_of p.kept) l m result → inputs_of l ≡ o.inputs → outputs_of l ≡ o.outputs → NothingClashes (answers_of o.kept)
    → OnOk result (IsReady p m)
ready_after o p l m (Ok _) leaves grows inputs outputs nothing =
    record {
      inputs = grows.alike.inputs ∙ (inputs ∙ sym leaves.same.inputs);
      outputs = grows.alike.outputs ∙ (outputs ∙ sym leaves.same.outputs);
      may = leaves.told;
      keeps = leaves.keeps;
      nothing = leaves.unclashed refl nothing;
      learner = grows.learner;
      closed = grows.closed;
      read = grows.read;
    }
ready_after o p l m (Err stop) leaves grows inputs outputs nothing = tt

pub growth_as : (a b k most : ℕ) (ks : List Answer) (stop : GrowStop) → StopsGrowth most ks stop → StopsAs a b k most ks (of_growth stop)
growth_as a b k most ks (grow.Ask stop) is = tt
growth_as a b k most ks (grow.Crowd words) is = is

pub alike_then : (l m n : Learner) → IsAlike l m → IsAlike m n → IsAlike l n
alike_then l m n first next = record { kind = next.kind ∙ first.kind; inputs = next.inputs ∙ first.inputs; outputs = next.outputs ∙ first.outputs; most = next.most ∙ first.most }

module _ (o : OracleState) (l : Learner) (h model : MealyMachine) (testing : Testing) (k : ℕ) (ready : IsReady o l) (settled : HasNoTemporary l) (of : IsMachineOf l h.rows) (machine : IsMachine h.inputs h.rows) (inputs : h.inputs ≡ inputs_of l) (outputs : h.outputs ≡ outputs_of l)
    (sure : IsSureOf h testing k (answers_of o.kept) model) where
  certified : IsCertified (inputs_of l) (outputs_of l) k (answers_of o.kept) model
  certified = subst₂ (λ (a b : ℕ). IsCertified a b k (answers_of o.kept) model) inputs outputs sure.certified

  answers : AreAnswers h.inputs (answers_of o.kept)
  answers = kept_are_answers o h.inputs (inputs ∙ ready.inputs) ready.keeps

  gives : Gives h.rows (answers_of o.kept)
  gives = equal_gives h.inputs h.rows model.rows (answers_of o.kept) (λ w letters. sym (sure.canonical.equal w letters)) answers sure.certified.gives

  each : length (access_of l) ≡ length model.rows
  each = as_many h.inputs h.rows model.rows machine sure.canonical (answers_of o.kept) (access_of l) answers gives (access_is_crowd (answers_of o.kept) l ready.learner ready.read) (sym (states_are l h.rows of))

  learned : IsLearned (kind_of l) (inputs_of l) (outputs_of l) k (most_of l) (answers_of o.kept) model l
  learned =
      record {
        certified = certified;
        carried = record {
          of_kind = refl;
          inputs = refl;
          outputs = refl;
          limit = refl;
          learner = ready.learner;
          closed = ready.closed;
          final = settled;
          read = ready.read;
          machine = h.rows;
          of_learner = of;
          canonical = subst (λ (a : ℕ). IsCanonical a h.rows model.rows) inputs sure.canonical;
          crowd = access_is_crowd (answers_of o.kept) l ready.learner ready.read;
          each = each;
          refined = subst (λ (n : ℕ). refinements_of l < n) each (few_refinements l ready.learner);
        };
      }

  pub is_learned : IsLearnedFrom l testing k (answers_of o.kept) model l
  is_learned = record { learned = learned; enough = subst (λ (a : ℕ). IsEnoughFor testing a k (answers_of o.kept) model) inputs sure.enough }

-- what is learned, said of the numbers of a learner alike
pub learned_alike : (l m n : Learner) (testing : Testing) (k : ℕ) (ks : List Answer) (model : MealyMachine) → IsAlike l m → IsLearnedFrom m testing k ks model n → IsLearnedFrom l testing k ks model n
learned_alike l m n testing k ks model alike is =
    record {
      learned = subst (λ (x : Kind). IsLearned x (inputs_of l) (outputs_of l) k (most_of l) ks model n) alike.kind
          (subst (λ (x : ℕ). IsLearned (kind_of m) (inputs_of l) (outputs_of l) k x ks model n) alike.most
          (subst₂ (λ (a b : ℕ). IsLearned (kind_of m) a b k (most_of m) ks model n) alike.inputs alike.outputs is.learned));
      enough = subst (λ (a : ℕ). IsEnoughFor testing a k ks model) alike.inputs is.enough;
    }

pub stops_alike : (l m : Learner) (k : ℕ) (ks : List Answer) (stop : LearnStop) → IsAlike l m → StopsFrom m k ks stop → StopsFrom l k ks stop
stops_alike l m k ks stop alike is =
    subst (λ (n : ℕ). StopsAs (inputs_of l) (outputs_of l) k n ks stop) alike.most
    (subst₂ (λ (a b : ℕ). StopsAs a b k (most_of m) ks stop) alike.inputs alike.outputs is)

-- a state more, or a final node more
pub more_states : (l m : Learner) → IsLearner m → most_of m ≡ most_of l → finals_of l ≤ finals_of m → length (access_of l) < length (access_of m) → GoesOn l m
more_states l m is most finals longer = let few = few_states m is in let less = few_finals m is in omega (arith, most, finals, longer, few, less)

pub more_finals : (l m : Learner) → IsLearner m → most_of m ≡ most_of l → finals_of l < finals_of m → length (access_of l) ≤ length (access_of m) → GoesOn l m
more_finals l m is most finals longer = let few = few_states m is in let less = few_finals m is in omega (arith, most, finals, longer, few, less)

pub refined_goes : {X : Type 0} (ks : List Answer) (l m : Learner) (result : Result X GrowStop) → Grows ks l m result → OnOk result (length (access_of l) < length (access_of m)) → OnOk result (GoesOn l m)
refined_goes ks l m (Ok x) grows more = more_states l m grows.learner grows.alike.most grows.finals more
refined_goes ks l m (Err stop) grows more = tt

-- a test of a learner's machine stops, said of the numbers of the learner
pub tested_stops : (h : MealyMachine) (l : Learner) (k : ℕ) (ks : List Answer) (stop : LearnStop) → h.inputs ≡ inputs_of l → h.outputs ≡ outputs_of l → length h.rows ≤ most_of l → StopsTest h.inputs h.outputs k (length h.rows) ks stop → StopsFrom l k ks stop
tested_stops h l k ks (learn.Ask stop) inputs outputs few is = tt
tested_stops h l k ks (learn.Crowd words) inputs outputs few is = elim is [ ]
tested_stops h l k ks (learn.TooLarge model number) inputs outputs few is =
    record {
      inputs = is.inputs ∙ inputs;
      outputs = is.outputs ∙ outputs;
      complete = is.complete;
      few = let least = is.few in omega (arith, least, few);
      canonical = subst (λ (a : ℕ). IsCanonical a model.rows model.rows) inputs is.canonical;
      gives = is.gives;
      words = is.words;
      crowd = is.crowd;
      each = is.each;
      size = subst (λ (a : ℕ). number ≡ suite_size (length model.rows) a k) inputs is.size;
      large = is.large;
    }

pub few_tested : (l : Learner) (m : Rows) → IsLearner l → IsMachineOf l m → length m ≤ most_of l
few_tested l m is of = let few = few_states l is in let each = states_are l m of in omega (arith, few, each)

-- a new learner, of numbers that are these
pub new_as : (kind : Kind) (a b x y most : ℕ) (l : Learner) → a ≡ x → b ≡ y → IsNew kind a b most l → IsNew kind x y most l
new_as kind a b x y most l inputs outputs new = subst₂ (λ (c d : ℕ). IsNew kind c d most l) inputs outputs new

pub told_stops : {X : Type 0} (P : LearnStop → Type 0) (stop : LearnStop) (result : Result X LearnStop) → IsErrAnd result (λ e. e ≡ stop) → P stop → IfErr result P
told_stops {X = X} P stop (Ok _) is holds = elim is [ ]
told_stops P stop (Err e) is holds = subst P (sym is) holds

-- a learning begins with a new learner of the kind and the numbers that it was given
new_alike : (kind : Kind) (a b k most : ℕ) (ks : List Answer) (l : Learner) (stop : LearnStop) → IsNew kind a b most l → StopsFrom l k ks stop → StopsAs a b k most ks stop
new_alike kind a b k most ks l stop new is =
    subst (λ (n : ℕ). StopsAs a b k n ks stop) new.limit (subst₂ (λ (x y : ℕ). StopsAs x y k (most_of l) ks stop) new.inputs new.outputs is)

pub closing_stops : (kind : Kind) (a b k most : ℕ) (ks : List Answer) (l : Learner) (stop : GrowStop) → IsNew kind a b most l → StopsGrowth (most_of l) ks stop → StopsAs a b k most ks (of_growth stop)
closing_stops kind a b k most ks l stop new is = growth_as a b k most ks stop (subst (λ (n : ℕ). StopsGrowth n ks stop) new.limit is)

pub stops_from : (kind : Kind) (a b k most : ℕ) (ks : List Answer) (l m : Learner) (stop : LearnStop) → IsNew kind a b most l → IsAlike l m → StopsFrom m k ks stop → StopsAs a b k most ks stop
stops_from kind a b k most ks l m stop new alike is = new_alike kind a b k most ks l stop new (stops_alike l m k ks stop alike is)

pub learned_from : (kind : Kind) (testing : Testing) (a b k most : ℕ) (ks : List Answer) (l m n : Learner) (model : MealyMachine) → IsNew kind a b most l → IsAlike l m → IsLearnedFrom m testing k ks model n → IsLearned kind a b k most ks model n
learned_from kind testing a b k most ks l m n model new alike is =
    subst (λ (x : Kind). IsLearned x a b k most ks model n) new.of_kind
    (subst (λ (x : ℕ). IsLearned (kind_of l) a b k x ks model n) new.limit
    (subst₂ (λ (x y : ℕ). IsLearned (kind_of l) x y k (most_of l) ks model n) new.inputs new.outputs (learned_alike l m n testing k ks model alike is).learned))

pub enough_from : (kind : Kind) (testing : Testing) (a b k most : ℕ) (ks : List Answer) (l m n : Learner) (model : MealyMachine) → IsNew kind a b most l → IsAlike l m → IsLearnedFrom m testing k ks model n → IsEnoughFor testing a k ks model
enough_from kind testing a b k most ks l m n model new alike is =
    subst (λ (x : ℕ). IsEnoughFor testing x k ks model) new.inputs (learned_alike l m n testing k ks model alike is).enough
