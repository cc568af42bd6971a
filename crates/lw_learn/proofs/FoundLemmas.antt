-- What came of a learning, by its kind of system: the model that it gives, and that its answers may be written.
use Rattle.std.proofs.Common.{◌≡◌, ℕ, ◌<◌, ◌≤◌, List, [], ◌++◌, length, map, get_or, Option, Some, None, Result, Ok, Err, IfOk, IfErr, IfSome, refl, ap, sym, subst, subst₂, arith}
use Rattle.std.specs.List.{All}
use Rattle.std.proofs.lemmas.List.{get_or-map, length-map}
use Rattle.std.proofs.lemmas.List.Elements.{All-append}
use Rattle.lw_words.specs.Word.{Answer, AreAnswers, IsAnswer, answer_of, answers_of, IsWord}
use Rattle.lw_words.specs.declared.kept.KeptAnswer.{KeptAnswer}
use Rattle.lw_json.specs.KeptOver.{AreKeptOver}
use Rattle.lw_json.specs.declared.files.Machine.{Machine}
use Rattle.lw_outside.specs.Links.{LinkState, SpawnerState}
use Rattle.lw_pool.specs.Pool.{ArePrior}
use Rattle.lw_renumber.specs.Sorting.{HasSorted, StillStops}
use Rattle.lw_rounds.specs.declared.settings.Testing.{Testing}
use Rattle.lw_rounds.specs.Learned.{IsEnoughFor, IsLearned, StopsAs}
use Rattle.lw_rounds.specs.declared.learned.Learned.{Learned}
use Rattle.lw_rounds.specs.declared.learner.Kind.{Kind}
use Rattle.lw_rounds.specs.declared.stops.LearnStop.{LearnStop}
use Rattle.lw_rounds.specs.declared.stops.LearnStop.TheVariants as learn
use Rattle.lw_workers.specs.Plain.{RunsAsPlain}
use Rattle.lw_children.specs.Children.{IsOfChildren, IsOfCommand}
use Rattle.lw_children.specs.Keeping.{KeepsChildren}
use Rattle.lw_system.specs.NewLines.{count_of}
use Rattle.lw_report.proofs.LearningLemmas.{has_large_sorted, has_large_suite, has_model, has_model_sorted, sorted_settled}
use Rattle.lw_learn.specs.Arguments.{LearnValues}
use Rattle.lw_learn.specs.Findings.{IsOfInstances, LearningStopsBy}
use Rattle.lw_learn.specs.bodies.Ready.{GivesModel}

-- what holds of each of a mapped list, of the element itself
from_map : {X Y : Type 0} (P : Y → Type 0) (f : X → Y) (xs : List X) → All P (map f xs) → (i : ℕ) (d : X) → i < length xs → P (f (get_or xs i d))
from_map P f xs all i d lt = subst P (get_or-map f xs i d (f d) lt) (all i (f d) (rw (length-map xs f) lt))

-- answers that may be written to a file
over_of : (a b : ℕ) (kept : List KeptAnswer) → AreAnswers a (answers_of kept) → All (λ k. IsWord b k.outs) kept → All (λ k. k.instance ≤ 16) kept → AreKeptOver a b kept
over_of a b kept words outputs few i d lt =
    let is = from_map (IsAnswer a) answer_of kept words i d lt in
    record { instance = few i d lt; word = is.0; outs = outputs i d lt; even = is.1 }

few_instances : (n : ℕ) (prior since kept : List KeptAnswer) → kept ≡ prior ++ since → ArePrior prior → All (λ k. k.instance < n) since → n ≤ 16 → All (λ k. k.instance ≤ 16) kept
few_instances n prior since kept is are below few =
    subst (λ (l : List KeptAnswer). All (λ k. k.instance ≤ 16) l) (sym is) (All-append (λ (k : KeptAnswer). k.instance ≤ 16) prior since (λ i d lt. omega (arith, (are i d lt).0)) (λ i d lt. omega (arith, few, below i d lt)))

-- what was learned gives its model to each end that carries it
gives_by : (kind : Kind) (testing : Testing) (a b k most : ℕ) (kept : List KeptAnswer) (l : Learned) → AreAnswers a (answers_of kept) → IsLearned kind a b k most (answers_of kept) l.model l.learner → IsEnoughFor testing a k (answers_of kept) l.model → GivesModel kind testing a b k most kept l
gives_by kind testing a b k most kept l are is enough end same carried counted =
    has_model kind testing a b k most end l.model l.learner (subst (λ (ks : List KeptAnswer). AreAnswers a (answers_of ks)) (sym same) are) (subst (λ (ks : List KeptAnswer). IsLearned kind a b k most (answers_of ks) l.model l.learner) (sym same) is)
    (subst (λ (ks : List KeptAnswer). IsEnoughFor testing a k (answers_of ks) l.model) (sym same) enough) carried counted

pub learned_gives : (kind : Kind) (testing : Testing) (a b k most : ℕ) (kept : List KeptAnswer) (r : Result Learned LearnStop) → AreAnswers a (answers_of kept) → IfOk r (λ l. IsLearned kind a b k most (answers_of kept) l.model l.learner) → IfOk r (λ l. IsEnoughFor testing a k (answers_of kept) l.model) → IfOk r (GivesModel kind testing a b k most kept)
learned_gives kind testing a b k most kept (Ok l) are is enough = gives_by kind testing a b k most kept l are is enough
learned_gives kind testing a b k most kept (Err stop) are is enough = tt

pub learned_sizes : (kind : Kind) (a b k most : ℕ) (kept : List KeptAnswer) (r : Result Learned LearnStop) → IfOk r (λ l. IsLearned kind a b k most (answers_of kept) l.model l.learner) → IfOk r (λ l. (l.model.inputs ≡ a) × (l.model.outputs ≡ b))
learned_sizes kind a b k most kept (Ok l) is = (is.certified.inputs, is.certified.outputs)
learned_sizes kind a b k most kept (Err stop) is = tt

stops_as : (a b k most : ℕ) (ks : List Answer) (stop : LearnStop) → AreAnswers a ks → StopsAs a b k most ks stop → LearningStopsBy a b k most ks stop
stops_as a b k most ks (learn.Ask stop) are is = tt
stops_as a b k most ks (learn.Crowd words) are is = is
stops_as a b k most ks (learn.TooLarge model number) are is = has_large_suite a b k most ks model number are is

pub learned_stops : (a b k most : ℕ) (ks : List Answer) (r : Result Learned LearnStop) → AreAnswers a ks → IfErr r (StopsAs a b k most ks) → IfErr r (LearningStopsBy a b k most ks)
learned_stops a b k most ks (Ok l) are is = tt
learned_stops a b k most ks (Err stop) are is = stops_as a b k most ks stop are is

-- answers that are enough are so under other names for the testing and the numbers
pub enough_for : (testing other : Testing) (a b k n : ℕ) (kept : List KeptAnswer) (r : Result Learned LearnStop) → testing ≡ other → a ≡ b → k ≡ n → IfOk r (λ l. IsEnoughFor testing a k (answers_of kept) l.model) → IfOk r (λ l. IsEnoughFor other b n (answers_of kept) l.model)
enough_for testing other a b k n kept r same inputs extra enough =
    subst (λ (m : Testing). IfOk r (λ l. IsEnoughFor m b n (answers_of kept) l.model)) same
    (subst₂ (λ (x y : ℕ). IfOk r (λ l. IsEnoughFor testing x y (answers_of kept) l.model)) inputs extra enough)

-- of instances of a machine
module _ (a : LearnValues) (m : Machine) (prior : List KeptAnswer) (learned : Result Learned LearnStop) (kept : List KeptAnswer) (names : List (List ℕ)) (is : IsOfInstances a m prior learned kept names) where
  words_of_table : AreAnswers (length m.inputs) (answers_of kept)
  words_of_table = subst (λ (n : ℕ). AreAnswers n (answers_of kept)) m.named.0 is.keeps.words

  pub table_gives : IfOk learned (λ l. IsEnoughFor a.testing (length m.inputs) a.extra (answers_of kept) l.model) → IfOk learned (GivesModel a.learner a.testing (length m.inputs) (length names) a.extra a.max_states kept)
  table_gives enough =
      subst (λ (ns : List (List ℕ)). IfOk learned (GivesModel a.learner a.testing (length m.inputs) (length ns) a.extra a.max_states kept)) (sym is.named)
      (learned_gives a.learner a.testing (length m.inputs) (length m.outputs) a.extra a.max_states kept learned words_of_table is.ok enough)

  pub table_sizes : IfOk learned (λ l. (l.model.inputs ≡ length m.inputs) × (l.model.outputs ≡ length names))
  table_sizes =
      subst (λ (ns : List (List ℕ)). IfOk learned (λ l. (l.model.inputs ≡ length m.inputs) × (l.model.outputs ≡ length ns))) (sym is.named)
      (learned_sizes a.learner (length m.inputs) (length m.outputs) a.extra a.max_states kept learned is.ok)

  pub table_stops : IfErr learned (LearningStopsBy (length m.inputs) (length m.outputs) a.extra a.max_states (answers_of kept))
  table_stops = learned_stops (length m.inputs) (length m.outputs) a.extra a.max_states (answers_of kept) learned words_of_table is.stops

  pub table_over : ArePrior prior → a.workers ≤ 16 → AreKeptOver (length m.inputs) (length names) kept
  table_over are few =
      over_of (length m.inputs) (length names) kept words_of_table
      (subst (λ (ns : List (List ℕ)). All (λ k. IsWord (length ns) k.outs) kept) (sym is.named) (subst (λ (n : ℕ). All (λ k. IsWord n k.outs) kept) m.named.1 is.keeps.outputs))
      (few_instances a.workers prior is.keeps.since kept is.keeps.first are is.keeps.instances_are few)

-- of children whose outputs were declared
module _ (kind : Kind) (words letters outputs : List (List ℕ)) (workers k most : ℕ) (prior : List KeptAnswer) (before now : SpawnerState) (learned : Result Learned LearnStop) (kept : List KeptAnswer) (names : List (List ℕ)) (named : names ≡ outputs) (is : IsOfChildren kind words letters (Some outputs) workers k most prior before now learned kept names) where
  declared_gives : (testing : Testing) → IfOk learned (λ l. IsEnoughFor testing (length letters) k (answers_of kept) l.model) → IfOk learned (GivesModel kind testing (length letters) (length names) k most kept)
  declared_gives testing enough =
      subst (λ (ns : List (List ℕ)). IfOk learned (GivesModel kind testing (length letters) (length ns) k most kept)) (sym named)
      (learned_gives kind testing (length letters) (length outputs) k most kept learned is.keeps.words is.ok enough)

  declared_sizes : IfOk learned (λ l. (l.model.inputs ≡ length letters) × (l.model.outputs ≡ length names))
  declared_sizes =
      subst (λ (ns : List (List ℕ)). IfOk learned (λ l. (l.model.inputs ≡ length letters) × (l.model.outputs ≡ length ns))) (sym named)
      (learned_sizes kind (length letters) (length outputs) k most kept learned is.ok)

-- of children whose outputs weren't declared
module _ (kind : Kind) (letters : List (List ℕ)) (k most : ℕ) (kept : List KeptAnswer) (names own_names : List (List ℕ)) (to : List ℕ) (ks : List Answer) (are : AreAnswers (length letters) ks) where
  free_gives : (testing : Testing) (own learned : Result Learned LearnStop) → HasSorted to own_names names ks (answers_of kept) own learned → IfOk own (λ l. IsLearned kind (length letters) 4096 k most ks l.model l.learner) → IfOk learned (λ l. IsEnoughFor testing (length letters) k (answers_of kept) l.model) → IfOk learned (GivesModel kind testing (length letters) (length names) k most kept)
  free_gives testing (Ok l0) (Ok l) same is enough = λ end kept_is carried counted.
      has_model_sorted kind testing (length letters) 4096 k most to own_names names ks (answers_of kept) (Ok l0) (Ok l) l0 l end same refl are is refl enough (ap (λ (x : List KeptAnswer). answers_of x) kept_is) carried counted
  free_gives testing (Err stop) (Ok l) same is enough = let wrong = same.renamed in absurd (cc)
  free_gives testing own (Err stop) same is enough = tt

  free_sizes : (own learned : Result Learned LearnStop) → HasSorted to own_names names ks (answers_of kept) own learned → IfOk own (λ l. IsLearned kind (length letters) 4096 k most ks l.model l.learner) → IfOk learned (λ l. (l.model.inputs ≡ length letters) × (l.model.outputs ≡ length names))
  free_sizes (Ok l0) (Ok l) same is =
      let settled = sorted_settled to own_names names ks (answers_of kept) (Ok l0) (Ok l) l0 l same refl refl kind (length letters) 4096 k most are is in
      (settled.certified.inputs, settled.certified.outputs)
  free_sizes (Err stop) (Ok l) same is = let wrong = same.renamed in absurd (cc)
  free_sizes own (Err stop) same is = tt

  still_stops : (f : ℕ → ℕ) (stop : LearnStop) → AreAnswers (length letters) (answers_of kept) → StillStops (length letters) k most f (answers_of kept) stop → LearningStopsBy (length letters) 4096 k most (answers_of kept) stop
  still_stops f (learn.Ask stop) kept_are is = tt
  still_stops f (learn.Crowd words) kept_are is = is
  still_stops f (learn.TooLarge model number) kept_are is = has_large_sorted (length letters) k most f (answers_of kept) model number kept_are is

  free_stops : (own learned : Result Learned LearnStop) → AreAnswers (length letters) (answers_of kept) → HasSorted to own_names names ks (answers_of kept) own learned → IfErr own (StopsAs (length letters) 4096 k most ks) → IfErr learned (LearningStopsBy (length letters) 4096 k most (answers_of kept))
  free_stops own (Ok l) kept_are same is = tt
  free_stops own (Err stop) kept_are same is = still_stops same.f stop kept_are (same.stopped (length letters) 4096 k most are is)

keeps_over : (letters : List (List ℕ)) (outputs : Option (List (List ℕ))) (names : List (List ℕ)) (prior kept : List KeptAnswer) (links : List LinkState) (workers : ℕ) → KeepsChildren letters outputs names prior kept links → ArePrior prior → length links ≤ workers → workers ≤ 16 → AreKeptOver (length letters) (length names) kept
keeps_over letters outputs names prior kept links workers keeps are few small =
    over_of (length letters) (length names) kept keeps.words keeps.below (few_instances (length links) prior keeps.since kept keeps.first are keeps.instances (omega (arith, few, small)))

-- of children by a command
module _ (kind : Kind) (words letters : List (List ℕ)) (workers k most : ℕ) (prior : List KeptAnswer) (before now : SpawnerState) (learned : Result Learned LearnStop) (kept : List KeptAnswer) (names : List (List ℕ)) where
  pub command_gives : (testing : Testing) (outputs : Option (List (List ℕ))) → IsOfCommand kind words letters outputs workers k most prior before now learned kept names → IfOk learned (λ l. IsEnoughFor testing (length letters) k (answers_of kept) l.model) → IfOk learned (GivesModel kind testing (length letters) (length names) k most kept)
  command_gives testing None is enough = let free = is.1 in free_gives kind letters k most kept names free.own_names free.new_numbers free.own_answers free.answers testing free.own learned free.same free.ok enough
  command_gives testing (Some outputs) is enough = declared_gives kind words letters outputs workers k most prior before now learned kept names is.0 is.1 testing enough

  pub command_named : (outputs : Option (List (List ℕ))) → IsOfCommand kind words letters outputs workers k most prior before now learned kept names → IfSome outputs (λ own. names ≡ own)
  command_named None is = tt
  command_named (Some outputs) is = is.0

  pub command_sizes : (outputs : Option (List (List ℕ))) → IsOfCommand kind words letters outputs workers k most prior before now learned kept names → IfOk learned (λ l. (l.model.inputs ≡ length letters) × (l.model.outputs ≡ length names))
  command_sizes None is = let free = is.1 in free_sizes kind letters k most kept names free.own_names free.new_numbers free.own_answers free.answers free.own learned free.same free.ok
  command_sizes (Some outputs) is = declared_sizes kind words letters outputs workers k most prior before now learned kept names is.0 is.1

  pub command_stops : (outputs : Option (List (List ℕ))) → IsOfCommand kind words letters outputs workers k most prior before now learned kept names → IfErr learned (LearningStopsBy (length letters) (count_of outputs) k most (answers_of kept))
  command_stops None is = let free = is.1 in free_stops kind letters k most kept names free.own_names free.new_numbers free.own_answers free.answers free.own learned free.keeps.words free.same free.stops
  command_stops (Some outputs) is = learned_stops (length letters) (length outputs) k most (answers_of kept) learned is.1.keeps.words is.1.stops

  pub command_over : (outputs : Option (List (List ℕ))) → IsOfCommand kind words letters outputs workers k most prior before now learned kept names → ArePrior prior → workers ≤ 16 → AreKeptOver (length letters) (length names) kept
  command_over None is are small = let free = is.1 in keeps_over letters None names [] kept free.links workers free.keeps (λ i d lt. absurd (omega (arith, lt))) free.few small
  command_over (Some outputs) is are small = keeps_over letters (Some outputs) names prior kept is.1.links workers is.1.keeps are is.1.few small

-- what a learning came to by the machine alone, by the settings of the arguments
pub plain_for : (kind own : Kind) (testing asked : Testing) (a b k extra most states : ℕ) (given : List (List ℕ)) (r : Result Learned LearnStop) (prior kept : List KeptAnswer) → kind ≡ own → testing ≡ asked → a ≡ b → k ≡ extra → most ≡ states → RunsAsPlain kind testing a k most given r prior kept → RunsAsPlain own asked b extra states given r prior kept
plain_for kind own testing asked a b k extra most states given r prior kept same by letters more few runs =
    subst (λ (x : Kind). RunsAsPlain x asked b extra states given r prior kept) same
    (subst (λ (x : Testing). RunsAsPlain kind x b extra states given r prior kept) by
    (subst (λ (n : ℕ). RunsAsPlain kind testing n extra states given r prior kept) letters
    (subst (λ (n : ℕ). RunsAsPlain kind testing a n states given r prior kept) more
    (subst (λ (n : ℕ). RunsAsPlain kind testing a k n given r prior kept) few runs))))
