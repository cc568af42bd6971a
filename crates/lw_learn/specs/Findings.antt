-- What came of the learning of a system, before any of it was written.
use Rattle.std.specs.Prelude.{◌≡◌, ℕ, List, length, Result, IfOk, IfErr}
use Rattle.lw_words.specs.Word.{Answer, answers_of}
use Rattle.lw_words.specs.declared.kept.KeptAnswer.{KeptAnswer}
use Rattle.lw_mealy.specs.Machine.{Gives, Rows}
use Rattle.lw_json.specs.declared.files.Machine.{Machine}
use Rattle.lw_rounds.specs.Learned.{IsLearned, IsTooMany, StopsAs}
use Rattle.lw_rounds.specs.declared.learned.Learned.{Learned}
use Rattle.lw_rounds.specs.declared.stops.LearnStop.{LearnStop}
use Rattle.lw_rounds.specs.declared.stops.LearnStop.TheVariants as learn
use Rattle.lw_workers.specs.Machines.{IsMachineStop, IsReached, IsWithin, KeepsRuns}
use Rattle.lw_children.specs.Children.{IsOfCommand}
use Rattle.lw_outside.specs.Links.{SpawnerState}
use Rattle.lw_report.specs.Learnings.{HasLargeSuite}
use Rattle.lw_learn.specs.Arguments.{LearnValues}
use Rattle.lw_system.specs.declared.system.System.{System}
use Rattle.lw_system.specs.declared.system.System.TheVariants.{Table, Children}

-- of instances of a machine, behind prior answers: the names are the machine's, the answers are the instances' runs; and what
-- was learned, or why nothing was
pub record IsOfInstances (a : LearnValues) (m : Machine) (prior : List KeptAnswer) (learned : Result Learned LearnStop) (kept : List KeptAnswer) (names : List (List ℕ)) : Type 0 where
  pub named : names ≡ m.outputs
  pub keeps : KeepsRuns m.mealy a.workers prior kept
  pub ok : IfOk learned (λ l. IsLearned a.learner (length m.inputs) (length m.outputs) a.extra
      a.max_states (answers_of kept) l.model l.learner)
  pub stops : IfErr learned (StopsAs (length m.inputs) (length m.outputs) a.extra a.max_states
      (answers_of kept))
  pub causes : IfErr learned (IsMachineStop kept)
  pub reached : (r : Rows) → IsWithin (length m.inputs) a.extra a.max_states r →
      Gives r (answers_of kept) → IsReached (length r) learned

-- of a system: no child is started for a machine
abbrev pub IsOfSystem : LearnValues → System → List KeptAnswer → (before now : SpawnerState) → Result Learned LearnStop → List KeptAnswer → List (List ℕ) → Type 0
IsOfSystem a (Table m) prior before now learned kept names = (now ≡ before) × IsOfInstances a m prior learned kept names
IsOfSystem a (Children c) prior before now learned kept names = IsOfCommand a.learner c.words c.inputs c.outputs a.workers a.extra a.max_states prior before now learned kept names

-- why there is no model, by the answers: too many words are apart, or the suite is too large; nothing where an ask stopped
abbrev pub LearningStopsBy : (a b k most : ℕ) → List Answer → LearnStop → Type 0
LearningStopsBy a b k most ks (learn.Ask stop) = Unit {0}
LearningStopsBy a b k most ks (learn.Crowd words) = IsTooMany most ks words
LearningStopsBy a b k most ks (learn.TooLarge model number) = HasLargeSuite a b k most ks (length model.rows) number
