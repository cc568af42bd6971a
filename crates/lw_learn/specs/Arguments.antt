-- The values of the arguments of `learn`, as contracts see them.
use Rattle.std.specs.Prelude.{◌≡◌, ◌⊎◌, ℕ, ◌≤◌, Bool, false, true, List, Option, IfSome, IsSome}
use Rattle.lw_rounds.specs.declared.learner.Kind.{Kind}
use Rattle.lw_rounds.specs.declared.settings.Testing.{Testing}
use Rattle.lw_draw.specs.declared.drawing.Drawn.{Drawn}
use Rattle.lw_system.specs.declared.goal.Goal.{Goal}
use Rattle.lw_system.specs.declared.source.Source.{Source}

-- what is learned, the kind and the name of the system's file, the number of instances, the extra states, the kind of the
-- learner, the greatest number of states, how models are tested, the file for the model and that for the answers, the file of
-- prior answers, the file for the answers that are kept at any end, that for the machine that is left at an end without a model,
-- the file of words that are asked first, the words that are drawn for that, the file of the log, that of the journal, and whether progress is told
pub record LearnValues : Type 0 where
  pub goal : Goal
  pub source : Source
  pub system : List ℕ
  pub workers : ℕ
  pub extra : ℕ
  pub learner : Kind
  pub max_states : ℕ
  pub testing : Testing
  pub model : Option (List ℕ)
  pub answers : Option (List ℕ)
  pub prior : Option (List ℕ)
  pub kept : Option (List ℕ)
  pub last : Option (List ℕ)
  pub words : Option (List ℕ)
  pub drawn : Option Drawn
  pub log : Option (List ℕ)
  pub journal : Option (List ℕ)
  pub verbose : Bool

-- the file of earlier answers: the journal where a call goes on with one, else that of prior answers
abbrev pub earlier_of : (resumes : Bool) → (journal prior : Option (List ℕ)) → Option (List ℕ)
earlier_of false journal prior = prior
earlier_of true journal prior = journal

-- the same values, with this file of prior answers
abbrev pub with_earlier : Option (List ℕ) → LearnValues → LearnValues
with_earlier name v =
    record {
      goal = v.goal;
      source = v.source;
      system = v.system;
      workers = v.workers;
      extra = v.extra;
      learner = v.learner;
      max_states = v.max_states;
      testing = v.testing;
      model = v.model;
      answers = v.answers;
      prior = name;
      kept = v.kept;
      last = v.last;
      words = v.words;
      drawn = v.drawn;
      log = v.log;
      journal = v.journal;
      verbose = v.verbose;
    }

-- a call may begin with the answers of this file: those that are named as prior, or those of its journal
abbrev pub IsEarlier : LearnValues → Option (List ℕ) → Type 0
IsEarlier v name = (name ≡ v.prior) ⊎ ((name ≡ v.journal) × IsSome v.journal)

-- what a call does once its journal is opened: it goes on as it is, or as one that is handed the journal as prior answers
abbrev pub AsBegun : LearnValues → (LearnValues → Type 0) → Type 0
AsBegun v Does = (earlier : Option (List ℕ)) × IsEarlier v earlier × Does (with_earlier earlier v)

-- no more than a million words, of no more than 65,536 letters each
pub record AreFewDrawn (d : Drawn) : Type 0 where
  pub words : d.count ≤ 1000000
  pub letters : d.length ≤ 65536

-- within their limits
pub record AreWithinLimits (v : LearnValues) : Type 0 where
  pub some_worker : 1 ≤ v.workers
  pub few_workers : v.workers ≤ 16
  pub extra : v.extra ≤ 4
  pub some_state : 1 ≤ v.max_states
  pub few_states : v.max_states ≤ 1024
  pub drawn : IfSome v.drawn AreFewDrawn
