-- What a learning of a system begins with, and the model that it gives whatever end carries it.
use Rattle.std.specs.Prelude.{◌≡◌, ℕ, ◌≤◌, List, [], length, Some, None}
use Rattle.lw_words.specs.Word.{answers_of}
use Rattle.lw_words.specs.declared.kept.KeptAnswer.{KeptAnswer}
use Rattle.lw_cache.specs.Caching.{Caching}
use Rattle.lw_cache.specs.Clash.{NothingClashes}
use Rattle.lw_names.specs.Naming.{Naming}
use Rattle.lw_accept.specs.AcceptorFile.{AreAcceptorLetters}
use Rattle.lw_accept.specs.View.{answer_names, asked_names}
use Rattle.lw_json.specs.declared.files.Machine.{Machine}
use Rattle.lw_pool.specs.Opening.{MayBegin}
use Rattle.lw_rounds.specs.Learner.{refinements_of}
use Rattle.lw_rounds.specs.declared.learned.Learned.{Learned}
use Rattle.lw_rounds.specs.declared.settings.Testing.{Testing}
use Rattle.lw_rounds.specs.declared.learner.Kind.{Kind}
use Rattle.lw_children.specs.Crews.{first_naming}
use Rattle.lw_system.specs.NewLines.{count_of}
use Rattle.lw_report.specs.Learnings.{HasModel}
use Rattle.lw_report.specs.declared.«end».End.{End}
use Rattle.lw_system.specs.Systems.{HasWords, declared_of, letters_of}
use Rattle.lw_system.specs.declared.goal.Goal.{Goal}
use Rattle.lw_system.specs.declared.goal.Goal.TheVariants as aim
use Rattle.lw_system.specs.declared.system.System.{System}

-- the names of a system's outputs, and a cache of prior answers, of which nothing clashes
pub record IsReady (s : System) (naming : Naming) (cache : Caching) : Type 0 where
  pub words : HasWords s
  pub letters : length (letters_of s) ≤ 64
  pub named : naming ≡ first_naming (declared_of s)
  pub unclaimed : cache.claims ≡ []
  pub nothing : NothingClashes (answers_of cache.kept)
  pub may : MayBegin naming (length (letters_of s)) (count_of (declared_of s)) cache.kept
  pub free : declared_of s ≡ None → cache.kept ≡ []

-- a machine of which an acceptor is reported has `?` and its letters, and its three outputs
abbrev pub IsMachineFor : Goal → Machine → Type 0
IsMachineFor aim.Machine m = Unit {0}
IsMachineFor aim.Acceptor m = (letters : List (List ℕ)) × AreAcceptorLetters letters × (m.inputs ≡ asked_names letters) × (m.outputs ≡ answer_names)

-- an end with these answers that carries what was learned has its model
abbrev pub GivesModel : (kind : Kind) (testing : Testing) (a b k most : ℕ) → List KeptAnswer → Learned → Type 0
GivesModel kind testing a b k most kept l =
    (end : End) → end.kept.answers ≡ kept → end.learner ≡ Some l.learner → end.refinements ≡ refinements_of l.learner → HasModel kind testing a b k most end l.model
