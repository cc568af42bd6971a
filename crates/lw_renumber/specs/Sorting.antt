-- What it leaves to sort the names of a learned system's outputs.
use Rattle.std.specs.Prelude.{◌≡◌, ℕ, ◌<◌, ◌≤◌, List, length, map, slice_index_or, Result, Ok, Err, IfOk, IfErr}
use Rattle.lw_words.specs.Word.{Answer, AreAnswers, name_at, named}
use Rattle.lw_words.specs.declared.kept.KeptAnswer.{KeptAnswer}
use Rattle.lw_cache.specs.Clash.{NothingClashes}
use Rattle.lw_mealy.specs.Machine.{Gives, MealyMachine, mealy_of, Rows, IsMachine}
use Rattle.lw_mealy.specs.Renumbering.{renumbered_rows}
use Rattle.lw_rounds.specs.declared.settings.Testing.{Testing}
use Rattle.lw_rounds.specs.Learned.{IsCertified, IsEnoughFor, IsLearned, IsTooMany, IsTooLarge, StopsAs}
use Rattle.lw_rounds.specs.declared.learned.Learned.{Learned}
use Rattle.lw_rounds.specs.declared.learner.Kind.{Kind}
use Rattle.lw_rounds.specs.declared.stops.LearnStop.{LearnStop}
use Rattle.lw_rounds.specs.declared.stops.LearnStop.TheVariants as learn
use Rattle.lw_renumber.specs.Renaming.{Renames, renamed_rows, renamed_answers}

-- f gives the numbers of names their new ones, which `to` lists; each has its name still, and numbers past the names stay
pub record IsRenumbering (to : List ℕ) (before now : List (List ℕ)) (f g : ℕ → ℕ) : Type 0 where
  pub renames : Renames f g
  pub count : length now ≡ length before
  pub listed : (y : ℕ) → y < length before → slice_index_or to y 0 ≡ f y
  pub within : (y : ℕ) → y < length before → f y < length before
  pub past : (y : ℕ) → length before ≤ y → f y ≡ y
  pub named : (y : ℕ) → y < length before → name_at now (f y) ≡ name_at before y

-- the outputs of recorded answers, by their names
abbrev pub outs_named : List (List ℕ) → List KeptAnswer → List (List (List ℕ))
outs_named names kept = map (λ k. named names k.outs) kept

-- a list has for each number below a bound another one below it
abbrev pub MapsWithin : ℕ → List ℕ → Type 0
MapsWithin n to = (y : ℕ) → y < n → slice_index_or to y 0 < n

-- the model with this many outputs, by the list of their new numbers; what stopped a learning stays
abbrev pub renumbered_learned : ℕ → List ℕ → Result Learned LearnStop → Result Learned LearnStop
renumbered_learned outputs to (Ok l) = Ok (record {
  model = mealy_of l.model.inputs outputs (renumbered_rows to l.model.rows);
  learner = l.learner;
})
renumbered_learned outputs to (Err stop) = Err stop

-- the same by a function
abbrev pub renamed_learned : ℕ → (ℕ → ℕ) → Result Learned LearnStop → Result Learned LearnStop
renamed_learned outputs f (Ok l) = Ok (record {
  model = mealy_of l.model.inputs outputs (renamed_rows f l.model.rows);
  learner = l.learner;
})
renamed_learned outputs f (Err stop) = Err stop

-- the model is certified, and no machine of fewer states agrees with the answers
pub record IsCertifiedLeast (a b k : ℕ) (ks : List Answer) (model : MealyMachine) : Type 0 where
  pub certified : IsCertified a b k ks model
  pub least : (m : Rows) → IsMachine a m → Gives m ks → length model.rows ≤ length m

-- what is still so where a learning stopped: of a suite that is too large it is so of the renamed model
abbrev pub StillStops : ℕ → ℕ → ℕ → (ℕ → ℕ) → List Answer → LearnStop → Type 0
StillStops a k most f ks (learn.Ask stop) = Unit {0}
StillStops a k most f ks (learn.Crowd words) = IsTooMany most ks words
StillStops a k most f ks (learn.TooLarge model number) =
    IsTooLarge a 4096 k most ks (mealy_of a 4096 (renamed_rows f model.rows)) number

-- the answers and the model are renamed alike; what was so of a learning is so of what it is now
pub record HasSorted (to : List ℕ) (before now : List (List ℕ)) (ks more : List Answer)
    (was is : Result Learned LearnStop) : Type 0 where
  pub f : ℕ → ℕ
  pub g : ℕ → ℕ
  pub renumbering : IsRenumbering to before now f g
  pub answers : more ≡ renamed_answers f ks
  pub are : (a : ℕ) → AreAnswers a ks → AreAnswers a more
  pub nothing : (a : ℕ) → AreAnswers a ks → NothingClashes ks → NothingClashes more
  pub renamed : is ≡ renamed_learned (length now) f was
  pub learned : (kind : Kind) (a b k most : ℕ) → AreAnswers a ks
      → IfOk was (λ l. IsLearned kind a b k most ks l.model l.learner)
      → IfOk is (λ l. IsCertifiedLeast a (length now) k more l.model)
  pub enough : (testing : Testing) (a k : ℕ) → AreAnswers a ks
      → IfOk was (λ l. IsMachine a l.model.rows × IsEnoughFor testing a k ks l.model)
      → IfOk is (λ l. IsEnoughFor testing a k more l.model)
  pub stopped : (a b k most : ℕ) → AreAnswers a ks → IfErr was (StopsAs a b k most ks)
      → IfErr is (StillStops a k most f more)
