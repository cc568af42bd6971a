-- What a history of a desk has led to: which words were answered, which instance's runs the answers are, and why it
-- stopped.
use Rattle.std.specs.Prelude.{◌≡◌, ℕ, ◌<◌, List, [], ◌∷◌, ◌++◌, length, map, Some, None, Contains}
use Rattle.std.specs.List.{All}
use Rattle.lw_words.specs.Word.{answers_of, AllDiffer, named}
use Rattle.lw_words.specs.declared.kept.KeptAnswer.{KeptAnswer}
use Rattle.lw_words.specs.declared.stop.SulStop.{SulStop}
use Rattle.lw_words.specs.declared.stop.RunStop.TheVariants as Run
use Rattle.lw_cache.specs.Asked.{IsAsked, AreAsked}
use Rattle.lw_cache.specs.Clash.{NothingClashes}
use Rattle.lw_cache.specs.FirstClash.{IsNewClash}
use Rattle.lw_cache.specs.Known.{IsKnown}
use Rattle.lw_cache.specs.declared.stops.Clash.{Clash}
use Rattle.lw_cache.specs.declared.stops.AskStop.TheVariants as Ask
use Rattle.lw_turn.specs.declared.shared.Entry.{Entry}
use Rattle.lw_turn.specs.History.{entries_of}
use Rattle.lw_names.specs.Naming.{own_names}
use Rattle.lw_desk.specs.Step.{DeskState, word_at_place}
use Rattle.lw_desk.specs.History.{DeskOpening, gives_of}
use Rattle.lw_desk.specs.Ending.{NamedRun, kept_runs}
use Rattle.lw_desk.specs.declared.ask.Ask.{Ask}
use Rattle.lw_desk.specs.declared.ask.Reply.{Reply}
use Rattle.lw_desk.specs.declared.ask.Give.{Give}
use Rattle.lw_desk.specs.declared.ask.Failed.{Failed}

-- answers as an actor gives them, by the names of its own
abbrev pub given_runs : List (List ℕ) → List (List ℕ) → List Give → List NamedRun
given_runs batch own gs = map (λ g. record { run = g.run; word = word_at_place batch g.place; names = named own g.outs }) gs

-- answers that are kept one after the other, the word of each not known before: it begins no earlier clear answer's word
abbrev pub FreshFrom : List KeptAnswer → List KeptAnswer → Type 0
FreshFrom kept [] = Unit {0}
FreshFrom kept (k ∷ ks) = (¬ IsKnown (answers_of kept) k.word) × FreshFrom (kept ++ k ∷ []) ks

-- the answers that a history has brought: to words that had to be asked, each once; and those of an instance are the answers
-- that its actor gave, in its order
pub record Brought (o : DeskOpening) (es : List (Entry Ask Reply)) (t : DeskState) : Type 0 where
  pub gained : List KeptAnswer
  pub at_end : t.kept ≡ o.kept ++ gained
  pub asked : All (λ k. IsAsked o.batch (answers_of o.kept) k.word) gained
  pub once : AllDiffer (map (λ k. k.word) gained)
  pub fresh : FreshFrom o.kept gained
  pub actors : All (λ k. k.instance < o.actors) gained
  pub below : All (λ k. All (λ y. y < length t.naming.names) k.outs) gained
  pub runs : (actor : ℕ) → kept_runs t.naming.names actor gained ≡ given_runs o.batch (own_names t.naming actor) (gives_of (entries_of actor es))
  pub clear : t.stop ≡ None → NothingClashes (answers_of o.kept) → NothingClashes (answers_of t.kept)

-- where nothing stopped the desk, an actor was told that nothing is left, and no place is held: all words of the batch are known,
-- and just those that had to be asked were answered
pub record Settled (o : DeskOpening) (t : DeskState) (gained : List KeptAnswer) : Type 0 where
  pub known : All (IsKnown (answers_of t.kept)) o.batch
  pub exactly : AreAsked o.batch (answers_of o.kept) (map (λ k. k.word) gained)

-- among the entries is one in which the actor failed with this stop of its system
abbrev pub FailedBy : List (Entry Ask Reply) → ℕ → SulStop → Type 0
FailedBy es actor stop = (e : Entry Ask Reply) × Contains es e × (e.actor ≡ actor) × ((f : Failed) × (e.ask.failed ≡ Some f) × (f.stop ≡ Run.Sul stop))

-- a system's stop is one that its actor failed with, and a clash is one of the first answer that the history has brought and
-- that clashes with a clear one
pub record StopIs (o : DeskOpening) (es : List (Entry Ask Reply)) (t : DeskState) : Type 0 where
  pub sul : (actor : ℕ) (stop : SulStop) → t.stop ≡ Some (Ask.Sul actor stop) → FailedBy es actor stop
  pub clash : (c : Clash) → t.stop ≡ Some (Ask.Clash c) → IsNewClash (length o.kept) t.kept c
