-- What a session does of a batch.
use Rattle.std.specs.Prelude.{◌≡◌, ◌⊎◌, ℕ, ◌<◌, ◌≤◌, List, [], ◌∷◌, ◌++◌, length, Some, None, Contains}
use Rattle.std.specs.List.{All}
use Rattle.lw_words.specs.Word.{IsName, AllDiffer, named}
use Rattle.lw_words.specs.declared.stop.SulStop.{SulStop}
use Rattle.lw_words.specs.declared.stop.RunStop.{RunStop}
use Rattle.lw_words.specs.declared.stop.RunStop.TheVariants as Run
use Rattle.lw_names.specs.Names.{with_names, IsGrown}
use Rattle.lw_sul.specs.SessionState.{run_of}
use Rattle.lw_sul.specs.Told.{Answers}
use Rattle.lw_desk.specs.Step.{word_at_place}
use Rattle.lw_desk.specs.History.{gives_of}
use Rattle.lw_turn.specs.declared.shared.Entry.{Entry}
use Rattle.lw_desk.specs.declared.ask.Reply.{Reply}
use Rattle.lw_desk.specs.declared.ask.Ask.{Ask}
use Rattle.lw_desk.specs.declared.ask.Give.{Give}
use Rattle.lw_desk.specs.declared.ask.Failed.{Failed}
use Rattle.lw_pool.specs.Pool.{Seen, Same}

-- the word of a place was asked, and this is its answer
pub record HasGiven (batch : List (List ℕ)) (was now : Seen) (g : Give) : Type 0 where
  pub same : Same was now
  pub journal : now.journal ≡ was.journal ++ run_of (word_at_place batch g.place) g.outs ∷ []
  pub run : g.run ≡ length was.journal
  pub long : length g.outs ≡ length (word_at_place batch g.place)
  pub outputs : All (λ y. y < was.outputs) g.outs
  pub answers : Answers was.origin.machine (word_at_place batch g.place) g.outs
  pub names : now.names ≡ was.names ++ g.names
  pub brought : now.names ≡ with_names was.names (named now.names g.outs)
  pub numbers : All (λ y. y < length now.names) g.outs
  pub few : length now.names ≤ was.most
  pub each : All IsName now.names
  pub differ : AllDiffer now.names
  pub live : now.stop ≡ None
  pub was_live : was.stop ≡ None

-- a word was asked, and not answered
pub record IsUnanswered (was now : Seen) (stop : RunStop) : Type 0 where
  pub same : Same was now
  pub journal : now.journal ≡ was.journal
  pub names : IsGrown was.names now.names
  pub few : (now.names ≡ was.names) ⊎ (length now.names ≤ was.most)
  pub sul : (s : SulStop) → stop ≡ Run.Sul s → now.stop ≡ Some s
  pub memory : stop ≡ Run.NoMemory → now ≡ was
  pub again : (s : SulStop) → was.stop ≡ Some s → now ≡ was

-- answers that were given one after the other
abbrev pub GivesBetween : List (List ℕ) → Seen → Seen → List Give → Type 0
GivesBetween batch was now [] = now ≡ was
GivesBetween batch was now (g ∷ gs) = (mid : Seen) × HasGiven batch was mid g × GivesBetween batch mid now gs

-- a session did of a batch what its own entries say: it answered what they give, one after the other, and was maybe asked a word
-- more, which it refused; where an entry says that its system stopped, it did so, and where none says that anything failed, nothing did
pub record DidItsPart (batch : List (List ℕ)) (mine : List (Entry Ask Reply)) (was now : Seen) : Type 0 where
  pub answered : Seen
  pub gives : GivesBetween batch was answered (gives_of mine)
  pub after : (now ≡ answered) ⊎ ((stop : RunStop) × IsUnanswered answered now stop)
  pub failed : (e : Entry Ask Reply) (f : Failed) (stop : SulStop) → Contains mine e → e.ask.failed ≡ Some f → f.stop ≡ Run.Sul stop → now.stop ≡ Some stop
  pub live : All (λ e. e.ask.failed ≡ None) mine → now ≡ answered
