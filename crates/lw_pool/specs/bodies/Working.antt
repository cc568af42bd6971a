-- What a worker does with its places, and what that leaves of its session.
use Rattle.std.specs.Prelude.{◌≡◌, ◌⊎◌, ℕ, ◌<◌, ◌≤◌, List, [], ◌∷◌, ◌++◌, length, true, Option, Some, None, is_some}
use Rattle.std.specs.List.{All}
use Rattle.lw_words.specs.Word.{IsName, AllDiffer, named}
use Rattle.lw_words.specs.declared.stop.SulStop.{SulStop}
use Rattle.lw_words.specs.declared.stop.RunStop.{RunStop}
use Rattle.lw_words.specs.declared.stop.RunStop.TheVariants as Run
use Rattle.lw_names.specs.Names.{with_names, IsGrown}
use Rattle.lw_sul.specs.SessionState.{run_of}
use Rattle.lw_sul.specs.Told.{Answers}
use Rattle.lw_desk.specs.Step.{word_at_place}
use Rattle.lw_desk.specs.History.{settled_places, failed_places}
use Rattle.lw_desk.specs.declared.ask.Ask.{Ask}
use Rattle.lw_desk.specs.declared.ask.Give.{Give}
use Rattle.lw_desk.specs.declared.ask.Failed.{Failed}
use Rattle.lw_pool.specs.Pool.{Seen, Same}
use Rattle.lw_pool.specs.Working.{HasGiven, IsUnanswered, GivesBetween}

-- what became of the word behind these answers
abbrev pub FailsAfter : Seen → Seen → Option Failed → Type 0
FailsAfter mid now None = now ≡ mid
FailsAfter mid now (Some f) = IsUnanswered mid now f.stop

-- what a worker asks of the desk when it has asked its system the words of its places
pub record HasAnswered (batch : List (List ℕ)) (held : List ℕ) (was now : Seen) (ask : Ask) : Type 0 where
  pub places : settled_places ask ≡ held
  pub mid : Seen
  pub gives : GivesBetween batch was mid ask.gives.items
  pub fails : FailsAfter mid now ask.failed
  pub some : ask.failed ≡ None → 0 < ask.wanted
  pub none : is_some ask.failed ≡ true → (0 < length (failed_places ask.failed)) × (ask.wanted ≡ 0)
  pub few : ask.wanted ≤ 16
