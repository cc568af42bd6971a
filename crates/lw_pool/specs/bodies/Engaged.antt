-- How far a worker is in a batch.
use Rattle.std.specs.Prelude.{◌≡◌, ◌⊎◌, ℕ, ◌<◌, ◌≤◌, List, [], ◌++◌, length, Bool, true, false, Some, None, Contains}
use Rattle.std.specs.List.{All}
use Rattle.lw_words.specs.declared.stop.SulStop.{SulStop}
use Rattle.lw_words.specs.declared.stop.RunStop.{RunStop}
use Rattle.lw_words.specs.declared.stop.RunStop.TheVariants as Run
use Rattle.lw_turn.specs.declared.shared.Entry.{Entry}
use Rattle.lw_turn.specs.declared.view.View.{View}
use Rattle.lw_names.specs.Naming.{own_names}
use Rattle.lw_desk.specs.History.{DeskOpening, seat_of, actor_of, names_given, gives_of}
use Rattle.lw_desk.specs.declared.ask.Ask.{Ask}
use Rattle.lw_desk.specs.declared.ask.Reply.{Reply}
use Rattle.lw_desk.specs.declared.ask.Failed.{Failed}
use Rattle.lw_pool.specs.Pool.{Seen}
use Rattle.lw_pool.specs.Working.{GivesBetween, IsUnanswered}

-- no own entry has failed places
abbrev pub NobodyFailed : List (Entry Ask Reply) → Type 0
NobodyFailed mine = All (λ e. e.ask.failed ≡ None) mine

-- the pass of a worker and the reply that it was given last: from its start in the batch its session has answered what its own
-- entries give, one after the other, and it holds the places of the reply
pub record Working (start now : Seen) (v : View DeskOpening Ask Reply) (reply : Reply) : Type 0 where
  pub own : actor_of v.mine ≡ v.number
  pub begun : 0 < length v.mine
  pub held : (seat_of v.opening v.mine).held ≡ reply.places
  pub going : 0 < length reply.places → (seat_of v.opening v.mine).ended ≡ false
  pub ended : reply.places ≡ [] → (seat_of v.opening v.mine).ended ≡ true
  pub names : (seat_of v.opening v.mine).own ≡ own_names v.opening.naming v.number ++ names_given (gives_of v.mine)
  pub within : All (λ p. p < length v.opening.batch) reply.places
  pub mid : Seen
  pub gives : GivesBetween v.opening.batch start mid (gives_of v.mine)
  pub after : (now ≡ mid) ⊎ ((stop : RunStop) × IsUnanswered mid now stop × (reply.places ≡ []))
  pub failed : (e : Entry Ask Reply) (f : Failed) (stop : SulStop) → Contains v.mine e → e.ask.failed ≡ Some f → f.stop ≡ Run.Sul stop → now.stop ≡ Some stop
  pub unfailed : 0 < length reply.places → NobodyFailed v.mine
  pub live : NobodyFailed v.mine → now ≡ mid

-- a session whose names the desk has, if it is live, and that brings only names that it may
pub record IsReady (free : Bool) (own : List (List ℕ)) (s : Seen) : Type 0 where
  pub names : s.stop ≡ None → s.names ≡ own
  pub declared : free ≡ false → s.most ≤ length s.names
  pub few : free ≡ true → s.most ≤ 256
