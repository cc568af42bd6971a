-- The steps of a desk: what an actor takes of a batch, gives and fails.
use Rattle.std.specs.Prelude.{◌≡◌, ◌⊎◌, ◌↔◌, ℕ, ◌-◌, ◌<◌, ◌==◌, not, List, [], ◌∷◌, ◌++◌, length, filter, slice_index_or, Contains, Bool, true, false, Option, Some, None}
use Rattle.lw_words.specs.Word.{Answer, answer_of, answers_of, IsPrefix, AllDiffer}
use Rattle.lw_words.specs.declared.kept.KeptAnswer.{KeptAnswer}
use Rattle.lw_words.specs.declared.stop.RunStop.{RunStop}
use Rattle.lw_words.specs.declared.stop.RunStop.TheVariants as Run
use Rattle.lw_cache.specs.Caching.{kept_answer}
use Rattle.lw_cache.specs.Clash.{IsClearAfter}
use Rattle.lw_cache.specs.FirstClash.{ClashesFirst}
use Rattle.lw_cache.specs.Known.{IsKnown}
use Rattle.lw_cache.specs.declared.stops.Clash.{Clash}
use Rattle.lw_cache.specs.declared.stops.AskStop.{AskStop}
use Rattle.lw_cache.specs.declared.stops.AskStop.TheVariants as Ask
use Rattle.lw_names.specs.Naming.{Naming, bring, shared}
use Rattle.lw_desk.specs.declared.ask.Give.{Give}
use Rattle.lw_desk.specs.declared.ask.Failed.{Failed}

-- a place of the batch that an actor has taken and neither given nor failed
pub record Claimed : Type 0 where
  pub actor : ℕ
  pub place : ℕ

-- the names, the recorded answers, the claims in the order in which they were taken, the actors that were told that
-- nothing is left or that failed, and the first stop
pub record DeskState : Type 0 where
  pub naming : Naming
  pub kept : List KeptAnswer
  pub claims : List Claimed
  pub ended : List ℕ
  pub stop : Option AskStop

-- the word at a place of the batch
abbrev pub word_at_place : List (List ℕ) → ℕ → List ℕ
word_at_place batch place = slice_index_or batch place []

-- the word is known, or the word of a claimed place begins with it
abbrev pub IsCovered : List (List ℕ) → DeskState → List ℕ → Type 0
IsCovered batch s w = IsKnown (answers_of s.kept) w ⊎ ((c : Claimed) × Contains s.claims c × IsPrefix w (word_at_place batch c.place))

-- the longer word comes first; of equally long ones the one with the smaller place
abbrev pub ComesBefore : List (List ℕ) → ℕ → ℕ → Type 0
ComesBefore batch p q = (length (word_at_place batch q) < length (word_at_place batch p)) ⊎ ((length (word_at_place batch p) ≡ length (word_at_place batch q)) × (p < q))

-- of the places whose words are not covered, the one that comes first
pub record IsFirstFree (batch : List (List ℕ)) (s : DeskState) (place : ℕ) : Type 0 where
  pub within : place < length batch
  pub free : ¬ IsCovered batch s (word_at_place batch place)
  pub first : (other : ℕ) → other < length batch → ComesBefore batch other place → IsCovered batch s (word_at_place batch other)

-- the desk was stopped, or all words of the batch are covered
abbrev pub NothingToTake : List (List ℕ) → DeskState → Type 0
NothingToTake batch s = ((stop : AskStop) × (s.stop ≡ Some stop)) ⊎ ((place : ℕ) → place < length batch → IsCovered batch s (word_at_place batch place))

-- a word of the batch that is not covered, and that no other word of the batch begins with
pub record IsLeft (batch : List (List ℕ)) (s : DeskState) (w : List ℕ) : Type 0 where
  pub within : Contains batch w
  pub free : ¬ IsCovered batch s w
  pub whole : (v : List ℕ) → Contains batch v → IsPrefix w v → v ≡ w

-- these are all such words, each once
pub record AreLeft (batch : List (List ℕ)) (s : DeskState) (words : List (List ℕ)) : Type 0 where
  pub exactly : (w : List ℕ) → Contains words w ↔ IsLeft batch s w
  pub once : AllDiffer words

-- where nothing stopped the desk, this many words are left to take
abbrev pub CountsLeft : List (List ℕ) → DeskState → ℕ → Type 0
CountsLeft batch s left = s.stop ≡ None → (words : List (List ℕ)) × AreLeft batch s words × (length words ≡ left)

abbrev pub after_take : ℕ → ℕ → DeskState → DeskState
after_take actor place s = record {
  naming = s.naming;
  kept = s.kept;
  claims = s.claims ++ record { actor = actor; place = place } ∷ [];
  ended = s.ended;
  stop = s.stop;
}

-- an actor takes free places, first ones first, until it has as many as it wants or nothing is left to take
abbrev pub ActorTakesAll : List (List ℕ) → ℕ → ℕ → List ℕ → DeskState → DeskState → Type 0
ActorTakesAll batch actor wanted [] s t = (t ≡ s) × ((wanted ≡ 0) ⊎ NothingToTake batch s)
ActorTakesAll batch actor wanted (place ∷ places) s t =
    (0 < wanted) × (s.stop ≡ None) × IsFirstFree batch s place × ActorTakesAll batch actor (wanted - 1) places (after_take actor place s) t

abbrev pub without_place : ℕ → List Claimed → List Claimed
without_place place claims = filter (λ c. not (c.place == place)) claims

-- the answer that is given, as it is kept
abbrev pub kept_of : List (List ℕ) → Naming → ℕ → Give → KeptAnswer
kept_of batch naming actor g = kept_answer actor g.run (word_at_place batch g.place) (shared naming actor g.outs)

-- a desk that was stopped keeps its stop; else a clash of the new answer with a clear one stops it
abbrev pub StopsBy : Option AskStop → List Answer → Answer → Option AskStop → Type 0
StopsBy (Some stop) ks k now = now ≡ Some stop
StopsBy None ks k now = (IsClearAfter ks (length ks) k × (now ≡ None)) ⊎ ((clash : Clash) × ClashesFirst ks k clash × (now ≡ Some (Ask.Clash clash)))

abbrev pub after_give : List (List ℕ) → ℕ → Give → DeskState → Option AskStop → DeskState
after_give batch actor g s stop = record {
  naming = bring s.naming actor g.names;
  kept = s.kept ++ kept_of batch (bring s.naming actor g.names) actor g ∷ [];
  claims = without_place g.place s.claims;
  ended = s.ended;
  stop = stop;
}

-- an actor gives the answer to the word of a place: it is kept in every case
pub record ActorGives (batch : List (List ℕ)) (actor : ℕ) (g : Give) (s t : DeskState) : Type 0 where
  pub stop : StopsBy s.stop (answers_of s.kept) (answer_of (kept_of batch (bring s.naming actor g.names) actor g)) t.stop
  pub after : t ≡ after_give batch actor g s t.stop

abbrev pub GivesAll : List (List ℕ) → ℕ → List Give → DeskState → DeskState → Type 0
GivesAll batch actor [] s t = t ≡ s
GivesAll batch actor (g ∷ gs) s t = (u : DeskState) × ActorGives batch actor g s u × GivesAll batch actor gs u t

abbrev pub stop_of : ℕ → RunStop → AskStop
stop_of actor (Run.Sul stop) = Ask.Sul actor stop
stop_of actor Run.NoMemory = Ask.NoMemory

abbrev pub first_stop : Option AskStop → AskStop → Option AskStop
first_stop None stop = Some stop
first_stop (Some first) stop = Some first

abbrev pub without_places : List ℕ → List Claimed → List Claimed
without_places [] claims = claims
without_places (place ∷ places) claims = without_places places (without_place place claims)

-- an actor's system failed, or memory ran out: it gives its places up, and takes no more
abbrev pub after_fail : ℕ → Option Failed → DeskState → DeskState
after_fail actor None s = s
after_fail actor (Some f) s = record {
  naming = s.naming;
  kept = s.kept;
  claims = without_places f.places s.claims;
  ended = actor ∷ s.ended;
  stop = first_stop s.stop (stop_of actor f.stop);
}

-- an actor that was told that nothing is left takes no more
abbrev pub after_done : ℕ → Bool → DeskState → DeskState
after_done actor false s = s
after_done actor true s = record { naming = s.naming; kept = s.kept; claims = s.claims; ended = actor ∷ s.ended; stop = s.stop }
