-- Hands, and what their sessions tell.
use Rattle.std.proofs.Common.{◌≡◌, ℕ, ◌<◌, List, [], ◌∷◌, length, map, get_or, take, drop, ◌++◌, take_at, append_assoc, append-nil, ap, sym, ◌∙◌, subst₂, arith}
use Rattle.std.proofs.lemmas.List.{get_or-map, length-map, map_push}
use Rattle.lw_sul.specs.SessionState.{SessionState}
use Rattle.lw_turn.specs.declared.shared.Entry.{Entry}
use Rattle.lw_desk.specs.History.{DeskOpening}
use Rattle.lw_desk.specs.declared.ask.Ask.{Ask}
use Rattle.lw_desk.specs.declared.ask.Reply.{Reply}
use Rattle.lw_pool.specs.Pool.{Seen, Member, nobody, seen_at}
use Rattle.lw_pool.specs.declared.hands.Hand.{Hand}
use Rattle.lw_pool.specs.bodies.Crew.{HasWorkedOff, AllWorkedOff}

-- what the sessions of hands tell
abbrev pub seen_in : {S : Type 0} → List (Hand S) → List Seen
seen_in hands = map (λ m. m.seen) (map (λ h. h.worker) hands)

module _ {S : Type 0} where
  pub seen_long : (hands : List (Hand S)) → length (seen_in hands) ≡ length hands
  seen_long hands = length-map (map (λ (h : Hand S). h.worker) hands) (λ (m : Member S). m.seen) ∙ length-map hands (λ (h : Hand S). h.worker)

  pub seen_here : (hands : List (Hand S)) (i : ℕ) (d : Hand S) → i < length hands → seen_at (seen_in hands) i ≡ (get_or hands i d).worker.seen
  seen_here hands i d lt =
      get_or-map (λ (m : Member S). m.seen) (map (λ (h : Hand S). h.worker) hands) i d.worker nobody (omega (arith, lt, length-map hands (λ (h : Hand S). h.worker)))
      ∙ ap (λ (m : Member S). m.seen) (get_or-map (λ (h : Hand S). h.worker) hands i d d.worker lt)

  pub worked_seen : (o : DeskOpening) (es : List (Entry Ask Reply)) (was now : List (Hand S)) → length now ≡ length was → AllWorkedOff o es was now → (i : ℕ) → i < length (seen_in was) → HasWorkedOff o es i (seen_at (seen_in was) i) (seen_at (seen_in now) i)
  worked_seen o es [] now long worked i lt = absurd (omega arith)
  worked_seen o es (h ∷ was) now long worked i lt =
      let here : i < length (h ∷ was) = omega (arith, lt, seen_long (h ∷ was)) in
      subst₂ (HasWorkedOff o es i) (sym (seen_here (h ∷ was) i h here)) (sym (seen_here now i h (omega (arith, here, long)))) (worked i h here)

-- a slice that was handed on and written back
pub taken_all : {X : Type 0} (now items : List X) (n : ℕ) → length now ≡ n → take n (now ++ drop (length now) items) ≡ now
taken_all now items n long = take_at now (drop (length now) items) n long

-- one session more in a hand of its own
pub hand_more : {S : Type 0} (f : SessionState S → Member S) (hands after : List (Hand S)) (rest left all : List (SessionState S)) (s : SessionState S) (h : Hand S) → map (λ h. h.worker) hands ++ map f rest ≡ map f all → rest ≡ s ∷ left → after ≡ hands ++ h ∷ [] → h.worker ≡ f s → map (λ h. h.worker) after ++ map f left ≡ map f all
hand_more f hands after rest left all s h made steps pushed is =
    ap (λ (hs : List (Hand _)). map (λ (h : Hand _). h.worker) hs ++ map f left) pushed
    ∙ (ap (λ (ms : List (Member _)). ms ++ map f left) (map_push (λ (h : Hand _). h.worker) hands h)
    ∙ (append_assoc (map (λ (h : Hand _). h.worker) hands) (h.worker ∷ []) (map f left)
    ∙ (ap (λ (m : Member _). map (λ (h : Hand _). h.worker) hands ++ m ∷ map f left) is
    ∙ (ap (λ (ss : List (SessionState _)). map (λ (h : Hand _). h.worker) hands ++ map f ss) (sym steps) ∙ made))))

pub hands_all : {S : Type 0} (f : SessionState S → Member S) (hands : List (Hand S)) (rest all : List (SessionState S)) → map (λ h. h.worker) hands ++ map f rest ≡ map f all → length rest ≡ 0 → map (λ h. h.worker) hands ≡ map f all
hands_all f hands [] all made done = sym (append-nil (map (λ (h : Hand _). h.worker) hands)) ∙ made
hands_all f hands (s ∷ rest) all made done = absurd (omega (arith, done))

-- one hand less whose session was put behind the others
pub session_more : {S : Type 0} (f : SessionState S → Member S) (sessions after : List (SessionState S)) (rest left all : List (Hand S)) (s : SessionState S) (h : Hand S) → map f sessions ++ map (λ h. h.worker) rest ≡ map (λ h. h.worker) all → rest ≡ h ∷ left → after ≡ sessions ++ s ∷ [] → h.worker ≡ f s → map f after ++ map (λ h. h.worker) left ≡ map (λ h. h.worker) all
session_more f sessions after rest left all s h given steps pushed is =
    ap (λ (ss : List (SessionState _)). map f ss ++ map (λ (h : Hand _). h.worker) left) pushed
    ∙ (ap (λ (ms : List (Member _)). ms ++ map (λ (h : Hand _). h.worker) left) (map_push f sessions s)
    ∙ (append_assoc (map f sessions) (f s ∷ []) (map (λ (h : Hand _). h.worker) left)
    ∙ (ap (λ (m : Member _). map f sessions ++ m ∷ map (λ (h : Hand _). h.worker) left) (sym is)
    ∙ (ap (λ (hs : List (Hand _)). map f sessions ++ map (λ (h : Hand _). h.worker) hs) (sym steps) ∙ given))))

pub sessions_all : {S : Type 0} (f : SessionState S → Member S) (sessions : List (SessionState S)) (rest all : List (Hand S)) → map f sessions ++ map (λ h. h.worker) rest ≡ map (λ h. h.worker) all → length rest ≡ 0 → map f sessions ≡ map (λ h. h.worker) all
sessions_all f sessions [] all given done = sym (append-nil (map f sessions)) ∙ given
sessions_all f sessions (h ∷ rest) all given done = absurd (omega (arith, done))
