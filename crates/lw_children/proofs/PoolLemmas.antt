-- A pool of children's sessions, before anything was asked and once a learning has ended.
use Rattle.std.proofs.Common.{◌≡◌, ℕ, zero, suc, ◌+◌, ◌<◌, ◌≤◌, List, [], length, map, replicate, get_or, Option, Some, None, is_some, refl, ap, sym, ◌∙◌, subst, arith}
use Rattle.std.proofs.lemmas.Bool.{false≢true}
use Rattle.std.proofs.lemmas.List.{get_or-map, length-map}
use Rattle.lw_mealy.specs.Machine.{Rows}
use Rattle.lw_mealy.specs.Origin.{Origin}
use Rattle.lw_sul.specs.SessionState.{SessionState}
use Rattle.lw_cache.specs.declared.stops.AskStop.{AskStop}
use Rattle.lw_names.specs.Naming.{Naming, own_names, HasLists}
use Rattle.lw_desk.specs.Ending.{IsShared}
use Rattle.lw_pool.specs.Fitting.{FitsBy, Fits}
use Rattle.lw_pool.specs.Opening.{MayJoin, AllMayJoin}
use Rattle.lw_pool.specs.Pool.{Seen, Member, PoolState, nobody, origins_of, seen_at, seen_of}
use Rattle.lw_pool.specs.Sharing.{declared_by}
use Rattle.lw_pool.proofs.JoinLemmas.{declared_shared}
use Rattle.lw_workers.specs.Leaving.{HasLearned}
use Rattle.lw_outside.specs.Links.{LinkState}
use Rattle.lw_system.specs.NewLines.{count_of, most_outputs_of, first_names}
use Rattle.lw_line.specs.LineState.{LineState}
use Rattle.lw_children.specs.Crews.{AreNewSessions, FitsOutputs, IsChildSeen, child_member, first_naming, line_seen, new_session}

none_brought : (n i : ℕ) → get_or {A = List (List ℕ)} (replicate n []) i [] ≡ []
none_brought zero i = refl
none_brought (suc n) zero = refl
none_brought (suc n) (suc i) = none_brought n i

-- the names that are there from the start are shared
pub first_shared : (outputs : Option (List (List ℕ))) → IsShared (first_naming outputs)
first_shared None = λ i y lt. absurd (omega (arith, lt, ap (λ (l : List (List ℕ)). length l) (none_brought 16 i)))
first_shared (Some names) = declared_shared names

-- and there is a list of what each instance brings, where they aren't declared
pub first_lists : (outputs : Option (List (List ℕ))) (naming : Naming) (n : ℕ) → naming ≡ first_naming outputs → n ≤ 16 → HasLists naming.brought n
first_lists None naming n is few = subst (λ (x : Naming). HasLists x.brought n) (sym is) few
first_lists (Some names) naming n is few = subst (λ (x : Naming). HasLists x.brought n) (sym is) tt

own_first : (outputs : Option (List (List ℕ))) (i : ℕ) → first_names outputs ≡ own_names (first_naming outputs) i
own_first None i = sym (none_brought 16 i)
own_first (Some names) i = refl

fits_first : (outputs : Option (List (List ℕ))) → Fits (first_naming outputs) (first_names outputs) (most_outputs_of outputs) (count_of outputs) None
fits_first None = (refl, omega arith, refl)
fits_first (Some names) = (refl, refl, refl)

-- names that fit those of a pool fit the outputs that were declared
fits_outputs : (outputs : Option (List (List ℕ))) (naming : Naming) (names : List (List ℕ)) (most count : ℕ) (m : Option Rows) → declared_by naming.names naming.brought ≡ declared_by (first_naming outputs).names (first_naming outputs).brought → Fits naming names most count m → FitsOutputs outputs names most count
fits_outputs outputs naming names most count m same fits = by outputs naming.names naming.brought same fits
  where
    by : (outputs : Option (List (List ℕ))) (shared : List (List ℕ)) (brought : Option (List (List (List ℕ)))) → declared_by shared brought ≡ declared_by (first_naming outputs).names (first_naming outputs).brought → FitsBy brought shared names most count m → FitsOutputs outputs names most count
    by None shared None same fits = absurd (false≢true (sym (ap is_some same)))
    by None shared (Some b) same fits = (fits.0, fits.1)
    by (Some ns) shared None same fits = let e = ap (some_names ns) same in (fits.0 ∙ e, fits.1 ∙ ap (λ (l : List (List ℕ)). length l) e)
      where
        some_names : List (List ℕ) → Option (List (List ℕ)) → List (List ℕ)
        some_names ns None = ns
        some_names ns (Some l) = l
    by (Some ns) shared (Some b) same fits = absurd (false≢true (ap is_some same))

module _ {L : Type 0} (state : L → LinkState) where
  abbrev seens : List (Member (LineState L)) → List Seen
  seens ms = map (λ m. m.seen) ms

  pub children_join : (letters : List (List ℕ)) (outputs : Option (List (List ℕ))) (base : ℕ) (naming : Naming) (inputs count : ℕ) (sessions : List (SessionState (LineState L))) → AreNewSessions state letters outputs base sessions → naming ≡ first_naming outputs → inputs ≡ length letters → count ≡ count_of outputs → AllMayJoin (child_member state) naming inputs count sessions
  children_join letters outputs base naming inputs count sessions new naming_is inputs_is count_is i d lt =
      let s = get_or sessions i d in
      subst (λ (x : SessionState (LineState L)). MayJoin naming inputs count i ((child_member state) x).seen) (sym (new i d lt).0)
      (subst (λ (n : Naming). MayJoin n inputs count i ((child_member state) (new_session i s.sul.link letters outputs)).seen) (sym naming_is) (record {
        instance = refl;
        inputs_is = sym inputs_is;
        outputs_is = sym count_is;
        journal = refl;
        live = refl;
        fits = fits_first outputs;
        names = own_first outputs i;
      }))

  pub seen_there : (sessions : List (SessionState (LineState L))) (p : PoolState (LineState L)) → map (child_member state) sessions ≡ p.members → (i : ℕ) (d : SessionState (LineState L)) → i < length sessions → seen_at (seen_of p) i ≡ line_seen state (get_or sessions i d)
  seen_there sessions p are i d lt =
      ap (λ (ms : List (Member (LineState L))). seen_at (seens ms) i) (sym are)
      ∙ (get_or-map (λ (m : Member (LineState L)). m.seen) (map (child_member state) sessions) i ((child_member state) d) nobody (rw (length-map sessions (child_member state)) lt)
      ∙ ap (λ (m : Member (LineState L)). m.seen) (get_or-map (child_member state) sessions i d ((child_member state) d) lt))

  origin_there : (seen : List Seen) (i : ℕ) (o : Origin) → i < length seen → get_or (origins_of seen) i o ≡ (seen_at seen i).origin
  origin_there seen i o lt = get_or-map (λ (s : Seen). s.origin) seen i nobody o lt

  pub as_many : (sessions : List (SessionState (LineState L))) (p : PoolState (LineState L)) → map (child_member state) sessions ≡ p.members → length (seen_of p) ≡ length sessions
  as_many sessions p are = ap (λ (ms : List (Member (LineState L))). length (seens ms)) (sym are) ∙ (length-map (map (child_member state) sessions) (λ (m : Member (LineState L)). m.seen) ∙ length-map sessions (child_member state))

  -- what is seen of the sessions of children once a learning over them has ended
  pub children_seen : (letters : List (List ℕ)) (outputs : Option (List (List ℕ))) (base : ℕ) (sessions later : List (SessionState (LineState L))) (before now : PoolState (LineState L)) (stop : Option AskStop)
      → AreNewSessions state letters outputs base sessions → map (child_member state) sessions ≡ before.members → before.naming ≡ first_naming outputs → HasLearned before now stop → map (child_member state) later ≡ now.members
      → (length later ≡ length sessions) × ((i : ℕ) (d : SessionState (LineState L)) → i < length later → IsChildSeen letters outputs (base + i) (line_seen state (get_or later i d)))
  children_seen letters outputs base sessions later before now stop new was naming_is learned are = (count, each)
    where
      count : length later ≡ length sessions
      count = sym (as_many later now are) ∙ (learned.sessions ∙ as_many sessions before was)

      each : (i : ℕ) (d : SessionState (LineState L)) → i < length later → IsChildSeen letters outputs (base + i) (line_seen state (get_or later i d))
      each i d lt =
          let there = seen_there later now are i d lt in
          let first : i < length sessions = omega (arith, lt, count) in
          let within : i < length (seen_of now) = omega (arith, lt, as_many later now are) in
          let within' : i < length (seen_of before) = omega (arith, first, as_many sessions before was) in
          let made = new i d first in
          let origin : (seen_at (seen_of now) i).origin ≡ record { machine = None; link = Some (base + i); letters = Some letters } =
          sym (origin_there (seen_of now) i nobody.origin within)
          ∙ (ap (λ (os : List Origin). get_or os i nobody.origin) learned.leaves.same.origins
          ∙ (origin_there (seen_of before) i nobody.origin within'
          ∙ (ap (λ (s : Seen). s.origin) (seen_there sessions before was i d first)
          ∙ (ap (λ (s : SessionState (LineState L)). let o : Origin = record { machine = None; link = Some (state (get_or sessions i d).sul.link).number; letters = Some s.sul.letters } in o) made.0
          ∙ ap (λ (n : ℕ). let o : Origin = record { machine = None; link = Some n; letters = Some letters } in o) made.1)))) in
          let member = learned.stands.members i within in
          let fits = fits_outputs outputs now.naming _ _ _ _ (learned.leaves.same.names ∙ ap (λ (n : Naming). declared_by n.names n.brought) naming_is) member.fits in
          subst (IsChildSeen letters outputs (base + i)) there (record { origin = origin; fits = fits })
