-- Links that are retired.
use Rattle.std.proofs.Common.{◌≡◌, ◌≢◌, ℕ, ◌+◌, ◌<◌, ◌≤◌, List, [], ◌∷◌, ◌++◌, length, map, get_or, Contains, Bool, true, false, Option, Some, None, option_map, refl, ap, sym, ◌∙◌, subst, arith, length-append, if◌then◌else◌}
use Rattle.std.specs.List.{All, AllPairs}
use Rattle.std.proofs.Math.ListN.{get_or-map}
use Rattle.std.proofs.lemmas.List.{get_or_default, length-map, map-append}
use Rattle.std.proofs.lemmas.List.Elements.{All-map, All-push}
use Rattle.std.proofs.lemmas.List.Quantifiers.{all_pairs_push}
use Rattle.std.proofs.lemmas.Option.{none-some, same_Some}
use Rattle.lw_words.proofs.Pigeonhole.{no_more_than}
use Rattle.lw_outside.specs.Links.{Transcript}
use Rattle.lw_outside.specs.Memory.{HasHeard, MemoryLinkState, Speaker, MemorySpawnerState, is_planned, new_link, next_link, told_link, speaker_at, transcript_of}
use Rattle.lw_outside.specs.declared.transcript.Transcript.{Transcript as Kept}
use Rattle.lw_outside.specs.bodies.Spawner.{KeepsRetired}

number_by : (t : Bool) (o : Option Speaker) (n room : ℕ) (plan : List ℕ) (l : MemoryLinkState) → Some l ≡ (if t then None else option_map (λ speaker. new_link n speaker room plan) o) → l.number ≡ n
number_by true o n room plan l is = absurd (none-some l (sym is))
number_by false None n room plan l is = absurd (none-some l (sym is))
number_by false (Some s) n room plan l is = ap (λ (k : MemoryLinkState). k.number) (same_Some l (new_link n s room plan) is)

-- the number of the link that is started next
pub number_of_next : (s : MemorySpawnerState) (l : MemoryLinkState) → Some l ≡ next_link s → l.number ≡ s.started
number_of_next s l is = number_by (is_planned s.plan s.made) (speaker_at s.speakers s.started) s.started s.room _ l is

told_numbers : (ls : List MemoryLinkState) → map (λ r. r.number) (map told_link ls) ≡ map (λ l. l.number) ls
told_numbers [] = refl
told_numbers (l ∷ ls) = ap (λ (ns : List ℕ). l.number ∷ ns) (told_numbers ls)

differs_from_all : (ns : List ℕ) (n : ℕ) → ¬ Contains ns n → (k d : ℕ) → k < length ns → get_or ns k d ≢ n
differs_from_all ns n misses k d lt e = misses (k, lt, get_or_default ns k n d lt ∙ e)

more_differ : (ns : List ℕ) (n : ℕ) → AllPairs (λ a b. a ≢ b) ns → ¬ Contains ns n → AllPairs (λ a b. a ≢ b) (ns ++ n ∷ [])
more_differ ns n differ misses = all_pairs_push (λ a b. a ≢ b) ns n differ (differs_from_all ns n misses)

-- fewer links are retired than were started, while one is out
few_before : (started capacity : ℕ) (retired : List MemoryLinkState) (transcripts : List Transcript) (l : MemoryLinkState) → KeepsRetired started capacity retired transcripts → l.number < started → ¬ Contains (map (λ r. r.number) (map told_link retired)) l.number → length retired + 1 ≤ started
few_before started capacity retired transcripts l keeps lt once =
    let ns : List ℕ = map (λ l. l.number) retired in
    let misses : ¬ Contains ns l.number = subst (λ (ns : List ℕ). ¬ Contains ns l.number) (told_numbers retired) once in
    let below : All (λ n. n < started) (ns ++ l.number ∷ []) = All-push (λ n. n < started) ns l.number keeps.below lt in
    let few : length (ns ++ l.number ∷ []) ≤ started = no_more_than started (ns ++ l.number ∷ []) below (more_differ ns l.number keeps.differ misses) in
    omega (arith, few, length-append ns (l.number ∷ []), length-map retired (λ l. l.number))

room_before : (started capacity : ℕ) (retired : List MemoryLinkState) (transcripts : List Transcript) (l : MemoryLinkState) → KeepsRetired started capacity retired transcripts → l.number < started → ¬ Contains (map (λ r. r.number) (map told_link retired)) l.number → length transcripts < capacity
room_before started capacity retired transcripts l keeps lt once =
    let few : length retired + 1 ≤ started = few_before started capacity retired transcripts l keeps lt once in
    let size : length transcripts ≡ length retired = ap (λ (ts : List Transcript). length ts) keeps.told ∙ length-map retired transcript_of in
    omega (arith, keeps.room)

keeps_one_more : (started capacity after : ℕ) (retired now : List MemoryLinkState) (transcripts told : List Transcript) (l : MemoryLinkState) → KeepsRetired started capacity retired transcripts → l.number < started → ¬ Contains (map (λ r. r.number) (map told_link retired)) l.number → HasHeard l → capacity ≤ after → now ≡ retired ++ l ∷ [] → told ≡ transcripts ++ transcript_of l ∷ [] → KeepsRetired started after now told
keeps_one_more started capacity after retired now transcripts told l keeps lt once heard le is tells =
    let ns : List ℕ = map (λ l. l.number) retired in
    let misses : ¬ Contains ns l.number = subst (λ (ns : List ℕ). ¬ Contains ns l.number) (told_numbers retired) once in
    let mapped : ns ++ l.number ∷ [] ≡ map (λ l. l.number) now = sym (ap (map (λ l. l.number)) is ∙ map-append (λ l. l.number) retired (l ∷ [])) in
    record {
      told = tells ∙ (ap (λ (ts : List Transcript). ts ++ transcript_of l ∷ []) keeps.told ∙ sym (ap (map transcript_of) is ∙ map-append transcript_of retired (l ∷ [])));
      heard = subst (λ (ls : List MemoryLinkState). All HasHeard ls) (sym is) (All-push HasHeard retired l keeps.heard heard);
      below = subst (λ (ns : List ℕ). All (λ n. n < started) ns) mapped (All-push (λ n. n < started) ns l.number keeps.below lt);
      differ = subst (λ (ns : List ℕ). AllPairs (λ a b. a ≢ b) ns) mapped (more_differ ns l.number keeps.differ misses);
      few = let few : length retired + 1 ≤ started = few_before started capacity retired transcripts l keeps lt once in omega (arith, few, ap (λ (ls : List MemoryLinkState). length ls) is, length-append retired (l ∷ []));
      room = omega (arith, keeps.room);
    }

abbrev told_of : List Kept → List Transcript
told_of ts = map (λ t. record { sent = t.sent; received = t.received }) ts

abbrev told_of_one : List ℕ → List ℕ → List Transcript
told_of_one sent received = record { sent = sent; received = received } ∷ []

abbrev links_of : List (MemoryLinkState × Unit {0}) → List MemoryLinkState
links_of pairs = map (λ r. r.0) pairs

abbrev IsOut : ℕ → List MemoryLinkState → MemoryLinkState → Type 0
IsOut started retired l = (l.number < started) × ¬ Contains (map (λ r. r.number) (map told_link retired)) l.number

-- a link is retired: its transcript is put last, and it itself into the log
pub has_room : (started capacity : ℕ) (pairs : List (MemoryLinkState × Unit {0})) (ts : List Kept) (s : MemorySpawnerState) (l : MemoryLinkState) → KeepsRetired started capacity (links_of pairs) (told_of ts) → started ≡ s.started → links_of pairs ≡ s.retired → IsOut s.started s.retired l → length ts < capacity
has_room started capacity pairs ts s l keeps starts retires out =
    let lt : l.number < started = subst (λ (n : ℕ). l.number < n) (sym starts) out.0 in
    let once : ¬ Contains (map (λ r. r.number) (map told_link (links_of pairs))) l.number = subst (λ (ls : List MemoryLinkState). ¬ Contains (map (λ r. r.number) (map told_link ls)) l.number) (sym retires) out.1 in
    let room : length (told_of ts) < capacity = room_before started capacity (links_of pairs) (told_of ts) l keeps lt once in
    subst (λ (n : ℕ). n < capacity) (length-map ts (λ t. record { sent = t.sent; received = t.received })) room

pub keeps_retired : (started capacity after : ℕ) (pairs now : List (MemoryLinkState × Unit {0})) (ts told : List Kept) (t : Kept) (s : MemorySpawnerState) (l : MemoryLinkState) → KeepsRetired started capacity (links_of pairs) (told_of ts) → started ≡ s.started → links_of pairs ≡ s.retired → IsOut s.started s.retired l → HasHeard l → capacity ≤ after → now ≡ pairs ++ (l, tt) ∷ [] → told ≡ ts ++ t ∷ [] → (t.sent ≡ l.sent) × (t.received ≡ l.received) → KeepsRetired started after (links_of now) (told_of told)
keeps_retired started capacity after pairs now ts told t s l keeps starts retires out heard le is tells same =
    let lt : l.number < started = subst (λ (n : ℕ). l.number < n) (sym starts) out.0 in
    let once : ¬ Contains (map (λ r. r.number) (map told_link (links_of pairs))) l.number = subst (λ (ls : List MemoryLinkState). ¬ Contains (map (λ r. r.number) (map told_link ls)) l.number) (sym retires) out.1 in
    let links : links_of now ≡ links_of pairs ++ l ∷ [] = ap links_of is ∙ map-append (λ r. r.0) pairs ((l, tt) ∷ []) in
    let one : told_of (t ∷ []) ≡ transcript_of l ∷ [] = ap (λ (b : List ℕ). told_of_one b t.received) same.0 ∙ ap (λ (b : List ℕ). told_of_one l.sent b) same.1 in
    let all : told_of told ≡ told_of ts ++ transcript_of l ∷ [] = ap told_of tells ∙ (map-append (λ t. record { sent = t.sent; received = t.received }) ts (t ∷ []) ∙ ap (λ (ts' : List Transcript). told_of ts ++ ts') one) in
    keeps_one_more started capacity after (links_of pairs) (links_of now) (told_of ts) (told_of told) l keeps lt once heard le links all

-- links with numbers below a bound have records with numbers below it
pub earlier_records : (n : ℕ) (links : List MemoryLinkState) → All (λ k. k < n) (map (λ l. l.number) links) → All (λ r. r.number < n) (map told_link links)
earlier_records n links below =
    All-map (λ r. r.number < n) told_link links (λ i d lt.
    subst (λ (k : ℕ). k < n) (get_or-map (λ (l : MemoryLinkState). l.number) links i d) (below i d.number (rw (length-map links (λ (l : MemoryLinkState). l.number)) lt)))
