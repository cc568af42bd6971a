-- Reads of files, one after the other, and why the last one gave nothing.
use Rattle.std.proofs.Common.{◌≡◌, ◌∙◌, ◌⊎◌, ⊎_elim, ℕ, List, [], ◌∷◌, ◌++◌, map, true, false, Option, Some, None, Result, Ok, Err, refl, ap, sym, subst, append_assoc, append-nil}
use Rattle.std.proofs.lemmas.List.{map-append}
use Rattle.lw_outside.specs.Files.{Call, File, noted, read_call, FilesState, ReadsFile, WasRead}
use Rattle.lw_system.specs.Reading.{HasRead}
use Rattle.lw_system.specs.Reads.{IsNotRead, MadeReads, MadeSomeReads, gained}
use Rattle.lw_system.specs.declared.stops.ReadStop.{ReadStop}
use Rattle.lw_system.specs.declared.stops.ReadStop.TheVariants as stop

-- the call of a read that gave bytes
abbrev call_of : File → Call
call_of r = read_call r.0 false

gained_twice : (a b : List Call) (first second third : Option (List Call)) → second ≡ gained a first → third ≡ gained b second → third ≡ gained (a ++ b) first
gained_twice a b None second third one two = two ∙ ap (gained b) one
gained_twice a b (Some cs) second third one two = two ∙ (ap (gained b) one ∙ ap (λ (l : List Call). Some l) (append_assoc cs a b))

gained_none : (calls : Option (List Call)) → calls ≡ gained [] calls
gained_none None = refl
gained_none (Some cs) = ap (λ (l : List Call). Some l) (sym (append-nil cs))

-- nothing was read yet
pub made_none : (f : FilesState) → MadeReads f f []
made_none f = ([], sym (append-nil f.reads), gained_none f.calls)

-- one read gave bytes
pub made_one : (f g : FilesState) (name bytes : List ℕ) → g.reads ≡ f.reads ++ (name, bytes) ∷ [] → g.calls ≡ noted (read_call name false) f.calls → MadeReads f g []
made_one f g name bytes reads calls = ((name, bytes) ∷ [], reads, calls)

-- a call gave none
pub made_call : (f g : FilesState) (c : Call) → g.reads ≡ f.reads → g.calls ≡ noted c f.calls → MadeReads f g (c ∷ [])
made_call f g c reads calls = ([], reads ∙ sym (append-nil f.reads), calls)

-- reads that gave bytes, and then others
pub made_then : (f m g : FilesState) (last : List Call) → MadeReads f m [] → MadeReads m g last → MadeReads f g last
made_then f m g last one two = (
  one.0 ++ two.0,
  two.1 ∙ (ap (λ (l : List File). l ++ two.0) one.1 ∙ append_assoc f.reads one.0 two.0),
  gained_twice (map call_of one.0) (map call_of two.0 ++ last) f.calls m.calls g.calls
      (one.2 ∙ ap (λ (l : List Call). gained l f.calls) (append-nil (map call_of one.0)))
      two.2
      ∙ ap (λ (l : List Call). gained l f.calls) (sym (append_assoc (map call_of one.0) (map call_of two.0) last) ∙ ap (λ (l : List Call). l ++ last) (sym (map-append call_of one.0 two.0))),
)

names_of_reads : (more : List File) → map call_of more ≡ map (λ (n : List ℕ). read_call n false) (map (λ (r : File). r.0) more)
names_of_reads [] = refl
names_of_reads (r ∷ rs) = ap (λ (l : List Call). call_of r ∷ l) (names_of_reads rs)

-- and then some of which nothing more is known
pub some_then : (f m g : FilesState) → MadeReads f m [] → MadeSomeReads m g → MadeSomeReads f g
some_then f m g one two = (
  (one.0 ++ two.0.0, two.0.1 ∙ (ap (λ (l : List File). l ++ two.0.0) one.1 ∙ append_assoc f.reads one.0 two.0.0)),
  (
    map (λ (r : File). r.0) one.0 ++ two.1.0,
    gained_twice (map call_of one.0) (map (λ (n : List ℕ). read_call n false) two.1.0) f.calls m.calls g.calls
        (one.2 ∙ ap (λ (l : List Call). gained l f.calls) (append-nil (map call_of one.0)))
        two.1.1
        ∙ ap (λ (l : List Call). gained l f.calls)
        (ap (λ (l : List Call). l ++ map (λ (n : List ℕ). read_call n false) two.1.0) (names_of_reads one.0)
        ∙ sym (map-append (λ (n : List ℕ). read_call n false) (map (λ (r : File). r.0) one.0) two.1.0)),
  ),
)

-- what was made so far is some reads
pub some_made : (f g : FilesState) → MadeReads f g [] → MadeSomeReads f g
some_made f g made = (
  (made.0, made.1),
  (map (λ (r : File). r.0) made.0, made.2 ∙ ap (λ (l : List Call). gained l f.calls) (append-nil (map call_of made.0) ∙ names_of_reads made.0)),
)

module _ {V F : Type 0} (IsFile : List ℕ → V → Type 0) (HasFirst : List ℕ → F → Type 0) (name : List ℕ) where
  pub some_reads : (f g : FilesState) → (g.reads ≡ f.reads) ⊎ ((bytes : List ℕ) × WasRead f.holds f.reads g.reads name bytes) → (more : List File) × (g.reads ≡ f.reads ++ more)
  some_reads f g reads = ⊎_elim (λ (same : g.reads ≡ f.reads). ([], same ∙ sym (append-nil f.reads))) (λ (r : (bytes : List ℕ) × WasRead f.holds f.reads g.reads name bytes). ((name, r.0) ∷ [], r.1.given)) reads

  some_calls : (f g : FilesState) → (g.calls ≡ f.calls) ⊎ (g.calls ≡ noted (read_call name false) f.calls) → (names : List (List ℕ)) × (g.calls ≡ gained (map (λ n. read_call n false) names) f.calls)
  some_calls f g calls = ⊎_elim (λ (same : g.calls ≡ f.calls). ([], same ∙ gained_none f.calls)) (λ (one : g.calls ≡ noted (read_call name false) f.calls). (name ∷ [], one)) calls

  -- the file of a value, by a read that gave bytes
  pub read_made : (f g : FilesState) (r : Result V (ReadStop F)) (v : V) → HasRead IsFile HasFirst name f g r → r ≡ Ok v → ReadsFile IsFile name f.holds f.reads g.reads v × MadeReads f g [] × (g.faults ≡ f.faults)
  read_made f g r v has is = by (subst (λ (x : Result V (ReadStop F)). HasRead IsFile HasFirst name f g x) is has)
    where
      by : HasRead IsFile HasFirst name f g (Ok v) → ReadsFile IsFile name f.holds f.reads g.reads v × MadeReads f g [] × (g.faults ≡ f.faults)
      by h = (h.ok, made_one f g name h.ok.bytes h.ok.read.given h.ok_call, h.quiet)

  -- why the file gave none
  pub read_none : (f g : FilesState) (r : Result V (ReadStop F)) (why : ReadStop F) → HasRead IsFile HasFirst name f g r → r ≡ Err why → IsNotRead IsFile HasFirst name f g why
  read_none f g r stop.Failed has is = (has.failed is, has.failed_unread is, made_call f g (read_call name true) (has.failed_unread is) (has.failed_call is))
  read_none f g r stop.TooLong has is = (has.long is, has.long_unread is, made_call f g (read_call name false) (has.long_unread is) (has.long_call is))
  read_none f g r (stop.Bad fault) has is = let bad = has.bad fault is in (bad, made_one f g name bad.bytes bad.read.given (has.bad_call fault is))
  read_none f g r stop.NoMemory has is = (some_reads f g has.reads, some_calls f g (has.memory is))
