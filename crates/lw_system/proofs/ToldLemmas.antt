-- What the record of a link says of its child, from what its system and its session say.
use Rattle.std.proofs.Common.{◌≡◌, ◌∙◌, ◌⊎◌, ⊎_elim, ℕ, ◌+◌, List, [], ◌∷◌, ◌++◌, length, length-append, Bool, true, false, Option, Some, None, IfSome, inl, inr, refl, ap, sym, subst, arith, append-nil}
use Rattle.lw_words.specs.declared.stop.SulStop.{SulStop}
use Rattle.lw_words.specs.declared.stop.SulStop.TheVariants as sul
use Rattle.lw_mealy.specs.Origin.{Origin}
use Rattle.lw_names.specs.Names.{AreNamed, IsGrown}
use Rattle.lw_sul.specs.SessionState.{IsJournal}
use Rattle.lw_sul.specs.declared.runs.Run.{Run}
use Rattle.lw_outside.specs.Links.{LinkState, Transcript}
use Rattle.lw_line.specs.Causes.{EndsWithin, StopIsCounted, TranscriptIsCovered, IsSpelled, IsTranscriptOf}
use Rattle.lw_line.specs.LineState.{AreFree, AreToldIfFree, IsNaming, told_runs}
use Rattle.lw_line.specs.Transcripts.{BreaksIn, SpellsAll, spelled}
use Rattle.lw_system.specs.Ends.{IsBorneOut}
use Rattle.lw_system.specs.NewLines.{count_of, first_names, most_outputs_of}
use Rattle.lw_system.specs.Told.{AreFinished, AreOwn, HasRefused, IfTold, IsBroken, IsStopped, SpellsRuns, SpellsWhole}

nothing_more : (more : List (List ℕ)) → length more ≡ 0 → more ≡ []
nothing_more [] none = refl
nothing_more (n ∷ more) none = absurd (omega (arith, none))

-- names that may be no more are those that there were
none_came : (declared names : List (List ℕ)) → IsGrown declared names → IsNaming names (length declared) (length declared) → names ≡ declared
none_came declared names grown naming =
    ⊎_elim (λ (free : AreFree (length declared) (length declared)). absurd (omega (arith, free.0, free.1)))
    (λ (same : (length declared ≡ length names) × (length declared ≡ length names)).
    let count : length names ≡ length declared + length grown.0 = ap (λ (l : List (List ℕ)). length l) grown.1 ∙ length-append declared grown.0 in
    let none : grown.0 ≡ [] = nothing_more grown.0 (omega (arith, count, same.0)) in
    grown.1 ∙ (ap (λ (l : List (List ℕ)). declared ++ l) none ∙ append-nil declared))
    naming

-- the names that a child gave: those that were declared, or different ones, each of which was told
pub names_own : (outputs : Option (List (List ℕ))) (names : List (List ℕ)) (told : Option Transcript) → IsGrown (first_names outputs) names → AreNamed (most_outputs_of outputs) names → IsNaming names (most_outputs_of outputs) (count_of outputs) → AreToldIfFree names (most_outputs_of outputs) (count_of outputs) told → IfTold (AreOwn outputs names) told
names_own outputs names None grown named naming free = tt
names_own None names (Some t) grown named naming free = (named.few, named.differ, free (refl, refl))
names_own (Some declared) names (Some t) grown named naming free = none_came declared names grown naming

-- declared names are those that a child gave, whatever is told of its link
pub names_declared : (outputs : Option (List (List ℕ))) (names : List (List ℕ)) → IsGrown (first_names outputs) names → IsNaming names (most_outputs_of outputs) (count_of outputs) → IfSome outputs (λ ns. names ≡ ns)
names_declared None names grown naming = tt
names_declared (Some declared) names grown naming = none_came declared names grown naming

module _ (letters : List (List ℕ)) (outputs : Option (List (List ℕ))) (names : List (List ℕ)) (r : LinkState) where
  broken : (t : Transcript) (stop : SulStop) → StopIsCounted r.faults r.ends (Some stop) → IsSpelled names (most_outputs_of outputs) t (Some stop) → IsBroken names (most_outputs_of outputs) r t
  broken t sul.Failed counted spelled = inl counted
  broken t sul.Gone counted spelled = inr (inl counted)
  broken t (sul.BadLine line) counted spelled = inr (inr (line, spelled))

  ends : (t : Transcript) (runs : List Run) (stop : Option SulStop) (cut : Bool) → StopIsCounted r.faults r.ends stop → IsSpelled names (most_outputs_of outputs) t stop → TranscriptIsCovered letters names r.faults t stop cut → IsJournal (Some (spelled letters names t)) runs stop cut
      → (SpellsAll letters names t × (spelled letters names t ≡ runs)) ⊎ (IsBroken names (most_outputs_of outputs) r t × ((c : Bool) × BreaksIn letters names r.faults c t × AreFinished c (spelled letters names t) runs))
  ends t runs None cut counted told covered journal = inl (covered, journal)
  ends t runs (Some stop) false counted told covered journal = inr (broken t stop counted told, (false, covered, journal))
  ends t runs (Some stop) true counted told covered journal = inr (broken t stop counted told, (true, covered, journal))

  pub spells_told : (told : Option Transcript) (runs : List Run) (stop : Option SulStop) (cut : Bool) → IfTold (AreOwn outputs names) told → StopIsCounted r.faults r.ends stop → IsTranscriptOf letters names (most_outputs_of outputs) r.faults stop cut told → IsJournal (told_runs letters names told) runs stop cut → IfTold (SpellsRuns letters outputs names runs r) told
  spells_told None runs stop cut owns counted told journal = tt
  spells_told (Some t) runs stop cut owns counted told journal = record { proper = told.0; owns = owns; ends = ends t runs stop cut counted told.1 told.2 journal }

  pub whole_told : (told : Option Transcript) (runs : List Run) (cut : Bool) → IsTranscriptOf letters names (most_outputs_of outputs) r.faults None cut told → IsJournal (told_runs letters names told) runs None cut → IfTold (SpellsWhole letters names runs) told
  whole_told None runs cut told journal = tt
  whole_told (Some t) runs cut told journal = record { covered = told.2; runs_are = journal }

  gone_told : (told : Option Transcript) (cut : Bool) → IsTranscriptOf letters names (most_outputs_of outputs) r.faults (Some sul.Gone) cut told → IfTold EndsWithin told
  gone_told None cut is = tt
  gone_told (Some t) cut is = is.1

  line_told : (told : Option Transcript) (line : List ℕ) (cut : Bool) → IfTold (AreOwn outputs names) told → IsTranscriptOf letters names (most_outputs_of outputs) r.faults (Some (sul.BadLine line)) cut told → IfTold (HasRefused outputs line) told
  line_told None line cut owns is = tt
  line_told (Some t) line cut owns is = (names, owns, is.1)

  pub stopped_by : (why : SulStop) (cut : Bool) → IfTold (AreOwn outputs names) r.transcript → StopIsCounted r.faults r.ends (Some why) → IsTranscriptOf letters names (most_outputs_of outputs) r.faults (Some why) cut r.transcript → IsStopped outputs why r
  stopped_by sul.Failed cut owns counted is = counted
  stopped_by sul.Gone cut owns counted is = (counted, gone_told r.transcript cut is)
  stopped_by (sul.BadLine line) cut owns counted is = line_told r.transcript line cut owns is

-- what a session's system keeps of its origin
some_of : {X : Type 0} → X → Option X → X
some_of x None = x
some_of x (Some y) = y

pub same_link : (a b : ℕ) (ls ms : List (List ℕ)) (o p : Origin) → o ≡ record { machine = None; link = Some a; letters = Some ls } → p ≡ record { machine = None; link = Some b; letters = Some ms } → o ≡ p → (a ≡ b) × (ls ≡ ms)
unfolding some_of
same_link a b ls ms o p first second same =
    let whole = sym first ∙ (same ∙ second) in
    (ap (λ (x : Origin). some_of a x.link) whole, ap (λ (x : Origin). some_of ls x.letters) whole)

pub bears_as : (l l' n : List (List ℕ)) (m m' o o' : ℕ) (stop : Option SulStop) (cut : Bool) (runs : List Run) (r : LinkState) → l ≡ l' → m ≡ m' → o ≡ o' → IsBorneOut l n m o stop cut runs r → IsBorneOut l' n m' o' stop cut runs r
bears_as l l' n m m' o o' stop cut runs r ls ms os bears =
    subst (λ (x : ℕ). IsBorneOut l' n m' x stop cut runs r) os (subst (λ (x : ℕ). IsBorneOut l' n x o stop cut runs r) ms (subst (λ (x : List (List ℕ)). IsBorneOut x n m o stop cut runs r) ls bears))

-- names that grew to as many as there were are the same
pub as_many_names : (before now : List (List ℕ)) → IsGrown before now → length now ≡ length before → now ≡ before
as_many_names before now grown same =
    let count : length now ≡ length before + length grown.0 = ap (λ (l : List (List ℕ)). length l) grown.1 ∙ length-append before grown.0 in
    let none : grown.0 ≡ [] = nothing_more grown.0 (omega (arith, count, same)) in
    grown.1 ∙ (ap (λ (l : List (List ℕ)). before ++ l) none ∙ append-nil before)
