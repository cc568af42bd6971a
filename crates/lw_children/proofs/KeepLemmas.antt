-- What the record of a link says of the kept answers of its instance, and of why that stopped.
use Rattle.std.proofs.Common.{◌≡◌, ◌⊎◌, ⊎_elim, ℕ, ◌≤◌, List, [], length, Bool, true, false, Option, Some, None, inl, inr, refl, ap, sym, ◌∙◌, subst, arith}
use Rattle.lw_words.specs.Word.{AllDiffer}
use Rattle.lw_words.specs.declared.kept.KeptAnswer.{KeptAnswer}
use Rattle.lw_words.specs.declared.stop.SulStop.{SulStop}
use Rattle.lw_words.specs.declared.stop.SulStop.TheVariants.{Failed, BadLine, Gone}
use Rattle.lw_mealy.specs.Origin.{Origin}
use Rattle.lw_sul.specs.SessionState.{IsJournal}
use Rattle.lw_sul.specs.declared.runs.Run.{Run}
use Rattle.lw_outside.specs.Links.{LinkState, Transcript}
use Rattle.lw_desk.specs.Ending.{kept_runs}
use Rattle.lw_pool.specs.Pool.{Seen, journal_runs}
use Rattle.lw_line.specs.Causes.{EndsWithin, StopIsCounted, TranscriptIsCovered, IsRefusedLine, IsSpelled, IsTranscriptOf}
use Rattle.lw_children.specs.Children.{IsSound}
use Rattle.lw_system.specs.Told.{HasRefused, IfTold, IsStopped, AreFinished, AreOwn, IsBroken}
use Rattle.lw_children.specs.Keeping.{KeepsTold}
use Rattle.lw_system.specs.NewLines.{most_outputs_of}
use Rattle.lw_line.specs.LineState.{AreFree, AreToldIfFree, IsNaming, told_runs}
use Rattle.lw_line.specs.Transcripts.{BreaksIn, SpellsAll, spelled}
use Rattle.lw_children.specs.Crews.{BearsOut, FitsOutputs, IsChildSeen}

abbrev some_by : {X : Type 0} → X → Option X → X
some_by x None = x
some_by x (Some y) = y

some_is : {X : Type 0} (x a b : X) → Some a ≡ Some b → a ≡ b
some_is x a b same = ap (some_by x) same

-- the names that a child gave, and how many they may be
most_is : (outputs : Option (List (List ℕ))) (names : List (List ℕ)) (most count : ℕ) → FitsOutputs outputs names most count → IsNaming names most count → most ≡ most_outputs_of outputs
most_is None names most count fits naming = ⊎_elim (λ (e : AreFree most count). e.0) (λ (e : (most ≡ length names) × (count ≡ length names)). absurd (omega (arith, e.0, e.1, fits.0, fits.1))) naming
most_is (Some declared) names most count fits naming = fits.1

own_names_are : (outputs : Option (List (List ℕ))) (names : List (List ℕ)) (most count : ℕ) (told : Option Transcript) → FitsOutputs outputs names most count → length names ≤ most → IsNaming names most count → (AreFree most count → AllDiffer names) → AreToldIfFree names most count told → IfTold (AreOwn outputs names) told
own_names_are outputs names most count None fits few naming differ are = tt
own_names_are None names most count (Some t) fits few naming differ are =
    let free : AreFree most count = (most_is None names most count fits naming, fits.0) in (omega (arith, few, fits.1), differ free, are free)
own_names_are (Some declared) names most count (Some t) fits few naming differ are = fits.0

module _ (letters : List (List ℕ)) (outputs : Option (List (List ℕ))) (names : List (List ℕ)) (i : ℕ) (since : List KeptAnswer) (r : LinkState) (own : List (List ℕ)) (most : ℕ) (most_is : most ≡ most_outputs_of outputs) where
  broken : (t : Transcript) (stop : SulStop) → StopIsCounted r.faults r.ends (Some stop) → IsSpelled own most t (Some stop) → IsBroken own (most_outputs_of outputs) r t
  broken t Failed counted spelled = inl counted
  broken t Gone counted spelled = inr (inl counted)
  broken t (BadLine line) counted spelled = inr (inr (line, subst (λ (n : ℕ). IsRefusedLine own n t line) most_is spelled))

  ends : (t : Transcript) (runs : List Run) (stop : Option SulStop) (cut : Bool) → StopIsCounted r.faults r.ends stop → IsSpelled own most t stop → TranscriptIsCovered letters own r.faults t stop cut → IsJournal (Some (spelled letters own t)) runs stop cut
      → (SpellsAll letters own t × (spelled letters own t ≡ runs)) ⊎ (IsBroken own (most_outputs_of outputs) r t × ((c : Bool) × BreaksIn letters own r.faults c t × AreFinished c (spelled letters own t) runs))
  ends t runs None cut counted told covered journal = inl (covered, journal)
  ends t runs (Some stop) false counted told covered journal = inr (broken t stop counted told, (false, covered, journal))
  ends t runs (Some stop) true counted told covered journal = inr (broken t stop counted told, (true, covered, journal))

  keeps_told : (told : Option Transcript) (runs : List Run) (stop : Option SulStop) (cut : Bool) → IfTold (AreOwn outputs own) told → StopIsCounted r.faults r.ends stop → IsTranscriptOf letters own most r.faults stop cut told → IsJournal (told_runs letters own told) runs stop cut → kept_runs names i since ≡ journal_runs own 0 runs → KeepsTold letters outputs names i since r told
  keeps_told None runs stop cut owns counted told journal kept = tt
  keeps_told (Some t) runs stop cut owns counted told journal kept = record {
    proper = told.0;
    own = own;
    owns = owns;
    runs = runs;
    kept = kept;
    ends = ends t runs stop cut counted told.1 told.2 journal;
  }

  stopped_told : (told : Option Transcript) (stop : SulStop) (cut : Bool) → IfTold (AreOwn outputs own) told → StopIsCounted r.faults r.ends (Some stop) → IsTranscriptOf letters own most r.faults (Some stop) cut told → r.transcript ≡ told → IsStopped outputs stop r
  stopped_told told Failed cut owns counted is same = counted
  stopped_told told Gone cut owns counted is same = (counted, subst (IfTold EndsWithin) (sym same) (by told is))
    where
      by : (told : Option Transcript) → IsTranscriptOf letters own most r.faults (Some Gone) cut told → IfTold EndsWithin told
      by None is = tt
      by (Some t) is = is.1
  stopped_told told (BadLine line) cut owns counted is same = subst (IfTold (HasRefused outputs line)) (sym same) (by told owns is)
    where
      by : (told : Option Transcript) → IfTold (AreOwn outputs own) told → IsTranscriptOf letters own most r.faults (Some (BadLine line)) cut told → IfTold (HasRefused outputs line) told
      by None owns is = tt
      by (Some t) owns is = (own, owns, subst (λ (n : ℕ). IsRefusedLine own n t line) most_is is.1)

-- a record that bears out what is seen of a child's session
module _ (letters : List (List ℕ)) (outputs : Option (List (List ℕ))) (n : ℕ) (s : Seen) (r : LinkState) (seen : IsChildSeen letters outputs n s) (bears : BearsOut s r) where
  origins : (o : Origin) → o ≡ s.origin → o ≡ record { machine = None; link = Some r.number; letters = Some bears.letters }
  origins o same = same ∙ bears.origin

  pub letters_are : bears.letters ≡ letters
  letters_are = some_is letters bears.letters letters (ap (λ (o : Origin). o.letters) (sym bears.origin ∙ seen.origin))

  pub number_is : r.number ≡ n
  number_is = some_is n r.number n (ap (λ (o : Origin). o.link) (sym bears.origin ∙ seen.origin))

  pub own : IfTold (AreOwn outputs s.names) r.transcript
  own = own_names_are outputs s.names s.most s.outputs r.transcript seen.fits bears.few bears.naming bears.differ bears.told_names

  most_so : s.most ≡ most_outputs_of outputs
  most_so = most_is outputs s.names s.most s.outputs seen.fits bears.naming

  pub told : IsTranscriptOf letters s.names s.most r.faults s.stop bears.cut r.transcript
  told = subst (λ (l : List (List ℕ)). IsTranscriptOf l s.names s.most r.faults s.stop bears.cut r.transcript) letters_are bears.told

  pub keeps_link : (names : List (List ℕ)) (i : ℕ) (since : List KeptAnswer) → kept_runs names i since ≡ journal_runs s.names 0 s.journal → KeepsTold letters outputs names i since r r.transcript
  keeps_link names i since kept =
      keeps_told letters outputs names i since r s.names s.most most_so r.transcript s.journal s.stop bears.cut own bears.counted told
      (subst (λ (l : List (List ℕ)). IsJournal (told_runs l s.names r.transcript) s.journal s.stop bears.cut) letters_are bears.journal) kept

  pub stopped_link : (stop : SulStop) → s.stop ≡ Some stop → IsStopped outputs stop r
  stopped_link stop is =
      stopped_told letters outputs [] 0 [] r s.names s.most most_so r.transcript stop bears.cut own (subst (StopIsCounted r.faults r.ends) is bears.counted) (subst (λ (o : Option SulStop). IsTranscriptOf letters s.names s.most r.faults o bears.cut r.transcript) is told) refl

-- a child whose link is sound did not stop
pub sound_goes_on : (outputs : Option (List (List ℕ))) (r : LinkState) (stop : SulStop) → IsSound outputs r → ¬ IsStopped outputs stop r
sound_goes_on outputs r Failed sound why = sound.faults why
sound_goes_on outputs r Gone sound why = sound.ends why.0
sound_goes_on outputs r (BadLine line) sound why = sound.good line (subst (IfTold (HasRefused outputs line)) sound.told why)
