-- The numbers of kept runs, and that all are kept of a session that did not stop.
use Rattle.std.proofs.Common.{◌≡◌, ℕ, ◌+◌, ◌==◌, List, [], ◌∷◌, length, map, filter, Bool, Option, Some, None, refl, ap, sym, ◌∙◌, subst, subst₂}
use Rattle.std.specs.List.{range_with_len}
use Rattle.std.proofs.lemmas.List.FromFn.{length-range_with_len}
use Rattle.lw_words.specs.declared.kept.KeptAnswer.{KeptAnswer}
use Rattle.lw_words.specs.declared.stop.SulStop.{SulStop}
use Rattle.lw_words.specs.Word.{named}
use Rattle.lw_sul.specs.SessionState.{IsJournal}
use Rattle.lw_sul.specs.declared.runs.Run.{Run}
use Rattle.lw_outside.specs.Links.{LinkState, Transcript}
use Rattle.lw_desk.specs.Ending.{NamedRun, kept_runs}
use Rattle.lw_pool.specs.Pool.{Seen, journal_runs}
use Rattle.lw_line.specs.Causes.{IsTranscriptOf}
use Rattle.lw_line.specs.LineState.{told_runs}
use Rattle.lw_workers.specs.Machines.{run_numbers}
use Rattle.lw_system.specs.Told.{IfTold, AreOwn}
use Rattle.lw_children.specs.Crews.{BearsOut, IsChildSeen}
use Rattle.lw_children.specs.Keeping.{KeepsWhole}
use Rattle.lw_children.proofs.KeepLemmas.{letters_are, own, told}

abbrev numbers : List NamedRun → List ℕ
numbers runs = map (λ r. r.run) runs

journal_numbers : (names : List (List ℕ)) (n : ℕ) (rs : List Run) → numbers (journal_runs names n rs) ≡ range_with_len n (length rs)
journal_numbers names n [] = refl
journal_numbers names n (r ∷ rs) = ap (λ (l : List ℕ). n ∷ l) (journal_numbers names (n + 1) rs)

same_numbers : (names : List (List ℕ)) (kept : List KeptAnswer) → numbers (map (λ k. record { run = k.run; word = k.word; names = named names k.outs }) kept) ≡ map (λ k. k.run) kept
same_numbers names [] = refl
same_numbers names (k ∷ kept) = ap (λ (l : List ℕ). k.run ∷ l) (same_numbers names kept)

counted_up : (ns : List ℕ) (n : ℕ) → ns ≡ range_with_len 0 n → ns ≡ range_with_len 0 (length ns)
counted_up ns n same = same ∙ ap (range_with_len 0) (sym (ap (λ (l : List ℕ). length l) same ∙ length-range_with_len 0 n))

-- an instance whose kept runs are its journal's has the runs 0, 1, 2 and so on
pub numbered_up : (names own : List (List ℕ)) (i : ℕ) (kept : List KeptAnswer) (journal : List Run) → kept_runs names i kept ≡ journal_runs own 0 journal → run_numbers i kept ≡ range_with_len 0 (length (run_numbers i kept))
numbered_up names own i kept journal same =
    counted_up (run_numbers i kept) (length journal)
    (sym (same_numbers names (filter (λ k. k.instance == i) kept))
    ∙ (ap numbers same ∙ journal_numbers own 0 journal))

whole_told : (letters : List (List ℕ)) (outputs : Option (List (List ℕ))) (names : List (List ℕ)) (i : ℕ) (since : List KeptAnswer) (own : List (List ℕ)) (most faults : ℕ) (told : Option Transcript) (runs : List Run) (cut : Bool) → IfTold (AreOwn outputs own) told → IsTranscriptOf letters own most faults None cut told → IsJournal (told_runs letters own told) runs None cut → kept_runs names i since ≡ journal_runs own 0 runs → IfTold (KeepsWhole letters outputs names i since) told
whole_told letters outputs names i since own most faults None runs cut owns is journal kept = tt
whole_told letters outputs names i since own most faults (Some t) runs cut owns is journal kept = record {
  own = own;
  owns = owns;
  kept = kept ∙ ap (journal_runs own 0) (sym journal);
  covered = is.2;
}

-- nothing is left out of the transcript of a session that did not stop
pub whole_link : (letters : List (List ℕ)) (outputs : Option (List (List ℕ))) (n : ℕ) (s : Seen) (r : LinkState) (seen : IsChildSeen letters outputs n s) (bears : BearsOut s r) (names : List (List ℕ)) (i : ℕ) (since : List KeptAnswer) → s.stop ≡ None → kept_runs names i since ≡ journal_runs s.names 0 s.journal → IfTold (KeepsWhole letters outputs names i since) r.transcript
whole_link letters outputs n s r seen bears names i since goes kept =
    whole_told letters outputs names i since s.names s.most r.faults r.transcript s.journal bears.cut (own letters outputs n s r seen bears)
    (subst (λ (o : Option SulStop). IsTranscriptOf letters s.names s.most r.faults o bears.cut r.transcript) goes (told letters outputs n s r seen bears))
    (subst₂ (λ (l : List (List ℕ)) (o : Option SulStop). IsJournal (told_runs l s.names r.transcript) s.journal o bears.cut) (letters_are letters outputs n s r seen bears) goes bears.journal) kept
