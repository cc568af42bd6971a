-- The runs that lines and their answers spell.
use Rattle.std.proofs.Common.{◌≡◌, ℕ, List, [], ◌∷◌, ◌++◌, codes, length, Bool, true, false, cond, Option, Some, None, option_and_then, refl, ap, sym, ◌∙◌, append-nil, arith}
use Rattle.std.specs.Str.{bytes_eq}
use Rattle.std.specs.Str.Lines.{strip_carriage_return}
use Rattle.lw_words.specs.Word.{AllDiffer, number_of}
use Rattle.lw_names.specs.Names.{Brings}
use Rattle.lw_sul.specs.declared.runs.Run.{Run}
use Rattle.lw_outside.specs.Protocol.{bytes_behind, reset_line}
use Rattle.lw_line.specs.Transcripts.{number_behind, ready_runs, stepped_runs, exchanged, spelled_on, spelled_from}
use Rattle.lw_line.specs.bodies.Standing.{Spells}
use Rattle.lw_line.proofs.Naming.{number_stays}

-- a number that stands behind some bytes stays
number_behind_stays : (before now : List (List ℕ)) (y : ℕ) (front line : List ℕ) (z : ℕ) → Brings before now y → AllDiffer now → number_behind front before line ≡ Some z → number_behind front now line ≡ Some z
number_behind_stays before now y front line z brings differ is = go (bytes_behind front line) is
  where
    go : (o : Option (List ℕ)) → option_and_then (λ name. number_of name before) o ≡ Some z → option_and_then (λ name. number_of name now) o ≡ Some z
    go None h = cc
    go (Some name) h = number_stays before now y name z brings differ h

stepped_stays : (rs now : List Run) (x y z : Option ℕ) → ((n : ℕ) → y ≡ Some n → z ≡ Some n) → stepped_runs rs x y ≡ Some now → stepped_runs rs x z ≡ Some now
stepped_stays rs now (Some x) (Some y) z stays is = ap (stepped_runs rs (Some x)) (stays y refl) ∙ is
stepped_stays rs now (Some x) None z stays is = cc
stepped_stays rs now None y z stays is = is

exchanged_stays : (inputs before after : List (List ℕ)) (y : ℕ) (rs now : List Run) (sent answer : List ℕ) → Brings before after y → AllDiffer after → exchanged inputs before rs sent answer ≡ Some now → exchanged inputs after rs sent answer ≡ Some now
exchanged_stays inputs before after y rs now sent answer brings differ is = go (bytes_eq sent reset_line) is
  where
    go : (b : Bool) → cond b (ready_runs rs answer) (stepped_runs rs (number_behind (codes "in ") inputs sent) (number_behind (codes "out ") before answer)) ≡ Some now
        → cond b (ready_runs rs answer) (stepped_runs rs (number_behind (codes "in ") inputs sent) (number_behind (codes "out ") after answer)) ≡ Some now
    go true h = h
    go false h =
        stepped_stays rs now (number_behind (codes "in ") inputs sent) (number_behind (codes "out ") before answer) (number_behind (codes "out ") after answer)
        (λ n e. number_behind_stays before after y (codes "out ") answer n brings differ e) h

-- the same runs once a name came
pub spells_grown : (inputs before after : List (List ℕ)) (y : ℕ) → Brings before after y → AllDiffer after → (rs : List Run) (ss rr : List (List ℕ)) (now : List Run) → Spells inputs before rs ss rr now → Spells inputs after rs ss rr now
spells_grown inputs before after y brings differ rs [] [] now h = h
spells_grown inputs before after y brings differ rs [] (r ∷ rr) now h = h
spells_grown inputs before after y brings differ rs (s ∷ ss) [] now h = h
spells_grown inputs before after y brings differ rs (s ∷ ss) (r ∷ rr) now h = (
  h.0,
  exchanged_stays inputs before after y rs h.0 s (strip_carriage_return r) brings differ h.1,
  spells_grown inputs before after y brings differ h.0 ss rr now h.2,
)

module _ (inputs outputs : List (List ℕ)) where
  -- one exchange more
  pub spells_push : (rs : List Run) (ss rr : List (List ℕ)) (mid : List Run) (s r : List ℕ) (now : List Run) → Spells inputs outputs rs ss rr mid → exchanged inputs outputs mid s (strip_carriage_return r) ≡ Some now
      → Spells inputs outputs rs (ss ++ s ∷ []) (rr ++ r ∷ []) now
  spells_push rs [] [] mid s r now is more =
      (now, ap (λ (l : List Run). exchanged inputs outputs l s (strip_carriage_return r)) is ∙ more, refl)
  spells_push rs [] (x ∷ rr) mid s r now h more = absurd h
  spells_push rs (x ∷ ss) [] mid s r now h more = absurd h
  spells_push rs (x ∷ ss) (y ∷ rr) mid s r now h more = (h.0, h.1, spells_push h.0 ss rr mid s r now h.2 more)

  pub spells_length : (rs : List Run) (ss rr : List (List ℕ)) (now : List Run) → Spells inputs outputs rs ss rr now → length ss ≡ length rr
  spells_length rs [] [] now h = refl
  spells_length rs [] (r ∷ rr) now h = absurd h
  spells_length rs (s ∷ ss) [] now h = absurd h
  spells_length rs (s ∷ ss) (r ∷ rr) now h = let same : length ss ≡ length rr = spells_length h.0 ss rr now h.2 in omega arith

  -- what further lines spell
  pub spelled_behind : (rs : List Run) (ss rr : List (List ℕ)) (now : List Run) (more answers : List (List ℕ)) → Spells inputs outputs rs ss rr now
      → spelled_from inputs outputs rs (ss ++ more) (rr ++ answers) ≡ spelled_from inputs outputs now more answers
  spelled_behind rs [] [] now more answers h = ap (λ (l : List Run). spelled_from inputs outputs l more answers) h
  spelled_behind rs [] (r ∷ rr) now more answers h = absurd h
  spelled_behind rs (s ∷ ss) [] now more answers h = absurd h
  spelled_behind rs (s ∷ ss) (r ∷ rr) now more answers h =
      ap (λ (o : Option (List Run)). spelled_on rs o (λ l. spelled_from inputs outputs l (ss ++ more) (rr ++ answers))) h.1
      ∙ spelled_behind h.0 ss rr now more answers h.2

  pub spelled_whole : (rs : List Run) (ss rr : List (List ℕ)) (now : List Run) (early : List (List ℕ)) → Spells inputs outputs rs ss rr now → spelled_from inputs outputs rs ss (rr ++ early) ≡ now
  spelled_whole rs ss rr now early h =
      ap (λ (l : List (List ℕ)). spelled_from inputs outputs rs l (rr ++ early)) (sym (append-nil ss)) ∙ spelled_behind rs ss rr now [] early h

  pub spelled_unanswered : (rs : List Run) (ss rr : List (List ℕ)) (now : List Run) (s : List ℕ) → Spells inputs outputs rs ss rr now → spelled_from inputs outputs rs (ss ++ s ∷ []) rr ≡ now
  spelled_unanswered rs ss rr now s h =
      ap (λ (l : List (List ℕ)). spelled_from inputs outputs rs (ss ++ s ∷ []) l) (sym (append-nil rr)) ∙ spelled_behind rs ss rr now (s ∷ []) [] h

  pub spelled_badly : (rs : List Run) (ss rr : List (List ℕ)) (now : List Run) (s r : List ℕ) (early : List (List ℕ)) → Spells inputs outputs rs ss rr now → exchanged inputs outputs now s (strip_carriage_return r) ≡ None
      → spelled_from inputs outputs rs (ss ++ s ∷ []) (rr ++ r ∷ early) ≡ now
  spelled_badly rs ss rr now s r early h bad =
      spelled_behind rs ss rr now (s ∷ []) (r ∷ early) h
      ∙ ap (λ (o : Option (List Run)). spelled_on now o (λ l. spelled_from inputs outputs l [] early)) bad
