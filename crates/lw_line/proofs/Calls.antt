-- What a call of a child system does to all that is told of it.
use Rattle.std.proofs.Common.{◌≡◌, ◌≢◌, ◌⊎◌, inl, inr, ℕ, ◌≤◌, List, [], codes, get_or, slice_get, Bool, true, false, cond, Option, Some, None, option_map, refl, ap, sym, ◌∙◌, subst, arith, rules}
use Rattle.std.specs.List.{All}
use Rattle.std.specs.Str.{bytes_eq}
use Rattle.std.proofs.lemmas.Bool.{false_from_ne_true}
use Rattle.std.proofs.lemmas.Slice.Eq.{bytes_eq-Decides}
use Rattle.std.proofs.lemmas.List.Elements.{All-append, All-weaker, All-from_recursion}
use Rattle.std.proofs.lemmas.Option.{slice_get_within, get_or_from_slice_get}
use Rattle.lw_words.specs.Cause.{CountedFault}
use Rattle.lw_words.specs.Word.{IsName, AllDiffer, number_of}
use Rattle.lw_words.specs.declared.stop.SulStop.{SulStop}
use Rattle.lw_words.specs.declared.stop.SulStop.TheVariants.{Failed, BadLine, Gone}
use Rattle.lw_names.proofs.NameLemmas.{IsName-at}
use Rattle.lw_sul.specs.SessionState.{NoRuns}
use Rattle.lw_names.specs.Names.{Brings}
use Rattle.lw_sul.specs.Runs.{after_reset, after_step}
use Rattle.lw_sul.specs.declared.runs.Run.{Run}
use Rattle.lw_outside.specs.Links.{Transcript, IsUntouched, sends, receives}
use Rattle.lw_outside.specs.Protocol.{reset_line, ready_line, in_line, out_line}
use Rattle.lw_line.specs.Transcripts.{IsLineOf, IsSentLine, exchanged, spelled, number_behind, stepped_runs}
use Rattle.lw_line.specs.Causes.{IsBadAnswer, IsFormed, StopIsCounted, IsTranscriptOf, IsUnknown}
use Rattle.lw_line.specs.LineState.{told_runs}
use Rattle.lw_line.specs.bodies.Exchanges.{IsAnswered, IsRefusal, NamesNone, ended}
use Rattle.lw_line.specs.bodies.Pieces.{NoFeed, EndsOpen}
use Rattle.lw_line.specs.bodies.Standing.{Spells, IsTold, IsToldLive, Stands}
use Rattle.lw_line.proofs.Spelling.{spells_grown}
use Rattle.lw_line.proofs.Standing.{good, live_runs, live_proper, live_spells, live_untouched, refused}

-- a count that rose counted a fault since the start
pub counted_since : (before now : ℕ) → CountedFault before now → CountedFault 0 now
counted_since before now h = omega arith

pub counted_stop : (stop : SulStop) (faults ends faults' ends' : ℕ) → (stop ≡ Failed → CountedFault faults faults') → (stop ≡ Gone → CountedFault ends ends') → StopIsCounted faults' ends' (Some stop)
counted_stop Failed faults ends faults' ends' failed gone = counted_since faults faults' (failed refl)
counted_stop Gone faults ends faults' ends' failed gone = counted_since ends ends' (gone refl)
counted_stop (BadLine line) faults ends faults' ends' failed gone = tt

-- what a system's stop, or that it has none, bears out
pub told_of : (inputs names : List (List ℕ)) (most faults : ℕ) (started : Bool) (held : List ℕ) (stop : Option SulStop) (cut : Bool) (told : Option Transcript) → IsTold inputs names most faults started held stop cut told → IsTranscriptOf inputs names most faults stop cut told
told_of inputs names most faults started held None cut None h = tt
told_of inputs names most faults started held None cut (Some t) h = (live_proper inputs names started held t h faults, tt, live_spells inputs names started held t h)
told_of inputs names most faults started held (Some stop) cut told h = h

-- nothing is told after nothing was
untold_answered : (bytes held now answer : List ℕ) (after : Option Transcript) → IsAnswered bytes held now answer None after → after ≡ None
untold_answered bytes held now answer after h = h.received.come.told

untold_open : (held : List ℕ) (stop : SulStop) (after : Option Transcript) → EndsOpen held stop None after → after ≡ None
untold_open held Failed after h = h.1.come.told
untold_open held Gone after h = h.1.come.told
untold_open held (BadLine line) after h = h.0.come.told

untold_refused : (IsBad : List ℕ → Type 0) (bytes held now : List ℕ) (stop : SulStop) (after : Option Transcript) → IsRefusal IsBad bytes held now stop None after → after ≡ None
untold_refused IsBad bytes held now stop after (inl h) = h.1
untold_refused IsBad bytes held now stop after (inr (inl h)) = untold_open held stop after h
untold_refused IsBad bytes held now stop after (inr (inr h)) = untold_answered bytes held now h.0 after h.2

-- what is told after an answered call, and after a refused one
pub record Answers (inputs before names : List (List ℕ)) (most faults : ℕ) (now : List ℕ) (next : List Run → List Run) (told after : Option Transcript) : Type 0 where
  pub link : IsToldLive inputs names true now after
  pub runs : told_runs inputs names after ≡ option_map next (told_runs inputs before told)

pub record Refuses (inputs names : List (List ℕ)) (most faults : ℕ) (stop : SulStop) (step : Bool) (told after : Option Transcript) : Type 0 where
  pub link : IsTranscriptOf inputs names most faults (Some stop) step after
  pub runs : told_runs inputs names after ≡ told_runs inputs names told

sent_line : (inputs : List (List ℕ)) (step : Bool) (line : List ℕ) → IsLineOf inputs step line → IsSentLine inputs line
sent_line inputs true line is = inr is
sent_line inputs false line is = inl is

module _ (inputs before : List (List ℕ)) (most : ℕ) (started : Bool) (held line : List ℕ) (plain : NoFeed line) (step : Bool) (of_call : IsLineOf inputs step line) (well : (started ≡ true) ⊎ (line ≡ reset_line)) where
  is_line : IsSentLine inputs line
  is_line = sent_line inputs step line of_call

  answers : (names : List (List ℕ)) (faults faults' : ℕ) (now answer : List ℕ) (next : List Run → List Run) (told after : Option Transcript) → IsToldLive inputs before started held told
      → IsAnswered (ended line) held now answer told after → ((rs : List Run) (ss rr : List (List ℕ)) (l : List Run) → Spells inputs before rs ss rr l → Spells inputs names rs ss rr l)
      → ((rs : List Run) → exchanged inputs names rs line answer ≡ Some (next rs)) → Answers inputs before names most faults' now next told after
  answers names faults faults' now answer next None after live h stays gives =
      let none : after ≡ None = untold_answered (ended line) held now answer after h in
      subst (λ (o : Option Transcript). Answers inputs before names most faults' now next None o) (sym none) (record { link = tt; runs = refl })
  answers names faults faults' now answer next (Some t) after live h stays gives =
      let c = h.received.come in
      let u = good inputs before started held t live line plain is_line well names now answer next (λ rs spells. stays [] live.lines live.answers rs spells) gives h.raw c.more h.received.plain h.stripped c.whole in
      subst (λ (o : Option Transcript). Answers inputs before names most faults' now next (Some t) o) (sym c.told)
      (record {
        link = u.0;
        runs = ap (λ (l : List Run). Some l) (live_runs inputs names true now (receives c.more (sends (ended line) t)) u.0 ∙ (u.1 ∙ ap next (sym (live_runs inputs before started held t live))));
      })

  refuses : (faults faults' : ℕ) (now : List ℕ) (stop : SulStop) (told after : Option Transcript) → IsToldLive inputs before started held told → (IsBad : List ℕ → Type 0)
      → ((a : List ℕ) → IsBad a → IsBadAnswer before most line a) → ((a : List ℕ) → IsBad a → (rs : List Run) → exchanged inputs before rs line a ≡ None) → (stop ≡ Failed → CountedFault 0 faults')
      → IsRefusal IsBad (ended line) held now stop told after → Refuses inputs before most faults' stop step told after
  refuses faults faults' now stop None after live IsBad bad none counted h =
      let is : after ≡ None = untold_refused IsBad (ended line) held now stop after h in
      subst (λ (o : Option Transcript). Refuses inputs before most faults' stop step None o) (sym is) (record { link = tt; runs = refl })
  refuses faults faults' now stop (Some t) after live IsBad bad none counted h =
      let u = refused inputs before started held t live line plain is_line well most faults' IsBad bad none now stop after counted h in
      subst (λ (o : Option Transcript). Refuses inputs before most faults' stop step (Some t) o) (sym u.1)
      (record { link = (u.2.well, u.2.bears, (line, of_call, u.2.breaks)); runs = ap (λ (l : List Run). Some l) u.2.runs })

-- the line of a reset, and a letter's
reset_plain : NoFeed reset_line
reset_plain = All-from_recursion (λ b. b ≢ 10) reset_line (search rules)

-- a reset
module _ (inputs names : List (List ℕ)) (most faults faults' : ℕ) (started : Bool) (held now : List ℕ) (told after : Option Transcript) (live : IsToldLive inputs names started held told) where
  pub reset_answers : IsAnswered (ended reset_line) held now ready_line told after → Answers inputs names names most faults' now after_reset told after
  reset_answers h = answers inputs names most started held reset_line reset_plain false refl (inr refl) names faults faults' now ready_line after_reset told after live h (λ rs ss rr l spells. spells) (λ rs. refl)

  pub reset_refuses : (stop : SulStop) → (stop ≡ Failed → CountedFault faults faults') → IsRefusal (λ a. ¬ IsFormed reset_line a) (ended reset_line) held now stop told after → Refuses inputs names most faults' stop false told after
  reset_refuses stop counted h =
      refuses inputs names most started held reset_line reset_plain false refl (inr refl) faults faults' now stop told after live (λ a. ¬ IsFormed reset_line a)
      (λ a bad. inl bad)
      (λ a bad rs. ap (λ (b : Bool). cond b (Some (after_reset rs)) None) (false_from_ne_true (bytes_eq a ready_line) (λ is. bad (inl (refl, (bytes_eq-Decides a ready_line).0 is)))))
      (λ is. counted_since faults faults' (counted is)) h

pub letter_plain : (letter : List ℕ) → IsName letter → NoFeed (in_line letter)
letter_plain letter is_name =
    All-append (λ b. b ≢ 10) (codes "in ") letter (All-from_recursion (λ b. b ≢ 10) (codes "in ") (search rules))
    (All-weaker (λ b. (33 ≤ b) × (b ≤ 126)) (λ b. b ≢ 10) (λ b h. omega (arith, h.0)) letter is_name.printable)

no_reset : (letter : List ℕ) → in_line letter ≡ reset_line → ⊥
no_reset letter is = let first : ◌≡◌ {A = ℕ} 105 114 = ap (λ (l : List ℕ). get_or l 0 0) is in absurd (omega arith)

unformed : (letter a : List ℕ) → ((name : List ℕ) → IsName name → a ≢ out_line name) → IsFormed (in_line letter) a → ⊥
unformed letter a none (inl f) = no_reset letter f.0
unformed letter a none (inr f) = none f.1.0 f.1.1 f.1.2

-- an answer to a letter that names no output, or none that is known
names_none : (names : List (List ℕ)) (most : ℕ) (letter a : List ℕ) → NamesNone names most a → IsBadAnswer names most (in_line letter) a
names_none names most letter a none = go none.1
  where
    go : ((name : List ℕ) → IsName name → a ≢ out_line name) ⊎ IsUnknown names most a → IsBadAnswer names most (in_line letter) a
    go (inl h) = inl (unformed letter a h)
    go (inr h) = inr h

spells_some : (inputs names : List (List ℕ)) (rs : List Run) (x y : ℕ) (letter a : List ℕ) → number_of letter inputs ≡ Some x → number_behind (codes "out ") names a ≡ Some y → exchanged inputs names rs (in_line letter) a ≡ Some (after_step x y rs)
spells_some inputs names rs x y letter a number is =
    ap (λ (o : Option ℕ). stepped_runs rs o (number_behind (codes "out ") names a)) number ∙ ap (stepped_runs rs (Some x)) is

spells_none : (inputs names : List (List ℕ)) (rs : List Run) (x : ℕ) (letter a : List ℕ) → number_of letter inputs ≡ Some x → number_behind (codes "out ") names a ≡ None → exchanged inputs names rs (in_line letter) a ≡ None
spells_none inputs names rs x letter a number is =
    ap (λ (o : Option ℕ). stepped_runs rs o (number_behind (codes "out ") names a)) number ∙ ap (stepped_runs rs (Some x)) is

-- a letter
module _ (inputs before : List (List ℕ)) (most faults faults' : ℕ) (held now : List ℕ) (told after : Option Transcript) (live : IsToldLive inputs before true held told)
    (x : ℕ) (letter : List ℕ) (is_letter : slice_get inputs x ≡ Some letter) (number : number_of letter inputs ≡ Some x) (is_name : IsName letter) where
  plain : NoFeed (in_line letter)
  plain = letter_plain letter is_name

  letter_line : IsLineOf inputs true (in_line letter)
  letter_line = (letter, (x, slice_get_within inputs x letter is_letter, get_or_from_slice_get inputs x letter letter is_letter), refl)

  pub step_answers : (names : List (List ℕ)) (y : ℕ) (answer : List ℕ) → Brings before names y → AllDiffer names → number_behind (codes "out ") names answer ≡ Some y
      → IsAnswered (ended (in_line letter)) held now answer told after → Answers inputs before names most faults' now (after_step x y) told after
  step_answers names y answer brings differ is h =
      answers inputs before most true held (in_line letter) plain true letter_line (inl refl) names faults faults' now answer (after_step x y) told after live h
      (λ rs ss rr l spells. spells_grown inputs before names y brings differ rs ss rr l spells)
      (λ rs. spells_some inputs names rs x y letter answer number is)

  pub step_refuses : (stop : SulStop) → (stop ≡ Failed → CountedFault faults faults') → IsRefusal (NamesNone before most) (ended (in_line letter)) held now stop told after → Refuses inputs before most faults' stop true told after
  step_refuses stop counted h =
      refuses inputs before most true held (in_line letter) plain true letter_line (inl refl) faults faults' now stop told after live (NamesNone before most)
      (names_none before most letter)
      (λ a none rs. spells_none inputs before rs x letter a number none.0)
      (λ is. counted_since faults faults' (counted is)) h

-- how a system stands after a call
module _ (inputs before : List (List ℕ)) (most faults ends faults' ends' : ℕ) (started : Bool) (held now : List ℕ) (stop : Option SulStop) (cut : Bool) (told after : Option Transcript)
    (live : stop ≡ None) (stands : Stands inputs before most faults ends started held stop cut told) where
  told_live : IsToldLive inputs before started held told
  told_live = subst (λ (s : Option SulStop). IsTold inputs before most faults started held s cut told) live stands.link

  stands_on : (names : List (List ℕ)) (next : List Run → List Run) → Answers inputs before names most faults' now next told after → Stands inputs names most faults' ends' true now stop cut after
  stands_on names next a =
      subst (λ (s : Option SulStop). Stands inputs names most faults' ends' true now s cut after) (sym live) (record { counted = tt; link = a.link })

  stands_stopped : (step : Bool) (e e' : SulStop) → e' ≡ e → (e ≡ Failed → CountedFault faults faults') → (e ≡ Gone → CountedFault ends ends') → Refuses inputs before most faults' e step told after
      → Stands inputs before most faults' ends' started now (Some e') step after
  stands_stopped step e e' same failed gone r =
      subst (λ (s : SulStop). Stands inputs before most faults' ends' started now (Some s) step after) (sym same)
      (record { counted = counted_stop e faults ends faults' ends' failed gone; link = r.link })

  pub reset_ready : IsAnswered (ended reset_line) held now ready_line told after
      → Stands inputs before most faults' ends' true now stop cut after × (told_runs inputs before after ≡ option_map after_reset (told_runs inputs before told))
  reset_ready h =
      let a = reset_answers inputs before most faults faults' started held now told after told_live h in
      (stands_on before after_reset a, a.runs)

  pub reset_refused : (e e' : SulStop) → e' ≡ e → (e ≡ Failed → CountedFault faults faults') → (e ≡ Gone → CountedFault ends ends') → IsRefusal (λ a. ¬ IsFormed reset_line a) (ended reset_line) held now e told after
      → Stands inputs before most faults' ends' started now (Some e') false after × (told_runs inputs before after ≡ told_runs inputs before told)
  reset_refused e e' same failed gone h =
      let r = reset_refuses inputs before most faults faults' started held now told after told_live e failed h in
      (stands_stopped false e e' same failed gone r, r.runs)

  module _ (begun : started ≡ true) (x : ℕ) (letter : List ℕ) (is_letter : slice_get inputs x ≡ Some letter) (number : number_of letter inputs ≡ Some x) (each : All IsName inputs) where
    told_begun : IsToldLive inputs before true held told
    told_begun = subst (λ (b : Bool). IsToldLive inputs before b held told) begun told_live

    pub step_answered : (names : List (List ℕ)) (y : ℕ) (answer : List ℕ) → Brings before names y → AllDiffer names → number_behind (codes "out ") names answer ≡ Some y
        → IsAnswered (ended (in_line letter)) held now answer told after
        → Stands inputs names most faults' ends' started now stop cut after × (told_runs inputs names after ≡ option_map (after_step x y) (told_runs inputs before told))
    step_answered names y answer brings differ is h =
        let a = step_answers inputs before most faults faults' held now told after told_begun x letter is_letter number (IsName-at inputs x letter each is_letter) names y answer brings differ is h in
        (subst (λ (b : Bool). Stands inputs names most faults' ends' b now stop cut after) (sym begun) (stands_on names (after_step x y) a), a.runs)

    pub step_refused : (e e' : SulStop) → e' ≡ e → (e ≡ Failed → CountedFault faults faults') → (e ≡ Gone → CountedFault ends ends') → IsRefusal (NamesNone before most) (ended (in_line letter)) held now e told after
        → Stands inputs before most faults' ends' started now (Some e') true after × (told_runs inputs before after ≡ told_runs inputs before told)
    step_refused e e' same failed gone h =
        let r = step_refuses inputs before most faults faults' held now told after told_begun x letter is_letter number (IsName-at inputs x letter each is_letter) e failed h in
        (stands_stopped true e e' same failed gone r, r.runs)

-- a system before its first call
pub stands_first : (inputs names : List (List ℕ)) (most faults ends : ℕ) (held : List ℕ) (cut : Bool) (told : Option Transcript) → held ≡ [] → IsUntouched told → Stands inputs names most faults ends false held None cut told
stands_first inputs names most faults ends held cut told empty is =
    subst (λ (l : List ℕ). Stands inputs names most faults ends false l None cut told) (sym empty) (record { counted = tt; link = live_untouched inputs names told is })

pub no_runs : (inputs names : List (List ℕ)) (told : Option Transcript) → IsUntouched told → NoRuns (told_runs inputs names told)
no_runs inputs names None is = tt
no_runs inputs names (Some t) is = ap (spelled inputs names) is
