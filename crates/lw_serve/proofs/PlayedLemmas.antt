-- What serving a machine comes to.
use Rattle.std.proofs.Common.{◌≡◌, ℕ, List, false, Option, Result, Ok, Err, ⊎_elim, ap, refl, subst, sym}
use Rattle.lw_json.specs.declared.files.Machine.{Machine}
use Rattle.lw_line.specs.Serving.{Plays}
use Rattle.lw_line.specs.declared.serving.Served.{Served as Done}
use Rattle.lw_line.specs.declared.serving.ServeFault.{ServeFault}
use Rattle.lw_line.specs.declared.serving.ServeFault.TheVariants as fault
use Rattle.lw_outside.specs.Files.{read_call}
use Rattle.lw_report.specs.Outcomes.{HasOwnText, StandsOrWants}
use Rattle.lw_outside.specs.Streams.{SinkState, SourceState}
use Rattle.lw_report.specs.declared.outcome.Outcome.{Outcome}
use Rattle.lw_report.specs.declared.outcome.Outcome.TheVariants.{Served, BadFile, FileTooLong, NoMemory, BadAsk, FileFault, SourceFault, SinkFault}
use Rattle.lw_serve.specs.Calls.{read_of}
use Rattle.lw_serve.specs.Outcomes.{IsUntroubled, served_outcome}
use Rattle.lw_serve.specs.Playing.{IsPlayed, PlaysTo}
use Rattle.lw_serve.specs.bodies.Served.{HasServed}

-- what holds of what serving came to, and of out of memory after a bad line, holds of the outcome
by_served : (P : Outcome → Type 0) (served : Result Done ServeFault) (outcome : Outcome) → StandsOrWants (served_outcome served) outcome → P (served_outcome served) → ((n : ℕ) → served ≡ Err (fault.BadLine n) → P NoMemory) → P outcome
by_served P (Ok s) outcome stands here memory = ⊎_elim (λ (e : outcome ≡ Served s). subst P (sym e) here) (λ (w : HasOwnText (Served s) × (outcome ≡ NoMemory)). absurd w.0) stands
by_served P (Err fault.SourceFault) outcome stands here memory = ⊎_elim (λ (e : outcome ≡ SourceFault). subst P (sym e) here) (λ (w : HasOwnText SourceFault × (outcome ≡ NoMemory)). absurd w.0) stands
by_served P (Err fault.SinkFault) outcome stands here memory = ⊎_elim (λ (e : outcome ≡ SinkFault). subst P (sym e) here) (λ (w : HasOwnText SinkFault × (outcome ≡ NoMemory)). absurd w.0) stands
by_served P (Err (fault.BadLine n)) outcome stands here memory = ⊎_elim (λ (e : outcome ≡ BadAsk n). subst P (sym e) here) (λ (w : HasOwnText (BadAsk n) × (outcome ≡ NoMemory)). subst P (sym w.1) (memory n refl)) stands

source_is : (served : Result Done ServeFault) → served_outcome served ≡ SourceFault → served ≡ Err fault.SourceFault
source_is (Ok s) e = let wrong : Served s ≡ SourceFault = e in absurd (cc)
source_is (Err fault.SourceFault) e = refl
source_is (Err fault.SinkFault) e = let wrong : SinkFault ≡ SourceFault = e in absurd (cc)
source_is (Err (fault.BadLine n)) e = let wrong : BadAsk n ≡ SourceFault = e in absurd (cc)

sink_is : (served : Result Done ServeFault) → served_outcome served ≡ SinkFault → served ≡ Err fault.SinkFault
sink_is (Ok s) e = let wrong : Served s ≡ SinkFault = e in absurd (cc)
sink_is (Err fault.SourceFault) e = let wrong : SourceFault ≡ SinkFault = e in absurd (cc)
sink_is (Err fault.SinkFault) e = refl
sink_is (Err (fault.BadLine n)) e = let wrong : BadAsk n ≡ SinkFault = e in absurd (cc)

done_is : (served : Result Done ServeFault) (s : Done) → served_outcome served ≡ Served s → served ≡ Ok s
done_is (Ok t) s e = let both : Served t ≡ Served s = e in let same : t ≡ s = cc in ap (λ (d : Done). Ok d) same
done_is (Err fault.SourceFault) s e = let wrong : SourceFault ≡ Served s = e in absurd (cc)
done_is (Err fault.SinkFault) s e = let wrong : SinkFault ≡ Served s = e in absurd (cc)
done_is (Err (fault.BadLine n)) s e = let wrong : BadAsk n ≡ Served s = e in absurd (cc)

bad_is : (served : Result Done ServeFault) (n : ℕ) → served_outcome served ≡ BadAsk n → served ≡ Err (fault.BadLine n)
bad_is (Ok s) n e = let wrong : Served s ≡ BadAsk n = e in absurd (cc)
bad_is (Err fault.SourceFault) n e = let wrong : SourceFault ≡ BadAsk n = e in absurd (cc)
bad_is (Err fault.SinkFault) n e = let wrong : SinkFault ≡ BadAsk n = e in absurd (cc)
bad_is (Err (fault.BadLine k)) n e = let both : BadAsk k ≡ BadAsk n = e in let same : k ≡ n = cc in ap (λ (i : ℕ). Err (fault.BadLine i)) same

no_memory_is : (served : Result Done ServeFault) → served_outcome served ≡ NoMemory → ⊥
no_memory_is (Ok s) e = let wrong : Served s ≡ NoMemory = e in absurd (cc)
no_memory_is (Err fault.SourceFault) e = let wrong : SourceFault ≡ NoMemory = e in absurd (cc)
no_memory_is (Err fault.SinkFault) e = let wrong : SinkFault ≡ NoMemory = e in absurd (cc)
no_memory_is (Err (fault.BadLine n)) e = let wrong : BadAsk n ≡ NoMemory = e in absurd (cc)

plays_here : (m : Machine) (input : Option (List ℕ)) (served : Result Done ServeFault) (before now : Option (List ℕ)) → Plays m input served before now → PlaysTo m input (served_outcome served) before now
plays_here m input (Ok s) before now is = is
plays_here m input (Err fault.SourceFault) before now is = is
plays_here m input (Err fault.SinkFault) before now is = is
plays_here m input (Err (fault.BadLine n)) before now is = is

untroubled_here : (served : Result Done ServeFault) → (served ≡ Err fault.SourceFault → ⊥) → (served ≡ Err fault.SinkFault → ⊥) → IsUntroubled (served_outcome served)
untroubled_here (Ok s) source sink = tt
untroubled_here (Err fault.SourceFault) source sink = absurd (source refl)
untroubled_here (Err fault.SinkFault) source sink = absurd (sink refl)
untroubled_here (Err (fault.BadLine n)) source sink = tt

-- an outcome that speaks of a file
abbrev pub IsOfFile : Outcome → Type 0
IsOfFile (BadFile role fault) = Unit {0}
IsOfFile (FileTooLong role) = Unit {0}
IsOfFile (FileFault role) = Unit {0}
IsOfFile _ = ⊥

no_file_here : (served : Result Done ServeFault) → IsOfFile (served_outcome served) → ⊥
no_file_here (Ok s) of = of
no_file_here (Err fault.SourceFault) of = of
no_file_here (Err fault.SinkFault) of = of
no_file_here (Err (fault.BadLine n)) of = of

read_here : (model : List ℕ) (served : Result Done ServeFault) → read_of model (served_outcome served) ≡ read_call model false
read_here model (Ok s) = refl
read_here model (Err fault.SourceFault) = refl
read_here model (Err fault.SinkFault) = refl
read_here model (Err (fault.BadLine n)) = refl

module _ (m : Machine) (i j : SourceState) (o p : SinkState) (outcome : Outcome) (is : HasServed m i j o p outcome) where
  pub no_file : IsOfFile outcome → ⊥
  no_file = by_served (λ x. IsOfFile x → ⊥) is.served outcome is.comes (no_file_here is.served) (λ n _ of. of)

  pub answered_read : (model : List ℕ) → read_of model outcome ≡ read_call model false
  answered_read model = by_served (λ x. read_of model x ≡ read_call model false) is.served outcome is.comes (read_here model is.served) (λ n _. refl)

  pub untroubled_play : (is.served ≡ Err fault.SourceFault → ⊥) → (is.served ≡ Err fault.SinkFault → ⊥) → IsUntroubled outcome
  untroubled_play source sink = by_served IsUntroubled is.served outcome is.comes (untroubled_here is.served source sink) (λ n _. tt)

  -- that it was served, from the outcome
  done_of : (s : Done) → outcome ≡ Served s → is.served ≡ Ok s
  done_of s = by_served (λ x. x ≡ Served s → is.served ≡ Ok s) is.served outcome is.comes (done_is is.served s) (λ n _ e. let wrong : NoMemory ≡ Served s = e in absurd (cc))

  pub is_played : IsPlayed m i j o p outcome
  is_played = record {
    plays = by_served (λ x. PlaysTo m i.left x o.taken p.taken) is.served outcome is.comes (plays_here m i.left is.served o.taken p.taken is.plays)
        (λ n e. (n, subst (λ (r : Result Done ServeFault). Plays m i.left r o.taken p.taken) e is.plays));
    source = λ e. is.source (by_served (λ x. x ≡ SourceFault → is.served ≡ Err fault.SourceFault) is.served outcome is.comes (source_is is.served) (λ n _ w. let wrong : NoMemory ≡ SourceFault = w in absurd (cc)) e);
    sink = λ e. is.sink (by_served (λ x. x ≡ SinkFault → is.served ≡ Err fault.SinkFault) is.served outcome is.comes (sink_is is.served) (λ n _ w. let wrong : NoMemory ≡ SinkFault = w in absurd (cc)) e);
    ended = λ s e. is.ended s (done_of s e);
    limit = λ s e. is.limit s (done_of s e);
    bad = λ n e. is.bad n (by_served (λ x. x ≡ BadAsk n → is.served ≡ Err (fault.BadLine n)) is.served outcome is.comes (bad_is is.served n) (λ k _ w. let wrong : NoMemory ≡ BadAsk n = w in absurd (cc)) e);
    memory = λ e. let k = by_served (λ x. x ≡ NoMemory → (n : ℕ) × (is.served ≡ Err (fault.BadLine n))) is.served outcome is.comes (λ w. absurd (no_memory_is is.served w)) (λ n same w. (n, same)) e in is.bad k.0 k.1;
    quiet = λ s e. is.quiet s (done_of s e);
  }
