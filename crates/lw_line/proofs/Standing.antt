-- How a child system stands before and after a call.
use Rattle.std.proofs.Common.{◌≡◌, ◌≢◌, ◌⊎◌, inl, inr, ℕ, ◌+◌, ◌<◌, ◌≤◌, List, [], ◌∷◌, ◌++◌, length, slice_get, take, drop, Bool, true, false, Option, Some, None, option_map, refl, ap, sym, ◌∙◌, subst, arith, append_assoc, length-append}
use Rattle.std.specs.List.{All}
use Rattle.std.specs.Str.Lines.{strip_carriage_return}
use Rattle.std.proofs.lemmas.List.{take-append-le, get_or_at, get_or_push, take-append-drop}
use Rattle.std.proofs.lemmas.List.Elements.{All-push, All-take, All-nil}
use Rattle.std.proofs.lemmas.Option.{slice_get-get_or}
use Rattle.lw_words.specs.Cause.{CountedFault}
use Rattle.lw_words.specs.declared.stop.SulStop.{SulStop}
use Rattle.lw_words.specs.declared.stop.SulStop.TheVariants.{Failed, BadLine, Gone}
use Rattle.lw_sul.specs.declared.runs.Run.{Run}
use Rattle.lw_outside.specs.Lines.{Split, split_bytes, lines_of, rest_of}
use Rattle.lw_outside.specs.Links.{Transcript, IsUntouched, sends, receives}
use Rattle.lw_outside.specs.Played.{ended_lines}
use Rattle.lw_outside.specs.Protocol.{reset_line}
use Rattle.lw_line.specs.Transcripts.{BreaksAt, IsSentLine, IsProper, SpellsAll, exchanged, lines_taken_by, spelled, spelled_from}
use Rattle.lw_line.specs.Causes.{EndsWithin, IsBadAnswer, IsRefusedLine, IsSpelled}
use Rattle.lw_line.specs.bodies.Exchanges.{IsAnswered, IsRefusal, ended}
use Rattle.lw_line.specs.bodies.Pieces.{NoFeed, EndsOpen}
use Rattle.lw_line.specs.bodies.Standing.{Spells, BeginsWell, IsLive, IsToldLive}
use Rattle.lw_line.proofs.Covering.{all_covered}
use Rattle.lw_line.proofs.Spelling.{spells_push, spells_length, spelled_whole, spelled_unanswered, spelled_badly}
use Rattle.lw_line.proofs.Splitting.{split, split_lines, split_lines_open, split_ended, ended_push}

-- the lines of a transcript, and what stands behind them
pub record Sees (t : Transcript) (lines : List (List ℕ)) (rest : List ℕ) (answers : List (List ℕ)) (more : List ℕ) : Type 0 where
  pub sent : split_bytes t.sent ≡ split lines rest
  pub received : split_bytes t.received ≡ split answers more

-- the first of some lines is a reset
abbrev pub Begins : List (List ℕ) → Type 0
Begins lines = (line : List ℕ) (more : List (List ℕ)) → lines ≡ line ∷ more → line ≡ reset_line

begins : (started : Bool) (lines : List (List ℕ)) → BeginsWell started lines → Begins lines
begins started [] well line more is = cc
begins started (l ∷ ls) well line more is = let same : l ≡ line = cc in sym same ∙ well

begins_push : (started : Bool) (lines : List (List ℕ)) (l : List ℕ) → BeginsWell started lines → (started ≡ true) ⊎ (l ≡ reset_line) → BeginsWell true (lines ++ l ∷ [])
begins_push started [] l well (inr is) = is
begins_push true [] l well (inl is) = absurd well
begins_push false [] l well (inl is) = cc
begins_push true (x ∷ lines) l well o = well
begins_push false (x ∷ lines) l well o = well

proper : (inputs : List (List ℕ)) (faults : ℕ) (t : Transcript) (lines : List (List ℕ)) (rest : List ℕ) (answers : List (List ℕ)) (more : List ℕ) → Sees t lines rest answers more
    → All (IsSentLine inputs) lines → Begins lines → length lines ≤ length answers + 1 → (rest ≢ [] → CountedFault 0 faults) → IsProper inputs faults t
proper inputs faults t lines rest answers more sees each first few whole =
    let ls : lines_of t.sent ≡ lines = ap (λ (s : Split). s.lines) sees.sent in
    let rs : lines_of t.received ≡ answers = ap (λ (s : Split). s.lines) sees.received in
    let bs : rest_of t.sent ≡ rest = ap (λ (s : Split). s.rest) sees.sent in
    record {
      each = subst (λ (l : List (List ℕ)). All (IsSentLine inputs) l) (sym ls) each;
      first = λ line more is. first line more (sym ls ∙ is);
      answered = omega (arith, few, ap (λ (l : List (List ℕ)). length l) ls, ap (λ (l : List (List ℕ)). length l) rs);
      whole = λ some. whole (λ none. some (bs ∙ none));
    }

-- what a transcript spells, by its lines
spells_lines : (inputs names : List (List ℕ)) (t : Transcript) (lines : List (List ℕ)) (rest : List ℕ) (answers : List (List ℕ)) (more : List ℕ) → Sees t lines rest answers more
    → spelled inputs names t ≡ spelled_from inputs names [] lines answers
spells_lines inputs names t lines rest answers more sees =
    ap (λ (s : Split). spelled_from inputs names [] s.lines (lines_of t.received)) sees.sent
    ∙ ap (λ (s : Split). spelled_from inputs names [] lines s.lines) sees.received

-- no call was made
pub live_untouched : (inputs names : List (List ℕ)) (told : Option Transcript) → IsUntouched told → IsToldLive inputs names false [] told
live_untouched inputs names None is = tt
live_untouched inputs names (Some t) is =
    record {
      lines = [];
      answers = [];
      runs = [];
      sent = ap (λ (u : Transcript). u.sent) is;
      received = ap (λ (u : Transcript). u.received) is;
      each = All-nil (IsSentLine inputs);
      begins = tt;
      plain_lines = All-nil NoFeed;
      plain_answers = All-nil NoFeed;
      spells = refl;
    }

module _ (inputs names : List (List ℕ)) (started : Bool) (held : List ℕ) (t : Transcript) (live : IsLive inputs names started held t) where
  pub live_sees : Sees t live.lines [] (live.answers ++ lines_of held) (rest_of held)
  live_sees = record {
    sent = ap split_bytes live.sent ∙ split_ended live.lines live.plain_lines;
    received = ap split_bytes live.received ∙ split_lines live.answers held live.plain_answers;
  }

  pub live_length : length live.lines ≡ length live.answers
  live_length = spells_length inputs names [] live.lines live.answers live.runs live.spells

  pub live_runs : spelled inputs names t ≡ live.runs
  live_runs =
      spells_lines inputs names t live.lines [] (live.answers ++ lines_of held) (rest_of held) live_sees
      ∙ spelled_whole inputs names [] live.lines live.answers live.runs (lines_of held) live.spells

  pub live_covered : length live.lines ≡ lines_taken_by (spelled inputs names t)
  live_covered = sym (all_covered inputs names started live.lines live.answers live.runs live.begins live.spells) ∙ ap (λ (rs : List Run). lines_taken_by rs) (sym live_runs)

  pub live_spells : SpellsAll inputs names t
  live_spells = (ap (λ (s : Split). length s.lines) live_sees.sent ∙ live_covered, ap (λ (s : Split). s.rest) live_sees.sent)

  pub live_proper : (faults : ℕ) → IsProper inputs faults t
  live_proper faults =
      let long : length (live.answers ++ lines_of held) ≡ length live.answers + length (lines_of held) = length-append live.answers (lines_of held) in
      let same : length live.lines ≡ length live.answers = live_length in
      proper inputs faults t live.lines [] (live.answers ++ lines_of held) (rest_of held) live_sees live.each (begins started live.lines live.begins) (omega arith) (λ some. absurd (some refl))

  -- what was received, by all that came
  pub came : (more bytes : List ℕ) → held ++ more ≡ bytes → t.received ++ more ≡ ended_lines live.answers ++ bytes
  came more bytes is =
      ap (λ (l : List ℕ). l ++ more) live.received
      ∙ (append_assoc (ended_lines live.answers) held more ∙ ap (λ (l : List ℕ). ended_lines live.answers ++ l) is)

  pub came_line : (more raw now : List ℕ) → held ++ more ≡ raw ++ 10 ∷ now → t.received ++ more ≡ ended_lines (live.answers ++ raw ∷ []) ++ now
  came_line more raw now is =
      came more (raw ++ 10 ∷ now) is
      ∙ sym (ap (λ (l : List ℕ). l ++ now) (ended_push live.answers raw)
      ∙ (append_assoc (ended_lines live.answers) (raw ++ 10 ∷ []) now ∙ ap (λ (l : List ℕ). ended_lines live.answers ++ l) (append_assoc raw (10 ∷ []) now)))

  -- an answer is one of the lines that were received
  pub is_among : (more raw now : List ℕ) → NoFeed raw → held ++ more ≡ raw ++ 10 ∷ now → slice_get (lines_of (t.received ++ more)) (length live.answers) ≡ Some raw
  is_among more raw now plain is =
      let all : List (List ℕ) = live.answers ++ raw ∷ lines_of now in
      let long : length all ≡ length live.answers + length (raw ∷ lines_of now) = length-append live.answers (raw ∷ lines_of now) in
      let sees : split_bytes (t.received ++ more) ≡ split all (rest_of now) =
      ap split_bytes (came_line more raw now is)
      ∙ (split_lines (live.answers ++ raw ∷ []) now (All-push NoFeed live.answers raw live.plain_answers plain)
      ∙ ap (λ (l : List (List ℕ)). split l (rest_of now)) (append_assoc live.answers (raw ∷ []) (lines_of now))) in
      ap (λ (s : Split). slice_get s.lines (length live.answers)) sees
      ∙ (slice_get-get_or all (length live.answers) [] (omega arith)
      ∙ ap (λ (l : List ℕ). Some l) (get_or_at live.answers raw (lines_of now) [] (length live.answers) refl))

  -- and stands where the line that it answers stands among those that were sent
  pub is_sent : (line : List ℕ) → NoFeed line → slice_get (lines_of (t.sent ++ ended line)) (length live.answers) ≡ Some line
  is_sent line plain =
      let all : List (List ℕ) = live.lines ++ line ∷ [] in
      let long : length all ≡ length live.lines + 1 = length-append live.lines (line ∷ []) in
      let same : length live.lines ≡ length live.answers = live_length in
      let sees : split_bytes (t.sent ++ ended line) ≡ split all [] =
      ap split_bytes (ap (λ (l : List ℕ). l ++ ended line) live.sent ∙ sym (ended_push live.lines line))
      ∙ split_ended all (All-push NoFeed live.lines line live.plain_lines plain) in
      ap (λ (s : Split). slice_get s.lines (length live.answers)) sees
      ∙ (slice_get-get_or all (length live.answers) [] (omega arith)
      ∙ ap (λ (l : List ℕ). Some l) (get_or_push live.lines line [] (length live.answers) same))

  module _ (line : List ℕ) (plain : NoFeed line) (is_line : IsSentLine inputs line) (well : (started ≡ true) ⊎ (line ≡ reset_line)) where
    pub lines_more : All (IsSentLine inputs) (live.lines ++ line ∷ [])
    lines_more = All-push (IsSentLine inputs) live.lines line live.each is_line

    pub plain_more : All NoFeed (live.lines ++ line ∷ [])
    plain_more = All-push NoFeed live.lines line live.plain_lines plain

    pub begins_more : BeginsWell true (live.lines ++ line ∷ [])
    begins_more = begins_push started live.lines line live.begins well

    pub sent_more : t.sent ++ ended line ≡ ended_lines (live.lines ++ line ∷ [])
    sent_more = ap (λ (l : List ℕ). l ++ ended line) live.sent ∙ sym (ended_push live.lines line)

    pub length_more : length (live.lines ++ line ∷ []) ≡ length live.answers + 1
    length_more = length-append live.lines (line ∷ []) ∙ ap (λ (n : ℕ). n + 1) live_length

    -- the link breaks at the line, where the runs are as before
    pub sent_breaks : (faults : ℕ) (u : Transcript) → split_bytes u.sent ≡ split (live.lines ++ line ∷ []) [] → spelled inputs names u ≡ spelled inputs names t → BreaksAt inputs names faults u line
    sent_breaks faults u sent same = inl (
      ap (λ (s : Split). length s.lines) sent
          ∙ (length-append live.lines (line ∷ [])
          ∙ ap (λ (n : ℕ). n + 1) (live_covered ∙ ap (λ (rs : List Run). lines_taken_by rs) (sym same))),
      (live.lines, ap (λ (s : Split). s.lines) sent),
      ap (λ (s : Split). s.rest) sent,
    )

    -- a good answer
    pub good : (after : List (List ℕ)) (now answer : List ℕ) (next : List Run → List Run) → ((rs : List Run) → Spells inputs names [] live.lines live.answers rs → Spells inputs after [] live.lines live.answers rs)
        → ((rs : List Run) → exchanged inputs after rs line answer ≡ Some (next rs)) → (raw more : List ℕ) → NoFeed raw → answer ≡ strip_carriage_return raw → held ++ more ≡ raw ++ 10 ∷ now
        → (l : IsLive inputs after true now (receives more (sends (ended line) t))) × (l.runs ≡ next live.runs)
    good after now answer next stays gives raw more plain_raw stripped is = (
      record {
        lines = live.lines ++ line ∷ [];
        answers = live.answers ++ raw ∷ [];
        runs = next live.runs;
        sent = sent_more;
        received = came_line more raw now is;
        each = lines_more;
        begins = begins_more;
        plain_lines = plain_more;
        plain_answers = All-push NoFeed live.answers raw live.plain_answers plain_raw;
        spells =
            spells_push inputs after [] live.lines live.answers live.runs line raw (next live.runs) (stays live.runs live.spells)
            (ap (exchanged inputs after live.runs line) (sym stripped) ∙ gives live.runs);
      },
      refl,
    )

    -- the transcript once the line was sent, by what came for it
    pub sees_sent : (more bytes : List ℕ) (answers : List (List ℕ)) (rest : List ℕ) → held ++ more ≡ bytes → split_bytes (ended_lines live.answers ++ bytes) ≡ split answers rest
        → Sees (receives more (sends (ended line) t)) (live.lines ++ line ∷ []) [] answers rest
    sees_sent more bytes answers rest is splits = record {
      sent = ap split_bytes sent_more ∙ split_ended (live.lines ++ line ∷ []) plain_more;
      received = ap split_bytes (came more bytes is) ∙ splits;
    }

    pub sent_proper : (faults : ℕ) (u : Transcript) (answers : List (List ℕ)) (rest : List ℕ) → Sees u (live.lines ++ line ∷ []) [] answers rest → length live.answers ≤ length answers → IsProper inputs faults u
    sent_proper faults u answers rest sees le =
        let long : length (live.lines ++ line ∷ []) ≡ length live.answers + 1 = length_more in
        proper inputs faults u (live.lines ++ line ∷ []) [] answers rest sees lines_more (begins true (live.lines ++ line ∷ []) begins_more) (omega arith) (λ some. absurd (some refl))

-- how a refused call leaves the transcript
pub record Leaves (inputs names : List (List ℕ)) (most faults : ℕ) (line : List ℕ) (stop : SulStop) (t u : Transcript) : Type 0 where
  pub well : IsProper inputs faults u
  pub bears : IsSpelled names most u (Some stop)
  pub runs : spelled inputs names u ≡ spelled inputs names t
  pub breaks : BreaksAt inputs names faults u line

module _ (inputs names : List (List ℕ)) (started : Bool) (held : List ℕ) (t : Transcript) (live : IsLive inputs names started held t)
    (line : List ℕ) (plain : NoFeed line) (is_line : IsSentLine inputs line) (well : (started ≡ true) ⊎ (line ≡ reset_line)) (most faults : ℕ) where
  -- not all of the line was sent
  part_sent : (n : ℕ) → n < length (ended line) → CountedFault 0 faults → Leaves inputs names most faults line Failed t (sends (take n (ended line)) t)
  part_sent n lt counted =
      let u : Transcript = sends (take n (ended line)) t in
      let long : length (ended line) ≡ length line + 1 = length-append line (10 ∷ []) in
      let part : take n (ended line) ≡ take n line = take-append-le n line (10 ∷ []) (omega arith) in
      let early : List (List ℕ) = live.answers ++ lines_of held in
      let same : length live.lines ≡ length live.answers = live_length inputs names started held t live in
      let more : length early ≡ length live.answers + length (lines_of held) = length-append live.answers (lines_of held) in
      let sees : Sees u live.lines (take n line) early (rest_of held) = record {
        sent =
            ap split_bytes (ap (λ (l : List ℕ). t.sent ++ l) part ∙ ap (λ (l : List ℕ). l ++ take n line) live.sent)
            ∙ split_lines_open live.lines (take n line) live.plain_lines (All-take (λ b. b ≢ 10) n line plain);
        received = (live_sees inputs names started held t live).received;
      } in
      record {
        well = proper inputs faults u live.lines (take n line) early (rest_of held) sees live.each (begins started live.lines live.begins) (omega arith) (λ _. counted);
        bears = tt;
        runs =
            spells_lines inputs names u live.lines (take n line) early (rest_of held) sees
            ∙ (spelled_whole inputs names [] live.lines live.answers live.runs (lines_of held) live.spells ∙ sym (live_runs inputs names started held t live));
        breaks = inr (
          ap (λ (s : Split). length s.lines) sees.sent
              ∙ (live_covered inputs names started held t live
              ∙ ap (λ (rs : List Run). lines_taken_by rs) (sym (spells_lines inputs names u live.lines (take n line) early (rest_of held) sees
              ∙ (spelled_whole inputs names [] live.lines live.answers live.runs (lines_of held) live.spells ∙ sym (live_runs inputs names started held t live))))),
          (drop n line, sym (take-append-drop n line) ∙ ap (λ (l : List ℕ). l ++ drop n line) (sym (ap (λ (s : Split). s.rest) sees.sent))),
          counted,
        );
      }

  module _ (more bytes : List ℕ) (is : held ++ more ≡ bytes) (open_ended : NoFeed bytes) where
    unanswered : Transcript
    unanswered = receives more (sends (ended line) t)

    sees_unanswered : Sees unanswered (live.lines ++ line ∷ []) [] live.answers bytes
    unfolding unanswered
    sees_unanswered = sees_sent inputs names started held t live line plain is_line well more bytes live.answers bytes is (split_lines_open live.answers bytes live.plain_answers open_ended)

    waits : (stop : SulStop) → IsSpelled names most unanswered (Some stop) → Leaves inputs names most faults line stop t unanswered
    waits stop bears = record {
      well = sent_proper inputs names started held t live line plain is_line well faults unanswered live.answers bytes sees_unanswered (omega arith);
      bears = bears;
      runs =
          spells_lines inputs names unanswered (live.lines ++ line ∷ []) [] live.answers bytes sees_unanswered
          ∙ (spelled_unanswered inputs names [] live.lines live.answers live.runs line live.spells ∙ sym (live_runs inputs names started held t live));
      breaks = sent_breaks inputs names started held t live line plain is_line well faults unanswered sees_unanswered.sent
          (spells_lines inputs names unanswered (live.lines ++ line ∷ []) [] live.answers bytes sees_unanswered
          ∙ (spelled_unanswered inputs names [] live.lines live.answers live.runs line live.spells ∙ sym (live_runs inputs names started held t live)));
    }

    ends_within : EndsWithin unanswered
    ends_within =
        ap (λ (s : Split). length s.lines) sees_unanswered.sent
        ∙ (length_more inputs names started held t live line plain is_line well
        ∙ ap (λ (s : Split). length s.lines + 1) (sym sees_unanswered.received))

    too_long : length bytes ≡ 256 → IsRefusedLine names most unanswered bytes
    too_long size =
        let same : length live.lines ≡ length live.answers = live_length inputs names started held t live in
        record {
          before = live.lines;
          last = line;
          sent = ap (λ (s : Split). s.lines) sees_unanswered.sent;
          received = inr (ap (λ (s : Split). length s.lines) sees_unanswered.received ∙ sym same, ap (λ (s : Split). s.rest) sees_unanswered.received, size);
        }

  -- no line came for it
  ends_open : (stop : SulStop) (after : Option Transcript) → EndsOpen held stop (option_map (sends (ended line)) (Some t)) after → (u : Transcript) × (after ≡ Some u) × Leaves inputs names most faults line stop t u
  unfolding unanswered
  ends_open Failed after h = let c = h.1.come in (unanswered c.more h.0 c.whole h.1.plain, c.told, waits c.more h.0 c.whole h.1.plain Failed tt)
  ends_open Gone after h = let c = h.1.come in (unanswered c.more h.0 c.whole h.1.plain, c.told, waits c.more h.0 c.whole h.1.plain Gone (ends_within c.more h.0 c.whole h.1.plain))
  ends_open (BadLine l) after h =
      let c = h.0.come in
      (unanswered c.more l c.whole h.0.plain, c.told, waits c.more l c.whole h.0.plain (BadLine l) (too_long c.more l c.whole h.0.plain h.1))

  -- a bad line came for it
  bad_answer : (now answer : List ℕ) (after : Option Transcript) → IsAnswered (ended line) held now answer (Some t) after → IsBadAnswer names most line answer → ((rs : List Run) → exchanged inputs names rs line answer ≡ None)
      → (u : Transcript) × (after ≡ Some u) × Leaves inputs names most faults line (BadLine answer) t u
  bad_answer now answer after h bad none =
      let c = h.received.come in
      let u : Transcript = receives c.more (sends (ended line) t) in
      let raw : List ℕ = h.raw in
      let early : List (List ℕ) = (live.answers ++ raw ∷ []) ++ lines_of now in
      let early' : List (List ℕ) = live.answers ++ raw ∷ lines_of now in
      let all : List ℕ = raw ++ 10 ∷ now in
      let assoc : early ≡ early' = append_assoc live.answers (raw ∷ []) (lines_of now) in
      let long : length early' ≡ length live.answers + length (raw ∷ lines_of now) = length-append live.answers (raw ∷ lines_of now) in
      let same : length live.lines ≡ length live.answers = live_length inputs names started held t live in
      let sees : Sees u (live.lines ++ line ∷ []) [] early' (rest_of now) = record {
        sent = ap split_bytes (sent_more inputs names started held t live line plain is_line well) ∙ split_ended (live.lines ++ line ∷ []) (plain_more inputs names started held t live line plain is_line well);
        received =
            ap split_bytes (came_line inputs names started held t live c.more raw now c.whole)
            ∙ (split_lines (live.answers ++ raw ∷ []) now (All-push NoFeed live.answers raw live.plain_answers h.received.plain)
            ∙ ap (λ (l : List (List ℕ)). split l (rest_of now)) assoc);
      } in (
        u,
        c.told,
        record {
          well = sent_proper inputs names started held t live line plain is_line well faults u early' (rest_of now) sees (omega arith);
          bears = record {
            before = live.lines;
            last = line;
            sent = ap (λ (s : Split). s.lines) sees.sent;
            received = inl (
              raw,
              ap (λ (s : Split). slice_get s.lines (length live.lines)) sees.received
                  ∙ (slice_get-get_or early' (length live.lines) [] (omega arith)
                  ∙ ap (λ (l : List ℕ). Some l) (get_or_at live.answers raw (lines_of now) [] (length live.lines) (sym same))),
              h.stripped,
              bad,
            );
          };
          runs =
              spells_lines inputs names u (live.lines ++ line ∷ []) [] early' (rest_of now) sees
              ∙ (spelled_badly inputs names [] live.lines live.answers live.runs line raw (lines_of now) live.spells (ap (exchanged inputs names live.runs line) (sym h.stripped) ∙ none live.runs)
              ∙ sym (live_runs inputs names started held t live));
          breaks = sent_breaks inputs names started held t live line plain is_line well faults u sees.sent
              (spells_lines inputs names u (live.lines ++ line ∷ []) [] early' (rest_of now) sees
              ∙ (spelled_badly inputs names [] live.lines live.answers live.runs line raw (lines_of now) live.spells (ap (exchanged inputs names live.runs line) (sym h.stripped) ∙ none live.runs)
              ∙ sym (live_runs inputs names started held t live)));
        },
      )

-- a line without a good answer
pub refused : (inputs names : List (List ℕ)) (started : Bool) (held : List ℕ) (t : Transcript) → IsLive inputs names started held t
    → (line : List ℕ) → NoFeed line → IsSentLine inputs line → (started ≡ true) ⊎ (line ≡ reset_line) → (most faults : ℕ)
    → (IsBad : List ℕ → Type 0) → ((a : List ℕ) → IsBad a → IsBadAnswer names most line a) → ((a : List ℕ) → IsBad a → (rs : List Run) → exchanged inputs names rs line a ≡ None)
    → (now : List ℕ) (stop : SulStop) (after : Option Transcript) → (stop ≡ Failed → CountedFault 0 faults) → IsRefusal IsBad (ended line) held now stop (Some t) after
    → (u : Transcript) × (after ≡ Some u) × Leaves inputs names most faults line stop t u
refused inputs names started held t live line plain is_line well most faults IsBad bad none now stop after counted (inl h) =
    let leaves : Leaves inputs names most faults line Failed t (sends (take h.1.0 (ended line)) t) =
    part_sent inputs names started held t live line plain is_line well most faults h.1.0 h.1.1 (counted h.0) in
    (sends (take h.1.0 (ended line)) t, h.1.2, subst (λ (s : SulStop). Leaves inputs names most faults line s t (sends (take h.1.0 (ended line)) t)) (sym h.0) leaves)
refused inputs names started held t live line plain is_line well most faults IsBad bad none now stop after counted (inr (inl h)) =
    ends_open inputs names started held t live line plain is_line well most faults stop after h
refused inputs names started held t live line plain is_line well most faults IsBad bad none now stop after counted (inr (inr h)) =
    let left = bad_answer inputs names started held t live line plain is_line well most faults now h.0 after h.2 (bad h.0 h.3) (none h.0 h.3) in
    (left.0, left.1, subst (λ (s : SulStop). Leaves inputs names most faults line s t left.0) (sym h.1) left.2)
