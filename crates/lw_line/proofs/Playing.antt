-- How far a child has come, and what a play of all its input is then.
use Rattle.std.proofs.Common.{◌≡◌, ◌≢◌, ◌⊎◌, inl, inr, ℕ, ◌+◌, ◌-◌, ◌==◌, ◌<◌, ◌≤◌, List, [], ◌∷◌, ◌++◌, codes, length, get_or, take, drop, min, Bool, true, false, cond, Option, Some, None, option_map, Result, Ok, Err, refl, ap, sym, ◌∙◌, subst, arith, append_assoc, append-nil, length-append, length-take, length-drop}
use Rattle.std.specs.List.{All}
use Rattle.std.specs.Str.{bytes_eq}
use Rattle.std.specs.Str.Lines.{strip_carriage_return}
use Rattle.std.proofs.lemmas.Bool.{false_from_ne_true}
use Rattle.std.proofs.lemmas.Bool.Decides.{Decides-eqb}
use Rattle.std.proofs.lemmas.Slice.Eq.{bytes_eq-Decides}
use Rattle.std.proofs.lemmas.List.{take_at, take-append-le, take_min}
use Rattle.std.proofs.Math.Seq.{take-append-add}
use Rattle.std.proofs.lemmas.List.Elements.{All-push, All-nil}
use Rattle.lw_words.specs.Word.{IsName}
use Rattle.lw_json.specs.declared.files.Machine.{Machine}
use Rattle.lw_outside.specs.Lines.{Split, split_bytes, lines_of, rest_of}
use Rattle.lw_outside.specs.Played.{Move, Answer, Quit as Quits, Refuse, Play, AtQuit, AtEnd, AtLimit, AtBadLine, PlayEnd, play_ended_at, rest_end, play_of_move, move_of, name_move, letter_move, greatest_lines, played_from, played, ended_lines}
use Rattle.lw_outside.specs.Protocol.{bytes_behind, reset_line, quit_line}
use Rattle.lw_outside.specs.Streams.{Gave, IsSpent, TakesAll, TakesSome}
use Rattle.lw_line.specs.Serving.{GoesOn, Plays, EndsAs, Takes}
use Rattle.lw_line.specs.declared.serving.Served.{Served}
use Rattle.lw_line.specs.declared.serving.ServedCause.TheVariants.{Quit as AskedFor, EndOfInput, Limit}
use Rattle.lw_line.specs.declared.serving.ServeFault.{ServeFault}
use Rattle.lw_line.specs.declared.serving.ServeFault.TheVariants.{SourceFault, SinkFault, BadLine}
use Rattle.lw_line.specs.bodies.Exchanges.{ended}
use Rattle.lw_line.specs.bodies.Pieces.{NoFeed}
use Rattle.lw_line.specs.bodies.Playing.{Answers, HasRead, HasReadLine, IsOpenRead, IsUnended, IsServing, Serves, Turns, Walks}
use Rattle.lw_line.specs.declared.serving.Turn.TheVariants.{Answered, Quit, Ended}
use Rattle.lw_line.proofs.Naming.{no_number}
use Rattle.lw_line.proofs.Splitting.{lead, split_front, ended_append, split_line, split_lines, split_lines_open, ended_push}

-- a play with answers before it
after_answers : List (List ℕ) → Play → Play
after_answers answers play = record { answers = answers ++ play.answers; lines = play.lines; end = play.end }

is_below : (n : ℕ) → n ≢ greatest_lines → (n == greatest_lines) ≡ false
is_below n ne = false_from_ne_true (n == greatest_lines) (λ is. ne ((Decides-eqb n greatest_lines).0 is))

module _ (m : Machine) where
  -- a play below the limit
  play_line : (q n : ℕ) (l : List ℕ) (ls : List (List ℕ)) (rest : List ℕ) → n ≢ greatest_lines → played_from m q n (l ∷ ls) rest ≡ play_of_move n (move_of m q l) (λ r. played_from m r (n + 1) ls rest)
  play_line q n l ls rest ne = ap (λ (b : Bool). cond b (play_ended_at n AtLimit) (play_of_move n (move_of m q l) (λ r. played_from m r (n + 1) ls rest))) (is_below n ne)

  play_rest : (q n : ℕ) (rest : List ℕ) → n ≢ greatest_lines → played_from m q n [] rest ≡ rest_end n rest
  play_rest q n rest ne = ap (λ (b : Bool). cond b (play_ended_at n AtLimit) (rest_end n rest)) (is_below n ne)

  -- a play after lines that were answered
  walked : (q n : ℕ) (ls : List (List ℕ)) (r k : ℕ) (answers more : List (List ℕ)) (rest : List ℕ) → Walks m q n ls r k answers → played_from m q n (ls ++ more) rest ≡ after_answers answers (played_from m r k more rest)
  unfolding after_answers
  walked q n [] r k answers more rest h = rw (h.0, h.1, h.2) refl
  walked q n (l ∷ ls) r k answers more rest h =
      let text = h.1.0 in
      play_line q n l (ls ++ more) rest h.0
      ∙ (ap (λ (v : Move). play_of_move n v (λ r. played_from m r (n + 1) (ls ++ more) rest)) h.1.3
      ∙ (ap (λ (p : Play). record { answers = h.1.0 ∷ p.answers; lines = p.lines; end = p.end }) (walked h.1.1 (n + 1) ls r k h.1.2 more rest h.1.5)
      ∙ ap (λ (a : List (List ℕ)). after_answers a (played_from m r k more rest)) (sym h.1.4)))

  -- one line more
  walks_push : (q n : ℕ) (ls : List (List ℕ)) (r k : ℕ) (answers : List (List ℕ)) (l : List ℕ) (s : ℕ) (text : List ℕ) → Walks m q n ls r k answers → k ≢ greatest_lines → move_of m r l ≡ Answer text s
      → Walks m q n (ls ++ l ∷ []) s (k + 1) (answers ++ text ∷ [])
  walks_push q n [] r k answers l s text h ne move = (
    (λ is. ne (sym h.1 ∙ is)),
    (text, s, [], ap (λ (p : ℕ). move_of m p l) h.0 ∙ move, ap (λ (a : List (List ℕ)). a ++ text ∷ []) h.2, (refl, ap (λ (p : ℕ). p + 1) h.1, refl)),
  )
  walks_push q n (x ∷ ls) r k answers l s text h ne move = (
    h.0,
    (h.1.0, h.1.1, h.1.2 ++ text ∷ [], h.1.3, ap (λ (a : List (List ℕ)). a ++ text ∷ []) h.1.4, walks_push h.1.1 (n + 1) ls r k h.1.2 l s text h.1.5 ne move),
  )

  -- a line of 256 bytes and more is none of the protocol
  strip_length : (l : List ℕ) → length l ≤ length (strip_carriage_return l) + 1
  strip_length l = go (get_or l (length l - 1) 0 == 13)
    where
      go : (b : Bool) → length l ≤ length (cond b (take (length l - 1) l) l) + 1
      go true = let part = length-take (length l - 1) l in omega (arith, part)
      go false = omega arith

  long_name : (s : List ℕ) → 255 ≤ length s → ¬ IsName (drop 3 s)
  long_name s long is =
      let size : length (drop 3 s) ≡ length s - 3 = length-drop 3 s in
      let short : length (drop 3 s) ≤ 64 = is.short in
      omega arith

  differs : (s other : List ℕ) → length other < length s → bytes_eq s other ≡ false
  differs s other lt = false_from_ne_true (bytes_eq s other) (λ is. let same : length s ≡ length other = ap (λ (l : List ℕ). length l) ((bytes_eq-Decides s other).0 is) in omega arith)

  long_letter : (q : ℕ) (s : List ℕ) → 255 ≤ length s → All IsName m.inputs → name_move m q (bytes_behind (codes "in ") s) ≡ Refuse
  long_letter q s long each = go (bytes_eq (take 3 s) (codes "in "))
    where
      go : (b : Bool) → name_move m q (cond b (Some (drop 3 s)) None) ≡ Refuse
      go true = ap (λ (o : Option ℕ). letter_move m q o) (no_number m.inputs (drop 3 s) each (long_name s long))
      go false = refl

  pub long_refused : (q : ℕ) (l : List ℕ) → 256 ≤ length l → All IsName m.inputs → move_of m q l ≡ Refuse
  long_refused q l long each =
      let s : List ℕ = strip_carriage_return l in
      let less : length l ≤ length s + 1 = strip_length l in
      let no_reset : bytes_eq s reset_line ≡ false = differs s reset_line (omega arith) in
      let no_quit : bytes_eq s quit_line ≡ false = differs s quit_line (omega arith) in
      ap (λ (b : Bool). cond b (Answer (codes "ready") 0) (cond (bytes_eq s quit_line) Quits (name_move m q (bytes_behind (codes "in ") s)))) no_reset
      ∙ (ap (λ (b : Bool). cond b Quits (name_move m q (bytes_behind (codes "in ") s))) no_quit ∙ long_letter q s (omega arith) each)

-- what is left of the input after a read
comes : (held bs rest : List ℕ) (left left' : Option (List ℕ)) → left ≡ Some rest → HasRead held bs left left' → (rest' : List ℕ) × (left' ≡ Some rest') × (held ++ rest ≡ bs ++ rest')
comes held bs rest left left' is h =
    let gave : Gave h.more (Some rest) left' = subst (λ (o : Option (List ℕ)). Gave h.more o left') is h.gave in (
      gave.0,
      gave.1,
      ap (λ (l : List ℕ). held ++ l) gave.2 ∙ (sym (append_assoc held h.more gave.0) ∙ ap (λ (l : List ℕ). l ++ gave.0) h.whole),
    )

-- bytes that were taken one after another
takes_both : (a b : List ℕ) (before mid now : Option (List ℕ)) → TakesAll a before mid → TakesAll b mid now → TakesAll (a ++ b) before now
takes_both a b None mid now h k = k ∙ ap (option_map (λ t. t ++ b)) h
takes_both a b (Some t) mid now h k = k ∙ (ap (option_map (λ t. t ++ b)) h ∙ ap (λ (l : List ℕ). Some l) (append_assoc t a b))

takes_front : (a more : List ℕ) (before now : Option (List ℕ)) → TakesAll a before now → TakesSome (a ++ more) before now
takes_front a more before now h =
    (length a, h ∙ ap (λ (l : List ℕ). option_map (λ t. t ++ l) before) (sym (take_at a more (length a) refl)))

takes_part : (a b more : List ℕ) (before mid now : Option (List ℕ)) → TakesAll a before mid → TakesSome b mid now → TakesSome (a ++ (b ++ more)) before now
takes_part a b more before mid now h k =
    let j : ℕ = min k.0 (length b) in
    let some : take j (b ++ more) ≡ take k.0 b = take-append-le j b more (omega arith) ∙ take_min k.0 b in
    let front : take (length a + j) (a ++ (b ++ more)) ≡ a ++ take k.0 b = take-append-add a (b ++ more) j ∙ ap (λ (l : List ℕ). a ++ l) some in
    (length a + j, takes_both a (take k.0 b) before mid now h k.1 ∙ ap (λ (l : List ℕ). option_map (λ t. t ++ l) before) (sym front))

-- a play that comes to its end behind some answers
pub ended_play : List (List ℕ) → ℕ → PlayEnd → Play
ended_play answers n end = record { answers = answers; lines = n; end = end }

ends_behind : (answers : List (List ℕ)) (n : ℕ) (end : PlayEnd) → after_answers answers (play_ended_at n end) ≡ ended_play answers n end
unfolding after_answers ended_play
ends_behind answers n end = ap (λ (a : List (List ℕ)). record { answers = a; lines = n; end = end }) (append-nil answers)

module _ (m : Machine) (bytes : List ℕ) (left : Option (List ℕ)) (held : List ℕ) (q n : ℕ) (before now : Option (List ℕ)) (s : IsServing m bytes left held q n before now) where
  -- the play of all the input, by what is left
  play_on : (x : List ℕ) → held ++ s.rest ≡ x → played m bytes ≡ after_answers s.answers (played_from m q n (lines_of x) (rest_of x))
  play_on x is =
      ap (λ (p : Split). played_from m 0 0 p.lines p.rest) (ap split_bytes (s.read ∙ ap (λ (l : List ℕ). ended_lines s.lines ++ l) is) ∙ split_lines s.lines x s.plain)
      ∙ walked m 0 0 s.lines q n s.answers (lines_of x) (rest_of x) s.walks

  -- at a line that was read
  play_at : (now' raw : List ℕ) (left' : Option (List ℕ)) → n ≢ greatest_lines → HasReadLine held now' raw left left'
      → (rest : List ℕ) × (left' ≡ Some rest) × (held ++ s.rest ≡ raw ++ 10 ∷ (now' ++ rest)) × (played m bytes ≡ after_answers s.answers (play_of_move n (move_of m q raw) (λ r. played_from m r (n + 1) (lines_of (now' ++ rest)) (rest_of (now' ++ rest)))))
  play_at now' raw left' ne h =
      let c = comes held (raw ++ 10 ∷ now') s.rest left left' s.left_is h.read in
      let x : List ℕ = raw ++ 10 ∷ (now' ++ c.0) in
      let is : held ++ s.rest ≡ x = c.2 ∙ append_assoc raw (10 ∷ now') c.0 in (
        c.0,
        c.1,
        is,
        play_on x is
            ∙ (ap (λ (p : Split). after_answers s.answers (played_from m q n p.lines p.rest)) (split_line raw (now' ++ c.0) h.plain)
            ∙ ap (after_answers s.answers) (play_line m q n raw (lines_of (now' ++ c.0)) (rest_of (now' ++ c.0)) ne)),
      )

  -- the line is answered
  answered : (now' raw text : List ℕ) (r : ℕ) (left' taken : Option (List ℕ)) → n ≢ greatest_lines → HasReadLine held now' raw left left' → Answers m q raw r text → TakesAll (ended text) now taken → IsServing m bytes left' now' r (n + 1) before taken
  answered now' raw text r left' taken ne h move takes =
      let c = play_at now' raw left' ne h in
      record {
        lines = s.lines ++ raw ∷ [];
        answers = s.answers ++ text ∷ [];
        rest = c.0;
        left_is = c.1;
        read =
            s.read
            ∙ (ap (λ (l : List ℕ). ended_lines s.lines ++ l) (c.2 ∙ sym (append_assoc raw (10 ∷ []) (now' ++ c.0)))
            ∙ (sym (append_assoc (ended_lines s.lines) (raw ++ 10 ∷ []) (now' ++ c.0)) ∙ ap (λ (l : List ℕ). l ++ (now' ++ c.0)) (sym (ended_push s.lines raw))));
        plain = All-push NoFeed s.lines raw s.plain h.plain;
        walks = walks_push m 0 0 s.lines q n s.answers raw r text s.walks ne move;
        taken =
            subst (λ (l : List ℕ). TakesAll l before taken) (sym (ended_push s.answers text))
            (takes_both (ended_lines s.answers) (ended text) before now taken s.taken takes);
      }

  -- the line asks for the end
  quits : (now' raw : List ℕ) (left' : Option (List ℕ)) → n ≢ greatest_lines → HasReadLine held now' raw left left' → move_of m q raw ≡ Quits → played m bytes ≡ ended_play s.answers (n + 1) AtQuit
  quits now' raw left' ne h move =
      let c = play_at now' raw left' ne h in
      c.3
      ∙ (ap (λ (v : Move). after_answers s.answers (play_of_move n v (λ r. played_from m r (n + 1) (lines_of (now' ++ c.0)) (rest_of (now' ++ c.0))))) move
      ∙ ends_behind s.answers (n + 1) AtQuit)

  refuses : (now' raw : List ℕ) (left' : Option (List ℕ)) → n ≢ greatest_lines → HasReadLine held now' raw left left' → move_of m q raw ≡ Refuse → played m bytes ≡ ended_play s.answers n (AtBadLine (n + 1))
  refuses now' raw left' ne h move =
      let c = play_at now' raw left' ne h in
      c.3
      ∙ (ap (λ (v : Move). after_answers s.answers (play_of_move n v (λ r. played_from m r (n + 1) (lines_of (now' ++ c.0)) (rest_of (now' ++ c.0))))) move
      ∙ ends_behind s.answers n (AtBadLine (n + 1)))

  -- the input ends
  ends : (left' : Option (List ℕ)) → n ≢ greatest_lines → HasRead held [] left left' → IsSpent left' → played m bytes ≡ ended_play s.answers n AtEnd
  ends left' ne h spent =
      let c = comes held [] s.rest left left' s.left_is h in
      let none : c.0 ≡ [] = subst (λ (o : Option (List ℕ)). IsSpent o) c.1 spent in
      play_on [] (c.2 ∙ none) ∙ (ap (after_answers s.answers) (play_rest m q n [] ne) ∙ ends_behind s.answers n AtEnd)

  -- the limit
  limit : n ≡ greatest_lines → played m bytes ≡ ended_play s.answers n AtLimit
  limit is = play_on (held ++ s.rest) refl ∙ (ap (after_answers s.answers) (go (lines_of (held ++ s.rest)) (rest_of (held ++ s.rest))) ∙ ends_behind s.answers n AtLimit)
    where
      go : (ls : List (List ℕ)) (rest : List ℕ) → played_from m q n ls rest ≡ play_ended_at n AtLimit
      go [] rest = ap (λ (b : Bool). cond b (play_ended_at n AtLimit) (rest_end n rest)) ((Decides-eqb n greatest_lines).1 is)
      go (l ∷ ls) rest = ap (λ (b : Bool). cond b (play_ended_at n AtLimit) (play_of_move n (move_of m q l) (λ r. played_from m r (n + 1) ls rest))) ((Decides-eqb n greatest_lines).1 is)

  -- a line has no end, or is too long
  unended : (bs : List ℕ) (left' : Option (List ℕ)) → n ≢ greatest_lines → All IsName m.inputs → IsUnended held bs left left' → played m bytes ≡ ended_play s.answers n (AtBadLine (n + 1))
  unended bs left' ne each h =
      let c = comes held bs s.rest left left' s.left_is h.open_read.read in
      play_on (bs ++ c.0) c.2
      ∙ (ap (after_answers s.answers) (ap (λ (p : Split). played_from m q n p.lines p.rest) (split_front bs c.0 h.open_read.plain) ∙ go h.why c.0 c.1)
      ∙ ends_behind s.answers n (AtBadLine (n + 1)))
    where
      bad_rest : (l : List ℕ) → 0 < length l → played_from m q n [] l ≡ play_ended_at n (AtBadLine (n + 1))
      bad_rest [] lt = absurd (omega arith)
      bad_rest (b ∷ l) lt = play_rest m q n (b ∷ l) ne

      bad : (ls : List (List ℕ)) (rest : List ℕ) → length bs ≡ 256 → played_from m q n (lead bs ls rest).lines (lead bs ls rest).rest ≡ play_ended_at n (AtBadLine (n + 1))
      bad [] rest size = let all = length-append bs rest in bad_rest (bs ++ rest) (omega (arith, all))
      bad (l ∷ ls) rest size =
          let all : length (bs ++ l) ≡ length bs + length l = length-append bs l in
          play_line m q n (bs ++ l) ls rest ne ∙ ap (λ (v : Move). play_of_move n v (λ r. played_from m r (n + 1) ls rest)) (long_refused m q (bs ++ l) (omega arith) each)

      go : IsSpent left' ⊎ (length bs ≡ 256) → (rest : List ℕ) → left' ≡ Some rest → played_from m q n (lead bs (lines_of rest) (rest_of rest)).lines (lead bs (lines_of rest) (rest_of rest)).rest ≡ play_ended_at n (AtBadLine (n + 1))
      go (inl spent) rest is =
          let none : rest ≡ [] = subst (λ (o : Option (List ℕ)). IsSpent o) is spent in
          ap (λ (l : List ℕ). played_from m q n (lead bs (lines_of l) (rest_of l)).lines (lead bs (lines_of l) (rest_of l)).rest) none
          ∙ (ap (λ (l : List ℕ). played_from m q n [] l) (append-nil bs) ∙ bad_rest bs h.some)
      go (inr size) rest is = bad (lines_of rest) (rest_of rest) size

  -- the source failed
  pub goes_on : (bs : List ℕ) (left' : Option (List ℕ)) → n ≢ greatest_lines → IsOpenRead held bs left left' → GoesOn m (Some bytes) left'
  unfolding after_answers
  goes_on bs left' ne h =
      let c = comes held bs s.rest left left' s.left_is h.read in
      let read : List ℕ = ended_lines s.lines ++ bs in (
        read,
        c.0,
        c.1,
        s.read ∙ (ap (λ (l : List ℕ). ended_lines s.lines ++ l) c.2 ∙ sym (append_assoc (ended_lines s.lines) bs c.0)),
        ap (λ (p : Split). (played_from m 0 0 p.lines []).end) (split_lines_open s.lines bs s.plain h.plain)
            ∙ (ap (λ (ls : List (List ℕ)). (played_from m 0 0 ls []).end) (sym (append-nil s.lines))
            ∙ (ap (λ (p : Play). p.end) (walked m 0 0 s.lines q n s.answers [] [] s.walks)
            ∙ end_of s.answers (played_from m q n [] []) ∙ ap (λ (p : Play). p.end) (play_rest m q n [] ne))),
      )
    where
      end_of : (answers : List (List ℕ)) (p : Play) → (after_answers answers p).end ≡ p.end
      end_of answers p = refl

  answers_of_play : (p : Play) → played m bytes ≡ after_answers s.answers p → ended_lines (played m bytes).answers ≡ ended_lines s.answers ++ ended_lines p.answers
  unfolding after_answers
  answers_of_play p is = ap (λ (p : Play). ended_lines p.answers) is ∙ ended_append s.answers p.answers

  -- what was taken when the source failed, and when the sink did
  source_takes : TakesSome (ended_lines (played m bytes).answers) before now
  source_takes =
      let x : List ℕ = held ++ s.rest in
      let p : Play = played_from m q n (lines_of x) (rest_of x) in
      subst (λ (l : List ℕ). TakesSome l before now) (sym (answers_of_play p (play_on x refl))) (takes_front (ended_lines s.answers) (ended_lines p.answers) before now s.taken)

  sink_takes : (now' raw text : List ℕ) (r : ℕ) (left' taken : Option (List ℕ)) → n ≢ greatest_lines → HasReadLine held now' raw left left' → Answers m q raw r text → TakesSome (ended text) now taken → TakesSome (ended_lines (played m bytes).answers) before taken
  sink_takes now' raw text r left' taken ne h move takes =
      let c = play_at now' raw left' ne h in
      let on : ℕ → Play = λ (r : ℕ). played_from m r (n + 1) (lines_of (now' ++ c.0)) (rest_of (now' ++ c.0)) in
      let p : Play = play_of_move n (Answer text r) on in
      let is : played m bytes ≡ after_answers s.answers p = c.3 ∙ ap (λ (v : Move). after_answers s.answers (play_of_move n v on)) move in
      subst (λ (l : List ℕ). TakesSome l before taken) (sym (answers_of_play p is))
      (takes_part (ended_lines s.answers) (ended text) (ended_lines (on r).answers) before now taken s.taken takes)

-- the same where the input may be untold
pub serves_first : (m : Machine) (bytes left : Option (List ℕ)) (held : List ℕ) (before : Option (List ℕ)) → left ≡ bytes → held ≡ [] → Serves m bytes left held 0 0 before before
serves_first m None left held before is empty = tt
serves_first m (Some bytes) left held before is empty = record {
  lines = [];
  answers = [];
  rest = bytes;
  left_is = is;
  read = sym (ap (λ (l : List ℕ). l ++ bytes) empty);
  plain = All-nil NoFeed;
  walks = (refl, refl, refl);
  taken = nothing before;
}
  where
    nothing : (o : Option (List ℕ)) → TakesAll [] o o
    nothing None = refl
    nothing (Some t) = ap (λ (l : List ℕ). Some l) (sym (append-nil t))

-- what stands at the end of a play
plays : (m : Machine) (bytes : List ℕ) (result : Result Served ServeFault) (before now : Option (List ℕ)) (play : Play) → played m bytes ≡ play → EndsAs result play → Takes result (ended_lines play.answers) before now → Plays m (Some bytes) result before now
plays m bytes result before now play is ends takes =
    (subst (λ (p : Play). EndsAs result p) (sym is) ends, subst (λ (p : Play). Takes result (ended_lines p.answers) before now) (sym is) takes)

module _ (m : Machine) (bytes left : Option (List ℕ)) (held : List ℕ) (q n : ℕ) (before now : Option (List ℕ)) where
  pub serves_on : (held' : List ℕ) (r number : ℕ) (left' taken : Option (List ℕ)) → Serves m bytes left held q n before now → n ≢ greatest_lines → Turns m number q held r held' left left' now taken (Ok Answered) → Serves m bytes left' held' r (n + 1) before taken
  serves_on held' r number left' taken s ne t = go bytes s
    where
      go : (o : Option (List ℕ)) → Serves m o left held q n before now → Serves m o left' held' r (n + 1) before taken
      go None s = tt
      go (Some b) s = answered m b left held q n before now s held' t.0 t.1 r left' taken ne t.2 t.3 t.4

  pub plays_quit : (held' : List ℕ) (r number : ℕ) (left' taken : Option (List ℕ)) → Serves m bytes left held q n before now → n ≢ greatest_lines → Turns m number q held r held' left left' now taken (Ok Quit) → Plays m bytes (Ok (record { lines = n + 1; cause = AskedFor })) before taken
  unfolding ended_play
  plays_quit held' r number left' taken s ne t = go bytes s
    where
      go : (o : Option (List ℕ)) → Serves m o left held q n before now → Plays m o (Ok (record { lines = n + 1; cause = AskedFor })) before taken
      go None s = tt
      go (Some b) s =
          plays m b (Ok (record { lines = n + 1; cause = AskedFor })) before taken (ended_play s.answers (n + 1) AtQuit) (quits m b left held q n before now s held' t.0 left' ne t.1 t.2) (refl, refl) (t.3 ∙ s.taken)

  pub plays_ended : (held' : List ℕ) (r number : ℕ) (left' taken : Option (List ℕ)) → Serves m bytes left held q n before now → n ≢ greatest_lines → Turns m number q held r held' left left' now taken (Ok Ended) → Plays m bytes (Ok (record { lines = n; cause = EndOfInput })) before taken
  unfolding ended_play
  plays_ended held' r number left' taken s ne t = go bytes s
    where
      go : (o : Option (List ℕ)) → Serves m o left held q n before now → Plays m o (Ok (record { lines = n; cause = EndOfInput })) before taken
      go None s = tt
      go (Some b) s =
          plays m b (Ok (record { lines = n; cause = EndOfInput })) before taken (ended_play s.answers n AtEnd) (ends m b left held q n before now s left' ne t.0 t.1) (refl, refl) (t.2 ∙ s.taken)

  pub plays_limit : Serves m bytes left held q n before now → n ≡ greatest_lines → Plays m bytes (Ok (record { lines = n; cause = Limit })) before now
  unfolding ended_play
  plays_limit s is = go bytes s
    where
      go : (o : Option (List ℕ)) → Serves m o left held q n before now → Plays m o (Ok (record { lines = n; cause = Limit })) before now
      go None s = tt
      go (Some b) s =
          plays m b (Ok (record { lines = n; cause = Limit })) before now (ended_play s.answers n AtLimit) (limit m b left held q n before now s is) (refl, refl) s.taken

  pub plays_fault : (held' : List ℕ) (r number : ℕ) (left' taken : Option (List ℕ)) (e : ServeFault) → Serves m bytes left held q n before now → n ≢ greatest_lines → number ≡ n + 1 → All IsName m.inputs → Turns m number q held r held' left left' now taken (Err e) → Plays m bytes (Err e) before taken
  unfolding ended_play
  plays_fault held' r number left' taken e s ne is each t = go bytes e s t
    where
      bad : (b : List ℕ) (s : IsServing m b left held q n before now) (k : ℕ) → k ≡ number → taken ≡ now → played m b ≡ ended_play s.answers n (AtBadLine (n + 1)) → Plays m (Some b) (Err (BadLine k)) before taken
      bad b s k at same play =
          plays m b (Err (BadLine k)) before taken (ended_play s.answers n (AtBadLine (n + 1))) play (ap (λ (l : ℕ). AtBadLine l) (sym is ∙ sym at)) (same ∙ s.taken)

      refuse : (b : List ℕ) (s : IsServing m b left held q n before now) (k : ℕ) → k ≡ number → taken ≡ now → ((raw : List ℕ) × HasReadLine held held' raw left left' × (move_of m q raw ≡ Refuse)) ⊎ ((bs : List ℕ) × IsUnended held bs left left')
          → Plays m (Some b) (Err (BadLine k)) before taken
      refuse b s k at same (inl h) = bad b s k at same (refuses m b left held q n before now s held' h.0 left' ne h.1 h.2)
      refuse b s k at same (inr h) = bad b s k at same (unended m b left held q n before now s h.0 left' ne each h.1)

      go : (o : Option (List ℕ)) (e : ServeFault) → Serves m o left held q n before now → Turns m number q held r held' left left' now taken (Err e) → Plays m o (Err e) before taken
      go None e s t = tt
      go (Some b) SourceFault s t = (tt, subst (λ (o : Option (List ℕ)). TakesSome (ended_lines (played m b).answers) before o) (sym t.2) (source_takes m b left held q n before now s))
      go (Some b) SinkFault s t = (tt, sink_takes m b left held q n before now s held' t.0 t.1 t.2 left' taken ne t.3 t.4 t.5)
      go (Some b) (BadLine k) s t = refuse b s k t.0 t.1 t.2

  pub source_goes_on : (held' : List ℕ) (r number : ℕ) (left' taken : Option (List ℕ)) (e : ServeFault) → Serves m bytes left held q n before now → n ≢ greatest_lines → Turns m number q held r held' left left' now taken (Err e) → e ≡ SourceFault → GoesOn m bytes left'
  source_goes_on held' r number left' taken e s ne t is = go bytes s
    where
      t' : Turns m number q held r held' left left' now taken (Err SourceFault)
      t' = subst (λ (e : ServeFault). Turns m number q held r held' left left' now taken (Err e)) is t

      go : (o : Option (List ℕ)) → Serves m o left held q n before now → GoesOn m o left'
      go None s = tt
      go (Some b) s = goes_on m b left held q n before now s t'.0 left' ne t'.1

-- a read, and one more
pub read_nothing : (held : List ℕ) (left : Option (List ℕ)) → HasRead held held left left
read_nothing held None = record { more = []; gave = refl; whole = append-nil held }
read_nothing held (Some l) = record { more = []; gave = (l, refl, refl); whole = append-nil held }

pub reads_on : (held bs bs' more : List ℕ) (left mid left' : Option (List ℕ)) → HasRead held bs left mid → bs' ≡ bs ++ more → Gave more mid left' → HasRead held bs' left left'
reads_on held bs bs' more left mid left' h is gave = record {
  more = h.more ++ more;
  gave = both left mid h.gave gave;
  whole = sym (append_assoc held h.more more) ∙ (ap (λ (l : List ℕ). l ++ more) h.whole ∙ sym is);
}
  where
    both : (left mid : Option (List ℕ)) → Gave h.more left mid → Gave more mid left' → Gave (h.more ++ more) left left'
    both None mid g k = subst (λ (o : Option (List ℕ)). Gave more o left') g k
    both (Some l) mid g k =
        let k' : Gave more (Some g.0) left' = subst (λ (o : Option (List ℕ)). Gave more o left') g.1 k in
        (k'.0, k'.1, g.2 ∙ (ap (λ (x : List ℕ). h.more ++ x) k'.2 ∙ sym (append_assoc h.more more k'.0)))
