-- Bytes, and the lines that they have.
use Rattle.std.proofs.Common.{◌≡◌, ◌≢◌, ℕ, ◌==◌, List, [], ◌∷◌, ◌++◌, Bool, true, false, cond, refl, ap, sym, ◌∙◌, arith, append_assoc}
use Rattle.std.specs.List.{All}
use Rattle.std.proofs.lemmas.Bool.Decides.{Decides-eqb}
use Rattle.std.proofs.lemmas.Bool.{false_from_ne_true}
use Rattle.std.proofs.lemmas.List.{append-nil}
use Rattle.std.proofs.lemmas.List.Elements.{All-head, All-tail}
use Rattle.lw_outside.specs.Lines.{Split, led_by, split_bytes, lines_of, rest_of}
use Rattle.lw_outside.specs.Played.{ended_lines}
use Rattle.lw_line.specs.bodies.Pieces.{NoFeed}

-- lines, and what stands behind them
abbrev pub split : List (List ℕ) → List ℕ → Split
split lines rest = record { lines = lines; rest = rest }

abbrev under : Bool → Split → Split → Split
under b s t = cond b s t

no_feed : (b : ℕ) → b ≢ 10 → (b == 10) ≡ false
no_feed b ne = false_from_ne_true (b == 10) (λ is. ne ((Decides-eqb b 10).0 is))

-- a byte that is no line feed
pub split_more : (b : ℕ) (bs : List ℕ) → b ≢ 10 → split_bytes (b ∷ bs) ≡ led_by b (lines_of bs) (rest_of bs)
split_more b bs ne = ap (λ (is : Bool). cond is (split ([] ∷ lines_of bs) (rest_of bs)) (led_by b (lines_of bs) (rest_of bs))) (no_feed b ne)

-- bytes without a line feed have no line
pub split_open : (bs : List ℕ) → NoFeed bs → split_bytes bs ≡ split [] bs
split_open [] plain = refl
split_open (b ∷ bs) plain =
    split_more b bs (All-head (λ b. b ≢ 10) b bs plain)
    ∙ ap (λ (s : Split). led_by b s.lines s.rest) (split_open bs (All-tail (λ b. b ≢ 10) b bs plain))

-- the first line
pub split_line : (l bs : List ℕ) → NoFeed l → split_bytes (l ++ 10 ∷ bs) ≡ split (l ∷ lines_of bs) (rest_of bs)
split_line [] bs plain = refl
split_line (b ∷ l) bs plain =
    split_more b (l ++ 10 ∷ bs) (All-head (λ b. b ≢ 10) b l plain)
    ∙ ap (λ (s : Split). led_by b s.lines s.rest) (split_line l bs (All-tail (λ b. b ≢ 10) b l plain))

-- the lines of lines, and more bytes behind them
pub split_lines : (ls : List (List ℕ)) (bs : List ℕ) → All NoFeed ls → split_bytes (ended_lines ls ++ bs) ≡ split (ls ++ lines_of bs) (rest_of bs)
split_lines [] bs plain = refl
split_lines (l ∷ ls) bs plain =
    ap split_bytes (apart l (ended_lines ls) bs)
    ∙ (split_line l (ended_lines ls ++ bs) (All-head NoFeed l ls plain)
    ∙ ap (λ (s : Split). split (l ∷ s.lines) s.rest) (split_lines ls bs (All-tail NoFeed l ls plain)))
  where
    apart : (l more bs : List ℕ) → ((l ++ 10 ∷ []) ++ more) ++ bs ≡ l ++ 10 ∷ (more ++ bs)
    apart l more bs = ap (λ (x : List ℕ). x ++ bs) (append_assoc l (10 ∷ []) more) ∙ append_assoc l (10 ∷ more) bs

-- the same, with bytes that have no line
pub split_lines_open : (ls : List (List ℕ)) (bs : List ℕ) → All NoFeed ls → NoFeed bs → split_bytes (ended_lines ls ++ bs) ≡ split ls bs
split_lines_open ls bs plain open_ended =
    split_lines ls bs plain
    ∙ (ap (λ (s : Split). split (ls ++ s.lines) s.rest) (split_open bs open_ended)
    ∙ ap (λ (x : List (List ℕ)). split x bs) (append-nil ls))

-- whole lines
pub split_ended : (ls : List (List ℕ)) → All NoFeed ls → split_bytes (ended_lines ls) ≡ split ls []
split_ended ls plain = ap split_bytes (sym (append-nil (ended_lines ls))) ∙ split_lines_open ls [] plain nothing
  where
    nothing : NoFeed []
    nothing k d lt = absurd (omega arith)

-- bytes begin with the lines that the first of them have
led_front : (b : ℕ) (ls ms : List (List ℕ)) (rest rest' : List ℕ) → (more : List (List ℕ)) × (ms ≡ ls ++ more) → (more : List (List ℕ)) × ((led_by b ms rest').lines ≡ (led_by b ls rest).lines ++ more)
led_front b [] ms rest rest' h = ((led_by b ms rest').lines, refl)
led_front b (l ∷ ls) ms rest rest' h = (h.0, ap (λ (xs : List (List ℕ)). (led_by b xs rest').lines) h.1)

pub lines_front : (bs more : List ℕ) → (ls : List (List ℕ)) × (lines_of (bs ++ more) ≡ lines_of bs ++ ls)
lines_front [] more = (lines_of more, refl)
lines_front (b ∷ bs) more = by (b == 10) (lines_front bs more)
  where
    by : (is : Bool) → (ls : List (List ℕ)) × (lines_of (bs ++ more) ≡ lines_of bs ++ ls)
        → (ls : List (List ℕ)) × ((under is (split ([] ∷ lines_of (bs ++ more)) (rest_of (bs ++ more))) (led_by b (lines_of (bs ++ more)) (rest_of (bs ++ more)))).lines ≡ (under is (split ([] ∷ lines_of bs) (rest_of bs)) (led_by b (lines_of bs) (rest_of bs))).lines ++ ls)
    by true h = (h.0, ap (λ (xs : List (List ℕ)). [] ∷ xs) h.1)
    by false h = led_front b (lines_of bs) (lines_of (bs ++ more)) (rest_of bs) (rest_of (bs ++ more)) h

-- one line more
pub ended_push : (ls : List (List ℕ)) (l : List ℕ) → ended_lines (ls ++ l ∷ []) ≡ ended_lines ls ++ (l ++ 10 ∷ [])
ended_push [] l = append-nil (l ++ 10 ∷ [])
ended_push (x ∷ ls) l = ap (λ (bs : List ℕ). (x ++ 10 ∷ []) ++ bs) (ended_push ls l) ∙ sym (append_assoc (x ++ 10 ∷ []) (ended_lines ls) (l ++ 10 ∷ []))

-- bytes without a line feed in front of others
abbrev pub lead : List ℕ → List (List ℕ) → List ℕ → Split
lead bs [] rest = split [] (bs ++ rest)
lead bs (l ∷ ls) rest = split ((bs ++ l) ∷ ls) rest

lead_nothing : (lines : List (List ℕ)) (rest : List ℕ) → split lines rest ≡ lead [] lines rest
lead_nothing [] rest = refl
lead_nothing (l ∷ ls) rest = refl

led_lead : (b : ℕ) (bs : List ℕ) (lines : List (List ℕ)) (rest : List ℕ) → led_by b (lead bs lines rest).lines (lead bs lines rest).rest ≡ lead (b ∷ bs) lines rest
led_lead b bs [] rest = refl
led_lead b bs (l ∷ ls) rest = refl

pub split_front : (bs more : List ℕ) → NoFeed bs → split_bytes (bs ++ more) ≡ lead bs (lines_of more) (rest_of more)
split_front [] more plain = lead_nothing (lines_of more) (rest_of more)
split_front (b ∷ bs) more plain =
    split_more b (bs ++ more) (All-head (λ b. b ≢ 10) b bs plain)
    ∙ (ap (λ (s : Split). led_by b s.lines s.rest) (split_front bs more (All-tail (λ b. b ≢ 10) b bs plain))
    ∙ led_lead b bs (lines_of more) (rest_of more))

-- lines behind lines
pub ended_append : (xs ys : List (List ℕ)) → ended_lines (xs ++ ys) ≡ ended_lines xs ++ ended_lines ys
ended_append [] ys = refl
ended_append (x ∷ xs) ys = ap (λ (bs : List ℕ). (x ++ 10 ∷ []) ++ bs) (ended_append xs ys) ∙ sym (append_assoc (x ++ 10 ∷ []) (ended_lines xs) (ended_lines ys))
