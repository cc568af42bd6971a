-- What answers over `?` and an acceptor's letters tell, and that they are worth as much as they are for its machine.
use Rattle.std.proofs.Common.{◌≡◌, ◌⊎◌, ⊎_elim, ℕ, zero, suc, ◌+◌, ◌<◌, ◌==◌, List, [], ◌∷◌, ◌++◌, Bool, true, false, length, refl, ap, sym, ◌∙◌, subst, arith}
use Rattle.std.specs.List.{All}
use Rattle.std.proofs.lemmas.Bool.{cases_order}
use Rattle.std.proofs.lemmas.List.Elements.{All-nil, All-cons, All-head, All-tail, All-append}
use Rattle.lw_words.specs.Word.{IsWord, Answer}
use Rattle.lw_mealy.specs.Machine.{Rows, IsMachine, IsMinimal, Equal, Gives, after, answer, cell, next, out, output}
use Rattle.lw_mealy.proofs.RowLemmas.{is_row, target_below}
use Rattle.lw_mealy.proofs.WordLemmas.{after_below}
use Rattle.lw_accept.specs.Acceptor.{Automaton, IsAcceptor, AcceptAlike, accepts, accepts_in, reached, target}
use Rattle.lw_accept.specs.Laws.{AreOver, AcceptorsAreSure, AnswersAreTold, OthersGiveNone}
use Rattle.lw_accept.specs.View.{MayView, SaysAsTold, told, told_from, verdict, viewed}
use Rattle.lw_accept.proofs.ViewLemmas.{at_letter, at_question, machine, reached_more, states, target_is}

pub says : (b : Bool) → (verdict b == 0) ≡ b
says true = refl
says false = refl

one_verdict : (b c : Bool) → verdict b ≡ verdict c → b ≡ c
one_verdict b c e = sym (says b) ∙ (ap (λ (y : ℕ). y == 0) e ∙ says c)

pub few_verdicts : (b : Bool) → verdict b < 2
few_verdicts true = omega arith
few_verdicts false = omega arith

-- the parts of an answer, and what each is
front : (x y : ℕ) (u v : List ℕ) → x ∷ u ≡ y ∷ v → x ≡ y
front x y u v e = cc

behind : (x y : ℕ) (u v : List ℕ) → x ∷ u ≡ y ∷ v → u ≡ v
behind x y u v e = cc

letters_below : (a x : ℕ) (w : List ℕ) → IsWord (a + 1) (suc x ∷ w) → x < a
letters_below a x w is = let lt : suc x < a + 1 = All-head (λ (y : ℕ). y < a + 1) (suc x) w is in omega (arith, lt)

-- both answer alike to each word from these states
abbrev Alike : ℕ → Rows → Rows → ℕ → ℕ → Type 0
Alike b g h p q = (w : List ℕ) → IsWord b w → out g p w ≡ out h q w

-- and then at one letter, and behind it
alike_at : (b : ℕ) (g h : Rows) (p q x : ℕ) → x < b → Alike b g h p q → output g p x ≡ output h q x
alike_at b g h p q x lt alike = front (output g p x) (output h q x) [] [] (alike (x ∷ []) (All-cons (λ y. y < b) x [] lt (All-nil (λ y. y < b))))

alike_next : (b : ℕ) (g h : Rows) (p q x : ℕ) → x < b → Alike b g h p q → Alike b g h (next g p x) (next h q x)
alike_next b g h p q x lt alike w is = behind (output g p x) (output h q x) (out g (next g p x) w) (out h (next h q x) w) (alike (x ∷ w) (All-cons (λ y. y < b) x w lt is))

alike_after : (b : ℕ) (g h : Rows) (u : List ℕ) (p q : ℕ) → IsWord b u → Alike b g h p q → Alike b g h (after g p u) (after h q u)
alike_after b g h [] p q is alike = alike
alike_after b g h (x ∷ u) p q is alike =
    alike_after b g h u (next g p x) (next h q x) (All-tail (λ y. y < b) x u is)
    (alike_next b g h p q x (All-head (λ y. y < b) x u is) alike)

module _ (a : ℕ) (m : Automaton) (is : IsAcceptor a m) where
  -- an answer of an acceptor's machine tells what the acceptor says
  tells : (before w outs : List ℕ) (q : ℕ) → q < length m.targets → q ≡ reached m.targets 0 before → IsWord (a + 1) w → out (viewed m) q w ≡ outs → SaysAsTold m (told_from before w outs)
  tells before [] outs q lt at letters e = All-nil (λ t. accepts m t.0 ≡ t.1)
  tells before (x ∷ w) [] q lt at letters e = absurd (cc)
  tells before (zero ∷ w) (y ∷ outs) q lt at letters e =
      let c : cell (viewed m) q 0 ≡ (q, verdict (accepts_in m q)) = at_question a m is q lt in
      let here : verdict (accepts_in m q) ≡ y = ap (λ (d : ℕ × ℕ). d.1) (sym c) ∙ front (output (viewed m) q 0) y (out (viewed m) (next (viewed m) q 0) w) outs e in
      let then : out (viewed m) q w ≡ outs =
      ap (λ (d : ℕ × ℕ). out (viewed m) d.0 w) (sym c) ∙ behind (output (viewed m) q 0) y (out (viewed m) (next (viewed m) q 0) w) outs e in
      All-cons (λ t. accepts m t.0 ≡ t.1) (before, y == 0) (told_from before w outs)
      (ap (λ (p : ℕ). accepts_in m p) (sym at) ∙ (sym (says (accepts_in m q)) ∙ ap (λ (v : ℕ). v == 0) here))
      (tells before w outs q lt at (All-tail (λ z. z < a + 1) 0 w letters) then)
  tells before (suc x ∷ w) (y ∷ outs) q lt at letters e =
      let le : x < a = letters_below a x w letters in
      let c : cell (viewed m) q (suc x) ≡ (target m.targets q x, 2) = at_letter a m is q x lt le in
      let then : out (viewed m) (target m.targets q x) w ≡ outs =
      ap (λ (d : ℕ × ℕ). out (viewed m) d.0 w) (sym c) ∙ behind (output (viewed m) q (suc x)) y (out (viewed m) (next (viewed m) q (suc x)) w) outs e in
      tells (before ++ x ∷ []) w outs (target m.targets q x) (target_is a m is q x lt le)
      (ap (λ (p : ℕ). target m.targets p x) at ∙ sym (reached_more m.targets 0 before x))
      (All-tail (λ z. z < a + 1) (suc x) w letters) then

  pub all_told : (ks : List Answer) → AreOver (a + 1) ks → Gives (viewed m) ks → SaysAsTold m (told ks)
  all_told [] over gives = All-nil (λ t. accepts m t.0 ≡ t.1)
  all_told (k ∷ ks) over gives =
      All-append (λ t. accepts m t.0 ≡ t.1) (told_from [] k.word k.outs) (told ks)
      (tells [] k.word k.outs 0 is.some_state refl (All-head (λ t. IsWord (a + 1) t.word) k ks over) (All-head (λ t. answer (viewed m) t.word ≡ t.outs) k ks gives))
      (all_told ks (All-tail (λ t. IsWord (a + 1) t.word) k ks over) (All-tail (λ t. answer (viewed m) t.word ≡ t.outs) k ks gives))

-- the first and the second part of a list of which P holds
all_left : {X : Type 0} (P : X → Type 0) (xs ys : List X) → All P (xs ++ ys) → All P xs
all_left P [] ys h = All-nil P
all_left P (x ∷ xs) ys h = All-cons P x xs (All-head P x (xs ++ ys) h) (all_left P xs ys (All-tail P x (xs ++ ys) h))

all_right : {X : Type 0} (P : X → Type 0) (xs ys : List X) → All P (xs ++ ys) → All P ys
all_right P [] ys h = h
all_right P (x ∷ xs) ys h = all_right P xs ys (All-tail P x (xs ++ ys) h)

module _ (a : ℕ) (m n : Automaton) (is_m : IsAcceptor a m) (is_n : IsAcceptor a n) where
  -- an acceptor that says as an answer of another's machine tells has a machine that gives it
  gives_told : (before w outs : List ℕ) (p q : ℕ) → p < length m.targets → q < length n.targets → q ≡ reached n.targets 0 before → IsWord (a + 1) w → out (viewed m) p w ≡ outs
      → SaysAsTold n (told_from before w outs) → out (viewed n) q w ≡ outs
  gives_told before [] outs p q lp lq at letters e said = e
  gives_told before (x ∷ w) [] p q lp lq at letters e said = absurd (cc)
  gives_told before (zero ∷ w) (y ∷ outs) p q lp lq at letters e said =
      let c : cell (viewed m) p 0 ≡ (p, verdict (accepts_in m p)) = at_question a m is_m p lp in
      let d : cell (viewed n) q 0 ≡ (q, verdict (accepts_in n q)) = at_question a n is_n q lq in
      let here : verdict (accepts_in m p) ≡ y = ap (λ (t : ℕ × ℕ). t.1) (sym c) ∙ front (output (viewed m) p 0) y (out (viewed m) (next (viewed m) p 0) w) outs e in
      let then : out (viewed m) p w ≡ outs =
      ap (λ (t : ℕ × ℕ). out (viewed m) t.0 w) (sym c) ∙ behind (output (viewed m) p 0) y (out (viewed m) (next (viewed m) p 0) w) outs e in
      let now : accepts_in n (reached n.targets 0 before) ≡ (y == 0) = All-head (λ t. accepts n t.0 ≡ t.1) (before, y == 0) (told_from before w outs) said in
      let bit : accepts_in n q ≡ accepts_in m p = ap (λ (s : ℕ). accepts_in n s) at ∙ (now ∙ (ap (λ (v : ℕ). v == 0) (sym here) ∙ says (accepts_in m p))) in
      let first : output (viewed n) q 0 ≡ y = ap (λ (t : ℕ × ℕ). t.1) d ∙ (ap verdict bit ∙ here) in
      let rest : out (viewed n) (next (viewed n) q 0) w ≡ outs =
      ap (λ (t : ℕ × ℕ). out (viewed n) t.0 w) d
      ∙ gives_told before w outs p q lp lq at (All-tail (λ z. z < a + 1) 0 w letters) then (All-tail (λ t. accepts n t.0 ≡ t.1) (before, y == 0) (told_from before w outs) said) in
      cc
  gives_told before (suc x ∷ w) (y ∷ outs) p q lp lq at letters e said =
      let le : x < a = letters_below a x w letters in
      let c : cell (viewed m) p (suc x) ≡ (target m.targets p x, 2) = at_letter a m is_m p x lp le in
      let d : cell (viewed n) q (suc x) ≡ (target n.targets q x, 2) = at_letter a n is_n q x lq le in
      let here : 2 ≡ y = ap (λ (t : ℕ × ℕ). t.1) (sym c) ∙ front (output (viewed m) p (suc x)) y (out (viewed m) (next (viewed m) p (suc x)) w) outs e in
      let then : out (viewed m) (target m.targets p x) w ≡ outs =
      ap (λ (t : ℕ × ℕ). out (viewed m) t.0 w) (sym c) ∙ behind (output (viewed m) p (suc x)) y (out (viewed m) (next (viewed m) p (suc x)) w) outs e in
      let first : output (viewed n) q (suc x) ≡ y = ap (λ (t : ℕ × ℕ). t.1) d ∙ here in
      let rest : out (viewed n) (next (viewed n) q (suc x)) w ≡ outs =
      ap (λ (t : ℕ × ℕ). out (viewed n) t.0 w) d
      ∙ gives_told (before ++ x ∷ []) w outs (target m.targets p x) (target n.targets q x) (target_is a m is_m p x lp le) (target_is a n is_n q x lq le)
      (ap (λ (s : ℕ). target n.targets s x) at ∙ sym (reached_more n.targets 0 before x))
      (All-tail (λ z. z < a + 1) (suc x) w letters) then said in
      cc

  all_given : (ks : List Answer) → AreOver (a + 1) ks → Gives (viewed m) ks → SaysAsTold n (told ks) → Gives (viewed n) ks
  all_given [] over gives said = All-nil (λ t. answer (viewed n) t.word ≡ t.outs)
  all_given (k ∷ ks) over gives said =
      All-cons (λ t. answer (viewed n) t.word ≡ t.outs) k ks
      (gives_told [] k.word k.outs 0 0 is_m.some_state is_n.some_state refl (All-head (λ t. IsWord (a + 1) t.word) k ks over)
      (All-head (λ t. answer (viewed m) t.word ≡ t.outs) k ks gives)
      (all_left (λ t. accepts n t.0 ≡ t.1) (told_from [] k.word k.outs) (told ks) said))
      (all_given ks (All-tail (λ t. IsWord (a + 1) t.word) k ks over) (All-tail (λ t. answer (viewed m) t.word ≡ t.outs) k ks gives)
      (all_right (λ t. accepts n t.0 ≡ t.1) (told_from [] k.word k.outs) (told ks) said))

  -- machines that answer alike are of acceptors that accept the same words
  alike_from : (u : List ℕ) (p q : ℕ) → p < length n.targets → q < length m.targets → IsWord a u → Alike (a + 1) (viewed n) (viewed m) p q
      → accepts_in n (reached n.targets p u) ≡ accepts_in m (reached m.targets q u)
  alike_from [] p q lp lq letters alike =
      let e : output (viewed n) p 0 ≡ output (viewed m) q 0 = alike_at (a + 1) (viewed n) (viewed m) p q 0 (omega arith) alike in
      one_verdict (accepts_in n p) (accepts_in m q)
      (ap (λ (t : ℕ × ℕ). t.1) (sym (at_question a n is_n p lp)) ∙ (e ∙ ap (λ (t : ℕ × ℕ). t.1) (at_question a m is_m q lq)))
  alike_from (x ∷ u) p q lp lq letters alike =
      let le : x < a = All-head (λ y. y < a) x u letters in
      alike_from u (target n.targets p x) (target m.targets q x) (target_is a n is_n p x lp le) (target_is a m is_m q x lq le) (All-tail (λ y. y < a) x u letters)
      (λ w is.
      ap (λ (t : ℕ × ℕ). out (viewed n) t.0 w) (sym (at_letter a n is_n p x lp le))
      ∙ (alike_next (a + 1) (viewed n) (viewed m) p q (suc x) (omega (arith, le)) alike w is
      ∙ ap (λ (t : ℕ × ℕ). out (viewed m) t.0 w) (at_letter a m is_m q x lq le)))

  pub alike : Equal (a + 1) (viewed n) (viewed m) → AcceptAlike a n m
  alike equal u letters = alike_from u 0 0 is_n.some_state is_m.some_state letters equal

pub answers_are_told : AnswersAreTold
answers_are_told a m ks is over gives = all_told a m is ks over gives

pub acceptors_are_sure : AcceptorsAreSure
acceptors_are_sure a k m ks is_m over gives sure = record {
  says = all_told a m is_m ks over gives;
  sure = λ n is_n few said.
      alike a m n is_m is_n (sure (viewed n) (machine a n is_n) (omega (arith, states a n is_n, states a m is_m, few)) (all_given a m n is_m is_n ks over gives said));
}

-- states of a minimal machine that answer alike are one
one_state : (b : ℕ) (h : Rows) (p q : ℕ) → IsMinimal b h → p < length h → q < length h → Alike b h h p q → p ≡ q
one_state b h p q minimal lp lq alike =
    ⊎_elim (λ (e : p ≡ q). e)
    (λ (r : (p < q) ⊎ (q < p)).
    ⊎_elim (λ (lt : p < q). let d = minimal.apart p q lt lq in absurd (d.2 (alike d.0 d.1)))
    (λ (lt : q < p). let d = minimal.apart q p lt lp in absurd (d.2 (sym (alike d.0 d.1)))) r)
    (cases_order p q)

module _ (a : ℕ) (h : Rows) (n : Automaton) (is_n : IsAcceptor a n) (machine_h : IsMachine (a + 1) h) (minimal : IsMinimal (a + 1) h) where
  -- a state of a minimal machine that answers as one of an acceptor's has its pairs
  may_view : (p q x : ℕ) → p < length n.targets → q < length h → x < a + 1 → Alike (a + 1) (viewed n) h p q → MayView q x (cell h q x)
  may_view p q zero lp lq lx alike =
      let c : cell (viewed n) p 0 ≡ (p, verdict (accepts_in n p)) = at_question a n is_n p lp in
      let e : verdict (accepts_in n p) ≡ output h q 0 = ap (λ (t : ℕ × ℕ). t.1) (sym c) ∙ alike_at (a + 1) (viewed n) h p q 0 lx alike in (
        one_state (a + 1) h (next h q 0) q minimal (target_below (a + 1) h q 0 machine_h lq lx) lq
            (λ w is. sym (alike_next (a + 1) (viewed n) h p q 0 lx alike w is) ∙ (ap (λ (t : ℕ × ℕ). out (viewed n) t.0 w) c ∙ alike w is)),
        rw (← e) (few_verdicts (accepts_in n p)),
      )
  may_view p q (suc x) lp lq lx alike =
      let c : cell (viewed n) p (suc x) ≡ (target n.targets p x, 2) = at_letter a n is_n p x lp (omega (arith, lx)) in
      sym (ap (λ (t : ℕ × ℕ). t.1) (sym c) ∙ alike_at (a + 1) (viewed n) h p q (suc x) lx alike)

pub others_give_none : OthersGiveNone
others_give_none a k q x h ks machine_h minimal sure first n is_n few gives =
    let equal : Equal (a + 1) (viewed n) h = sure (viewed n) (machine a n is_n) (omega (arith, states a n is_n, few)) gives in
    let r = minimal.reached q first.state in
    let p : ℕ = after (viewed n) 0 r.0 in
    let lp : p < length n.targets =
    let below : p < length (viewed n) = after_below (a + 1) (viewed n) r.0 0 (machine a n is_n) (omega (arith, states a n is_n, is_n.some_state)) r.1 in omega (arith, below, states a n is_n) in
    let alike_here : Alike (a + 1) (viewed n) h p q = subst (λ (s : ℕ). Alike (a + 1) (viewed n) h p s) r.2 (alike_after (a + 1) (viewed n) h r.0 0 0 r.1 equal) in
    let lx : x < a + 1 = let r' = is_row (a + 1) h q machine_h first.state in omega (arith, first.letter, r'.0) in
    first.fails (may_view a h n is_n machine_h minimal p q x lp first.state lx alike_here)
