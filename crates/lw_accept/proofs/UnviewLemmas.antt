-- The acceptor that stands in a machine's pairs, and that an acceptor stands in those of its machine.
use Rattle.std.proofs.Common.{◌≡◌, ℕ, zero, suc, ◌+◌, ◌<◌, ◌≤◌, ◌==◌, List, [], ◌∷◌, Bool, length, get_or, map, refl, ap, sym, ◌∙◌, subst, arith}
use Rattle.std.specs.List.{All}
use Rattle.std.proofs.lemmas.List.{length-map}
use Rattle.std.proofs.lemmas.List.Elements.{All-tail, All-map}
use Rattle.lw_mealy.specs.Machine.{Row, Rows, row, IsMachine}
use Rattle.lw_mealy.proofs.RowLemmas.{is_row}
use Rattle.lw_accept.specs.Acceptor.{Automaton, IsAcceptor, IsNamedAcceptor, AreComplete}
use Rattle.lw_accept.specs.AcceptorFile.{AreAcceptorLetters}
use Rattle.lw_accept.specs.Laws.{ViewsAreViews, ViewsDiffer}
use Rattle.lw_accept.specs.View.{verdict, viewed, viewed_from, viewed_row}
use Rattle.lw_accept.specs.bodies.Unviewed.{AreViewed, IsRowViewed, bit_of, targets_of_row, unviewed}
use Rattle.lw_accept.proofs.TellLemmas.{few_verdicts, says}
use Rattle.lw_accept.proofs.ViewLemmas.{at_letter, at_question}

-- an acceptor stands in the pairs of its machine
bits_back : (q : ℕ) (bits : List Bool) (rows : List (List ℕ)) → length bits ≡ length rows → map bit_of (viewed_from q bits rows) ≡ bits
bits_back q [] rows e = refl
bits_back q (b ∷ bits) [] e = absurd (omega (arith, e))
bits_back q (b ∷ bits) (r ∷ rows) e =
    let here : bit_of (viewed_row q b r) ≡ b = says b in
    let rest : map bit_of (viewed_from (q + 1) bits rows) ≡ bits = bits_back (q + 1) bits rows (omega (arith, e)) in
    cc

targets_back : (r : List ℕ) → map (λ (c : ℕ × ℕ). c.0) (map (λ (t : ℕ). (t, 2)) r) ≡ r
targets_back [] = refl
targets_back (t ∷ r) = ap (λ (s : List ℕ). t ∷ s) (targets_back r)

rows_back : (q : ℕ) (bits : List Bool) (rows : List (List ℕ)) → length bits ≡ length rows → map targets_of_row (viewed_from q bits rows) ≡ rows
rows_back q [] [] e = refl
rows_back q [] (r ∷ rows) e = absurd (omega (arith, e))
rows_back q (b ∷ bits) [] e = absurd (omega (arith, e))
rows_back q (b ∷ bits) (r ∷ rows) e =
    let here : targets_of_row (viewed_row q b r) ≡ r = targets_back r in
    let rest : map targets_of_row (viewed_from (q + 1) bits rows) ≡ rows = rows_back (q + 1) bits rows (omega (arith, e)) in
    cc

back : (m : Automaton) → length m.accepting ≡ length m.targets → unviewed (viewed m) ≡ m
back m e =
    ap (λ (bits : List Bool). record { accepting = bits; targets = map targets_of_row (viewed m) }) (bits_back 0 m.accepting m.targets e)
    ∙ ap (λ (rows : List (List ℕ)). record { accepting = m.accepting; targets = rows }) (rows_back 0 m.accepting m.targets e)

pub views_differ : ViewsDiffer
views_differ a m n is_m is_n e = sym (back m is_m.bits) ∙ (ap unviewed e ∙ back n is_n.bits)

-- the pairs of an acceptor's machine
pub views_are_views : ViewsAreViews
views_are_views a q zero m is lq lx = rw (at_question a m is q lq) (refl, few_verdicts _)
views_are_views a q (suc x) m is lq lx = rw (at_letter a m is q x lq (omega (arith, lx))) refl

-- a row of such pairs is that of what stands in it
tail_back : (q x : ℕ) (r : Row) → ((y : ℕ) → y < length r → (get_or r y (0, 0)).1 ≡ 2) → map (λ t. (t, 2)) (map (λ c. c.0) r) ≡ r
tail_back q x [] each = refl
tail_back q x (c ∷ r) each =
    let here : (c.0, 2) ≡ c = ap (λ (y : ℕ). (c.0, y)) (sym (each 0 (omega arith))) in
    let rest : map (λ t. (t, 2)) (map (λ c. c.0) r) ≡ r = tail_back q x r (λ y lt. each (suc y) (omega (arith, lt))) in
    cc

said_back : (y : ℕ) → y < 2 → verdict (y == 0) ≡ y
said_back zero lt = refl
said_back (suc zero) lt = refl
said_back (suc (suc y)) lt = absurd (omega (arith, lt))

row_back : (q : ℕ) (r : Row) → 0 < length r → IsRowViewed q r → viewed_row q (bit_of r) (targets_of_row r) ≡ r
row_back q [] some each = absurd (omega (arith, some))
row_back q (c ∷ r) some each =
    let first = each 0 (omega arith) in
    let here : (q, verdict (c.1 == 0)) ≡ c = ap (λ (p : ℕ). (p, verdict (c.1 == 0))) (sym first.0) ∙ ap (λ (y : ℕ). (c.0, y)) (said_back c.1 first.1) in
    let rest : map (λ t. (t, 2)) (map (λ c. c.0) r) ≡ r = tail_back 0 0 r (λ y lt. each (suc y) (omega (arith, lt))) in
    cc

all_back : (q : ℕ) (m : Rows) → ((i : ℕ) → i < length m → (0 < length (row m i)) × IsRowViewed (q + i) (row m i)) → viewed_from q (map bit_of m) (map targets_of_row m) ≡ m
all_back q [] each = refl
all_back q (r ∷ m) each =
    let first = each 0 (omega arith) in
    let here : viewed_row q (bit_of r) (targets_of_row r) ≡ r = row_back q r first.0 (subst (λ (p : ℕ). IsRowViewed p r) (omega arith) first.1) in
    let rest : viewed_from (q + 1) (map bit_of m) (map targets_of_row m) ≡ m =
    all_back (q + 1) m (λ i lt. let e = each (suc i) (omega (arith, lt)) in (e.0, subst (λ (p : ℕ). IsRowViewed p (row m i)) (omega arith) e.1)) in
    cc

module _ (a : ℕ) (m : Rows) (machine : IsMachine (a + 1) m) where
  row_long : (q : ℕ) → q < length m → length (row m q) ≡ a + 1
  row_long q lt = (is_row (a + 1) m q machine lt).0

  pub unviewed_back : AreViewed m → viewed (unviewed m) ≡ m
  unviewed_back each = all_back 0 m (λ i lt. (omega (arith, row_long i lt), subst (λ (p : ℕ). IsRowViewed p (row m i)) (omega arith) (each i lt)))

  behind_first : (n : ℕ) (r : Row) → length r ≡ a + 1 → All (λ c. c.0 < n) r → (length (targets_of_row r) ≡ a) × All (λ t. t < n) (targets_of_row r)
  behind_first n [] e all = absurd (omega (arith, e))
  behind_first n (c ∷ r) e all = (
    omega (arith, e, length-map {B = ℕ} r (λ (d : ℕ × ℕ). d.0)),
    All-map (λ t. t < n) (λ (d : ℕ × ℕ). d.0) r (All-tail (λ d. d.0 < n) c r all),
  )

  pub unviewed_acceptor : IsAcceptor a (unviewed m)
  unviewed_acceptor = record {
    some_state = omega (arith, length-map {B = List ℕ} m targets_of_row, machine.some_state);
    bits = length-map {B = Bool} m bit_of ∙ sym (length-map {B = List ℕ} m targets_of_row);
    complete =
        subst (λ (n : ℕ). AreComplete a n (map targets_of_row m)) (sym (length-map {B = List ℕ} m targets_of_row))
        (All-map (λ r. (length r ≡ a) × All (λ t. t < length m) r) targets_of_row m
        (λ q d lt. let r = machine.complete q d lt in behind_first (length m) (get_or m q d) r.0 r.1));
  }

  pub unviewed_named : (inputs : List (List ℕ)) → AreAcceptorLetters inputs → length inputs ≡ a → length m ≤ 1024 → IsNamedAcceptor (record { inputs = inputs; automaton = unviewed m })
  unviewed_named inputs free count few = record {
    inputs = free.0;
    free = free.1;
    acceptor = subst (λ (b : ℕ). IsAcceptor b (unviewed m)) (sym count) unviewed_acceptor;
    few = omega (arith, few, length-map {B = List ℕ} m targets_of_row);
  }
