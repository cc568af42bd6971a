-- What the machine of a closed table is.
use Rattle.std.proofs.Common.{◌≡◌, ℕ, zero, suc, ◌<◌, inl, inr, ⊎_elim, List, [], ◌∷◌, ◌++◌, length, take, drop, get_or, ap, ap₂, sym, ◌∙◌, subst, arith, append_assoc}
use Rattle.std.proofs.lemmas.List.{ext_get_or, take-append-drop, take-take, length-append, nil_from_length}
use Rattle.std.proofs.lemmas.List.Elements.{All-get_or}
use Rattle.lw_words.specs.Word.{Answer, AreAnswers, answer_at, IsPrefix}
use Rattle.lw_mealy.specs.Machine.{Row, Rows, row, cell, next, output, after, answer}
use Rattle.lw_mealy.proofs.WordLemmas.{after-append, out-append}
use Rattle.lw_cache.specs.Clash.{IsClear}
use Rattle.lw_cache.specs.Cut.{word_at, AreAccess, StepsAreRead}
use Rattle.lw_cache.specs.Known.{Reads}
use Rattle.lw_cache.proofs.KnownLemmas.{reads_once}
use Rattle.lw_table.specs.Table.{TableState, row_at, home_at, access_row, IsTable, Extends, CellsAreRead, IsClosedTable, IsMachineOf}
use Rattle.lw_table.specs.Laws.{OneMachine, AccessLeads, MachineGivesCells}
use Rattle.lw_table.proofs.CellLemmas.{same_place, letter_suffix, enough_suffixes, access_read}

module _ (t : TableState) (m : Rows) (g : IsTable t) (is : IsMachineOf t m) where
  leads_below : (n q : ℕ) → q < n → q < length t.access → after m 0 (word_at t.access q) ≡ q
  leads_below zero q bound lt = absurd (omega arith)
  leads_below (suc n) q bound lt =
      ⊎_elim
      (λ (z : (q ≡ 0) × (word_at t.access q ≡ []) × (home_at t q ≡ 0)). ap (after m 0) z.1 ∙ sym z.0)
      (λ (e : Extends t.inputs t.access q (home_at t q)).
      let before : e.from < q = e.before in
      let from : e.from < length t.access = omega arith in
      let same : access_row t q ≡ access_row t (next m e.from e.letter) = ap (row_at t) e.row ∙ is.targets e.from e.letter from e.small in
      ap (after m 0) e.word ∙ (after-append m 0 (word_at t.access e.from) (e.letter ∷ []) ∙ (ap (λ (s : ℕ). next m s e.letter) (leads_below n e.from (omega arith) from)
      ∙ sym (same_place t g q (next m e.from e.letter) lt (is.within e.from e.letter from e.small) same))))
      (g.homes q lt)

  pub leads : (q : ℕ) → q < length t.access → after m 0 (word_at t.access q) ≡ q
  leads q lt = leads_below (suc q) q (omega arith) lt

  first_word : word_at t.access 0 ≡ []
  first_word =
      ⊎_elim
      (λ (z : (0 ≡ 0) × (word_at t.access 0 ≡ []) × (home_at t 0 ≡ 0)). z.1)
      (λ (e : Extends t.inputs t.access 0 (home_at t 0)). let before : e.from < 0 = e.before in absurd (omega arith))
      (g.homes 0 g.some)

  pub are_access : AreAccess t.inputs m t.access
  are_access = record {
    words = g.words;
    count = sym is.states;
    lead = λ q lt. leads q (subst (λ (n : ℕ). q < n) is.states lt);
    first = first_word;
  }

pub access_leads : AccessLeads
access_leads t m g is = are_access t m g is

-- the front of what is read
reads_front : (ks : List Answer) (u v o : List ℕ) → Reads ks (u ++ v) o → Reads ks u (take (length u) o)
reads_front ks u v o read =
    ⊎_elim
    (λ (r : (u ++ v ≡ []) × (o ≡ [])).
    let none : u ≡ [] = nil_from_length u (omega (arith, ap (λ (w : List ℕ). length w) r.0, length-append u v)) in
    inl (none, ap (λ (w : List ℕ). take (length w) o) none))
    (λ (r : (i : ℕ) × IsClear ks i × IsPrefix (u ++ v) (answer_at ks i).word × (o ≡ take (length (u ++ v)) (answer_at ks i).outs)).
    inr (r.0, r.1, (v ++ r.2.0, r.2.1 ∙ append_assoc u v r.2.0), ap (take (length u)) r.3 ∙ take-take (length u) (length (u ++ v)) (answer_at ks r.0).outs (omega (arith, length-append u v))))
    read

module _ (ks : List Answer) (t : TableState) (m : Rows) (g : IsTable t) (are : AreAnswers t.inputs ks) (read : CellsAreRead ks t) (closed : IsClosedTable t) (is : IsMachineOf t m) where
  full : (q : ℕ) → q < length t.access → length (access_row t q) ≡ length t.suffixes
  full q lt = g.even q lt ∙ All-get_or (λ (r : List (List ℕ)). length r ≡ length t.suffixes) t.cells 0 [] (omega (arith, g.rows)) closed.filled

  -- where an access word is read as the machine says, so is it with a letter more
  one_more : (q x : ℕ) → q < length t.access → x < t.inputs → Reads ks (word_at t.access q) (answer m (word_at t.access q)) → Reads ks (word_at t.access q ++ x ∷ []) (answer m (word_at t.access q ++ x ∷ []))
  one_more q x lt small known =
      let u : List ℕ = word_at t.access q in
      let inside : x < length (access_row t q) = omega (arith, full q lt, enough_suffixes t g) in
      let r = access_read t g ks read q lt x inside in
      let here : Reads ks (u ++ x ∷ []) r.0 = subst (λ (e : List ℕ). Reads ks (u ++ e) r.0) (letter_suffix t g x small) r.1 in
      let front : take (length u) r.0 ≡ answer m u = reads_once t.inputs ks u (take (length u) r.0) (answer m u) are (reads_front ks u (x ∷ []) r.0 here) known in
      let rest : drop (length u) r.0 ≡ output m q x ∷ [] = sym r.2 ∙ is.outs q x lt small in
      let whole : r.0 ≡ answer m (u ++ x ∷ []) = sym (take-append-drop (length u) r.0) ∙ (ap₂ (λ (a b : List ℕ). a ++ b) front rest ∙ sym (out-append m 0 u (x ∷ []) ∙ ap (λ (s : ℕ). answer m u ++ output m s x ∷ []) (leads t m g is q lt))) in
      subst (λ (o : List ℕ). Reads ks (u ++ x ∷ []) o) whole here

  known_below : (n q : ℕ) → q < n → q < length t.access → Reads ks (word_at t.access q) (answer m (word_at t.access q))
  known_below zero q bound lt = absurd (omega arith)
  known_below (suc n) q bound lt =
      ⊎_elim
      (λ (z : (q ≡ 0) × (word_at t.access q ≡ []) × (home_at t q ≡ 0)). inl (z.1, ap (answer m) z.1))
      (λ (e : Extends t.inputs t.access q (home_at t q)).
      let before : e.from < q = e.before in
      let from : e.from < length t.access = omega arith in
      subst (λ (w : List ℕ). Reads ks w (answer m w)) (sym e.word) (one_more e.from e.letter from e.small (known_below n e.from (omega arith) from)))
      (g.homes q lt)

  pub steps_read : StepsAreRead ks t.inputs m t.access
  steps_read q x lt small =
      let le : q < length t.access = subst (λ (n : ℕ). q < n) is.states lt in
      one_more q x le small (known_below (suc q) q (omega arith) le)

pub machine_gives_cells : MachineGivesCells
machine_gives_cells ks t m g are read closed is = steps_read ks t m g are read closed is

module _ (t : TableState) (m n : Rows) (g : IsTable t) (one : IsMachineOf t m) (two : IsMachineOf t n) where
  same_cell : (q x : ℕ) → q < length t.access → x < t.inputs → cell m q x ≡ cell n q x
  same_cell q x lt small =
      let target : next m q x ≡ next n q x = same_place t g (next m q x) (next n q x) (one.within q x lt small) (two.within q x lt small) (sym (one.targets q x lt small) ∙ two.targets q x lt small) in
      let out : output m q x ≡ output n q x = ap (λ (w : List ℕ). get_or w 0 0) (sym (one.outs q x lt small) ∙ two.outs q x lt small) in
      ap₂ (λ (a b : ℕ). (a, b)) target out

  same_row : (q : ℕ) → q < length t.access → row m q ≡ row n q
  same_row q lt =
      let in_m : length (row m q) ≡ t.inputs = All-get_or (λ (r : Row). length r ≡ t.inputs) m q [] (subst (λ (k : ℕ). q < k) (sym one.states) lt) one.complete in
      let in_n : length (row n q) ≡ t.inputs = All-get_or (λ (r : Row). length r ≡ t.inputs) n q [] (subst (λ (k : ℕ). q < k) (sym two.states) lt) two.complete in
      ext_get_or (0, 0) (row m q) (row n q) (in_m ∙ sym in_n) (λ x small. same_cell q x lt (subst (λ (k : ℕ). x < k) in_m small))

  pub same_rows : m ≡ n
  same_rows = ext_get_or [] m n (one.states ∙ sym two.states) (λ q lt. same_row q (subst (λ (k : ℕ). q < k) one.states lt))

pub one_machine : OneMachine
one_machine t m n g one two = same_rows t m n g one two
