-- A machine whose equal states are merged, numbered as it is searched, is canonical.
use Rattle.std.proofs.Common.{◌≡◌, ◌≢◌, ℕ, ◌<◌, ◌⊎◌, ⊎_elim, List, [], ◌∷◌, length, get_or, Option, Some, None, refl, ap, sym, ◌∙◌, arith, subst}
use Rattle.std.proofs.lemmas.List.Elements.{All-tail, All-head}
use Rattle.std.proofs.lemmas.Bool.{cases_order}
use Rattle.lw_words.specs.Word.{IsWord}
use Rattle.lw_mealy.specs.Machine.{Rows, after, out, next, output, cell, Differ}
use Rattle.lw_separate.specs.Canonical.{IsCanonical, IsLeastAccess}
use Rattle.lw_separate.specs.bodies.Renaming.{StandsFor, Merges, Renames, renamed, NamesPlaces}
use Rattle.lw_separate.specs.bodies.Search.{IsSearch}
use Rattle.lw_separate.proofs.AccessLemmas.{one_word, least_word}

module _ (a : ℕ) (m h : Rows) (g : Merges a m h) where
  out_merged : (w : List ℕ) (q : ℕ) → q < length m → IsWord a w → out h q w ≡ out m q w
  out_merged [] q lt letters = refl
  out_merged (x ∷ v) q lt letters =
      let xa : x < a = All-head (λ y. y < a) x v letters in
      let tail : IsWord a v = All-tail (λ y. y < a) x v letters in
      let s : StandsFor a m (next m q x) (next h q x) = g.targets q x lt xa in
      let o : output h q x ≡ output m q x = g.outputs q x lt xa in
      let r : out h (next h q x) v ≡ out m (next m q x) v = out_merged v (next h q x) s.state tail ∙ s.agrees v tail in
      cc

  -- each state that is reached stands for one
  stands_on : (v : List ℕ) (r : ℕ) → (q : ℕ) × StandsFor a m q r → IsWord a v → (q : ℕ) × StandsFor a m q (after h r v)
  stands_on [] r s letters = s
  stands_on (x ∷ v) r s letters =
      stands_on v (next h r x) (next m r x, g.targets r x s.1.state (All-head (λ y. y < a) x v letters)) (All-tail (λ y. y < a) x v letters)

  module _ (some : 0 < length m) where
    stands : (v : List ℕ) → IsWord a v → (q : ℕ) × StandsFor a m q (after h 0 v)
    stands v letters = stands_on v 0 (0, record { state = some; agrees = λ w is. refl; least = λ p lt. absurd (omega arith) }) letters

    module _ (ws : List (List ℕ)) (ss : List ℕ) (ps : List (Option ℕ)) (s : IsSearch a h ws ss ps (length ws) 0) (names : List ℕ) (named : NamesPlaces ps names) (c : Rows) (n : Renames a h ss names c) where
      long : length c ≡ length ws
      long = n.long ∙ sym s.paired

      -- a step of the numbered machine
      step : (k x : ℕ) → k < length ws → x < a → (next c k x < length ws) × (get_or ss (next c k x) 0 ≡ next h (get_or ss k 0) x) × (output c k x ≡ output h (get_or ss k 0) x)
      step k x lk xa =
          let r = s.closed k x lk lk xa in
          let e : cell c k x ≡ renamed h names (get_or ss k 0) x = n.cells k x (omega (arith, s.paired)) xa in
          let at : get_or ps (next h (get_or ss k 0) x) None ≡ Some r.0 = ap (λ (q : ℕ). get_or ps q None) (sym r.2) ∙ s.there r.0 r.1 in
          let to : next c k x ≡ r.0 = ap (λ (d : ℕ × ℕ). d.0) e ∙ named (next h (get_or ss k 0) x) r.0 at in
          (omega (arith, to, r.1), ap (λ (q : ℕ). get_or ss q 0) to ∙ r.2, ap (λ (d : ℕ × ℕ). d.1) e)

      along : (w : List ℕ) (k : ℕ) → k < length ws → IsWord a w → (after c k w < length ws) × (get_or ss (after c k w) 0 ≡ after h (get_or ss k 0) w) × (out c k w ≡ out h (get_or ss k 0) w)
      along [] k lk letters = (lk, refl, refl)
      along (x ∷ v) k lk letters =
          let t = step k x lk (All-head (λ y. y < a) x v letters) in
          let r = along v (next c k x) t.0 (All-tail (λ y. y < a) x v letters) in
          let o : output c k x ≡ output h (get_or ss k 0) x = t.2 in
          let rest : out c (next c k x) v ≡ out h (next h (get_or ss k 0) x) v = r.2 ∙ ap (λ (q : ℕ). out h q v) t.1 in
          (r.0, r.1 ∙ ap (λ (q : ℕ). after h q v) t.1, cc)

      start : get_or ss 0 0 ≡ 0
      start = sym (s.leads 0 s.some) ∙ ap (after h 0) s.first

      same_out : (k : ℕ) (w : List ℕ) → k < length ws → IsWord a w → out c k w ≡ out m (get_or ss k 0) w
      same_out k w lk letters = (along w k lk letters).2 ∙ out_merged w (get_or ss k 0) (omega (arith, s.state k lk, g.long)) letters

      -- a word leads to a number exactly where it leads to the number's state
      leads_back : (k : ℕ) (w : List ℕ) → k < length ws → IsWord a w → after h 0 w ≡ get_or ss k 0 → after c 0 w ≡ k
      leads_back k w lk letters is =
          let r = along w 0 s.some letters in
          one_word a h ws ss ps s (after c 0 w) k r.0 lk (r.1 ∙ (ap (λ (q : ℕ). after h q w) start ∙ is))

      leads_on : (k : ℕ) (w : List ℕ) → IsWord a w → after c 0 w ≡ k → after h 0 w ≡ get_or ss k 0
      leads_on k w letters is =
          let r = along w 0 s.some letters in
          sym (ap (λ (q : ℕ). after h q w) start) ∙ (sym r.1 ∙ ap (λ (q : ℕ). get_or ss q 0) is)

      numbered_word : (k : ℕ) → k < length ws → IsLeastAccess a c k (get_or ws k [])
      numbered_word k lk =
          let l = least_word a h ws ss ps s k lk in
          record { does = (s.letters k lk, leads_back k (get_or ws k []) lk (s.letters k lk) (s.leads k lk)); least = λ v d. l.least v (d.0, leads_on k v d.0 d.1) }

      differ_below : (p q : ℕ) → p < length ws → q < length ws → get_or ss p 0 < get_or ss q 0 → (w : List ℕ) × IsWord a w × (out c p w ≢ out c q w)
      differ_below p q lp lq lt =
          let t = stands (get_or ws q []) (s.letters q lq) in
          let f : StandsFor a m t.0 (get_or ss q 0) = subst (λ (r : ℕ). StandsFor a m t.0 r) (s.leads q lq) t.1 in
          let d = f.least (get_or ss p 0) lt in
          (d.0, d.1, λ same. d.2 (sym (same_out p d.0 lp d.1) ∙ (same ∙ (same_out q d.0 lq d.1 ∙ f.agrees d.0 d.1))))

      apart : (p q : ℕ) → p < q → q < length c → Differ a c p q
      apart p q pq lq =
          let lq' : q < length ws = omega (arith, long) in
          let lp' : p < length ws = omega (arith, long) in
          ⊎_elim
          (λ (same : get_or ss p 0 ≡ get_or ss q 0). absurd (omega (arith, pq, one_word a h ws ss ps s p q lp' lq' same)))
          (λ (o : (get_or ss p 0 < get_or ss q 0) ⊎ (get_or ss q 0 < get_or ss p 0)).
          ⊎_elim
          (λ (l : get_or ss p 0 < get_or ss q 0). differ_below p q lp' lq' l)
          (λ (l : get_or ss q 0 < get_or ss p 0). let d = differ_below q p lq' lp' l in (d.0, d.1, λ same. d.2 (sym same)))
          o)
          (cases_order (get_or ss p 0) (get_or ss q 0))

      pub is_canonical : IsCanonical a m c
      is_canonical = record {
        machine = n.machine;
        equal = λ w letters. same_out 0 w s.some letters ∙ ap (λ (q : ℕ). out m q w) start;
        minimal = record {
          reached = λ q lq. let l : q < length ws = omega (arith, long) in (get_or ws q [], s.letters q l, (numbered_word q l).does.1);
          apart = apart;
        };
        words = ws;
        least = record { each = sym long; words = λ q lq. numbered_word q (omega (arith, long)) };
        rising = λ p q pq lq. s.rising p q pq (omega (arith, long));
      }

-- the same where the states are told by an equation
pub canonical_of : (a : ℕ) (m h c : Rows) (ws : List (List ℕ)) (ss : List ℕ) (ps : List (Option ℕ)) (names states : List ℕ) → Merges a m h → IsSearch a h ws ss ps (length ws) 0 → NamesPlaces ps names → states ≡ ss → Renames a h states names c → IsCanonical a m c
canonical_of a m h c ws ss ps names states g s named is n =
    let n' : Renames a h ss names c = subst (λ (l : List ℕ). Renames a h l names c) is n in
    is_canonical a m h g (omega (arith, g.long, g.machine.some_state)) ws ss ps s names named c n'
