-- What the machine of a closed tree is.
use Rattle.std.proofs.Common.{◌≡◌, inl, ⊎_elim, ℕ, zero, suc, ◌+◌, ◌*◌, ◌<◌, ◌≤◌, Bool, true, false, ◌||◌, true≢false, List, [], ◌∷◌, ◌++◌, length, take, get_or, Option, Some, None, is_none, refl, ap, ap₂, sym, ◌∙◌, subst, arith}
use Rattle.std.specs.List.{All}
use Rattle.std.proofs.Math.ListN.{get_or-append}
use Rattle.std.proofs.Math.Seq.{get_or-append_seam}
use Rattle.std.proofs.lemmas.Bool.{cases_lt}
use Rattle.std.proofs.lemmas.List.{length-append, ext_get_or, take-append-drop}
use Rattle.std.proofs.lemmas.List.Elements.{All-get_or, All-from_get_or}
use Rattle.lw_words.specs.Word.{Answer, AreAnswers}
use Rattle.lw_mealy.specs.Machine.{IsWithinLimits, mealy_of, Row, Rows, row, cell, next, output, after, answer}
use Rattle.lw_mealy.proofs.WordLemmas.{after-append, out-append}
use Rattle.lw_cache.specs.Cut.{word_at, StepsAreRead}
use Rattle.lw_cache.specs.Known.{Reads}
use Rattle.lw_cache.proofs.KnownLemmas.{reads_once}
use Rattle.lw_cache.proofs.ReadLemmas.{read_front}
use Rattle.lw_tree.specs.Laws.{HasMachine, OneMachine, AccessLeads, MachineGivesSteps}
use Rattle.lw_tree.specs.Tree.{TreeState, node_at, place_of, edge_at, IsLive, IsTree, BranchesAreRead, IsClosed, IsMachineOf, is_inner}
use Rattle.lw_tree.specs.bodies.Transitions.{IsStep, AreStepsTo, AreSteps, AreStates}
use Rattle.lw_tree.specs.declared.nodes.Content.{Content}
use Rattle.lw_tree.specs.declared.nodes.Content.TheVariants.{State, Discriminator, Gone}
use Rattle.lw_tree.specs.declared.transitions.Place.{Place}
use Rattle.lw_tree.proofs.PlaceLemmas.{number_within}
use Rattle.lw_tree.proofs.ShapeLemmas.{shape_of, all_places, leaves_once, same_output}

module _ (t : TreeState) (m : Rows) (g : IsTree t) (is : IsMachineOf t m) where
  leads_below : (n q : ℕ) → q < n → q < length t.access → after m 0 (word_at t.access q) ≡ q
  leads_below zero q bound lt = absurd (omega (arith, bound))
  leads_below (suc n) zero bound lt = ap (after m 0) g.first
  leads_below (suc n) (suc q) bound lt =
      let e = g.edges (suc q) (omega arith) lt in
      let before = e.before in
      let s : ℕ = (edge_at t.spanning (suc q)).state in
      let x : ℕ = (edge_at t.spanning (suc q)).letter in
      let from : s < length t.access = omega (arith, before, lt) in
      let target : next m s x ≡ suc q = leaves_once t (shape_of t g) (next m s x) (suc q) (is.within s x from e.small) lt (sym (is.targets s x from e.small) ∙ e.target) in
      ap (after m 0) e.word_is ∙ (after-append m 0 (word_at t.access s) (x ∷ []) ∙ (ap (λ (p : ℕ). next m p x) (leads_below n s (omega (arith, before, bound)) from) ∙ target))

  pub leads : (q : ℕ) → q < length t.access → after m 0 (word_at t.access q) ≡ q
  leads q lt = leads_below (suc q) q (omega arith) lt

pub access_leads : AccessLeads
access_leads t m g is = record {
  words = g.words;
  count = sym is.states;
  lead = λ q lt. leads t m g is q (subst (λ (n : ℕ). q < n) is.states lt);
  first = g.first;
}

module _ (ks : List Answer) (t : TreeState) (m : Rows) (g : IsTree t) (are : AreAnswers t.inputs ks) (read : BranchesAreRead ks t) (is : IsMachineOf t m) where
  -- where an access word is read as the machine says, so is it with a letter more
  one_more : (q x : ℕ) → q < length t.access → x < t.inputs → Reads ks (word_at t.access q) (answer m (word_at t.access q)) → Reads ks (word_at t.access q ++ x ∷ []) (answer m (word_at t.access q ++ x ∷ []))
  one_more q x lt small known =
      let u : List ℕ = word_at t.access q in
      let r = read.outs q x (output m q x) lt small (is.outs q x lt small) in
      let front : take (length u) r.0 ≡ answer m u = reads_once t.inputs ks u (take (length u) r.0) (answer m u) are (read_front ks u (x ∷ []) r.0 r.1) known in
      let whole : r.0 ≡ answer m (u ++ x ∷ []) = sym (take-append-drop (length u) r.0) ∙ (ap₂ (λ (a b : List ℕ). a ++ b) front (sym r.2) ∙ sym (out-append m 0 u (x ∷ []) ∙ ap (λ (s : ℕ). answer m u ++ output m s x ∷ []) (leads t m g is q lt))) in
      subst (λ (o : List ℕ). Reads ks (u ++ x ∷ []) o) whole r.1

  known_below : (n q : ℕ) → q < n → q < length t.access → Reads ks (word_at t.access q) (answer m (word_at t.access q))
  known_below zero q bound lt = absurd (omega (arith, bound))
  known_below (suc n) zero bound lt = inl (g.first, ap (answer m) g.first)
  known_below (suc n) (suc q) bound lt =
      let e = g.edges (suc q) (omega arith) lt in
      let before = e.before in
      let s : ℕ = (edge_at t.spanning (suc q)).state in
      let x : ℕ = (edge_at t.spanning (suc q)).letter in
      let from : s < length t.access = omega (arith, before, lt) in
      subst (λ (w : List ℕ). Reads ks w (answer m w)) (sym e.word_is) (one_more s x from e.small (known_below n s (omega (arith, before, bound)) from))

  pub steps_read : StepsAreRead ks t.inputs m t.access
  steps_read q x lt small =
      let le : q < length t.access = subst (λ (n : ℕ). q < n) is.states lt in
      one_more q x le small (known_below (suc q) q (omega arith) le)

pub machine_gives_steps : MachineGivesSteps
machine_gives_steps ks t m g are read is = steps_read ks t m g are read is

module _ (t : TreeState) (m n : Rows) (g : IsTree t) (one : IsMachineOf t m) (two : IsMachineOf t n) where
  same_cell : (q x : ℕ) → q < length t.access → x < t.inputs → cell m q x ≡ cell n q x
  same_cell q x lt small =
      let target : next m q x ≡ next n q x = leaves_once t (shape_of t g) (next m q x) (next n q x) (one.within q x lt small) (two.within q x lt small) (sym (one.targets q x lt small) ∙ two.targets q x lt small) in
      let out : output m q x ≡ output n q x = same_output (output m q x) (output n q x) (sym (one.outs q x lt small) ∙ two.outs q x lt small) in
      ap₂ (λ (a b : ℕ). (a, b)) target out

  same_row : (q : ℕ) → q < length t.access → row m q ≡ row n q
  same_row q lt =
      let in_m : length (row m q) ≡ t.inputs = All-get_or (λ (r : Row). length r ≡ t.inputs) m q [] (subst (λ (k : ℕ). q < k) (sym one.states) lt) one.complete in
      let in_n : length (row n q) ≡ t.inputs = All-get_or (λ (r : Row). length r ≡ t.inputs) n q [] (subst (λ (k : ℕ). q < k) (sym two.states) lt) two.complete in
      ext_get_or (0, 0) (row m q) (row n q) (in_m ∙ sym in_n) (λ x small. same_cell q x lt (subst (λ (k : ℕ). x < k) in_m small))

  pub same_rows : m ≡ n
  same_rows = ext_get_or [] m n (one.states ∙ sym two.states) (λ q lt. same_row q (subst (λ (k : ℕ). q < k) one.states lt))

-- a transition leads where the machine says, with its output
pub step_is : (t : TreeState) (m : Rows) → IsTree t → IsMachineOf t m → (q x p y : ℕ) → q < length t.access → x < t.inputs → IsStep t q x p y → (p ≡ next m q x) × (y ≡ output m q x)
step_is t m g is q x p y lt small step = (
  leaves_once t (shape_of t g) p (next m q x) step.within (is.within q x lt small) (sym step.node ∙ is.targets q x lt small),
  same_output y (output m q x) (sym step.output ∙ is.outs q x lt small),
)

pub one_machine : OneMachine
one_machine t m n g one two = same_rows t m n g one two

-- a place that isn't open has an output, and stands at a leaf
closed_parts : (a b : Bool) → (a || b) ≡ false → (a ≡ false) × (b ≡ false)
closed_parts true b e = absurd (true≢false e)
closed_parts false b e = (refl, e)

has_output : (o : Option ℕ) → is_none o ≡ false → (y : ℕ) × (o ≡ Some y)
has_output None e = absurd (true≢false e)
has_output (Some y) e = (y, refl)

has_state : (c : Content) → IsLive c → is_inner c ≡ false → (q : ℕ) × (c ≡ State q)
has_state (State q) live e = (q, refl)
has_state (Discriminator word temporary) live e = absurd (true≢false e)
has_state Gone live e = elim live [ ]

module _ (t : TreeState) (g : IsTree t) (closed : IsClosed t) (q x : ℕ) (lt : q < length t.access) (small : x < t.inputs) where
  abbrev place : Place
  place = place_of t.inputs t.places q x

  inside : q * t.inputs + x < length t.places
  inside = subst (λ (n : ℕ). q * t.inputs + x < n) (sym g.each_place) (number_within t.inputs (length t.access) q x lt small)

  parts : (is_none place.output ≡ false) × (is_inner (node_at t.nodes place.node).content ≡ false)
  parts = closed_parts (is_none place.output) (is_inner (node_at t.nodes place.node).content) (closed (q * t.inputs + x) inside)

  pub closed_output : (y : ℕ) × (place.output ≡ Some y)
  closed_output = has_output place.output parts.0

  pub closed_state : (p : ℕ) × ((node_at t.nodes place.node).content ≡ State p)
  closed_state = has_state (node_at t.nodes place.node).content (all_places t (shape_of t g) (q * t.inputs + x)).live parts.1

  -- the step to that state
  pub step_to : (p y : ℕ) → (node_at t.nodes place.node).content ≡ State p → place.output ≡ Some y → IsStep t q x p y
  step_to p y content out =
      let at = g.leaves.states place.node p content in
      record { within = at.0; node = sym at.1; output = out }

  pub some_step : (p : ℕ) × (y : ℕ) × IsStep t q x p y
  some_step = let p = closed_state in let y = closed_output in (p.0, y.0, step_to p.0 y.0 p.1 y.1)

-- one letter more
pub steps_more : (t : TreeState) (q x target out : ℕ) (row now : Row) → AreStepsTo t q x row → IsStep t q x target out → now ≡ row ++ (target, out) ∷ [] → AreStepsTo t q (x + 1) now
steps_more t q x target out row now was here grown =
    subst (AreStepsTo t q (x + 1)) (sym grown) (
      length-append row ((target, out) ∷ []) ∙ ap (λ (n : ℕ). n + 1) was.0,
      λ y lt. ⊎_elim
          (λ (below : y < x). subst (λ (c : ℕ × ℕ). IsStep t q y c.0 c.1) (sym (get_or-append row ((target, out) ∷ []) (0, 0) y (let s = was.0 in omega (arith, s, below)))) (was.1 y below))
          (λ (above : x ≤ y).
          let at : y ≡ length row = (let s = was.0 in omega (arith, s, above, lt)) in
          subst (λ (z : ℕ). IsStep t q z (get_or (row ++ (target, out) ∷ []) z (0, 0)).0 (get_or (row ++ (target, out) ∷ []) z (0, 0)).1) (sym at)
          (subst (λ (c : ℕ × ℕ). IsStep t q (length row) c.0 c.1) (sym (get_or-append_seam row (target, out) [] (0, 0))) (subst (λ (z : ℕ). IsStep t q z target out) (sym was.0) here)))
          (cases_lt y x),
    )

-- one state more
pub states_more : (t : TreeState) (q : ℕ) (row : Row) (rows now : List Row) → AreStates t q rows → AreSteps t q row → now ≡ rows ++ row ∷ [] → AreStates t (q + 1) now
states_more t q row rows now was here grown =
    subst (AreStates t (q + 1)) (sym grown) (
      length-append rows (row ∷ []) ∙ ap (λ (n : ℕ). n + 1) was.0,
      λ p lt. ⊎_elim
          (λ (below : p < q). subst (AreSteps t p) (sym (get_or-append rows (row ∷ []) [] p (let s = was.0 in omega (arith, s, below)))) (was.1 p below))
          (λ (above : q ≤ p).
          let at : p ≡ length rows = (let s = was.0 in omega (arith, s, above, lt)) in
          subst (λ (z : ℕ). AreSteps t z (get_or (rows ++ row ∷ []) z [])) (sym at)
          (subst (AreSteps t (length rows)) (sym (get_or-append_seam rows row [] [])) (subst (λ (z : ℕ). AreSteps t z row) (sym was.0) here)))
          (cases_lt p q),
    )

-- all states are the machine
module _ (t : TreeState) (rows : Rows) (g : IsTree t) (all : AreStates t (length t.access) rows) where
  at_cell : (q x : ℕ) → q < length t.access → x < t.inputs → IsStep t q x (next rows q x) (output rows q x)
  at_cell q x lt small = (all.1 q lt).1 x small

  pub is_machine_of : IsMachineOf t rows
  is_machine_of =
      record {
        states = all.0;
        complete = All-from_get_or (λ r. length r ≡ t.inputs) rows [] (λ q lt. (all.1 q (let s = all.0 in omega (arith, lt, s))).0);
        outs = λ q x lt small. (at_cell q x lt small).output;
        within = λ q x lt small. (at_cell q x lt small).within;
        targets = λ q x lt small. (at_cell q x lt small).node;
      }

  out_below : (q x : ℕ) → q < length t.access → x < t.inputs → output rows q x < t.outputs
  out_below q x lt small = (all_places t (shape_of t g) (q * t.inputs + x)).below (output rows q x) (at_cell q x lt small).output

  pub within_limits : IsWithinLimits (mealy_of t.inputs t.outputs rows)
  within_limits =
      record {
        inputs = g.inputs;
        outputs = g.outputs;
        few = let s = all.0 in let f = g.few in let m = g.most in omega (arith, s, f, m.1);
        machine = record {
          some_state = let s = all.0 in omega (arith, s, g.some);
          complete = All-from_get_or (λ r. (length r ≡ t.inputs) × All (λ c. c.0 < length rows) r) rows [] (λ q lt.
              let le : q < length t.access = (let s = all.0 in omega (arith, lt, s)) in
              let row = all.1 q le in
              (row.0, All-from_get_or (λ c. c.0 < length rows) (get_or rows q []) (0, 0) (λ x small. let w = (row.1 x (let s = row.0 in omega (arith, small, s))).within in let s = all.0 in omega (arith, w, s))));
        };
        answers = All-from_get_or (λ r. All (λ c. c.1 < t.outputs) r) rows [] (λ q lt.
            let le : q < length t.access = (let s = all.0 in omega (arith, lt, s)) in
            All-from_get_or (λ c. c.1 < t.outputs) (get_or rows q []) (0, 0) (λ x small. out_below q x le (let s = (all.1 q le).0 in omega (arith, small, s))));
      }

-- each closed tree has these
steps_to : (t : TreeState) → IsTree t → IsClosed t → (q : ℕ) → q < length t.access → (n : ℕ) → n ≤ t.inputs → (row : Row) × AreStepsTo t q n row
steps_to t g closed q lt zero le = ([], (refl, λ x below. absurd (omega (arith, below))))
steps_to t g closed q lt (suc n) le =
    let r = steps_to t g closed q lt n (omega (arith, le)) in
    let there = some_step t g closed q n lt (omega (arith, le)) in
    let next : n + 1 ≡ suc n = omega arith in (
      r.0 ++ (there.0, there.1) ∷ [],
      subst (λ (k : ℕ). AreStepsTo t q k (r.0 ++ (there.0, there.1) ∷ [])) next (steps_more t q n there.0 there.1 r.0 (r.0 ++ (there.0, there.1) ∷ []) r.1 there.2 refl),
    )

states_to : (t : TreeState) → IsTree t → IsClosed t → (n : ℕ) → n ≤ length t.access → (rows : Rows) × AreStates t n rows
states_to t g closed zero le = ([], (refl, λ x below. absurd (omega (arith, below))))
states_to t g closed (suc n) le =
    let r = states_to t g closed n (omega (arith, le)) in
    let row = steps_to t g closed n (omega (arith, le)) t.inputs (omega arith) in
    let next : n + 1 ≡ suc n = omega arith in
    (r.0 ++ row.0 ∷ [], subst (λ (k : ℕ). AreStates t k (r.0 ++ row.0 ∷ [])) next (states_more t n row.0 r.0 (r.0 ++ row.0 ∷ []) r.1 row.1 refl))

pub has_machine : HasMachine
has_machine t g closed = let r = states_to t g closed (length t.access) (omega arith) in (r.0, is_machine_of t r.0 g r.1)
