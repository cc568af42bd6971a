-- The machines that are drawn.
use Rattle.std.proofs.Common.{◌≡◌, ℕ, zero, suc, ◌+◌, ◌*◌, ◌-◌, ◌%◌, ◌<◌, ◌≤◌, [], ◌∷◌, ◌++◌, length, map, get_or, nat_eq, Bool, true, false, if◌then◌else◌, refl, ap, ap₂, sym, ◌∙◌, subst, arith}
use Rattle.std.specs.List.{All, range_with_len}
use Rattle.std.proofs.Math.Nat.{mod-lt}
use Rattle.std.proofs.lemmas.List.{length-map, get_or-map}
use Rattle.std.proofs.lemmas.List.FromFn.{length-range_with_len, map-range_with_len_more}
use Rattle.std.proofs.lemmas.List.Elements.{All-from_get_or}
use Rattle.rand_pcg.specs.Lcg.{Lcg}
use Rattle.lw_mealy.specs.Machine.{IsWithinLimits, mealy_of, Row, Rows}
use Rattle.lw_draw.specs.Drawn.{after_draws, draw_at, seeded}
use Rattle.lw_draw.proofs.DrawLemmas.{draw_then, draws_then}
use Rattle.lw_trial.specs.Drawn.{drawn_cell, words_before, drawn_row, drawn_rows}

-- the cell of a further letter
further_cell : (g : Lcg) (n q k : ℕ) → 0 < k → drawn_cell g n q k ≡ (draw_at g (2 * (k - 1)) % n, draw_at g (2 * (k - 1) + 1) % 2)
further_cell g n q zero some = absurd (omega arith)
further_cell g n q (suc x) some = let one : suc x - 1 ≡ x = omega arith in ap (λ (y : ℕ). (draw_at g (2 * y) % n, draw_at g (2 * y + 1) % 2)) (sym one)

pub cell_more : (g random : Lcg) (n q k target out : ℕ) (row now : Row) → 0 < k → random ≡ after_draws g (2 * (k - 1)) → row ≡ map (drawn_cell g n q) (range_with_len 0 k) → target ≡ draw_at random 0 % n → out ≡ draw_at random 1 % 2 → now ≡ row ++ (target, out) ∷ []
    → now ≡ map (drawn_cell g n q) (range_with_len 0 (k + 1))
cell_more g random n q k target out row now some at was is_target is_out grown =
    let first : draw_at random 0 ≡ draw_at g (2 * (k - 1)) = ap (λ (h : Lcg). draw_at h 0) at ∙ (draw_then g (2 * (k - 1)) 0 ∙ (let none : 2 * (k - 1) + 0 ≡ 2 * (k - 1) = omega arith in ap (draw_at g) none)) in
    let second : draw_at random 1 ≡ draw_at g (2 * (k - 1) + 1) = ap (λ (h : Lcg). draw_at h 1) at ∙ draw_then g (2 * (k - 1)) 1 in
    let cell : ◌≡◌ {A = ℕ × ℕ} (target, out) (drawn_cell g n q k) =
    ap₂ (λ (x y : ℕ). (x, y)) (is_target ∙ ap (λ (w : ℕ). w % n) first) (is_out ∙ ap (λ (w : ℕ). w % 2) second) ∙ sym (further_cell g n q k some) in
    grown ∙ (ap₂ (λ (l : Row) (c : ℕ × ℕ). l ++ c ∷ []) was cell ∙ sym (map-range_with_len_more (drawn_cell g n q) 0 k k (omega arith)))

pub words_more : (g random now : Lcg) (k : ℕ) → 0 < k → random ≡ after_draws g (2 * (k - 1)) → now ≡ after_draws random 2 → now ≡ after_draws g (2 * (k + 1 - 1))
words_more g random now k some at is = is ∙ (ap (λ (h : Lcg). after_draws h 2) at ∙ (draws_then g (2 * (k - 1)) 2 ∙ (let next : 2 * (k - 1) + 2 ≡ 2 * (k + 1 - 1) = omega (arith, some) in ap (after_draws g) next)))

-- the first cell
pub first_cell : (g : Lcg) (n q target out : ℕ) → target ≡ (q + 1) % n → out ≡ (if nat_eq (q + 1) n then 1 else 0) → ◌≡◌ {A = Row} ((target, out) ∷ []) (map (drawn_cell g n q) (range_with_len 0 1))
first_cell g n q target out is_target is_out = ap (λ (c : ℕ × ℕ). c ∷ []) (ap₂ (λ (x y : ℕ). (x, y)) is_target is_out)

pub row_more : (g random : Lcg) (n a k : ℕ) (row : Row) (rows now : Rows) → random ≡ after_draws g (words_before a k) → rows ≡ map (drawn_row g n a) (range_with_len 0 k) → row ≡ map (drawn_cell random n k) (range_with_len 0 a) → now ≡ rows ++ row ∷ [] → now ≡ map (drawn_row g n a) (range_with_len 0 (k + 1))
row_more g random n a k row rows now at was is grown =
    grown ∙ (ap₂ (λ (l : Rows) (r : Row). l ++ r ∷ []) was (is ∙ ap (λ (h : Lcg). map (drawn_cell h n k) (range_with_len 0 a)) at) ∙ sym (map-range_with_len_more (drawn_row g n a) 0 k k (omega arith)))

pub rows_words : (g random now : Lcg) (a k : ℕ) → random ≡ after_draws g (words_before a k) → now ≡ after_draws random (2 * (a - 1)) → now ≡ after_draws g (words_before a (k + 1))
rows_words g random now a k at is =
    let more : k * (2 * (a - 1)) + 2 * (a - 1) ≡ (k + 1) * (2 * (a - 1)) = omega arith in
    is ∙ (ap (λ (h : Lcg). after_draws h (2 * (a - 1))) at ∙ (draws_then g (words_before a k) (2 * (a - 1)) ∙ ap (after_draws g) more))

-- a drawn machine is one
bit_below : (b : Bool) → (if b then 1 else 0) < 2
bit_below true = omega arith
bit_below false = omega arith

cell_within : (g : Lcg) (n q x : ℕ) → 0 < n → ((drawn_cell g n q x).0 < n) × ((drawn_cell g n q x).1 < 2)
cell_within g n q zero some = (mod-lt (q + 1) {m = n} some, bit_below (nat_eq (q + 1) n))
cell_within g n q (suc x) some = (mod-lt (draw_at g (2 * x)) {m = n} some, mod-lt (draw_at g (2 * x + 1)) {m = 2} (omega arith))

cell_is : (g : Lcg) (n a q k : ℕ) → k < a → (x : ℕ) × (get_or (map (drawn_cell g n q) (range_with_len 0 a)) k (0, 0) ≡ drawn_cell g n q x)
cell_is g n a q k lt = (get_or (range_with_len 0 a) k 0, get_or-map (drawn_cell g n q) (range_with_len 0 a) k 0 (0, 0) (omega (arith, lt, length-range_with_len 0 a)))

pub drawn_within : (n a seed : ℕ) → (1 ≤ n) × (n ≤ 1024) → (1 ≤ a) × (a ≤ 64) → IsWithinLimits (mealy_of a 2 (drawn_rows n a seed))
drawn_within n a seed states letters =
    let rows : Rows = drawn_rows n a seed in
    let size : length rows ≡ n = length-map (range_with_len 0 n) (drawn_row (seeded seed) n a) ∙ length-range_with_len 0 n in
    let long : (g : Lcg) (q : ℕ) → length (map (drawn_cell g n q) (range_with_len 0 a)) ≡ a = λ g q. length-map (range_with_len 0 a) (drawn_cell g n q) ∙ length-range_with_len 0 a in
    let row_at : (k : ℕ) → k < length rows → (q : ℕ) × (get_or rows k [] ≡ drawn_row (seeded seed) n a q) =
    λ k lt. (get_or (range_with_len 0 n) k 0, get_or-map (drawn_row (seeded seed) n a) (range_with_len 0 n) k 0 [] (omega (arith, lt, size, length-range_with_len 0 n))) in
    let each : (g : Lcg) (q : ℕ) (P : ℕ × ℕ → Type 0) → ((x : ℕ) → P (drawn_cell g n q x)) → All P (map (drawn_cell g n q) (range_with_len 0 a)) =
    λ g q P holds. All-from_get_or P (map (drawn_cell g n q) (range_with_len 0 a)) (0, 0) (λ k lt. let c = cell_is g n a q k (omega (arith, lt, long g q)) in subst P (sym c.1) (holds c.0)) in
    record {
      inputs = letters;
      outputs = (omega arith, omega arith);
      few = omega (arith, size, states.1);
      machine = record {
        some_state = omega (arith, size, states.0);
        complete = All-from_get_or (λ r. (length r ≡ a) × All (λ c. c.0 < length rows) r) rows [] (λ k lt.
            let r = row_at k lt in
            let g : Lcg = after_draws (seeded seed) (words_before a r.0) in
            subst (λ (row : Row). (length row ≡ a) × All (λ c. c.0 < length rows) row) (sym r.1)
            (long g r.0, each g r.0 (λ c. c.0 < length rows) (λ x. let w = (cell_within g n r.0 x (omega (arith, states.0))).0 in omega (arith, w, size))));
      };
      answers = All-from_get_or (λ r. All (λ c. c.1 < 2) r) rows [] (λ k lt.
          let r = row_at k lt in
          let g : Lcg = after_draws (seeded seed) (words_before a r.0) in
          subst (λ (row : Row). All (λ c. c.1 < 2) row) (sym r.1) (each g r.0 (λ c. c.1 < 2) (λ x. (cell_within g n r.0 x (omega (arith, states.0))).1)));
    }
