-- Rows that are made step by step.
use Rattle.std.proofs.Common.{◌≡◌, ◌≢◌, ⊎_elim, ◌-◌, ℕ, zero, suc, ◌+◌, ◌<◌, ◌≤◌, List, [], ◌∷◌, ◌++◌, length, get_or, set, take, drop, true≢false, true, false, nat_eq, refl, ap, ap₂, sym, ◌∙◌, subst, arith, append_assoc, append-nil}
use Rattle.std.specs.List.{All, AllPairs}
use Rattle.std.proofs.lemmas.List.{length-append, length-set, get_or-append-add, get_or_default, get_or-set_same, get_or-set_other, get_or-take, take-take}
use Rattle.std.proofs.Math.Seq.{drop-append_seam, take-append_seam, get_or-append_seam}
use Rattle.std.proofs.Math.ListN.{get_or-append}
use Rattle.std.proofs.lemmas.Bool.{cases_order, and_parts, and_from}
use Rattle.std.proofs.lemmas.Bool.Decides.{Decides-eqb}
use Rattle.std.proofs.lemmas.Slice.Eq.{bytes_eq-Decides}
use Rattle.std.proofs.lemmas.List.Quantifiers.{all_pairs_push}
use Rattle.std.specs.Str.{bytes_eq}
use Rattle.lw_table.specs.bodies.Classes.{row_of, HasEntered, InSingles}
use Rattle.lw_table.specs.bodies.Steps.{step_eq, made, more_rows, rows_of, TakeEarlier, AreClasses}
use Rattle.lw_table.specs.declared.classes.Step.{Step}

abbrev Rows3 : Type 0
Rows3 = List (List (List ℕ))

get_or-append_seam_add : (rows : Rows3) (row : List (List ℕ)) → row_of (rows ++ row ∷ []) (length rows + 0) ≡ row
get_or-append_seam_add rows row = get_or-append-add rows (row ∷ []) 0 []

-- of rows that differ
pub differ_once : (rows : Rows3) → AllPairs (λ r s. r ≢ s) rows → (p q : ℕ) → p < length rows → q < length rows → row_of rows p ≡ row_of rows q → p ≡ q
differ_once rows differ p q lp lq same =
    ⊎_elim
    (λ (one : p ≡ q). one)
    (⊎_elim (λ (lt : p < q). absurd (differ p q [] lt lq same)) (λ (lt : q < p). absurd (differ q p [] lt lp (sym same))))
    (cases_order p q)

-- the rows before stay in front
pub rows_stay : (rows : Rows3) (steps : List Step) → (more : Rows3) × (more_rows rows steps ≡ rows ++ more)
rows_stay rows [] = ([], sym (append-nil rows))
rows_stay rows (step ∷ steps) =
    let r = rows_stay (rows ++ made rows step ∷ []) steps in
    (made rows step ∷ r.0, r.1 ∙ append_assoc rows (made rows step ∷ []) r.0)

pub length-more_rows : (rows : Rows3) (steps : List Step) → length (more_rows rows steps) ≡ length rows + length steps
length-more_rows rows [] = omega arith
length-more_rows rows (step ∷ steps) =
    let rest = length-more_rows (rows ++ made rows step ∷ []) steps in
    let one = length-append rows (made rows step ∷ []) in
    omega (arith, rest, one)

-- one step more
pub more_rows_push : (rows : Rows3) (steps : List Step) (step : Step) → more_rows rows (steps ++ step ∷ []) ≡ more_rows rows steps ++ made (more_rows rows steps) step ∷ []
more_rows_push rows [] step = refl
more_rows_push rows (first ∷ steps) step = more_rows_push (rows ++ made rows first ∷ []) steps step

earlier_push : (most : ℕ) (steps : List Step) (step : Step) → TakeEarlier most steps → step.class ≤ most + length steps → TakeEarlier most (steps ++ step ∷ [])
earlier_push most [] step earlier le = (omega (arith, le), tt)
earlier_push most (first ∷ steps) step earlier le = (earlier.0, earlier_push (suc most) steps step earlier.1 (omega (arith, le)))

-- a row before stays
pub row_stays : (rows more now : Rows3) (class : ℕ) → now ≡ rows ++ more → class < length rows → row_of now class ≡ row_of rows class
row_stays rows more now class is lt = ap (λ (l : Rows3). row_of l class) is ∙ get_or-append rows more [] class lt

-- a row is that of an earlier class, and one cell more
pub row_made : (rows : Rows3) (most : ℕ) (steps : List Step) (i : ℕ) (d : Step) → length rows ≡ suc most → TakeEarlier most steps → i < length steps
    → (row_of (more_rows rows steps) (length rows + i) ≡ row_of (more_rows rows steps) (get_or steps i d).class ++ (get_or steps i d).outputs.items ∷ []) × ((get_or steps i d).class < length rows + i)
row_made rows most [] i d size earlier lt = absurd (omega arith)
row_made rows most (first ∷ steps) zero d size earlier lt =
    let new : Rows3 = rows ++ made rows first ∷ [] in
    let r = rows_stay new steps in
    let long : length new ≡ length rows + 1 = length-append rows (made rows first ∷ []) in
    let here : row_of (more_rows new steps) (length rows + 0) ≡ made rows first =
    row_stays new r.0 (more_rows new steps) (length rows + 0) r.1 (omega (arith, long)) ∙ get_or-append_seam_add rows (made rows first) in
    let there : row_of (more_rows new steps) first.class ≡ row_of rows first.class =
    row_stays new r.0 (more_rows new steps) first.class r.1 (omega (arith, long, earlier.0)) ∙ get_or-append rows (made rows first ∷ []) [] first.class (omega (arith, size, earlier.0)) in
    (here ∙ ap (λ (row : List (List ℕ)). row ++ first.outputs.items ∷ []) (sym there), omega (arith, size, earlier.0))
row_made rows most (first ∷ steps) (suc i) d size earlier lt =
    let new : Rows3 = rows ++ made rows first ∷ [] in
    let long : length new ≡ length rows + 1 = length-append rows (made rows first ∷ []) in
    let place : length new + i ≡ length rows + suc i = omega (arith, long) in
    let rest = row_made new (suc most) steps i d (omega (arith, long, size)) earlier.1 (omega (arith, lt)) in (
      subst (λ (j : ℕ). row_of (more_rows new steps) j ≡ row_of (more_rows new steps) (get_or steps i d).class ++ (get_or steps i d).outputs.items ∷ []) place rest.0,
      omega (arith, place, rest.1),
    )

module _ (steps : List Step) (is : AreClasses steps) where
  -- the row of a class that isn't 0
  pub class_row : (class : ℕ) (d : Step) → 0 < class → class < length (rows_of steps)
      → (row_of (rows_of steps) class ≡ row_of (rows_of steps) (get_or steps (class - 1) d).class ++ (get_or steps (class - 1) d).outputs.items ∷ []) × ((get_or steps (class - 1) d).class < class)
  class_row class d some lt =
      let size = length-more_rows ([] ∷ []) steps in
      let r = row_made ([] ∷ []) 0 steps (class - 1) d refl is.earlier (omega (arith, size)) in
      let place : 1 + (class - 1) ≡ class = omega arith in (
        subst (λ (j : ℕ). row_of (rows_of steps) j ≡ row_of (rows_of steps) (get_or steps (class - 1) d).class ++ (get_or steps (class - 1) d).outputs.items ∷ []) place r.0,
        omega (arith, place, r.1),
      )

  -- two classes with one row are one
  pub one_class : (p q : ℕ) → p < length (rows_of steps) → q < length (rows_of steps) → row_of (rows_of steps) p ≡ row_of (rows_of steps) q → p ≡ q
  one_class p q lp lq same = differ_once (rows_of steps) is.differ p q lp lq same

pub same_step : (s t : Step) → step_eq s t ≡ true → (s.class ≡ t.class) × (s.outputs.items ≡ t.outputs.items)
same_step s t same =
    let both = and_parts (nat_eq s.class t.class) (bytes_eq s.outputs.items t.outputs.items) same in
    ((Decides-eqb s.class t.class).0 both.0, (bytes_eq-Decides s.outputs.items t.outputs.items).0 both.1)

pub is_step : (s t : Step) → s.class ≡ t.class → s.outputs.items ≡ t.outputs.items → step_eq s t ≡ true
is_step s t class outputs = and_from (nat_eq s.class t.class) (bytes_eq s.outputs.items t.outputs.items) ((Decides-eqb s.class t.class).1 class) ((bytes_eq-Decides s.outputs.items t.outputs.items).1 outputs)

last_cell : (u v : List (List ℕ)) (x y : List ℕ) → u ++ x ∷ [] ≡ v ++ y ∷ [] → (u ≡ v) × (x ≡ y)
last_cell u v x y same =
    let size : length u ≡ length v = omega (arith, ap (λ (l : List (List ℕ)). length l) same, length-append u (x ∷ []), length-append v (y ∷ [])) in
    let front : u ≡ v = sym (take-append_seam u (x ∷ [])) ∙ (ap₂ (λ (n : ℕ) (l : List (List ℕ)). take n l) size same ∙ take-append_seam v (y ∷ [])) in
    let rest : x ∷ [] ≡ y ∷ [] = sym (drop-append_seam u (x ∷ [])) ∙ (ap₂ (λ (n : ℕ) (l : List (List ℕ)). drop n l) size same ∙ drop-append_seam v (y ∷ [])) in
    (front, ap (λ (l : List (List ℕ)). get_or l 0 []) rest)

-- a new step makes a new row
module _ (steps : List Step) (s : Step) (is : AreClasses steps) (within : s.class < length (rows_of steps)) (none : All (λ t. step_eq t s ≡ false) steps) where
  pub new_row : All (λ row. row ≢ made (rows_of steps) s) (rows_of steps)
  new_row zero d lt same =
      let r = rows_stay ([] ∷ []) steps in
      let first : get_or (rows_of steps) 0 d ≡ [] = ap (λ (l : Rows3). get_or l 0 d) r.1 in
      let long : length (made (rows_of steps) s) ≡ length (row_of (rows_of steps) s.class) + 1 = length-append (row_of (rows_of steps) s.class) (s.outputs.items ∷ []) in
      let none' : length (made (rows_of steps) s) ≡ 0 = ap (λ (l : List (List ℕ)). length l) (sym same ∙ first) in
      absurd (omega (arith, long, none'))
  new_row (suc i) d lt same =
      let size : length (rows_of steps) ≡ 1 + length steps = length-more_rows ([] ∷ []) steps in
      let inside : i < length steps = omega (arith, size, lt) in
      let r = row_made ([] ∷ []) 0 steps i s refl is.earlier inside in
      let t : Step = get_or steps i s in
      let place : 1 + i ≡ suc i = omega arith in
      let here : get_or (rows_of steps) (suc i) d ≡ row_of (rows_of steps) t.class ++ t.outputs.items ∷ [] = get_or_default (rows_of steps) (suc i) d [] lt ∙ (ap (row_of (rows_of steps)) (sym place) ∙ r.0) in
      let cells = last_cell (row_of (rows_of steps) s.class) (row_of (rows_of steps) t.class) s.outputs.items t.outputs.items (sym same ∙ here) in
      let one : s.class ≡ t.class = one_class steps is s.class t.class within (omega (arith, r.1, lt)) cells.0 in
      absurd (true≢false (sym (is_step t s (sym one) (sym cells.1)) ∙ none i s inside))

module _ (steps : List Step) (s : Step) (is : AreClasses steps) (within : s.class < length (rows_of steps)) (new : All (λ row. row ≢ made (rows_of steps) s) (rows_of steps)) where
  pub one_more : AreClasses (steps ++ s ∷ [])
  one_more =
      let size : length (rows_of steps) ≡ 1 + length steps = length-more_rows ([] ∷ []) steps in
      record {
        earlier = earlier_push 0 steps s is.earlier (omega (arith, size));
        differ = subst (AllPairs (λ r s. r ≢ s)) (sym (more_rows_push ([] ∷ []) steps s)) (all_pairs_push (λ r s. r ≢ s) (rows_of steps) (made (rows_of steps) s) is.differ new);
      }

-- more steps leave the rows that there are
rows_more : (rows : Rows3) (steps more : List Step) → more_rows rows (steps ++ more) ≡ more_rows (more_rows rows steps) more
rows_more rows [] more = refl
rows_more rows (step ∷ steps) more = rows_more (rows ++ made rows step ∷ []) steps more

pub rows_go_on : (steps more now : List Step) → now ≡ steps ++ more → (rows : Rows3) × (rows_of now ≡ rows_of steps ++ rows)
rows_go_on steps more now grown =
    let r = rows_stay (rows_of steps) more in
    (r.0, ap rows_of grown ∙ (rows_more ([] ∷ []) steps more ∙ r.1))

-- the row of a class that was made or found by a step
pub entered : (steps now : List Step) (s : Step) (number : ℕ) → AreClasses now → s.class < length (rows_of steps) → (more : List Step) → now ≡ steps ++ more → number < length now → step_eq (get_or now number s) s ≡ true
    → HasEntered (rows_of steps) (rows_of now) s.class s.outputs.items (number + 1)
entered steps now s number is within more grown inside same =
    let size : length (rows_of now) ≡ 1 + length now = length-more_rows ([] ∷ []) now in
    let r = row_made ([] ∷ []) 0 now number s refl is.earlier inside in
    let is_s = same_step (get_or now number s) s same in
    let stay = rows_go_on steps more now grown in
    let place : 1 + number ≡ number + 1 = omega arith in
    record {
      within = omega (arith, size, inside);
      row = ap (row_of (rows_of now)) (sym place) ∙ (r.0
          ∙ (ap₂ (λ (q : ℕ) (o : List ℕ). row_of (rows_of now) q ++ o ∷ []) is_s.0 is_s.1
          ∙ ap (λ (row : List (List ℕ)). row ++ s.outputs.items ∷ []) (row_stays (rows_of steps) stay.0 (rows_of now) s.class stay.1 within)));
      more = stay.0;
      stay = stay.1;
    }

-- the row of a class that was made last
pub entered_last : (steps now : List Step) (s : Step) → AreClasses now → s.class < length (rows_of steps) → now ≡ steps ++ s ∷ [] → HasEntered (rows_of steps) (rows_of now) s.class s.outputs.items (length now)
entered_last steps now s is within grown =
    let long : length now ≡ length steps + 1 = ap (λ (l : List Step). length l) grown ∙ length-append steps (s ∷ []) in
    let last : get_or now (length steps) s ≡ s = ap (λ (l : List Step). get_or l (length steps) s) grown ∙ get_or-append_seam steps s [] s in
    subst (HasEntered (rows_of steps) (rows_of now) s.class s.outputs.items) (sym long)
    (entered steps now s (length steps) is within (s ∷ []) grown (omega (arith, long)) (is_step (get_or now (length steps) s) s (ap (λ (t : Step). t.class) last) (ap (λ (t : Step). t.outputs.items) last)))

single_is : (outs : List ℕ) → length outs ≡ 1 → outs ≡ get_or outs 0 0 ∷ []
single_is [] one = absurd (omega arith)
single_is (y ∷ []) one = refl
single_is (y ∷ z ∷ outs) one = absurd (omega arith)

-- one cell back
module _ (steps : List Step) (is : AreClasses steps) (row : List (List ℕ)) (many left class : ℕ) (outs : List ℕ) (some : 0 < left) (so : InSingles (rows_of steps) row many left class outs) where
  pub class_some : 0 < class
  class_some =
      ⊎_elim
      (λ (none : class ≡ 0).
      let r = rows_stay ([] ∷ []) steps in
      let first : row_of (rows_of steps) 0 ≡ [] = ap (λ (l : Rows3). get_or l 0 []) r.1 in
      let size : length (row_of (rows_of steps) class) ≡ 0 = ap (λ (q : ℕ). length (row_of (rows_of steps) q)) none ∙ ap (λ (l : List (List ℕ)). length l) first in
      absurd (omega (arith, size, so.size)))
      (⊎_elim (λ (lt : class < 0). absurd (omega arith)) (λ (lt : 0 < class). lt))
      (cases_order class 0)

  pub step_within : class - 1 < length steps
  step_within = let size = length-more_rows ([] ∷ []) steps in omega (arith, class_some, size, so.within)

  module _ (t : Step) (at : t ≡ get_or steps (class - 1) t) where
    made_of : (row_of (rows_of steps) class ≡ row_of (rows_of steps) t.class ++ t.outputs.items ∷ []) × (t.class < class)
    made_of =
        let r = class_row steps is class t class_some so.within in
        let here : get_or steps (class - 1) t ≡ t = sym at in (
          subst (λ (u : Step). row_of (rows_of steps) class ≡ row_of (rows_of steps) u.class ++ u.outputs.items ∷ []) here r.0,
          subst (λ (u : Step). u.class < class) here r.1,
        )

    shorter : length (row_of (rows_of steps) t.class) ≡ left - 1
    shorter =
        let long : length (row_of (rows_of steps) t.class ++ t.outputs.items ∷ []) ≡ length (row_of (rows_of steps) t.class) + 1 = length-append (row_of (rows_of steps) t.class) (t.outputs.items ∷ []) in
        let whole : length (row_of (rows_of steps) class) ≡ length (row_of (rows_of steps) t.class ++ t.outputs.items ∷ []) = ap (λ (l : List (List ℕ)). length l) made_of.0 in
        omega (arith, long, whole, so.size, some)

    front_of : take (left - 1) row ≡ row_of (rows_of steps) t.class
    front_of =
        let less : left - 1 ≤ left = omega arith in
        sym (take-take (left - 1) left row less) ∙ (ap (take (left - 1)) (so.front ∙ made_of.0)
        ∙ (ap (λ (n : ℕ). take n (row_of (rows_of steps) t.class ++ t.outputs.items ∷ [])) (sym shorter) ∙ take-append_seam (row_of (rows_of steps) t.class) (t.outputs.items ∷ [])))

    pub cell_is : get_or row (left - 1) [] ≡ t.outputs.items
    cell_is =
        let less : left - 1 < left = omega arith in
        sym (get_or-take left row (left - 1) [] less) ∙ (ap (λ (l : List (List ℕ)). get_or l (left - 1) []) (so.front ∙ made_of.0)
        ∙ (ap (λ (n : ℕ). get_or (row_of (rows_of steps) t.class ++ t.outputs.items ∷ []) n []) (sym shorter) ∙ get_or-append_seam (row_of (rows_of steps) t.class) t.outputs.items [] []))

    pub passed : many ≤ left - 1 → InSingles (rows_of steps) row many (left - 1) t.class outs
    passed past =
        record {
          within = omega (arith, made_of.1, so.within);
          size = shorter;
          front = front_of;
          count = so.count;
          each = λ k le lt. absurd (omega arith);
        }

    pub written : (now : List ℕ) → left - 1 < many → length t.outputs.items ≡ 1 → now ≡ set outs (left - 1) (get_or t.outputs.items 0 0) → InSingles (rows_of steps) row many (left - 1) t.class now
    written now inside one is_now =
        let place : ℕ = left - 1 in
        record {
          within = omega (arith, made_of.1, so.within);
          size = shorter;
          front = front_of;
          count = ap (λ (l : List ℕ). length l) is_now ∙ (length-set outs place (get_or t.outputs.items 0 0) ∙ so.count);
          each = λ k le lt.
              ⊎_elim
              (λ (here : k ≡ place).
              subst (λ (j : ℕ). get_or row j [] ≡ get_or now j 0 ∷ []) (sym here)
              (cell_is ∙ (single_is t.outputs.items one ∙ ap (λ (y : ℕ). y ∷ []) (sym (ap (λ (l : List ℕ). get_or l place 0) is_now ∙ get_or-set_same outs place (get_or t.outputs.items 0 0) 0 (omega (arith, inside, so.count)))))))
              (⊎_elim (λ (below : k < place). absurd (omega arith)) (λ (above : place < k).
              so.each k (omega (arith, above, some)) lt ∙ ap (λ (y : ℕ). y ∷ []) (sym (ap (λ (l : List ℕ). get_or l k 0) is_now ∙ get_or-set_other outs place k (get_or t.outputs.items 0 0) 0 (λ same. absurd (omega (arith, same, above)))))))
              (cases_order k place);
        }
