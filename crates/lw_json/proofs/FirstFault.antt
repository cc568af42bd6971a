-- A list of names, rows and files have one first fault.
use Rattle.std.proofs.Common.{◌≡◌, ◌≢◌, ◌∙◌, ⊎_elim, ℕ, ◌<◌, List, [], length, slice_index_or, refl, sym, ap, ap₂, subst, arith}
use Rattle.std.specs.List.{All}
use Rattle.std.proofs.lemmas.Bool.{cases_lt}
use Rattle.std.proofs.lemmas.List.{get_or-take, length-take}
use Rattle.std.proofs.lemmas.Option.{slice_get-get_or}
use Rattle.json.proofs.Found.{Some_inj}
use Rattle.lw_words.specs.First.{FailsFirst}
use Rattle.lw_words.specs.Name as names
use Rattle.lw_words.specs.Name.{RepeatsFirst}
use Rattle.lw_words.specs.Word.{IsName}
use Rattle.lw_words.specs.declared.names.NamesFault.{NamesFault}
use Rattle.lw_words.specs.declared.names.NamesFault.TheVariants.{Empty, TooMany, BadName, Repeated, NoMemory}
use Rattle.lw_mealy.specs.Fault as rows
use Rattle.lw_mealy.specs.Fault.{CellFailsFirst}
use Rattle.lw_mealy.specs.Machine.{Row, Rows, row, next, output}
use Rattle.lw_mealy.specs.declared.fault.MealyFault.{MealyFault}
use Rattle.lw_mealy.specs.declared.fault.MealyFault.TheVariants as mealy

-- there is one first place where something fails
pub first_one : {X : Type 0} (d : X) (P : X → Type 0) (xs : List X) (p q : ℕ) → FailsFirst P xs p → FailsFirst P xs q → p ≡ q
first_one d P xs p q h g =
    ⊎_elim
    (λ lt. absurd (h.fails d (g.before p d (omega arith) lt)))
    (λ le. ⊎_elim (λ lt. absurd (g.fails d (h.before q d (omega arith) lt))) (λ le'. omega arith) (cases_lt q p))
    (cases_lt p q)

pub cells_one : (P : ℕ × ℕ → Type 0) (m : Rows) (q x r y : ℕ) → CellFailsFirst P m q x → CellFailsFirst P m r y → (q ≡ r) × (x ≡ y)
cells_one P m q x r y h g =
    let same : q ≡ r = first_one [] (λ (s : Row). All P s) m q r h.0 g.0 in
    (same, first_one (0, 0) P (row m r) x y (subst (λ (i : ℕ). FailsFirst P (row m i) x) same h.1) g.1)

module _ (list : List (List ℕ)) (a c : ℕ) (r : RepeatsFirst list a c) where
  same_name : slice_index_or list a [] ≡ slice_index_or list c []
  same_name =
      let there = slice_get-get_or list a [] (let lt = r.before in let within = r.within in omega arith) in
      let here = slice_get-get_or list c [] r.within in
      Some_inj (slice_index_or list a []) (slice_index_or list c []) (sym there ∙ (r.same ∙ here))

  -- two places before another such place have different names
  differ_before : (i j : ℕ) → i < j → j < c → slice_index_or list i [] ≢ slice_index_or list j []
  differ_before i j lt below same =
      let long = length-take c list in
      let within = r.within in
      r.others i j [] lt (omega arith) (get_or-take c list i [] (omega arith) ∙ (same ∙ sym (get_or-take c list j [] below)))

repeats_second : (list : List (List ℕ)) (a c b e : ℕ) → RepeatsFirst list a c → RepeatsFirst list b e → c ≡ e
repeats_second list a c b e h k =
    ⊎_elim
    (λ lt. absurd (differ_before list b e k a c h.before lt (same_name list a c h)))
    (λ le. ⊎_elim (λ lt. absurd (differ_before list a c h b e k.before lt (same_name list b e k))) (λ le'. omega arith) (cases_lt e c))
    (cases_lt c e)

repeats_first : (list : List (List ℕ)) (a c b e : ℕ) → RepeatsFirst list a c → RepeatsFirst list b e → a ≡ b
repeats_first list a c b e h k =
    let second : c ≡ e = repeats_second list a c b e h k in
    let name : slice_index_or list a [] ≡ slice_index_or list b [] = same_name list a c h ∙ (ap (λ (i : ℕ). slice_index_or list i []) second ∙ sym (same_name list b e k)) in
    let early = h.before in
    let soon = k.before in
    ⊎_elim
    (λ lt. absurd (differ_before list b e k a b lt soon name))
    (λ le. ⊎_elim (λ lt. absurd (differ_before list a c h b a lt early (sym name))) (λ le'. omega arith) (cases_lt b a))
    (cases_lt a b)

pub one_names : (limit : ℕ) (list : List (List ℕ)) (f g : NamesFault) → names.HasFault limit list f → names.HasFault limit list g → f ≢ NoMemory → g ≢ NoMemory → f ≡ g
one_names limit list NoMemory g h k n n' = absurd (n refl)
one_names limit list Empty NoMemory h k n n' = absurd (n' refl)
one_names limit list Empty Empty h k n n' = refl
one_names limit list Empty (TooMany b) h k n n' = absurd (omega (arith, ap length h, k.0, k.1))
one_names limit list Empty (BadName b) h k n n' = absurd (let w = k.1.within in omega (arith, ap length h))
one_names limit list Empty (Repeated b e) h k n n' = absurd (let w = k.2.within in omega (arith, ap length h))
one_names limit list (TooMany a) NoMemory h k n n' = absurd (n' refl)
one_names limit list (TooMany a) Empty h k n n' = absurd (omega (arith, ap length k, h.0, h.1))
one_names limit list (TooMany a) (TooMany b) h k n n' = ap (λ (x : ℕ). TooMany x) (h.0 ∙ sym k.0)
one_names limit list (TooMany a) (BadName b) h k n n' = absurd (omega (arith, h.0, h.1, k.0))
one_names limit list (TooMany a) (Repeated b e) h k n n' = absurd (omega (arith, h.0, h.1, k.0))
one_names limit list (BadName a) NoMemory h k n n' = absurd (n' refl)
one_names limit list (BadName a) Empty h k n n' = absurd (let w = h.1.within in omega (arith, ap length k))
one_names limit list (BadName a) (TooMany b) h k n n' = absurd (omega (arith, k.0, k.1, h.0))
one_names limit list (BadName a) (BadName b) h k n n' = ap (λ (x : ℕ). BadName x) (first_one [] IsName list a b h.1 k.1)
one_names limit list (BadName a) (Repeated b e) h k n n' = absurd (h.1.fails [] (k.1 a [] h.1.within))
one_names limit list (Repeated a c) NoMemory h k n n' = absurd (n' refl)
one_names limit list (Repeated a c) Empty h k n n' = absurd (let w = h.2.within in omega (arith, ap length k))
one_names limit list (Repeated a c) (TooMany b) h k n n' = absurd (omega (arith, k.0, k.1, h.0))
one_names limit list (Repeated a c) (BadName b) h k n n' = absurd (k.1.fails [] (h.1 b [] k.1.within))
one_names limit list (Repeated a c) (Repeated b e) h k n n' = ap (λ (x : ℕ). Repeated x c) (repeats_first list a c b e h.2 k.2) ∙ ap (λ (x : ℕ). Repeated b x) (repeats_second list a c b e h.2 k.2)

pub one_rows : (a b : ℕ) (m : Rows) (f g : MealyFault) → rows.RowsHaveFault a b m f → rows.RowsHaveFault a b m g → f ≢ mealy.NoMemory → g ≢ mealy.NoMemory → f ≡ g
one_rows a b m mealy.NoMemory g h k n n' = absurd (n refl)
one_rows a b m mealy.NoState mealy.NoMemory h k n n' = absurd (n' refl)
one_rows a b m mealy.NoState mealy.NoState h k n n' = refl
one_rows a b m mealy.NoState (mealy.TooMany j) h k n n' = absurd (omega (arith, ap length h, k.0, k.1))
one_rows a b m mealy.NoState (mealy.Ragged r) h k n n' = absurd (omega (arith, ap length h, k.0.0))
one_rows a b m mealy.NoState (mealy.Target r y u) h k n n' = absurd (omega (arith, ap length h, k.0.0))
one_rows a b m mealy.NoState (mealy.Output r y u) h k n n' = absurd (omega (arith, ap length h, k.0.0))
one_rows a b m (mealy.TooMany i) mealy.NoMemory h k n n' = absurd (n' refl)
one_rows a b m (mealy.TooMany i) mealy.NoState h k n n' = absurd (omega (arith, ap length k, h.0, h.1))
one_rows a b m (mealy.TooMany i) (mealy.TooMany j) h k n n' = ap (λ (x : ℕ). mealy.TooMany x) (h.0 ∙ sym k.0)
one_rows a b m (mealy.TooMany i) (mealy.Ragged r) h k n n' = absurd (omega (arith, h.0, h.1, k.0.1))
one_rows a b m (mealy.TooMany i) (mealy.Target r y u) h k n n' = absurd (omega (arith, h.0, h.1, k.0.1))
one_rows a b m (mealy.TooMany i) (mealy.Output r y u) h k n n' = absurd (omega (arith, h.0, h.1, k.0.1))
one_rows a b m (mealy.Ragged q) mealy.NoMemory h k n n' = absurd (n' refl)
one_rows a b m (mealy.Ragged q) mealy.NoState h k n n' = absurd (omega (arith, ap length k, h.0.0))
one_rows a b m (mealy.Ragged q) (mealy.TooMany j) h k n n' = absurd (omega (arith, k.0, k.1, h.0.1))
one_rows a b m (mealy.Ragged q) (mealy.Ragged r) h k n n' = ap (λ (x : ℕ). mealy.Ragged x) (first_one [] (λ (r : Row). length r ≡ a) m q r h.1 k.1)
one_rows a b m (mealy.Ragged q) (mealy.Target r y u) h k n n' = absurd (h.1.fails [] (k.1 q [] h.1.within))
one_rows a b m (mealy.Ragged q) (mealy.Output r y u) h k n n' = absurd (h.1.fails [] (k.1 q [] h.1.within))
one_rows a b m (mealy.Target q x t) mealy.NoMemory h k n n' = absurd (n' refl)
one_rows a b m (mealy.Target q x t) mealy.NoState h k n n' = absurd (omega (arith, ap length k, h.0.0))
one_rows a b m (mealy.Target q x t) (mealy.TooMany j) h k n n' = absurd (omega (arith, k.0, k.1, h.0.1))
one_rows a b m (mealy.Target q x t) (mealy.Ragged r) h k n n' = absurd (k.1.fails [] (h.1 r [] k.1.within))
one_rows a b m (mealy.Target q x t) (mealy.Target r y u) h k n n' = let c = cells_one (λ (c : ℕ × ℕ). c.0 < length m) m q x r y h.2 k.2 in ap (λ (i : ℕ). mealy.Target i x t) c.0 ∙ (ap (λ (i : ℕ). mealy.Target r i t) c.1 ∙ ap (λ (i : ℕ). mealy.Target r y i) (h.3 ∙ (ap₂ (λ (i j : ℕ). next m i j) c.0 c.1 ∙ sym k.3)))
one_rows a b m (mealy.Target q x t) (mealy.Output r y u) h k n n' = absurd (h.2.1.fails (0, 0) (k.2 q [] h.2.0.within x (0, 0) h.2.1.within))
one_rows a b m (mealy.Output q x t) mealy.NoMemory h k n n' = absurd (n' refl)
one_rows a b m (mealy.Output q x t) mealy.NoState h k n n' = absurd (omega (arith, ap length k, h.0.0))
one_rows a b m (mealy.Output q x t) (mealy.TooMany j) h k n n' = absurd (omega (arith, k.0, k.1, h.0.1))
one_rows a b m (mealy.Output q x t) (mealy.Ragged r) h k n n' = absurd (k.1.fails [] (h.1 r [] k.1.within))
one_rows a b m (mealy.Output q x t) (mealy.Target r y u) h k n n' = absurd (k.2.1.fails (0, 0) (h.2 r [] k.2.0.within y (0, 0) k.2.1.within))
one_rows a b m (mealy.Output q x t) (mealy.Output r y u) h k n n' = let c = cells_one (λ (c : ℕ × ℕ). c.1 < b) m q x r y h.3 k.3 in ap (λ (i : ℕ). mealy.Output i x t) c.0 ∙ (ap (λ (i : ℕ). mealy.Output r i t) c.1 ∙ ap (λ (i : ℕ). mealy.Output r y i) (h.4 ∙ (ap₂ (λ (i j : ℕ). output m i j) c.0 c.1 ∙ sym k.4)))
