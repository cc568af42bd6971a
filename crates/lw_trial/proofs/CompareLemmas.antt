-- Machines that have the same cells.
use Rattle.std.proofs.Common.{◌≡◌, ℕ, ◌<◌, [], length, refl, sym, subst, ◌∙◌, arith, Bool, true, false}
use Rattle.std.specs.Prelude.{◌↔◌}
use Rattle.std.proofs.lemmas.List.{ext_get_or}
use Rattle.lw_mealy.specs.Machine.{Rows, IsMachine, cell, row}
use Rattle.lw_mealy.proofs.RowLemmas.{is_row}
use Rattle.lw_separate.specs.Canonical.{IsCanonical}
use Rattle.lw_separate.proofs.UniqueLemmas.{one_canonical}

pub row_same : (a q : ℕ) (m n : Rows) → IsMachine a m → IsMachine a n → q < length m → q < length n → ((x : ℕ) → x < a → cell m q x ≡ cell n q x) → row m q ≡ row n q
row_same a q m n machine other lm ln each =
    let rm = is_row a m q machine lm in
    let rn = is_row a n q other ln in
    ext_get_or (0, 0) (row m q) (row n q) (rm.0 ∙ sym rn.0) (λ x lx. each x (omega (arith, lx, rm.0)))

pub rows_same : (m n : Rows) → length m ≡ length n → ((q : ℕ) → q < length m → row m q ≡ row n q) → m ≡ n
rows_same m n long each = ext_get_or [] m n long each

-- a model is the canonical form of a machine exactly where it is this one
pub is_form : (a : ℕ) (m c h : Rows) (equal : Bool) → IsCanonical a m c → (equal ≡ true → c ≡ h) → (equal ≡ false → ¬ (c ≡ h)) → (equal ≡ true) ↔ IsCanonical a m h
is_form a m c h true form same other = (λ _. subst (IsCanonical a m) (same refl) form, λ _. refl)
is_form a m c h false form same other = (λ e. cc, λ k. absurd (other refl (one_canonical a m c h form k)))
