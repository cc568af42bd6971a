-- The first fault of a machine file, from what its parts told.
use Rattle.std.proofs.Common.{◌≡◌, ⊎_elim, ℕ, ◌<◌, List, [], length, get_or, map, sym, subst, inl, inr, ◌∷◌, Option, Some, None, option_map, option_and_then, IsSome, refl, true≢false}
use Rattle.std.proofs.lemmas.List.Elements.{All-nil, All-cons}
use Rattle.lw_words.specs.Word.{IsNames, number_of}
use Rattle.lw_mealy.specs.Fault.{RowsHaveFault}
use Rattle.lw_mealy.specs.Machine.{Rows}
use Rattle.lw_json.specs.Formats.{each_of, NamedRow, WrittenMachine, AreInputs, numbered_cell, numbered_rows}
use Rattle.std.specs.List.{All, AllWithin}
use Rattle.lw_words.specs.First.{FailsFirst}
use Rattle.lw_words.proofs.Lists.{read-map}
use Rattle.lw_json.specs.MachineFault.{HasOutputIn, SaysMachineFault}
use Rattle.lw_json.specs.Fault.{IsFaultOf}
use Rattle.lw_json.specs.bodies.MachineParts.{UnknownAt, IsFaultOfRows}
use Rattle.lw_json.specs.bodies.Told.{Told}
use Rattle.lw_json.specs.declared.fault.JsonFault.{JsonFault}
use Rattle.lw_json.specs.declared.fault.JsonFault.TheVariants.{Inputs, Outputs, UnknownOutput, Mealy}
use Rattle.lw_json.proofs.EachLemmas.{fails_here}
use Rattle.lw_json.proofs.Faults.{told_by}

module _ {V : Type 0} (v : V → NamedRow) (outputs : List (List ℕ)) where
  -- the first row with an unknown output
  pub unknown_at : (rows : List V) (q : ℕ) (r : V) (told : JsonFault) → q < length rows → r ≡ get_or rows q r → AllWithin (All (HasOutputIn outputs)) (map v rows) 0 q → Told (UnknownOutput q) (FailsFirst (HasOutputIn outputs) (v r)) told
      → UnknownAt outputs (map v rows) told
  unknown_at rows q r told lt at before h = ⊎_elim inl (λ w. inr (
    q,
    w.0,
    w.1,
    (
      fails_here v (All (HasOutputIn outputs)) rows q r lt at (λ all. w.2.fails (0, []) (all w.0 (0, []) w.2.within)) before,
      subst (λ (s : NamedRow). FailsFirst (HasOutputIn outputs) s w.0) (sym (read-map v rows q r [] lt at)) w.2,
    ),
  )) h

-- a row that is numbered has known outputs alone
module _ (outputs : List (List ℕ)) where
  first_known : (t : ℕ) (o : Option ℕ) (rest : Option (List (ℕ × ℕ))) → IsSome (option_and_then (λ y. option_map (λ l. y ∷ l) rest) (option_map (λ y. (t, y)) o)) → IsSome o × IsSome rest
  first_known t None rest e = absurd (true≢false (sym e))
  first_known t (Some y) None e = absurd (true≢false (sym e))
  first_known t (Some y) (Some l) e = (refl, refl)

  pub known_row : (row : NamedRow) → IsSome (each_of (numbered_cell outputs) row) → All (HasOutputIn outputs) row
  known_row [] e = All-nil (HasOutputIn outputs)
  known_row (c ∷ row) e =
      let h = first_known c.0 (number_of c.1 outputs) (each_of (numbered_cell outputs) row) e in
      All-cons (HasOutputIn outputs) c row h.0 (known_row row h.1)

  pub all_known : (row : NamedRow) (cells : List (ℕ × ℕ)) → each_of (numbered_cell outputs) row ≡ Some cells → All (HasOutputIn outputs) row
  all_known row cells is = known_row row (rw is refl)

-- what a machine file says has the fault that a part told
module _ (w : WrittenMachine) (told : JsonFault) where
  pub inputs_fault : Told Inputs (IsFaultOf 64 w.inputs) told → SaysMachineFault w told
  inputs_fault h = told_by Inputs (IsFaultOf 64 w.inputs) (SaysMachineFault w) told h tt (λ fault p. p)

  pub outputs_fault : AreInputs w.inputs → Told Outputs (IsFaultOf 4096 w.outputs) told → SaysMachineFault w told
  outputs_fault inputs h = told_by Outputs (IsFaultOf 4096 w.outputs) (SaysMachineFault w) told h tt (λ fault p. (inputs, p))

  pub unknown_fault : AreInputs w.inputs → IsNames w.outputs → UnknownAt w.outputs w.states told → SaysMachineFault w told
  unknown_fault inputs outputs h = ⊎_elim (λ e. subst (SaysMachineFault w) (sym e) tt) (λ at. subst (SaysMachineFault w) (sym at.2) (inputs, outputs, at.3)) h

  pub rows_fault : (a b : ℕ) (rows : Rows) → AreInputs w.inputs → IsNames w.outputs → a ≡ length w.inputs → b ≡ length w.outputs → numbered_rows w.outputs w.states ≡ Some rows → Told Mealy (IsFaultOfRows a b rows) told → SaysMachineFault w told
  rows_fault a b rows inputs outputs letters answers numbered h =
      told_by Mealy (IsFaultOfRows a b rows) (SaysMachineFault w) told h tt
      (λ fault p. (inputs, outputs, (rows, numbered, subst (λ (k : ℕ). RowsHaveFault k (length w.outputs) rows fault) letters (subst (λ (k : ℕ). RowsHaveFault a k rows fault) answers p.0), p.1)))
