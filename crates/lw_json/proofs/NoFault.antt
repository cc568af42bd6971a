-- What is in a grammar has no fault.
use Rattle.std.proofs.Common.{◌∙◌, ℕ, ◌≤◌, List, [], ◌∷◌, Option, Some, None, IsSome, option_map, option_and_then, length, slice_index_or, refl, sym, ap, arith, true≢false}
use Rattle.std.specs.List.{All}
use Rattle.std.proofs.lemmas.List.Elements.{All-nil, All-cons}
use Rattle.std.proofs.lemmas.Option.{slice_get-get_or}
use Rattle.json.proofs.Found.{Some_inj}
use Rattle.lw_words.specs.Name.{RepeatsFirst}
use Rattle.lw_words.specs.Word.{IsNames}
use Rattle.lw_words.specs.declared.names.NamesFault.{NamesFault}
use Rattle.lw_words.specs.declared.names.NamesFault.TheVariants.{Empty, TooMany, BadName, Repeated, NoMemory}
use Rattle.lw_mealy.specs.Machine.{MealyMachine, IsWithinLimits}
use Rattle.lw_mealy.specs.declared.fault.MealyFault.{MealyFault}
use Rattle.lw_mealy.specs.declared.fault.MealyFault.TheVariants as mealy
use Rattle.lw_json.specs.Formats.{each_of}
use Rattle.lw_json.specs.Fault.{IsFaultOf}
use Rattle.lw_json.specs.bodies.MachineParts.{IsFaultOfRows}

-- names have no fault
pub names_none : (limit : ℕ) (names : List (List ℕ)) (fault : NamesFault) → IsNames names → length names ≤ limit → ¬ IsFaultOf limit names fault
names_none limit names Empty named few h = let some = named.some in omega (arith, ap length h.0)
names_none limit names (TooMany count) named few h = omega (arith, h.0.0, h.0.1)
names_none limit names (BadName place) named few h = h.0.1.fails [] (named.each place [] h.0.1.within)
names_none limit names (Repeated first second) named few h =
    let r : RepeatsFirst names first second = h.0.2 in
    let there = slice_get-get_or names first [] (let lt = r.before in let within = r.within in omega arith) in
    let here = slice_get-get_or names second [] r.within in
    named.differ first second [] r.before r.within (Some_inj (slice_index_or names first []) (slice_index_or names second []) (sym there ∙ (r.same ∙ here)))
names_none limit names NoMemory named few h = h.1 refl

-- nor do the rows of a machine
pub rows_none : (t : MealyMachine) (fault : MealyFault) → IsWithinLimits t → ¬ IsFaultOfRows t.inputs t.outputs t.rows fault
rows_none t mealy.NoState within h = let some = within.machine.some_state in omega (arith, ap length h.0)
rows_none t (mealy.TooMany count) within h = let few = within.few in omega (arith, h.0.0, h.0.1)
rows_none t (mealy.Ragged q) within h = h.0.1.fails [] (within.machine.complete q [] h.0.1.within).0
rows_none t (mealy.Target q x target) within h = h.0.2.1.fails (0, 0) ((within.machine.complete q [] h.0.2.0.within).1 x (0, 0) h.0.2.1.within)
rows_none t (mealy.Output q x y) within h = h.0.3.1.fails (0, 0) (within.answers q [] h.0.3.0.within x (0, 0) h.0.3.1.within)
rows_none t mealy.NoMemory within h = h.1 refl

module _ {X Y : Type 0} (f : X → Option Y) where
  first_some : (o : Option Y) (rest : Option (List Y)) → IsSome (option_and_then (λ y. option_map (λ l. y ∷ l) rest) o) → IsSome o × IsSome rest
  first_some None rest e = absurd (true≢false (sym e))
  first_some (Some y) None e = absurd (true≢false (sym e))
  first_some (Some y) (Some l) e = (refl, refl)

  -- where a function gives something of a list, it does at each element
  pub each_some : (xs : List X) → IsSome (each_of f xs) → All (λ x. IsSome (f x)) xs
  each_some [] e = All-nil (λ x. IsSome (f x))
  each_some (x ∷ xs) e =
      let h = first_some (f x) (each_of f xs) e in
      All-cons (λ x. IsSome (f x)) x xs h.0 (each_some xs h.1)
