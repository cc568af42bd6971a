-- The runs of a log that gains a call, and the names of the scripted system of the tests.
use Rattle.std.proofs.Common.{◌≡◌, ◌≢◌, ℕ, List, [], ◌∷◌, ◌++◌, Option, Some, None, option_map, length, take, get_or, ◌<◌, ◌≤◌, ◌+◌, inl, inr, refl, ap, sym, ◌∙◌, arith}
use Rattle.std.proofs.lemmas.List.{get_or-take, take_more, length-take-le}
use Rattle.std.proofs.lemmas.List.Elements.{All-take}
use Rattle.lw_words.specs.Word.{IsName, IsNames, AllDiffer, name_at}
use Rattle.lw_names.specs.Names.{AreNamed, Brings}
use Rattle.lw_sul.specs.declared.runs.Run.{Run}
use Rattle.lw_sul.specs.Runs.{after_reset, after_step}
use Rattle.lw_base_tests.specs.TestScript.{after_call, runs_after, runs_of}

runs_push : (rs : List Run) (calls : List (Option (ℕ × ℕ))) (call : Option (ℕ × ℕ)) → runs_after rs (calls ++ call ∷ []) ≡ after_call call (runs_after rs calls)
runs_push rs [] call = refl
runs_push rs (c ∷ calls) call = runs_push (after_call c rs) calls call

pub logged_reset : (calls : List (Option (ℕ × ℕ))) → Some (runs_of (calls ++ None ∷ [])) ≡ option_map after_reset (Some (runs_of calls))
logged_reset calls = ap (λ (rs : List Run). Some rs) (runs_push [] calls None)

pub logged_step : (calls : List (Option (ℕ × ℕ))) (x y : ℕ) → Some (runs_of (calls ++ Some (x, y) ∷ [])) ≡ option_map (after_step x y) (Some (runs_of calls))
logged_step calls x y = ap (λ (rs : List Run). Some rs) (runs_push [] calls (Some (x, y)))

pub ruleset script_steps = (logged_reset, logged_step)

differ_take : (n : ℕ) (names : List (List ℕ)) → n ≤ length names → AllDiffer names → AllDiffer (take n names)
differ_take n names le differ i j d lt below =
    let long : length (take n names) ≡ n = length-take-le n names le in
    rw (get_or-take n names i d (omega (arith, long)), get_or-take n names j d (omega (arith, long))) (differ i j d lt (omega (arith, long)))

-- the first few of a list of names
pub first_lawful : (n : ℕ) (names : List (List ℕ)) → n ≤ length names → IsNames names → AreNamed (length names) (take n names)
first_lawful n names le is =
    let long : length (take n names) ≡ n = length-take-le n names le in
    record { few = omega (arith, long); each = All-take IsName n names is.each; differ = differ_take n names le is.differ }

pub first_at : (n : ℕ) (names : List (List ℕ)) (y : ℕ) → y < length (take n names) → n ≤ length names → name_at names y ≡ name_at (take n names) y
first_at n names y lt le =
    let long : length (take n names) ≡ n = length-take-le n names le in
    sym (get_or-take n names y [] (omega (arith, long)))

-- an output that has a name, and the next one
pub brings_none : (n y : ℕ) (names : List (List ℕ)) → n ≤ length names → y ≤ n → y ≢ n → Brings (take n names) (take n names) y
brings_none n y names le lt differ =
    let long : length (take n names) ≡ n = length-take-le n names le in
    inl (omega (arith, long), refl)

pub brings_next : (n y : ℕ) (names : List (List ℕ)) → y < length names → y ≡ n → Brings (take n names) (take (n + 1) names) y
brings_next n y names lt is =
    let long : length (take n names) ≡ n = length-take-le n names (omega arith) in
    inr (is ∙ sym long, (get_or names n [], take_more names n [] (omega arith)))

pub ruleset naming_steps = (first_lawful, first_at, brings_none, brings_next)
