-- The first few of a list of names, as a system brings them one by one.
use Rattle.std.proofs.Common.{◌≡◌, ◌≢◌, ℕ, List, [], ◌+◌, ◌<◌, ◌≤◌, length, take, get_or, inl, inr, sym, ◌∙◌, refl, arith}
use Rattle.std.proofs.lemmas.List.{get_or-take, take_more, length-take-le}
use Rattle.std.proofs.lemmas.List.Elements.{All-take}
use Rattle.lw_words.specs.Word.{IsName, name_at}
use Rattle.lw_names.specs.Names.{AreNamed, Brings}

pub first_lawful : (n : ℕ) (names : List (List ℕ)) → n ≤ length names → AreNamed (length names) names → AreNamed (length names) (take n names)
first_lawful n names le is =
    let long : length (take n names) ≡ n = length-take-le n names le in
    record {
      few = omega (arith, long);
      each = All-take IsName n names is.each;
      differ = λ i j d lt below. rw (get_or-take n names i d (omega (arith, long)), get_or-take n names j d (omega (arith, long))) (is.differ i j d lt (omega (arith, long)));
    }

pub first_at : (n : ℕ) (names : List (List ℕ)) (y : ℕ) → y < length (take n names) → n ≤ length names → name_at names y ≡ name_at (take n names) y
first_at n names y lt le =
    let long : length (take n names) ≡ n = length-take-le n names le in
    sym (get_or-take n names y [] (omega (arith, long)))

pub brings_none : (n y : ℕ) (names : List (List ℕ)) → n ≤ length names → y ≤ n → y ≢ n → Brings (take n names) (take n names) y
brings_none n y names le lt differ =
    let long : length (take n names) ≡ n = length-take-le n names le in
    inl (omega (arith, long), refl)

pub brings_next : (n y : ℕ) (names : List (List ℕ)) → y < length names → y ≡ n → Brings (take n names) (take (n + 1) names) y
brings_next n y names lt is =
    let long : length (take n names) ≡ n = length-take-le n names (omega arith) in
    inr (is ∙ sym long, (get_or names n [], take_more names n [] (omega arith)))

pub ruleset naming_steps = (first_lawful, first_at, brings_none, brings_next)
