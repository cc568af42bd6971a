use Rattle.std.proofs.Common.{◌≡◌, ◌<◌, sym, List, ℕ, map, length, string_bytes, arith, subst}
use Rattle.std.proofs.lemmas.Grind.{common_steps}
use Rattle.std.proofs.lemmas.List.{length-map}
use Rattle.lw_words.specs.Word.{IsNames}
use Rattle.lw_words.specs.bodies.Numbers.{AreNumbers}
use Rattle.lw_words.proofs.NumberLemmas.{map-AllZip_same}
use Rattle.lw_words.proofs.names.Names.from_list_within.Goals as goal

listed : (c : goal.In_ok-names) → IsNames (map (λ s. string_bytes s) c.args.list.now)
listed c =
    let long : length (map (λ s. string_bytes s) c.args.list.now) ≡ length c.args.list.now = length-map c.args.list.now (λ s. string_bytes s) in
    let some : 0 < length c.args.list.now = grind (arith, common_steps) in
    record { some = omega arith; few = omega arith; each = c.in_default.ensures.none; differ = c.in_ok-numbers.ensures.differ }

pub returns-clause-ok : goal.returns-clause-ok
returns-clause-ok c = map-AllZip_same (λ s. string_bytes s) _ _ c.in_ok-names.ensures.ok

pub returns-clause-names : goal.returns-clause-names
returns-clause-names c = subst (λ (names : List (List ℕ)). IsNames names) (sym (returns-clause-ok c)) (listed c)

pub invariant_of-result : goal.invariant_of-result
invariant_of-result c = (returns-clause-names c, subst (λ (names : List (List ℕ)). AreNumbers c.in_ok-numbers.numbers names) (sym (returns-clause-ok c)) c.in_ok-numbers.ensures.ok)
