use Rattle.std.proofs.Common.{◌≡◌, ◌∙◌, ◌<◌, ◌≤◌, ℕ, List, [], length, Some, None, sym, ap, subst, arith}
use Rattle.std.specs.List.{All, Contains}
use Rattle.std.proofs.lemmas.List.{take_all}
use Rattle.std.proofs.lemmas.List.Elements.{All-nil}
use Rattle.std.proofs.lemmas.Option.{get_or_from_slice_get}
use Rattle.lw_words.specs.Word.{number_of, name_at}
use Rattle.lw_prior.proofs.PriorLemmas.{among_next, not_among}
use Rattle.lw_recheck.proofs.reading.are_among.Goals as goal

pub loop-y-init : goal.loop-y-init
loop-y-init c = All-nil (λ n. Contains c.args.others.now n)

pub returns-in-None-clause-no : goal.returns-in-None-clause-no
returns-in-None-clause-no c _ =
    let own = c.args.own.now in
    let others = c.args.others.now in
    let y = c.loop-y.y in
    let lt : y < length own = omega (arith, c.len-y-end.ensures.value, c.loop-y-test.true) in
    let here : c.name.result.now ≡ name_at own y = sym (get_or_from_slice_get own y c.name.result.now [] c.name.ensures.value) in
    let none : number_of (name_at own y) others ≡ None = ap (λ (n : List ℕ). number_of n others) (sym here) ∙ (sym c.number.ensures.value ∙ c.in-None.is) in
    not_among own others y lt none

pub loop-y-preserved : goal.loop-y-preserved
loop-y-preserved c =
    let own = c.args.own.now in
    let others = c.args.others.now in
    let y = c.loop-y.y in
    let lt : y < length own = omega (arith, c.len-y-end.ensures.value, c.loop-y-test.true) in
    let here : c.name.result.now ≡ name_at own y = sym (get_or_from_slice_get own y c.name.result.now [] c.name.ensures.value) in
    let found : number_of (name_at own y) others ≡ Some c.in-Some.field-0 = ap (λ (n : List ℕ). number_of n others) (sym here) ∙ (sym c.number.ensures.value ∙ c.in-Some.is) in
    among_next own others y lt c.in-Some.field-0 c.loop-y.invariant found

pub returns-clause-yes : goal.returns-clause-yes
returns-clause-yes c _ =
    let own = c.args.own.now in
    let all : length own ≤ c.loop-y.y = omega (arith, c.len-y-end.ensures.value, c.loop-y-test.false) in
    subst (λ (l : List (List ℕ)). All (λ n. Contains c.args.others.now n) l) (take_all c.loop-y.y own all) c.loop-y.invariant
