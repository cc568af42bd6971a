use Rattle.std.proofs.Common.{◌≡◌, ℕ, ◌<◌, List, [], length, Some, None, sym, ap, ◌∙◌, subst, arith}
use Rattle.std.specs.List.{All, Contains}
use Rattle.std.proofs.lemmas.List.{take_all}
use Rattle.std.proofs.lemmas.Option.{get_or_from_slice_get}
use Rattle.lw_words.specs.Word.{number_of, name_at}
use Rattle.lw_prior.proofs.PriorLemmas.{numbers_next, among_next, not_among}
use Rattle.lw_prior.proofs.prior.numbers_among.Goals as goal

pub returns-in-None-clause-differ : goal.returns-in-None-clause-differ
returns-in-None-clause-differ c is =
    let own = c.args.own.now in
    let names = c.args.names.now in
    let y = c.loop-y.y in
    let lt : y < length own = omega (arith, c.len-y-end.ensures.value, c.loop-y-test.true) in
    let here : c.name.result.now ≡ name_at own y = sym (get_or_from_slice_get own y c.name.result.now [] c.name.ensures.value) in
    let none : number_of (name_at own y) names ≡ None = ap (λ (n : List ℕ). number_of n names) (sym here) ∙ (sym c.number.ensures.value ∙ c.in-None.is) in
    not_among own names y lt none

pub loop-y-preserved : goal.loop-y-preserved
loop-y-preserved c =
    let own = c.args.own.now in
    let names = c.args.names.now in
    let y = c.loop-y.y in
    let lt : y < length own = omega (arith, c.len-y-end.ensures.value, c.loop-y-test.true) in
    let here : c.name.result.now ≡ name_at own y = sym (get_or_from_slice_get own y c.name.result.now [] c.name.ensures.value) in
    let found : number_of (name_at own y) names ≡ Some c.in-Some.number = ap (λ (n : List ℕ). number_of n names) (sym here) ∙ (sym c.number.ensures.value ∙ c.in-Some.is) in
    record {
      numbers = c.in_ok-push-in-Some.ensures.items ∙ numbers_next own names y lt c.loop-y.to.items c.in-Some.number c.loop-y.invariant.numbers found;
      among = among_next own names y lt c.in-Some.number c.loop-y.invariant.among found;
    }

pub returns-clause-among : goal.returns-clause-among
returns-clause-among c =
    subst (λ (l : List (List ℕ)). All (λ n. Contains c.args.names.now n) l) (take_all c.loop-y.y c.args.own.now (omega (arith, c.len-y-end.ensures.value, c.loop-y-test.false))) c.loop-y.invariant.among
