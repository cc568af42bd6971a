use Rattle.std.proofs.Common.{◌≡◌, ◌∙◌, ◌<◌, List, ℕ, [], length, get_or, Option, None, unwrap_or, ap, sym, subst, arith}
use Rattle.std.proofs.lemmas.Option.{get_or_from_slice_get}
use Rattle.lw_separate.proofs.AccessLemmas.{pushed}
use Rattle.lw_separate.proofs.SearchLemmas.{length-push}
use Rattle.lw_words.specs.Word.{number_of, number_in}
use Rattle.lw_compare.proofs.dictionary.letters.Goals as goal

pub loop-place-preserved : goal.loop-place-preserved
loop-place-preserved c =
    let h = c.loop-place.invariant in
    let name : get_or c.args.names.now c.loop-place.place [] ≡ c.name.result.now = get_or_from_slice_get c.args.names.now c.loop-place.place c.name.result.now [] c.name.ensures.value in
    let new : number_in c.args.others.now (get_or c.args.names.now (length c.loop-place.list.items) []) ≡ c.unwrap_or.result =
    ap (λ (i : ℕ). number_in c.args.others.now (get_or c.args.names.now i [])) h.all ∙ (ap (number_in c.args.others.now) name ∙ (ap (λ (o : Option ℕ). unwrap_or o 0) (sym c.number.ensures.value) ∙ sym c.unwrap_or.ensures)) in
    record {
      all = omega (arith, ap (λ (l : List ℕ). length l) c.in_ok-push.ensures.items, length-push c.loop-place.list.items c.unwrap_or.result, h.all);
      each = subst (λ (l : List ℕ). (k : ℕ) → k < length l → number_in c.args.others.now (get_or c.args.names.now k []) ≡ get_or l k 0) (sym c.in_ok-push.ensures.items)
          (pushed (λ (k : ℕ) (y : ℕ). number_in c.args.others.now (get_or c.args.names.now k []) ≡ y) c.loop-place.list.items c.unwrap_or.result 0 h.each new);
    }
