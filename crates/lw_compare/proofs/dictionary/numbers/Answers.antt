use Rattle.std.proofs.Common.{◌≡◌, ◌∙◌, ◌<◌, List, ℕ, [], length, get_or, Option, None, unwrap_or, ap, sym, subst, arith}
use Rattle.std.proofs.lemmas.Option.{get_or_from_slice_get}
use Rattle.lw_separate.proofs.AccessLemmas.{pushed}
use Rattle.lw_separate.proofs.SearchLemmas.{length-push}
use Rattle.lw_words.specs.Word.{number_of, number_in}
use Rattle.lw_compare.proofs.dictionary.numbers.Goals as goal

pub loop-place-preserved : goal.loop-place-preserved
loop-place-preserved c =
    let h = c.loop-place.invariant in
    let name : get_or c.args.names.now c.loop-place.place [] ≡ c.name.result.now = get_or_from_slice_get c.args.names.now c.loop-place.place c.name.result.now [] c.name.ensures.value in
    let new : number_of (get_or c.args.names.now (length c.loop-place.list.items) []) c.args.others.now ≡ c.number.result =
    ap (λ (i : ℕ). number_of (get_or c.args.names.now i []) c.args.others.now) h.all ∙ (ap (λ (n : List ℕ). number_of n c.args.others.now) name ∙ sym c.number.ensures.value) in
    record {
      all = omega (arith, ap (λ (l : List (Option ℕ)). length l) c.in_ok-push.ensures.items, length-push c.loop-place.list.items c.number.result, h.all);
      each = subst (λ (l : List (Option ℕ)). (k : ℕ) → k < length l → number_of (get_or c.args.names.now k []) c.args.others.now ≡ get_or l k None) (sym c.in_ok-push.ensures.items)
          (pushed (λ (k : ℕ) (y : (Option ℕ)). number_of (get_or c.args.names.now k []) c.args.others.now ≡ y) c.loop-place.list.items c.number.result None h.each new);
    }
