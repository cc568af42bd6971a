use Rattle.std.proofs.Common.{rules, is_lt, refl, List, Bor}
use Rattle.std.proofs.lemmas.Fn.{always_returns_same}
use Rattle.std.proofs.lemmas.List.Sorted.{IsPermutation-map, ranks_by}
use Rattle.std.proofs.lemmas.Result.{on_ok_weaker}
use Rattle.lw_words.specs.declared.kept.KeptAnswer.{KeptAnswer}
use Rattle.lw_json.specs.AnswersText.{answer_cmp}
use Rattle.lw_json.proofs.WrittenOrder.{answer_cmp_total, comes_first, sorted-map, stable-map}
use Rattle.lw_json.proofs.answers_writer.sort.Goals as goal

pub returns : goal.returns
returns c =
    let old : List (Bor KeptAnswer) = c.args.all.now.items in
    let new : List (Bor KeptAnswer) = c.sort_by.new.self.items in
    on_ok_weaker c.sort_by.result
    (λ sorted. record {
      same = IsPermutation-map (λ k. k.now) old new c.sort_by.ensures.permutation;
      sorted = sorted-map (λ k. k.now) comes_first new (sorted (λ a b. is_lt (answer_cmp a.now b.now)) (ranks_by answer_cmp_total (λ a. a.now)) (always_returns_same _ _ _ (λ a r f k. search rules)));
      stable = stable-map (λ k. k.now) comes_first (λ x. record { ref_ptr = (0, 0); now = x }) (λ x. refl) old new
          (c.sort_by.ensures.stable (λ a b. is_lt (answer_cmp a.now b.now)) (ranks_by answer_cmp_total (λ a. a.now)) (always_returns_same _ _ _ (λ a r f k. search rules)));
    })
    c.sort_by.ensures.sorted
