use Rattle.std.proofs.Common.{◌≡◌, ◌∷◌, [], ◌++◌, List, ℕ, None, sym, ◌∙◌, ap, subst, arith}
use Rattle.std.specs.List.{All}
use Rattle.std.proofs.lemmas.List.Elements.{All-cons, All-nil, All-take, All-drop}
use Rattle.lw_words.specs.Word.{IsWord}
use Rattle.lw_plain.specs.Table.{with_batches}
use Rattle.lw_plain.specs.Tested.{FindsFirst, FailsAt}
use Rattle.lw_plain.specs.Over.{IsOver}
use Rattle.lw_plain_run.proofs.ListLemmas.{fewer, none_left}
use Rattle.lw_plain.proofs.RoundLemmas.{same_table}
use Rattle.lw_plain.proofs.TestedLemmas.{tested_more, tested_all, tested_fails}
use Rattle.lw_plain.proofs.OverLemmas.{over_batches}
use Rattle.lw_plain_run.proofs.suite.test_suite.Goals as goal

pub first_difference-requires-clause-letters : goal.first_difference-requires-clause-letters
first_difference-requires-clause-letters c =
    let W : List (List ℕ) → Type 0 = λ ws. All (IsWord c.args.m.now.inputs) ws in
    subst W (sym (c.as_slice-in-loop-chunk.ensures.value ∙ c.in_ok-next_chunk.ensures.chunk)) (All-take (IsWord c.args.m.now.inputs) 512 c.loop-chunk.suite c.loop-chunk.invariant.letters)

pub returns-in-Some-clause-tests : goal.returns-in-Some-clause-tests
returns-in-Some-clause-tests c =
    let chunk = c.next_chunk.new.chunk.items in
    let part = c.in_ok-next_chunk.ensures.chunk in
    let copied : c.in_ok-copy_words.field-0 ≡ chunk = c.in_ok-copy_words.ensures ∙ c.as_slice.ensures.value in
    let now = c.loop-chunk.table in
    let a = c.in_ok-add_batch.ensures in
    let more : c.add_batch.new.self ≡ with_batches now (chunk ∷ []) =
    same_table c.add_batch.new.self now.access now.suffixes (now.batches ++ chunk ∷ []) a.access a.suffixes (a.batches ∙ ap (λ (b : List (List ℕ)). now.batches ++ b ∷ []) copied) in
    let m = c.args.m.now.rows in
    let h = c.args.h.now.rows in
    let fails : FailsAt m h c.as_slice-in-loop-chunk.result.now c.in-Some.front = rw c.in-Some.is at c.in_ok-front.ensures in
    tested_fails m h c.args.suite.now c.loop-chunk.suite chunk c.in-Some.front c.args.table.now now c.add_batch.new.self c.loop-chunk.invariant.tested part more
    (subst (λ (ws : List (List ℕ)). FailsAt m h ws c.in-Some.front) c.as_slice-in-loop-chunk.ensures.value fails)

pub returns-in-Some-clause-over : goal.returns-in-Some-clause-over
returns-in-Some-clause-over c =
    let n = c.args.m.now.inputs in
    let chunk = c.next_chunk.new.chunk.items in
    let part = c.in_ok-next_chunk.ensures.chunk in
    let copied : c.in_ok-copy_words.field-0 ≡ chunk = c.in_ok-copy_words.ensures ∙ c.as_slice.ensures.value in
    let now = c.loop-chunk.table in
    let a = c.in_ok-add_batch.ensures in
    let more : c.add_batch.new.self ≡ with_batches now (chunk ∷ []) =
    same_table c.add_batch.new.self now.access now.suffixes (now.batches ++ chunk ∷ []) a.access a.suffixes (a.batches ∙ ap (λ (b : List (List ℕ)). now.batches ++ b ∷ []) copied) in
    let W : List (List ℕ) → Type 0 = λ ws. All (IsWord n) ws in
    let letters : W chunk = subst W (sym part) (All-take (IsWord n) 512 c.loop-chunk.suite c.loop-chunk.invariant.letters) in
    subst (IsOver n) (sym more) (over_batches n now (chunk ∷ []) c.loop-chunk.invariant.over (All-cons W chunk [] letters (All-nil W)))

pub loop-chunk-smaller : goal.loop-chunk-smaller
loop-chunk-smaller c = fewer 512 c.loop-chunk.suite c.next_chunk.new.self (omega arith) (c.in_ok-next_chunk.ensures.more.0 c.if-branch.true) c.in_ok-next_chunk.ensures.left

pub loop-chunk-preserved : goal.loop-chunk-preserved
loop-chunk-preserved c =
    let n = c.args.m.now.inputs in
    let chunk = c.next_chunk.new.chunk.items in
    let part = c.in_ok-next_chunk.ensures.chunk in
    let copied : c.in_ok-copy_words.field-0 ≡ chunk = c.in_ok-copy_words.ensures ∙ c.as_slice.ensures.value in
    let now = c.loop-chunk.table in
    let a = c.in_ok-add_batch.ensures in
    let more : c.add_batch.new.self ≡ with_batches now (chunk ∷ []) =
    same_table c.add_batch.new.self now.access now.suffixes (now.batches ++ chunk ∷ []) a.access a.suffixes (a.batches ∙ ap (λ (b : List (List ℕ)). now.batches ++ b ∷ []) copied) in
    let W : List (List ℕ) → Type 0 = λ ws. All (IsWord n) ws in
    let letters : W chunk = subst W (sym part) (All-take (IsWord n) 512 c.loop-chunk.suite c.loop-chunk.invariant.letters) in
    let m = c.args.m.now.rows in
    let h = c.args.h.now.rows in
    let agrees : FindsFirst m h c.as_slice-in-loop-chunk.result.now None = rw c.in_default.is at c.in_ok-front.ensures in
    record {
      over = subst (IsOver n) (sym more) (over_batches n now (chunk ∷ []) c.loop-chunk.invariant.over (All-cons W chunk [] letters (All-nil W)));
      letters = subst W (sym c.in_ok-next_chunk.ensures.left) (All-drop (IsWord n) 512 c.loop-chunk.suite c.loop-chunk.invariant.letters);
      tested = tested_more m h c.args.suite.now c.loop-chunk.suite chunk c.next_chunk.new.self c.args.table.now now c.add_batch.new.self c.loop-chunk.invariant.tested
          (c.in_ok-next_chunk.ensures.more.0 c.if-branch.true) part c.in_ok-next_chunk.ensures.left (subst (λ (ws : List (List ℕ)). FindsFirst m h ws None) c.as_slice-in-loop-chunk.ensures.value agrees) more;
    }

pub returns-clause-tests : goal.returns-clause-tests
returns-clause-tests c =
    tested_all c.args.m.now.rows c.args.h.now.rows c.args.suite.now c.loop-chunk.suite c.args.table.now c.loop-chunk.table c.loop-chunk.invariant.tested
    (none_left c.in_ok-next_chunk.field-0 c.loop-chunk.suite c.in_ok-next_chunk.ensures.more c.if-branch.false)
