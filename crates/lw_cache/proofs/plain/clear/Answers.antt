use Rattle.std.proofs.Common.{rules, ◌≡◌, ℕ, ◌+◌, ◌<◌, Bool, not, List, [], ◌∷◌, ◌++◌, length, subst, arith}
use Rattle.lw_words.specs.Word.{Answer, answer_at, answer_of, answers_of, IsWhole}
use Rattle.lw_cache.specs.Plain.{AreFlags}
use Rattle.lw_cache.proofs.PlainLemmas.{kept_at, kept_count, flag_next}
use Rattle.lw_cache.proofs.plain.clear.Goals as goal

pub clashes_with_clear-is_clear-requires-clause-answer : goal.clashes_with_clear-is_clear-requires-clause-answer
clashes_with_clear-is_clear-requires-clause-answer c =
    let ks : List Answer = answers_of c.args.kept.now.answers in
    let n : ℕ = c.loop-number.number in
    let in_kept : n < length c.args.kept.now.answers = omega (arith, c.loop-number-test.true, c.len-number-end.ensures) in
    let here : n < length ks = omega (arith, in_kept, kept_count c.args.kept.now.answers) in
    subst IsWhole (kept_at c.args.kept.now.answers n c.get.result.now in_kept c.get.ensures) (c.requires n (record { word = []; outs = [] }) here)

pub loop-number-preserved : goal.loop-number-preserved
loop-number-preserved c =
    let ks : List Answer = answers_of c.args.kept.now.answers in
    let n : ℕ = c.loop-number.number in
    let in_kept : n < length c.args.kept.now.answers = omega (arith, c.loop-number-test.true, c.len-number-end.ensures) in
    let here : n < length ks = omega (arith, in_kept, kept_count c.args.kept.now.answers) in
    let same : answer_at ks n ≡ answer_of c.get.result.now = kept_at c.args.kept.now.answers n c.get.result.now in_kept c.get.ensures in
    let next : AreFlags ks (n + 1) (c.loop-number.flags.items ++ not c.clashes_with_clear-is_clear.result ∷ []) =
    flag_next ks n (length c.as_slice.result.now) c.loop-number.flags.items (answer_of c.get.result.now) c.clashes_with_clear-is_clear.result c.loop-number.invariant
    (search rules) here same c.clashes_with_clear-is_clear.ensures.clear c.clashes_with_clear-is_clear.ensures.not in
    subst (λ (flags : List Bool). AreFlags ks (n + 1) flags) (search rules) next
