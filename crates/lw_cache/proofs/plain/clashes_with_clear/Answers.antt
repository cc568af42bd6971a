use Rattle.std.proofs.Common.{rules, ◌≡◌, ℕ, ◌<◌, true, false, List, length, get_or, sym, ◌∙◌, subst, arith}
use Rattle.lw_words.specs.Word.{Answer, answer_at, answer_of, answers_of}
use Rattle.lw_cache.specs.Clash.{Clash, IsClear}
use Rattle.lw_cache.proofs.ClashLemmas.{unclashed_after}
use Rattle.lw_cache.proofs.PlainLemmas.{kept_at, kept_count, clear_more}
use Rattle.lw_cache.proofs.plain.clashes_with_clear.Goals.{else-is_clear-via-then-is_clear+else-clashes, else-is_clear-via-else-is_clear}
use Rattle.lw_cache.proofs.plain.clashes_with_clear.Goals as goal

pub returns-then-clashes-clause-not : goal.returns-then-clashes-clause-not
returns-then-clashes-clause-not c =
    λ e clear.
    let ks : List Answer = answers_of c.args.kept.now.answers in
    let k : Answer = answer_of c.args.answer.now in
    let n : ℕ = c.loop-number.number in
    let lt : n < length c.args.flags.now = c.loop-number-test.true in
    let in_kept : n < length c.args.kept.now.answers = omega (arith, lt, c.requires.few) in
    let flag : get_or c.args.flags.now n false ≡ true = search rules in
    let is_clear : IsClear ks n = (c.requires.flags.each n lt).0 flag in
    let same : answer_at ks n ≡ answer_of c.get.result.now = kept_at c.args.kept.now.answers n c.get.result.now in_kept c.get.ensures in
    let clash : Clash (answer_at ks n) k = subst (λ (a : Answer). Clash a k) (sym same) (c.clashes.ensures.0 c.if-clashes.true) in
    unclashed_after ks (length c.args.flags.now) k clear n lt is_clear clash

pub loop-number-preserved : goal.loop-number-preserved
loop-number-preserved c =
    let ks : List Answer = answers_of c.args.kept.now.answers in
    let k : Answer = answer_of c.args.answer.now in
    let n : ℕ = c.loop-number.number in
    let lt : n < length c.args.flags.now = c.loop-number-test.true in
    let in_kept : n < length c.args.kept.now.answers = omega (arith, lt, c.requires.few) in
    let here : n < length ks = omega (arith, in_kept, kept_count c.args.kept.now.answers) in
    elim c.else-is_clear.branch [
      | else-is_clear-via-then-is_clear+else-clashes w ↦
          let same : answer_at ks n ≡ answer_of w.get.result.now = kept_at c.args.kept.now.answers n w.get.result.now in_kept w.get.ensures in
          clear_more ks n k c.loop-number.invariant (λ clear clash.
          let hit : w.clashes.result ≡ true = w.clashes.ensures.1 (subst (λ (a : Answer). Clash a k) same clash) in
          let miss : w.clashes.result ≡ false = search rules in
          let no : true ≡ false = sym hit ∙ miss in
          cc) here
      | else-is_clear-via-else-is_clear w ↦
          clear_more ks n k c.loop-number.invariant (λ clear clash.
          let hit : get_or c.args.flags.now n false ≡ true = (c.requires.flags.each n lt).1 clear in
          let miss : get_or c.args.flags.now n false ≡ false = search rules in
          let no : true ≡ false = sym hit ∙ miss in
          cc) here
    ]
