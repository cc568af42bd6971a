use Rattle.std.proofs.Common.{◌-◌, ◌%◌, ◌<◌, ◌≤◌, ℕ, length, ap, arith}
use Rattle.std.proofs.Math.Nat.{mod-lt}
use Rattle.lw_wp.specs.bodies.Cursors.{shorter_blocks}
use Rattle.lw_wp.proofs.CursorLemmas.{few_middles, split_shorter, split_longest}
use Rattle.lw_wp.proofs.cursor.split_front.Goals as goal

pub nonzero_div-result : goal.nonzero_div-result
nonzero_div-result c = (split_shorter c.args.parts.now c.requires.parts c.args.front (omega (arith, c.shorter_count-shorter.ensures.count, c.if-front-shorter.true))).0

pub nonzero_rem-result : goal.nonzero_rem-result
nonzero_rem-result c = (split_shorter c.args.parts.now c.requires.parts c.args.front (omega (arith, c.shorter_count-shorter.ensures.count, c.if-front-shorter.true))).0

pub returns-then-front-shorter : goal.returns-then-front-shorter
returns-then-front-shorter c = (split_shorter c.args.parts.now c.requires.parts c.args.front (omega (arith, c.shorter_count-shorter.ensures.count, c.if-front-shorter.true))).1

pub nonzero_div-result-else-front-shorter : goal.nonzero_div-result-else-front-shorter
nonzero_div-result-else-front-shorter c =
    let past : length (shorter_blocks c.args.parts.now) ≤ c.args.front = omega (arith, c.shorter_count-shorter.ensures.count, c.if-front-shorter.false) in
    (split_longest c.args.parts.now c.requires.parts c.args.front (c.args.front - c.shorter_count-shorter.result) past c.requires.front (ap (λ (n : ℕ). c.args.front - n) c.shorter_count-shorter.ensures.count)).0

pub nonzero_rem-result-else-front-shorter : goal.nonzero_rem-result-else-front-shorter
nonzero_rem-result-else-front-shorter c =
    let past : length (shorter_blocks c.args.parts.now) ≤ c.args.front = omega (arith, c.shorter_count-shorter.ensures.count, c.if-front-shorter.false) in
    (split_longest c.args.parts.now c.requires.parts c.args.front (c.args.front - c.shorter_count-shorter.result) past c.requires.front (ap (λ (n : ℕ). c.args.front - n) c.shorter_count-shorter.ensures.count)).0

pub overflow_add-result : goal.overflow_add-result
overflow_add-result c =
    let past : length (shorter_blocks c.args.parts.now) ≤ c.args.front = omega (arith, c.shorter_count-shorter.ensures.count, c.if-front-shorter.false) in
    let some : 0 < c.args.parts.now.longest = (split_longest c.args.parts.now c.requires.parts c.args.front (c.args.front - c.shorter_count-shorter.result) past c.requires.front (ap (λ (n : ℕ). c.args.front - n) c.shorter_count-shorter.ensures.count)).0 in
    let lt : (c.args.front - c.shorter_count-shorter.result) % c.args.parts.now.longest < c.args.parts.now.longest = mod-lt (c.args.front - c.shorter_count-shorter.result) some in
    let few = few_middles c.args.parts.now c.requires.parts in
    omega (arith, lt, few)

pub returns-else-front-shorter : goal.returns-else-front-shorter
returns-else-front-shorter c =
    let past : length (shorter_blocks c.args.parts.now) ≤ c.args.front = omega (arith, c.shorter_count-shorter.ensures.count, c.if-front-shorter.false) in
    (split_longest c.args.parts.now c.requires.parts c.args.front (c.args.front - c.shorter_count-shorter.result) past c.requires.front (ap (λ (n : ℕ). c.args.front - n) c.shorter_count-shorter.ensures.count)).1
