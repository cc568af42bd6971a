use Rattle.std.proofs.Common.{rules, ◌≡◌, ℕ, List, [], ◌∷◌, ◌++◌, ◌<◌, length, get_or, All, vec_len, subst, sym, ap, ◌∙◌, arith}
use Rattle.std.specs.List.{filter, IsFirstMaxByKey}
use Rattle.lw_wp.specs.GreedySuite.{IsGreedy, is_alike, separated_of, states_of}
use Rattle.lw_wp.proofs.GreedyLemmas.{GoesOn, goes_on, others_left, states_left, none_other, none_left, fewer_left, some_left, some_of_all, some_of_left}
use Rattle.lw_wp.proofs.MarkLemmas.{range_below}
use Rattle.lw_wp.proofs.greedy_sets.greedy_numbers.Goals as goal

pub alike-requires-clause-states : goal.alike-requires-clause-states
alike-requires-clause-states c = subst (All (λ (p : ℕ). p < length c.args.m.now.rows)) (sym c.requires.all) (range_below (length c.args.m.now.rows))

pub loop-alloc-init : goal.loop-alloc-init
loop-alloc-init c =
    let h = c.args.m.now.rows in
    let words = c.args.by.now.words in
    let q = c.args.q in
    let first = c.first_word-first.result in
    let left = c.in_ok-left.left.items in
    let is : left ≡ filter (is_alike h q (get_or words first [])) (states_of h) = c.in_ok-left.ensures ∙ ap (filter (is_alike h q (get_or words first []))) c.requires.all in
    let some = some_of_all h words q c.args.m.now.inputs c.requires.separation.separating c.requires.state first c.requires.separation.few c.first_word-first.ensures in
    record {
      so_far = subst (λ (l : List ℕ). GoesOn h words q (states_of h) left l) (sym (c.in_ok-push.ensures.items ∙ ap (λ (l : List ℕ). l ++ first ∷ []) c.new-numbers.ensures.items))
          (goes_on h words q (states_of h) (states_of h) [] left first (λ more g. g) c.first_word-first.ensures some is);
      others = others_left h words q (states_of h) left (get_or words first []) is;
      below = states_left h words q (states_of h) left (get_or words first []) is (range_below (length h));
    }

pub loop-alloc-preserved : goal.loop-alloc-preserved
loop-alloc-preserved c =
    let h = c.args.m.now.rows in
    let words = c.args.by.now.words in
    let q = c.args.q in
    let next = c.next_word-next.result in
    let before = c.loop-alloc.left.items in
    let left = c.in_ok-left-2.left.items in
    let is : left ≡ filter (is_alike h q (get_or words next [])) before = c.in_ok-left-2.ensures ∙ ap (filter (is_alike h q (get_or words next []))) c.as_slice-in-loop-alloc.ensures.value in
    let best : IsFirstMaxByKey (separated_of h q before) words (length words) next = subst (λ (l : List ℕ). IsFirstMaxByKey (separated_of h q l) words (length words) next) c.as_slice.ensures.value c.next_word-next.ensures in
    let some : 0 < length before = some_left c.is_empty.result (vec_len c.loop-alloc.left) (length before) c.is_empty.ensures c.loop-alloc-test.true (search rules) in
    let separated = some_of_left h words q c.args.m.now.inputs c.requires.separation.separating c.requires.state before next c.loop-alloc.invariant.below c.loop-alloc.invariant.others some best in
    record {
      so_far = subst (λ (l : List ℕ). GoesOn h words q (states_of h) left l) (sym c.in_ok-push-2.ensures.items)
          (goes_on h words q (states_of h) before c.loop-alloc.numbers.items left next c.loop-alloc.invariant.so_far best separated is);
      others = others_left h words q before left (get_or words next []) is;
      below = states_left h words q before left (get_or words next []) is c.loop-alloc.invariant.below;
    }

pub loop-alloc-smaller : goal.loop-alloc-smaller
loop-alloc-smaller c =
    let h = c.args.m.now.rows in
    let words = c.args.by.now.words in
    let q = c.args.q in
    let next = c.next_word-next.result in
    let before = c.loop-alloc.left.items in
    let left = c.in_ok-left-2.left.items in
    let is : left ≡ filter (is_alike h q (get_or words next [])) before = c.in_ok-left-2.ensures ∙ ap (filter (is_alike h q (get_or words next []))) c.as_slice-in-loop-alloc.ensures.value in
    let best : IsFirstMaxByKey (separated_of h q before) words (length words) next = subst (λ (l : List ℕ). IsFirstMaxByKey (separated_of h q l) words (length words) next) c.as_slice.ensures.value c.next_word-next.ensures in
    let some : 0 < length before = some_left c.is_empty.result (vec_len c.loop-alloc.left) (length before) c.is_empty.ensures c.loop-alloc-test.true (search rules) in
    let separated = some_of_left h words q c.args.m.now.inputs c.requires.separation.separating c.requires.state before next c.loop-alloc.invariant.below c.loop-alloc.invariant.others some best in
    fewer_left h words q before left (get_or words next []) separated is

pub returns : goal.returns
returns c =
    none_left c.args.m.now.rows c.args.by.now.words c.args.q (states_of c.args.m.now.rows) c.loop-alloc.left.items c.loop-alloc.numbers.items c.loop-alloc.invariant.so_far (search rules)

pub returns-then-len-eq0 : goal.returns-then-len-eq0
returns-then-len-eq0 c =
    let h = c.args.m.now.rows in
    let words = c.args.by.now.words in
    subst (IsGreedy h words c.args.q (states_of h)) (sym c.new-numbers.ensures.items)
    (none_other h words c.args.q c.args.m.now.inputs c.requires.separation.separating c.requires.state (omega (arith, c.if-len-eq0.true, c.len.ensures)))
