use Rattle.std.proofs.Common.{ℕ, [], not, eqb, get_or, ap, ◌∙◌}
use Rattle.std.specs.List.{count_by}
use Rattle.lw_wp.proofs.GreedyLemmas.{counted_by_class}
use Rattle.lw_wp.proofs.greedy_sets.count_of_all.Goals as goal

pub returns : goal.returns
returns c =
    let classes = c.classes_on-classes.result.now in
    c.other_count.ensures
    ∙ (ap (λ (q : ℕ). count_by (λ (class : ℕ). not (eqb (get_or classes q 0) class)) classes) c.from.ensures
    ∙ counted_by_class c.args.m.now.rows (get_or c.args.by.now.words c.args.number []) classes c.args.q c.classes_on-classes.ensures c.requires.state)
