-- What the sort and the two renumberings say, put together.
use Rattle.std.proofs.Common.{◌∙◌, ℕ, sym, ap, subst}
use Rattle.lw_renumber.specs.Sorting.{MapsWithin, renumbered_learned}
use Rattle.lw_renumber.proofs.SortLemmas.{names_come_up, numbers_within, outs_below, outs_stay_named, sorted_stays}
use Rattle.lw_renumber.proofs.sorting.sort_outputs.Goals as goal

pub renumber_learned-requires-clause-within : goal.renumber_learned-requires-clause-within
renumber_learned-requires-clause-within c =
    let s = c.sort.ensures in
    subst (λ (n : ℕ). MapsWithin n c.sort.new.to) (sym c.len-count.ensures.value)
    (numbers_within c.sort.new.to c.args.names.now.names c.sort.new.self.names c.len-count.ensures.differ s.permuted s.numbers)

pub returns-clause-below : goal.returns-clause-below
returns-clause-below c =
    let s = c.sort.ensures in
    outs_below c.sort.new.to c.args.names.now.names c.sort.new.self.names c.len-count.ensures.differ s.permuted s.numbers
    c.args.kept.now.answers c.renumber.new.self.answers c.requires.answers c.renumber.ensures.answers

pub returns-clause-named : goal.returns-clause-named
returns-clause-named c =
    let s = c.sort.ensures in
    outs_stay_named c.sort.new.to c.args.names.now.names c.sort.new.self.names c.len-count.ensures.differ s.permuted s.numbers
    c.args.kept.now.answers c.renumber.new.self.answers c.requires.answers c.renumber.ensures.answers

pub returns-clause-come_up : goal.returns-clause-come_up
returns-clause-come_up c =
    let s = c.sort.ensures in
    λ were. names_come_up c.sort.new.to c.args.names.now.names c.sort.new.self.names c.len-count.ensures.differ s.permuted s.numbers
    c.args.kept.now.answers c.renumber.new.self.answers c.renumber.ensures.answers were

pub returns-clause-stays : goal.returns-clause-stays
returns-clause-stays c =
    let s = c.sort.ensures in
    sorted_stays c.sort.new.to c.args.names.now.names c.sort.new.self.names c.len-count.ensures.differ s.permuted s.numbers
    c.args.kept.now.answers c.renumber.new.self.answers c.args.learned.now c.renumber_learned.new.learned
    c.len-count.ensures.few c.requires.answers c.requires.model c.renumber.ensures.answers
    (c.renumber_learned.ensures ∙ ap (λ (n : ℕ). renumbered_learned n c.sort.new.to c.args.learned.now) c.len-count.ensures.value)
