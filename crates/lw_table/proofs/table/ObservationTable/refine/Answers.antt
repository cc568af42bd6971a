use Rattle.std.proofs.Common.{rules, Err, Ok, sym, ◌∙◌, subst}
use Rattle.lw_words.specs.Word.{AreAnswers, answers_of}
use Rattle.lw_cache.specs.declared.stops.AskStop.TheVariants.{NoMemory}
use Rattle.lw_cache.specs.declared.stops.GrowStop.TheVariants.{Ask}
use Rattle.lw_cache.proofs.SettlingLemmas.{kept_are_answers, leaves_nothing, leaves_grown_own}
use Rattle.lw_table.specs.Grown.{HasClosed, HasRefined}
use Rattle.lw_table.specs.Plain.{ClosesPlainly}
use Rattle.lw_table.specs.Table.{TableState, CellsAreRead}
use Rattle.lw_table.specs.bodies.Growing.{with_suffix}
use Rattle.lw_table.proofs.GrownLemmas.{not_refined}
use Rattle.lw_table.proofs.RefineLemmas.{split_by, room_to_count, has_refined, not_all_refined, handed_refined}
use Rattle.lw_table.proofs.SuffixLemmas.{suffix_read, suffix_grown}
use Rattle.lw_table.proofs.PlainCloseLemmas.{refines_plainly}
use Rattle.lw_table.proofs.table.ObservationTable.refine.Goals as goal

pub returns-in_err-add_suffix-clause-refines : goal.returns-in_err-add_suffix-clause-refines
returns-in_err-add_suffix-clause-refines g c =
    let t : TableState = c.args.self.now in
    let ks = answers_of (g.O.Oracle.state c.args.oracle.now).kept in
    let suffix = c.args.cut.now.suffix in
    handed_refined ks suffix t c.add_suffix.new.self (Ask NoMemory) c.from_residual.result
    (subst (λ (u : TableState). HasRefined ks suffix t u (Err (Ask NoMemory))) (sym c.in_err-add_suffix.ensures.err) (not_refined ks suffix t NoMemory c.add_suffix.ensures.was c.requires.read)) (search rules)

pub returns-in_err-add_suffix-clause-leaves : goal.returns-in_err-add_suffix-clause-leaves
returns-in_err-add_suffix-clause-leaves g c =
    let state = g.O.Oracle.state c.args.oracle.now in
    leaves_grown_own state state c.from_residual.result (leaves_nothing state c.cache.ensures.keeps c.requires.may) (search rules)

pub close-requires-clause-read : goal.close-requires-clause-read
close-requires-clause-read g c =
    let t : TableState = c.args.self.now in
    let ks = answers_of (g.O.Oracle.state c.args.oracle.now).kept in
    subst (λ (u : TableState). CellsAreRead ks u) (sym c.in_ok-add_suffix.ensures.ok) (suffix_read t c.args.cut.now.suffix c.add_suffix.ensures.was ks c.requires.read)

pub returns-in_err-close-clause-refines : goal.returns-in_err-close-clause-refines
returns-in_err-close-clause-refines g c =
    let t : TableState = c.args.self.now in
    let first = answers_of (g.O.Oracle.state c.args.oracle.now).kept in
    let ks = answers_of (g.O.Oracle.state c.close.new.oracle).kept in
    let suffix = c.args.cut.now.suffix in
    let is_cut = c.requires.cut.2 in
    let stop = c.in_err-close.field-0.0 in
    let done : HasClosed ks (with_suffix t suffix) c.close.new.self (Err stop) = subst (λ (u : TableState). HasClosed ks u c.close.new.self (Err stop)) c.in_ok-add_suffix.ensures.ok c.in_err-close.ensures.closes in
    handed_refined ks suffix t c.close.new.self stop c.from_residual-in_err-close.result
    (not_all_refined first ks suffix t c.close.new.self stop (suffix_grown t suffix c.add_suffix.ensures.was first is_cut.suffix is_cut.some c.requires.read) done) (search rules)

pub count_refinement-requires : goal.count_refinement-requires
count_refinement-requires g c =
    let t : TableState = c.args.self.now in
    let o = g.O.Oracle.state c.args.oracle.now in
    let n = g.O.Oracle.state c.close.new.oracle in
    let leaves = c.in_ok-close.ensures.leaves in
    let done : HasClosed (answers_of n.kept) (with_suffix t c.args.cut.now.suffix) c.close.new.self (Ok tt) = subst (λ (u : TableState). HasClosed (answers_of n.kept) u c.close.new.self (Ok tt)) c.in_ok-add_suffix.ensures.ok c.in_ok-close.ensures.closes in
    let are : AreAnswers t.inputs (answers_of n.kept) = kept_are_answers n t.inputs (c.requires.inputs ∙ sym leaves.same.inputs) leaves.keeps in
    let more = split_by o.kept leaves.gained n.kept t c.close.new.self c.args.cut.now leaves.at_end c.add_suffix.ensures.was are c.requires.closed c.requires.cut done in
    room_to_count t c.close.new.self c.add_suffix.ensures.was more done.refinements

pub returns-clause-refines : goal.returns-clause-refines
returns-clause-refines g c =
    let t : TableState = c.args.self.now in
    let o = g.O.Oracle.state c.args.oracle.now in
    let n = g.O.Oracle.state c.close.new.oracle in
    let suffix = c.args.cut.now.suffix in
    let is_cut = c.requires.cut.2 in
    let leaves = c.in_ok-close.ensures.leaves in
    let done : HasClosed (answers_of n.kept) (with_suffix t suffix) c.close.new.self (Ok tt) = subst (λ (u : TableState). HasClosed (answers_of n.kept) u c.close.new.self (Ok tt)) c.in_ok-add_suffix.ensures.ok c.in_ok-close.ensures.closes in
    let are : AreAnswers t.inputs (answers_of n.kept) = kept_are_answers n t.inputs (c.requires.inputs ∙ sym leaves.same.inputs) leaves.keeps in
    let more = split_by o.kept leaves.gained n.kept t c.close.new.self c.args.cut.now leaves.at_end c.add_suffix.ensures.was are c.requires.closed c.requires.cut done in
    has_refined (answers_of o.kept) (answers_of n.kept) suffix t c.close.new.self c.count_refinement.new.self (suffix_grown t suffix c.add_suffix.ensures.was (answers_of o.kept) is_cut.suffix is_cut.some c.requires.read) done more c.count_refinement.ensures.value c.count_refinement.ensures.table

pub returns-clause-plainly : goal.returns-clause-plainly
returns-clause-plainly g c =
    let t : TableState = c.args.self.now in
    let o = g.O.Oracle.state c.args.oracle.now in
    let n = g.O.Oracle.state c.close.new.oracle in
    let suffix = c.args.cut.now.suffix in
    let done : ClosesPlainly (with_suffix t suffix) c.close.new.self o n = subst (λ (u : TableState). ClosesPlainly u c.close.new.self o n) c.in_ok-add_suffix.ensures.ok c.in_ok-close.ensures.plainly in
    refines_plainly t c.close.new.self c.count_refinement.new.self suffix o n c.add_suffix.ensures.was c.requires.closed done c.count_refinement.ensures.value
