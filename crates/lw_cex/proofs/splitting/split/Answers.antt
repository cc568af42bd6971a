use Rattle.std.proofs.Common.{arith, sym, ◌∙◌}
use Rattle.lw_words.specs.Word.{answers_of}
use Rattle.lw_cex.proofs.PlainLemmas.{splits_plainly}
use Rattle.lw_cex.proofs.SearchLemmas.{starts, some_letter, steps_more, cut_is}
use Rattle.lw_cache.proofs.SettlingLemmas.{kept_are_answers, differs_is_word}
use Rattle.lw_cex.proofs.splitting.split.Goals as goal

pub breakpoint-requires-clause-letters : goal.breakpoint-requires-clause-letters
breakpoint-requires-clause-letters g c = differs_is_word (g.O.Oracle.state c.args.oracle.now) c.args.model.now.inputs c.args.model.now.rows c.args.word.now c.requires.inputs c.cache.ensures.keeps c.requires.differs

pub breakpoint-requires-clause-between : goal.breakpoint-requires-clause-between
breakpoint-requires-clause-between g c =
    let o = g.O.Oracle.state c.args.oracle.now in
    let a = c.args.model.now.inputs in
    let m = c.args.model.now.rows in
    let w = c.args.word.now in
    starts a m c.args.access.now w c.inputs.ensures.complete.machine c.requires.access
    (differs_is_word o a m w c.requires.inputs c.cache.ensures.keeps c.requires.differs)
    (answers_of o.kept) (omega (arith, c.inputs.ensures.complete.inputs)) c.requires.steps c.requires.differs
    (some_letter a m (answers_of o.kept) w (kept_are_answers o a c.requires.inputs c.cache.ensures.keeps) c.requires.differs)

pub cut_at-requires-clause-letters : goal.cut_at-requires-clause-letters
cut_at-requires-clause-letters g c = differs_is_word (g.O.Oracle.state c.args.oracle.now) c.args.model.now.inputs c.args.model.now.rows c.args.word.now c.requires.inputs c.cache.ensures.keeps c.requires.differs

pub returns-clause-cut : goal.returns-clause-cut
returns-clause-cut g c =
    let before = g.O.Oracle.state c.args.oracle.now in
    let now = g.O.Oracle.state c.breakpoint.new.oracle in
    let a = c.args.model.now.inputs in
    let m = c.args.model.now.rows in
    let leaves = c.in_ok-place.ensures.leaves in
    cut_is a m c.args.access.now c.args.word.now c.inputs.ensures.complete.machine c.requires.access
    (differs_is_word before a m c.args.word.now c.requires.inputs c.cache.ensures.keeps c.requires.differs)
    (answers_of now.kept) c.in_ok-place.place c.in_ok-cut_at.field-0
    (kept_are_answers now a (c.requires.inputs ∙ sym leaves.same.inputs) leaves.keeps)
    (steps_more a m c.args.access.now before.kept leaves.gained now.kept leaves.at_end c.requires.steps)
    c.in_ok-place.ensures.between c.in_ok-cut_at.ensures

pub returns-clause-plainly : goal.returns-clause-plainly
returns-clause-plainly g c =
    splits_plainly c.args.model.now.rows c.args.access.now c.args.word.now c.in_ok-place.place c.in_ok-cut_at.field-0.suffix (g.O.Oracle.state c.args.oracle.now) (g.O.Oracle.state c.breakpoint.new.oracle) c.in_ok-cut_at.ensures.suffix c.in_ok-place.ensures.plainly
