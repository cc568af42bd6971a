use Rattle.std.proofs.Common.{◌∙◌, ap, length, Result, Err}
use Rattle.lw_words.specs.Word.{answers_of}
use Rattle.lw_rounds.specs.declared.learned.Learned.{Learned}
use Rattle.lw_rounds.specs.declared.stops.LearnStop.{LearnStop}
use Rattle.lw_renumber.proofs.OccurLemmas.{kept_below, learned_below}
use Rattle.lw_system.specs.NewLines.{count_of}
use Rattle.lw_children.proofs.AskedLemmas.{asked_sorted, cut_sorted}
use Rattle.lw_children.proofs.ComingUp.{came_up_undeclared}
use Rattle.lw_children.proofs.SortedLemmas.{enough_sorted, not_begun, sorted_free, without_outputs}
use Rattle.lw_children.proofs.PlainLemmas.{plain_sorted}
use Rattle.lw_children.proofs.sorted.learn_free.Goals as goal

pub returns-in-Err-clause-found : goal.returns-in-Err-clause-found
returns-in-Err-clause-found g c =
    not_begun c.args.settings.kind c.args.command.now.words c.args.command.now.inputs c.args.settings.workers c.args.settings.extra c.args.settings.max_states (g.P.Spawner.state c.args.spawner.now) (Err c.from.result) c.into_kept.result.answers c.args.start.names
    (ap (λ (e : LearnStop). let r : Result Learned LearnStop = Err e in r) c.from.ensures) (c.into_kept.ensures ∙ c.requires.none) c.requires.named

pub sort_outputs-requires-clause-model : goal.sort_outputs-requires-clause-model
sort_outputs-requires-clause-model g c =
    let r = c.learn_over-learned.result in
    let found = c.learn_over-learned.ensures.found in
    learned_below c.args.settings.kind (length c.args.command.now.inputs) (count_of c.args.command.now.outputs) c.args.settings.extra c.args.settings.max_states (length r.names.names) (answers_of r.kept.answers) r.learned found.keeps.words (kept_below (length r.names.names) r.kept.answers found.keeps.below) found.ok

pub returns-clause-found : goal.returns-clause-found
returns-clause-found g c =
    let was = c.learn_over-learned.result in
    let s = c.sort_outputs.new in
    let is = c.sort_outputs.ensures in
    sorted_free c.args.settings.kind c.args.command.now.words c.args.command.now.inputs c.args.settings.workers c.args.settings.extra c.args.settings.max_states (g.P.Spawner.state c.args.spawner.now) (g.P.Spawner.state c.learn_over-learned.new.spawner) was.learned s.learned was.kept.answers was.names.names s.names.names s.to
    (without_outputs c.args.settings.kind c.args.command.now.words c.args.command.now.inputs c.args.command.now.outputs c.args.settings.workers c.args.settings.extra c.args.settings.max_states c.args.start.cache.kept (g.P.Spawner.state c.args.spawner.now) (g.P.Spawner.state c.learn_over-learned.new.spawner) was.learned was.kept.answers was.names.names c.requires.free c.requires.none c.learn_over-learned.ensures.found)
    is.sorted s.kept.answers is.answers
    (is.come_up (came_up_undeclared was.kept.answers was.names c.args.start.names c.requires.named c.learn_over-learned.ensures.sharing c.learn_over-learned.ensures.come_up))
    is.below is.named is.stays

pub returns-clause-asked : goal.returns-clause-asked
returns-clause-asked g c =
    let was = c.learn_over-learned.result in
    let s = c.sort_outputs.new in
    let stays = c.sort_outputs.ensures.stays in
    asked_sorted c.args.start.words s.to (length s.names.names) stays.f was.learned s.learned was.kept.answers s.kept.answers stays.renamed c.sort_outputs.ensures.answers c.learn_over-learned.ensures.asked

pub returns-clause-cut : goal.returns-clause-cut
returns-clause-cut g c =
    let was = c.learn_over-learned.result in
    let s = c.sort_outputs.new in
    let stays = c.sort_outputs.ensures.stays in
    cut_sorted (length s.names.names) stays.f was.learned s.learned was.cut stays.renamed c.learn_over-learned.ensures.cut

pub returns-clause-enough : goal.returns-clause-enough
returns-clause-enough g c =
    let was = c.learn_over-learned.result in
    let found = c.learn_over-learned.ensures.found in
    let s = c.sort_outputs.new in
    enough_sorted c.args.settings.testing c.args.settings.kind (length c.args.command.now.inputs) (count_of c.args.command.now.outputs) c.args.settings.extra c.args.settings.max_states s.to was.names.names s.names.names (answers_of was.kept.answers) (answers_of s.kept.answers) was.learned s.learned
    c.sort_outputs.ensures.stays found.keeps.words found.ok c.learn_over-learned.ensures.enough

pub returns-in-Err-clause-plainly : goal.returns-in-Err-clause-plainly
returns-in-Err-clause-plainly g c = λ is_table by_w none m machine gives. tt

pub returns-clause-plainly : goal.returns-clause-plainly
returns-clause-plainly g c =
    let was = c.learn_over-learned.result in
    let s = c.sort_outputs.new in
    plain_sorted c.args.settings.kind c.args.settings.testing (length c.args.command.now.inputs) c.args.settings.extra c.args.settings.max_states c.args.start.words s.to was.names.names s.names.names c.args.start.cache.kept was.kept.answers s.kept.answers was.learned s.learned
    c.sort_outputs.ensures.stays c.sort_outputs.ensures.answers c.requires.named_letters c.learn_over-learned.ensures.found.keeps.words c.learn_over-learned.ensures.plainly
