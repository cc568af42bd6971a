use Rattle.std.proofs.Common.{◌≡◌, length, IfOk, IfErr, IfSome, sym, subst}
use Rattle.lw_words.specs.Word.{answers_of}
use Rattle.lw_json.specs.KeptOver.{AreKeptOver}
use Rattle.lw_system.specs.NewLines.{count_of}
use Rattle.lw_learn.specs.Findings.{LearningStopsBy}
use Rattle.lw_system.specs.Systems.{declared_of, letters_of}
use Rattle.lw_learn.specs.bodies.Ready.{GivesModel}
use Rattle.lw_system.specs.declared.system.System.{System}
use Rattle.lw_learn.proofs.FoundLemmas.{command_gives, command_named, command_over, command_sizes, command_stops, table_gives, table_over, table_sizes, table_stops}
use Rattle.lw_workers.specs.Plain.{RunsAsPlain}
use Rattle.lw_learn.proofs.learning.learn_system.Goals as goal

pub returns-in-Table-clause-model : goal.returns-in-Table-clause-model
returns-in-Table-clause-model g c =
    subst (λ (s : System). IfOk c.learn_table-outcome.result.learned (GivesModel c.args.arguments.now.learner c.args.arguments.now.testing (length (letters_of s)) (length c.learn_table-outcome.result.names.names) c.args.arguments.now.extra c.args.arguments.now.max_states c.learn_table-outcome.result.kept.answers)) (sym c.in-Table.is) (table_gives c.args.arguments.now c.in-Table.machine c.args.start.cache.kept c.learn_table-outcome.result.learned c.learn_table-outcome.result.kept.answers c.learn_table-outcome.result.names.names c.learn_table-outcome.ensures.found c.learn_table-outcome.ensures.enough)

pub returns-in-Table-clause-sizes : goal.returns-in-Table-clause-sizes
returns-in-Table-clause-sizes g c =
    subst (λ (s : System). IfOk c.learn_table-outcome.result.learned (λ l. (l.model.inputs ≡ length (letters_of s)) × (l.model.outputs ≡ length c.learn_table-outcome.result.names.names))) (sym c.in-Table.is) (table_sizes c.args.arguments.now c.in-Table.machine c.args.start.cache.kept c.learn_table-outcome.result.learned c.learn_table-outcome.result.kept.answers c.learn_table-outcome.result.names.names c.learn_table-outcome.ensures.found)

pub returns-in-Table-clause-stops : goal.returns-in-Table-clause-stops
returns-in-Table-clause-stops g c =
    subst (λ (s : System). IfErr c.learn_table-outcome.result.learned (LearningStopsBy (length (letters_of s)) (count_of (declared_of s)) c.args.arguments.now.extra c.args.arguments.now.max_states (answers_of c.learn_table-outcome.result.kept.answers))) (sym c.in-Table.is) (table_stops c.args.arguments.now c.in-Table.machine c.args.start.cache.kept c.learn_table-outcome.result.learned c.learn_table-outcome.result.kept.answers c.learn_table-outcome.result.names.names c.learn_table-outcome.ensures.found)

pub returns-in-Table-clause-over : goal.returns-in-Table-clause-over
returns-in-Table-clause-over g c =
    subst (λ (s : System). AreKeptOver (length (letters_of s)) (length c.learn_table-outcome.result.names.names) c.learn_table-outcome.result.kept.answers) (sym c.in-Table.is) (table_over c.args.arguments.now c.in-Table.machine c.args.start.cache.kept c.learn_table-outcome.result.learned c.learn_table-outcome.result.kept.answers c.learn_table-outcome.result.names.names c.learn_table-outcome.ensures.found c.requires.ready.may.prior_is c.learn_table-outcome.ensures.few)

pub returns-in-Children-clause-model : goal.returns-in-Children-clause-model
returns-in-Children-clause-model g c =
    let m = c.in-Children.command in
    subst (λ (s : System). IfOk c.learn_command.result.learned (GivesModel c.args.arguments.now.learner c.args.arguments.now.testing (length (letters_of s)) (length c.learn_command.result.names.names) c.args.arguments.now.extra c.args.arguments.now.max_states c.learn_command.result.kept.answers)) (sym c.in-Children.is) (command_gives c.args.arguments.now.learner m.words m.inputs c.args.arguments.now.workers c.args.arguments.now.extra c.args.arguments.now.max_states c.args.start.cache.kept (g.P.Spawner.state c.args.spawner.now) (g.P.Spawner.state c.learn_command.new.spawner) c.learn_command.result.learned c.learn_command.result.kept.answers c.learn_command.result.names.names c.args.arguments.now.testing m.outputs c.learn_command.ensures.found c.learn_command.ensures.enough)

pub returns-in-Children-clause-sizes : goal.returns-in-Children-clause-sizes
returns-in-Children-clause-sizes g c =
    let m = c.in-Children.command in
    subst (λ (s : System). IfOk c.learn_command.result.learned (λ l. (l.model.inputs ≡ length (letters_of s)) × (l.model.outputs ≡ length c.learn_command.result.names.names))) (sym c.in-Children.is) (command_sizes c.args.arguments.now.learner m.words m.inputs c.args.arguments.now.workers c.args.arguments.now.extra c.args.arguments.now.max_states c.args.start.cache.kept (g.P.Spawner.state c.args.spawner.now) (g.P.Spawner.state c.learn_command.new.spawner) c.learn_command.result.learned c.learn_command.result.kept.answers c.learn_command.result.names.names m.outputs c.learn_command.ensures.found)

pub returns-in-Children-clause-stops : goal.returns-in-Children-clause-stops
returns-in-Children-clause-stops g c =
    let m = c.in-Children.command in
    subst (λ (s : System). IfErr c.learn_command.result.learned (LearningStopsBy (length (letters_of s)) (count_of (declared_of s)) c.args.arguments.now.extra c.args.arguments.now.max_states (answers_of c.learn_command.result.kept.answers))) (sym c.in-Children.is) (command_stops c.args.arguments.now.learner m.words m.inputs c.args.arguments.now.workers c.args.arguments.now.extra c.args.arguments.now.max_states c.args.start.cache.kept (g.P.Spawner.state c.args.spawner.now) (g.P.Spawner.state c.learn_command.new.spawner) c.learn_command.result.learned c.learn_command.result.kept.answers c.learn_command.result.names.names m.outputs c.learn_command.ensures.found)

pub returns-in-Children-clause-over : goal.returns-in-Children-clause-over
returns-in-Children-clause-over g c =
    let m = c.in-Children.command in
    subst (λ (s : System). AreKeptOver (length (letters_of s)) (length c.learn_command.result.names.names) c.learn_command.result.kept.answers) (sym c.in-Children.is) (command_over c.args.arguments.now.learner m.words m.inputs c.args.arguments.now.workers c.args.arguments.now.extra c.args.arguments.now.max_states c.args.start.cache.kept (g.P.Spawner.state c.args.spawner.now) (g.P.Spawner.state c.learn_command.new.spawner) c.learn_command.result.learned c.learn_command.result.kept.answers c.learn_command.result.names.names m.outputs c.learn_command.ensures.found c.requires.ready.may.prior_is c.learn_command.ensures.few)

pub returns-in-Table-clause-named : goal.returns-in-Table-clause-named
returns-in-Table-clause-named g c = subst (λ (s : System). IfSome (declared_of s) (λ own. c.learn_table-outcome.result.names.names ≡ own)) (sym c.in-Table.is) c.learn_table-outcome.ensures.found.named

pub returns-in-Children-clause-named : goal.returns-in-Children-clause-named
returns-in-Children-clause-named g c =
    let m = c.in-Children.command in
    subst (λ (s : System). IfSome (declared_of s) (λ own. c.learn_command.result.names.names ≡ own)) (sym c.in-Children.is) (command_named c.args.arguments.now.learner m.words m.inputs c.args.arguments.now.workers c.args.arguments.now.extra c.args.arguments.now.max_states c.args.start.cache.kept (g.P.Spawner.state c.args.spawner.now) (g.P.Spawner.state c.learn_command.new.spawner) c.learn_command.result.learned c.learn_command.result.kept.answers c.learn_command.result.names.names m.outputs c.learn_command.ensures.found)

pub returns-in-Table-clause-plainly : goal.returns-in-Table-clause-plainly
returns-in-Table-clause-plainly g c =
    let a = c.args.arguments.now in
    let r = c.learn_table-outcome.result in
    subst (λ (s : System). RunsAsPlain a.learner a.testing (length (letters_of s)) a.extra a.max_states c.args.start.words r.learned c.args.start.cache.kept r.kept.answers) (sym c.in-Table.is) c.learn_table-outcome.ensures.plainly

pub returns-in-Children-clause-plainly : goal.returns-in-Children-clause-plainly
returns-in-Children-clause-plainly g c =
    let a = c.args.arguments.now in
    let r = c.learn_command.result in
    subst (λ (s : System). RunsAsPlain a.learner a.testing (length (letters_of s)) a.extra a.max_states c.args.start.words r.learned c.args.start.cache.kept r.kept.answers) (sym c.in-Children.is) c.learn_command.ensures.plainly
