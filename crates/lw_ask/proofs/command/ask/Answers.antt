use Rattle.std.proofs.Common.{List, ℕ, refl, subst, subst₂}
use Rattle.lw_system.specs.declared.goal.Goal.{Goal}
use Rattle.lw_system.specs.declared.source.Source.{Source}
use Rattle.lw_system.specs.Goals.{HasFoundFor}
use Rattle.lw_ask.specs.AskRun.{AsksTexts}
use Rattle.lw_ask.specs.Hints.{TakesHint}
use Rattle.lw_ask.proofs.RunLemmas.{asked_run, unread_run}
use Rattle.lw_ask.proofs.command.ask.Goals as goal

pub returns-in-Ok-clause-ran : goal.returns-in-Ok-clause-ran
returns-in-Ok-clause-ran g c =
    let F = g.F.Files in
    let P = g.P.Spawner in
    let O = g.O.Sink in
    let E = g.E.Sink in
    let a = c.args.arguments.now in
    let files = c.args.files.now in
    let read = c.find_for-system.new.files in
    let f = F.state files in
    let m = F.state read in
    let before = c.args.spawner.now in
    let now = c.ask_texts-told.new.spawner in
    let b = P.state before in
    let z = P.state now in
    let o = O.state c.args.out.now in
    let p = O.state c.ask_texts-told.new.out in
    let e = E.state c.args.err.now in
    let hinted = E.state c.put_hint.new.err in
    let d = E.state c.end_call.new.err in
    let found = c.find_for-system.result in
    let put = subst (λ (h : List ℕ). TakesHint h e hinted) c.as_slice.ensures.value c.put_hint.ensures in
    let told = c.ask_texts-told.result in
    let has = subst (λ (aim : Goal). HasFoundFor aim a.source a.system f m found.system found.hint.items) c.goal.ensures (subst₂ (λ (k : Source) (n : List ℕ). HasFoundFor c.goal.result k n f m found.system found.hint.items) c.source.ensures c.system.ensures c.find_for-system.ensures.found) in
    let asks = subst (λ (ws : List (List ℕ)). AsksTexts c.in-Ok.system ws b z o p told.kept.answers told.outcome) c.words.ensures c.ask_texts-told.ensures.asks in
    asked_run a f m b z o p e hinted d c.end_call.result found.system found.hint.items has put c.in-Ok.system c.in-Ok.is told.kept.answers told.outcome asks c.end_call.ensures.ended

pub returns-clause-ran : goal.returns-clause-ran
returns-clause-ran g c =
    let F = g.F.Files in
    let P = g.P.Spawner in
    let O = g.O.Sink in
    let E = g.E.Sink in
    let a = c.args.arguments.now in
    let files = c.args.files.now in
    let read = c.find_for-system.new.files in
    let f = F.state files in
    let m = F.state read in
    let before = c.args.spawner.now in
    let b = P.state before in
    let o = O.state c.args.out.now in
    let e = E.state c.args.err.now in
    let hinted = E.state c.put_hint.new.err in
    let d = E.state c.end_call-in-Err.new.err in
    let found = c.find_for-system.result in
    let put = subst (λ (h : List ℕ). TakesHint h e hinted) c.as_slice.ensures.value c.put_hint.ensures in
    let has = subst (λ (aim : Goal). HasFoundFor aim a.source a.system f m found.system found.hint.items) c.goal.ensures (subst₂ (λ (k : Source) (n : List ℕ). HasFoundFor c.goal.result k n f m found.system found.hint.items) c.source.ensures c.system.ensures c.find_for-system.ensures.found) in
    unread_run a f m b b o o e hinted d c.end_call-in-Err.result found.system found.hint.items has put c.in-Err.stop c.in-Err.is c.no_system_outcome-outcome.result c.no_system_outcome-outcome.ensures c.new-kept.result.answers c.new-kept.ensures refl refl c.end_call-in-Err.ensures.ended
