use Rattle.std.proofs.Common.{◌∙◌, ◌≤◌, List, ℕ, length, IfOk, Result, subst, subst₂}
use Rattle.lw_system.specs.Goals.{HasFoundFor, IsSystemFor}
use Rattle.lw_system.specs.Systems.{HasWords, letters_of}
use Rattle.lw_system.specs.declared.goal.Goal.{Goal}
use Rattle.lw_system.specs.declared.source.Source.{Source}
use Rattle.lw_system.specs.declared.stops.NoSystem.{NoSystem}
use Rattle.lw_system.specs.declared.system.System.{System}
use Rattle.lw_learn.proofs.ReadLemmas.{stage_found, stage_unfound}
use Rattle.lw_learn.proofs.reading.read_whole.Goals as goal

pub returns-in-Ok : goal.returns-in-Ok
returns-in-Ok g c =
    let F = g.F.Files in
    let a = c.args.arguments.now in
    let f = F.state c.args.files.now in
    let m = F.state c.find_for-system.new.files in
    let found = c.find_for-system.result in
    let has =
    subst (λ (k : Goal). HasFoundFor k a.source a.system f m found.system found.hint.items) c.goal.ensures
    (subst₂ (λ (k : Source) (n : List ℕ). HasFoundFor c.goal.result k n f m found.system found.hint.items) c.source.ensures c.system.ensures c.find_for-system.ensures.found) in
    let told = c.find_for-system.ensures in
    let letters = subst (λ (r : Result System NoSystem). IfOk r (λ s. length (letters_of s) ≤ 64)) c.in-Ok.is told.letters in
    let words = subst (λ (r : Result System NoSystem). IfOk r HasWords) c.in-Ok.is told.words in
    let fits = subst (λ (k : Goal). IsSystemFor k c.in-Ok.system) c.goal.ensures (subst (λ (r : Result System NoSystem). IfOk r (IsSystemFor c.goal.result)) c.in-Ok.is told.fits) in
    stage_found a f m found.system found.hint.items has c.in-Ok.system c.in-Ok.is letters words fits

pub returns : goal.returns
returns g c =
    let F = g.F.Files in
    let a = c.args.arguments.now in
    let f = F.state c.args.files.now in
    let m = F.state c.find_for-system.new.files in
    let found = c.find_for-system.result in
    let has =
    subst (λ (k : Goal). HasFoundFor k a.source a.system f m found.system found.hint.items) c.goal.ensures
    (subst₂ (λ (k : Source) (n : List ℕ). HasFoundFor c.goal.result k n f m found.system found.hint.items) c.source.ensures c.system.ensures c.find_for-system.ensures.found) in
    stage_unfound a f m found.system found.hint.items has c.in-Err.stop c.bare.result c.in-Err.is (c.bare.ensures.outcome ∙ c.no_system_outcome.ensures) c.bare.ensures.system c.bare.ensures.kept
