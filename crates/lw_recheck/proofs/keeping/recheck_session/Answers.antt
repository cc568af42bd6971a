use Rattle.std.proofs.Common.{◌≡◌, ◌<◌, ℕ, List, length, Option, None, Some, Ok, IfOk, refl, ap, sym, subst}
use Rattle.std.specs.List.{All}
use Rattle.lw_words.specs.Word.{IsNames}
use Rattle.lw_cache.specs.declared.stops.Clash.{Clash}
use Rattle.lw_recheck.specs.bodies.Step.{HasFound, KeepsOther}
use Rattle.lw_recheck.specs.declared.asking.Other.{Other}
use Rattle.lw_recheck.proofs.OtherLemmas.{comes, no_sul, on_ok, stops}
use Rattle.lw_recheck.proofs.keeping.recheck_session.Goals as goal

pub come_otherwise-requires-clause-within : goal.come_otherwise-requires-clause-within
come_otherwise-requires-clause-within g c =
    let found = subst (λ (x : Option Other). HasFound (g.S.Sul.state c.args.session.now.sul).origin.machine c.args.outputs c.args.kept.answers (g.S.Sul.state c.ask_answers.new.session.sul).names c.ask_answers.new.session.journal (Ok x)) c.in-Ok-Some.field-0-is c.in-Ok-Some.ensures.found in
    found.within

pub come_otherwise-requires-clause-below : goal.come_otherwise-requires-clause-below
come_otherwise-requires-clause-below g c =
    let found = subst (λ (x : Option Other). HasFound (g.S.Sul.state c.args.session.now.sul).origin.machine c.args.outputs c.args.kept.answers (g.S.Sul.state c.ask_answers.new.session.sul).names c.ask_answers.new.session.journal (Ok x)) c.in-Ok-Some.field-0-is c.in-Ok-Some.ensures.found in
    subst (λ (n : List (List ℕ)). All (λ y. y < length n) c.in-Ok-Some.other.outs) (sym (ap (λ x. (g.S.Sul.state x).names) c.sul.ensures)) found.below

pub returns-in-Ok-None-clause-has : goal.returns-in-Ok-None-clause-has
returns-in-Ok-None-clause-has g c =
    let found = subst (λ (x : Option Other). HasFound (g.S.Sul.state c.args.session.now.sul).origin.machine c.args.outputs c.args.kept.answers (g.S.Sul.state c.ask_answers.new.session.sul).names c.ask_answers.new.session.journal (Ok x)) c.in-Ok-None.field-0-is c.in-Ok-None.ensures.found in
    record { are = found; kept_is = refl }

pub returns-in-Ok-Some-clause-has : goal.returns-in-Ok-Some-clause-has
returns-in-Ok-Some-clause-has g c =
    let found = subst (λ (x : Option Other). HasFound (g.S.Sul.state c.args.session.now.sul).origin.machine c.args.outputs c.args.kept.answers (g.S.Sul.state c.ask_answers.new.session.sul).names c.ask_answers.new.session.journal (Ok x)) c.in-Ok-Some.field-0-is c.in-Ok-Some.ensures.found in
    let S = g.S.Sul in
    let t = c.ask_answers.new.session in
    let outputs = c.args.outputs in
    let answers = c.args.kept.answers in
    let other = c.in-Ok-Some.other in
    let asked = c.come_otherwise.result in
    let kept = subst (λ (n : List (List ℕ)). IfOk asked.came (λ (f : Option Clash). (f ≡ Some (record { first = other.number; second = length answers; place = other.place })) × IsNames asked.names × KeepsOther outputs n answers other asked.names asked.kept.answers)) (ap (λ x. (S.state x).names) c.sul.ensures) c.come_otherwise.ensures.kept in
    comes (S.state c.args.session.now.sul).origin.machine outputs answers (S.state t.sul).names t.journal (S.state c.args.session.now.sul).inputs c.requires.over other found asked.names asked.kept.answers asked.came kept c.come_otherwise.ensures.same c.come_otherwise.ensures.memory

pub returns-in-Ok-Some-clause-live : goal.returns-in-Ok-Some-clause-live
returns-in-Ok-Some-clause-live g c =
    let S = g.S.Sul in
    on_ok c.come_otherwise.result.came ((S.state c.ask_answers.new.session.sul).stop ≡ None) c.in-Ok-Some.ensures.live

pub returns-in-Ok-Some-clause-stopped : goal.returns-in-Ok-Some-clause-stopped
returns-in-Ok-Some-clause-stopped g c why is =
    let S = g.S.Sul in
    no_sul c.come_otherwise.result.came ((S.state c.ask_answers.new.session.sul).stop ≡ Some why) c.come_otherwise.ensures.memory why is

pub returns-in-Err-clause-has : goal.returns-in-Err-clause-has
returns-in-Err-clause-has g c =
    let S = g.S.Sul in
    let t = c.ask_answers.new.session in
    stops (S.state c.args.session.now.sul).origin.machine c.args.outputs c.args.kept.answers (S.state t.sul).names t.journal c.in-Err.stop c.in-Err.ensures.found
