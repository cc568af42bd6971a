use Rattle.std.proofs.Common.{◌≡◌, ◌∙◌, ◌<◌, ℕ, List, arith, map, string_bytes, ap, subst, sym, refl}
use Rattle.std.specs.List.{All}
use Rattle.lw_outside.specs.Links.{LinkState}
use Rattle.lw_names.specs.Names.{IsGrown}
use Rattle.lw_sul.specs.SessionState.{SessionState}
use Rattle.lw_line.specs.LineState.{LineState}
use Rattle.lw_system.specs.NewLines.{count_of, first_names, most_outputs_of}
use Rattle.lw_system.proofs.StartLemmas.{is_unretired, nothing_started, started_one}
use Rattle.lw_system.proofs.ToldLemmas.{bears_as, same_link}
use Rattle.lw_ask.proofs.ChildLemmas.{asked_child}
use Rattle.lw_ask.proofs.child.ask_child.Goals as goal

pub returns-in_default-clause-err : goal.returns-in_default-clause-err
returns-in_default-clause-err g c =
    let P = g.P.Spawner in
    let before = c.args.spawner.now in
    nothing_started (map (λ w. string_bytes w) c.args.command.now) (P.state before)

pub retire-requires-clause-started : goal.retire-requires-clause-started
retire-requires-clause-started g c =
    let P = g.P.Spawner in
    let L = g.P.Link.Link in
    let s = c.new-session.result in
    let t = c.ask_session-asked.new.session in
    let stays : (L.state t.sul.link).number ≡ (L.state s.sul.link).number = (same_link (L.state t.sul.link).number (L.state s.sul.link).number t.sul.letters s.sul.letters _ _ refl refl c.ask_session-asked.ensures.same.origin).0 in
    let number : (L.state c.link_of.result).number ≡ (P.state c.args.spawner.now).started =
    ap (λ x. (L.state x).number) c.link_of.ensures.link ∙ (stays ∙ (ap (λ (x : SessionState (LineState g.row.P-Link.Denot)). (L.state x.sul.link).number) c.new-session.ensures ∙ c.in-Ok-start_line.ensures.number)) in
    omega (arith, number, c.in-Ok-start_line.ensures.one.started)

pub retire-requires-clause-once : goal.retire-requires-clause-once
retire-requires-clause-once g c =
    let P = g.P.Spawner in
    let L = g.P.Link.Link in
    let before = c.args.spawner.now in
    let s = c.new-session.result in
    let t = c.ask_session-asked.new.session in
    let stays : (L.state t.sul.link).number ≡ (L.state s.sul.link).number = (same_link (L.state t.sul.link).number (L.state s.sul.link).number t.sul.letters s.sul.letters _ _ refl refl c.ask_session-asked.ensures.same.origin).0 in
    let number : (L.state c.link_of.result).number ≡ (P.state before).started =
    ap (λ x. (L.state x).number) c.link_of.ensures.link ∙ (stays ∙ (ap (λ (x : SessionState (LineState g.row.P-Link.Denot)). (L.state x.sul.link).number) c.new-session.ensures ∙ c.in-Ok-start_line.ensures.number)) in
    let started = c.in-Ok-start_line.ensures in
    let earlier : All (λ r. r.number < (P.state before).started) (P.state c.start_line.new.spawner).retired = subst (λ (rs : List LinkState). All (λ r. r.number < (P.state before).started) rs) (sym started.one.retired) started.earlier in
    is_unretired (P.state c.start_line.new.spawner).retired (P.state before).started (L.state c.link_of.result).number number earlier

pub returns-clause-ok : goal.returns-clause-ok
returns-clause-ok g c =
    let P = g.P.Spawner in
    let L = g.P.Link.Link in
    let O = g.O.Sink in
    let before = c.args.spawner.now in
    let mid = c.start_line.new.spawner in
    let now = c.retire.new.self in
    let command = map (λ w. string_bytes w) c.args.command.now in
    let letters = c.args.letters.now in
    let outputs = c.args.outputs in
    let b = P.state before in
    let m = P.state mid in
    let z = P.state now in
    let o = O.state c.args.out.now in
    let after = c.ask_session-asked.new.out in
    let p = O.state after in
    let line = c.in-Ok-start_line.line in
    let s = c.new-session.result in
    let t = c.ask_session-asked.new.session in
    let asked = c.ask_session-asked.ensures in
    let same = same_link (L.state t.sul.link).number (L.state s.sul.link).number t.sul.letters s.sul.letters _ _ refl refl asked.same.origin in
    let made : s.sul ≡ line = ap (λ (x : SessionState (LineState g.row.P-Link.Denot)). x.sul) c.new-session.ensures in
    let started = c.in-Ok-start_line.ensures in
    let new = made ∙ started.ok in
    let number : (L.state c.link_of.result).number ≡ (P.state before).started = ap (λ x. (L.state x).number) c.link_of.ensures.link ∙ (same.0 ∙ (ap (λ (x : LineState g.row.P-Link.Denot). (L.state x.link).number) made ∙ started.number)) in
    let link = L.state c.link_of.result in
    let ended = c.retire.ensures in
    let spawner = started_one command b m z link started.one number ended.started ended.retired ended.faults ended.commands in
    let is_letters : t.sul.letters ≡ letters = same.1 ∙ (ap (λ (x : LineState g.row.P-Link.Denot). x.letters) new ∙ c.in-Ok.ensures) in
    let is_most : t.sul.most ≡ most_outputs_of outputs = asked.same.most ∙ ap (λ (x : LineState g.row.P-Link.Denot). x.most) new in
    let is_count : t.sul.outputs ≡ count_of outputs = asked.same.outputs ∙ ap (λ (x : LineState g.row.P-Link.Denot). x.outputs) new in
    let bears = bears_as t.sul.letters letters t.sul.names t.sul.most (most_outputs_of outputs) t.sul.outputs (count_of outputs) t.sul.stop t.sul.cut t.journal link is_letters is_most is_count c.link_of.ensures.bears in
    let grown : IsGrown (first_names outputs) t.sul.names = subst (λ (n : List (List ℕ)). IsGrown n t.sul.names) (ap (λ (x : LineState g.row.P-Link.Denot). x.names) new) asked.grown in
    asked_child command letters outputs c.args.words.now b z o p c.ask_session-asked.result.kept.answers c.ask_session-asked.result.came link t.sul.names t.journal t.sul.stop t.sul.cut spawner (ended.faults ∙ started.one.faults) asked.put grown bears asked.live asked.stopped
