use Rattle.std.proofs.Common.{◌≡◌, ℕ, ◌<◌, None, Some, true, Err, IfSome, length, option_map, refl, rules, ap, sym, ◌∙◌, subst}
use Rattle.lw_words.specs.Word.{IsWord}
use Rattle.lw_words.specs.declared.stop.SulStop.{SulStop}
use Rattle.lw_sul.specs.Runs.{after_step}
use Rattle.lw_outside.specs.Protocol.{in_line}
use Rattle.lw_line.specs.LineState.{AreToldIfFree, LineState, told_runs}
use Rattle.lw_line.specs.bodies.Exchanges.{NamesNone, ended}
use Rattle.lw_line.specs.bodies.Naming.{OutputNaming}
use Rattle.lw_line.specs.bodies.Standing.{Stands}
use Rattle.lw_names.proofs.NameLemmas.{IsName-at}
use Rattle.lw_line.proofs.Calls.{letter_plain, step_answered, step_refused}
use Rattle.lw_line.proofs.Noting.{letter_added}
use Rattle.lw_line.proofs.Telling.{brought_told, refused_told}
use Rattle.lw_line.proofs.system.LineSulSul.step.Goals as goal

pub invariant_of-self : goal.invariant_of-self
invariant_of-self g c =
    let L = g.L.Link in
    let s = c.self.inside in
    let live : s.stop ≡ None = search rules in
    let begun : s.started ≡ true = search rules in
    let known : c.args.x < length s.letters = subst (λ (t : LineState _). c.args.x < length t.letters) (sym c.self.view_is) c.requires.letter in
    let done =
    step_answered s.letters s.outputs.names s.outputs.most (L.state s.link).faults (L.state s.link).ends (L.state c.ask.new.link).faults (L.state c.ask.new.link).ends s.started s.inbox c.ask.new.inbox s.stop s.cut (L.state s.link).transcript (L.state c.ask.new.link).transcript live c.self.invariant.0
    begun c.args.x c.name-letter.result.now c.name-letter.ensures.value c.name-letter.ensures.inverse c.len-letters.ensures.names.each
    c.ask.new.outputs.names c.in-Ok.y c.in-Ok.ensures.output.0 c.in-Ok.ensures.brings.0 c.in-Ok.ensures.differ c.in-Ok.ensures.output.2 c.in-Ok.ensures.output.1 in
    let new = c.ask.new in (
      subst (λ (most : ℕ). Stands s.letters new.outputs.names most (L.state new.link).faults (L.state new.link).ends s.started new.inbox s.stop s.cut (L.state new.link).transcript) (sym c.in-Ok.ensures.same.1) done.0,
      λ free.
          brought_told s.letters s.outputs.names new.outputs.names s.outputs.most (L.state s.link).faults s.started c.name-letter.result.now (letter_plain c.name-letter.result.now (IsName-at s.letters c.args.x c.name-letter.result.now c.len-letters.ensures.names.each c.name-letter.ensures.value)) s.inbox new.inbox c.in-Ok.ensures.output.0 c.in-Ok.y c.in-Ok.ensures.brings.0 c.in-Ok.ensures.output.2
          (L.state s.link).ends s.stop s.cut (L.state s.link).transcript (L.state new.link).transcript live c.self.invariant.0 c.in-Ok.ensures.output.1
          (c.self.invariant.1 (sym c.in-Ok.ensures.same.1 ∙ free.0, sym c.in-Ok.ensures.same.2 ∙ free.1)),
      letter_added (length s.letters) c.args.x s.note c.add_letter.new.self c.receive.new.self known c.add_letter.ensures c.receive.ensures c.self.invariant.2,
    )

pub returns-in-Ok : goal.returns-in-Ok
returns-in-Ok g c =
    let L = g.L.Link in
    let s = c.self.inside in
    let live : s.stop ≡ None = search rules in
    let begun : s.started ≡ true = search rules in
    let done =
    step_answered s.letters s.outputs.names s.outputs.most (L.state s.link).faults (L.state s.link).ends (L.state c.ask.new.link).faults (L.state c.ask.new.link).ends s.started s.inbox c.ask.new.inbox s.stop s.cut (L.state s.link).transcript (L.state c.ask.new.link).transcript live c.self.invariant.0
    begun c.args.x c.name-letter.result.now c.name-letter.ensures.value c.name-letter.ensures.inverse c.len-letters.ensures.names.each
    c.ask.new.outputs.names c.in-Ok.y c.in-Ok.ensures.output.0 c.in-Ok.ensures.brings.0 c.in-Ok.ensures.differ c.in-Ok.ensures.output.2 c.in-Ok.ensures.output.1 in
    let view = ap (λ s. told_runs s.letters s.names (L.state s.link).transcript) c.self.view_is in
    record {
      ok = search rules;
      output = search rules;
      brings = search rules;
      adds = done.1 ∙ ap (option_map (after_step c.args.x c.in-Ok.y)) view;
      steps = search rules;
      err = search rules;
      left = search rules;
      lacks = search rules;
      cut = search rules;
      failed = search rules;
      counts = search rules;
      same = search rules;
    }

pub invariant_of-self-in-Err : goal.invariant_of-self-in-Err
invariant_of-self-in-Err g c =
    let L = g.L.Link in
    let s = c.self.inside in
    let live : s.stop ≡ None = search rules in
    let begun : s.started ≡ true = search rules in
    let known : c.args.x < length s.letters = subst (λ (t : LineState _). c.args.x < length t.letters) (sym c.self.view_is) c.requires.letter in
    let done =
    step_refused s.letters s.outputs.names s.outputs.most (L.state s.link).faults (L.state s.link).ends (L.state c.ask.new.link).faults (L.state c.ask.new.link).ends s.started s.inbox c.ask.new.inbox s.stop s.cut (L.state s.link).transcript (L.state c.ask.new.link).transcript live c.self.invariant.0
    begun c.args.x c.name-letter.result.now c.name-letter.ensures.value c.name-letter.ensures.inverse c.len-letters.ensures.names.each
    c.in-Err.stop c.copy.result c.copy.ensures (λ is. c.in-Err.ensures.failed (ap (λ (e : SulStop). Err e) is)) (λ is. c.in-Err.ensures.gone (ap (λ (e : SulStop). Err e) is)) c.in-Err.ensures.err in
    let new = c.ask.new in
    subst (λ (o : OutputNaming). Stands s.letters o.names o.most (L.state new.link).faults (L.state new.link).ends s.started new.inbox (Some c.copy.result) true (L.state new.link).transcript × AreToldIfFree o.names o.most o.range (L.state new.link).transcript × IfSome c.add_letter.new.self (IsWord (length s.letters))) (sym c.in-Err.ensures.kept) (
      done.0,
      λ free.
          refused_told s.outputs.names (NamesNone s.outputs.names s.outputs.most) (ended (in_line c.name-letter.result.now)) s.inbox new.inbox c.in-Err.stop (L.state s.link).transcript (L.state new.link).transcript
          c.in-Err.ensures.err (c.self.invariant.1 free),
      letter_added (length s.letters) c.args.x s.note c.add_letter.new.self c.add_letter.new.self known c.add_letter.ensures refl c.self.invariant.2,
    )

pub returns-in-Err : goal.returns-in-Err
returns-in-Err g c =
    let L = g.L.Link in
    let s = c.self.inside in
    let live : s.stop ≡ None = search rules in
    let begun : s.started ≡ true = search rules in
    let done =
    step_refused s.letters s.outputs.names s.outputs.most (L.state s.link).faults (L.state s.link).ends (L.state c.ask.new.link).faults (L.state c.ask.new.link).ends s.started s.inbox c.ask.new.inbox s.stop s.cut (L.state s.link).transcript (L.state c.ask.new.link).transcript live c.self.invariant.0
    begun c.args.x c.name-letter.result.now c.name-letter.ensures.value c.name-letter.ensures.inverse c.len-letters.ensures.names.each
    c.in-Err.stop c.copy.result c.copy.ensures (λ is. c.in-Err.ensures.failed (ap (λ (e : SulStop). Err e) is)) (λ is. c.in-Err.ensures.gone (ap (λ (e : SulStop). Err e) is)) c.in-Err.ensures.err in
    let view = ap (λ s. told_runs s.letters s.names (L.state s.link).transcript) c.self.view_is in
    record {
      ok = search rules;
      output = search rules;
      brings = search rules;
      adds = search rules;
      steps = search rules;
      err = search rules;
      left = ap (λ (o : OutputNaming). told_runs s.letters o.names (L.state c.ask.new.link).transcript) c.in-Err.ensures.kept ∙ (done.1 ∙ view);
      lacks = search rules;
      cut = search rules;
      failed = search rules;
      counts = search rules;
      same = search rules;
    }
