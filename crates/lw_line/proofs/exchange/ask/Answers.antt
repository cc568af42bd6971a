use Rattle.std.proofs.Common.{◌≡◌, ℕ, List, inr, refl, ap, ◌∙◌, subst}
use Rattle.lw_outside.specs.Protocol.{in_line}
use Rattle.lw_line.specs.bodies.Exchanges.{IsAnswered, NamesNone, ended}
use Rattle.lw_line.proofs.exchange.ask.Goals as goal

pub returns-in-None-clause-err : goal.returns-in-None-clause-err
returns-in-None-clause-err g c =
    let L = g.L.Link in
    let before = c.args.outputs.now in
    let answer = c.in_ok-answer.answer in
    let line : c.as_slice.result.now ≡ ended (in_line c.args.letter.now) =
    c.as_slice.ensures ∙ (c.naming-line.ensures ∙ ap (λ (n : List ℕ). ended (in_line n)) c.as_bytes.ensures.value) in
    let answered : IsAnswered (ended (in_line c.args.letter.now)) c.args.inbox.now c.exchange.new.inbox answer (L.state c.args.link.now).transcript (L.state c.exchange.new.link).transcript =
    subst (λ (bs : List ℕ). IsAnswered bs c.args.inbox.now c.exchange.new.inbox answer (L.state c.args.link.now).transcript (L.state c.exchange.new.link).transcript) line c.in_ok-answer.ensures.answer in
    let none : NamesNone before.names before.most answer = subst (λ (bs : List ℕ). NamesNone before.names before.most bs) c.as_slice-2.ensures c.in-None.ensures.cases.0 in
    inr (inr (answer, refl, answered, none))
