-- The second ask is one that the actor may make after the first.
use Rattle.std.proofs.Common.{List, [], ◌∷◌, ◌++◌, ap, sym, ◌∙◌, subst₂}
use Rattle.lw_turn.specs.declared.shared.Entry.{Entry}
use Rattle.lw_turn.specs.History.{entries_of}
use Rattle.lw_desk.specs.History.{DeskOpening, May}
use Rattle.lw_desk.specs.bodies.DeskBody.{entry}
use Rattle.lw_desk.specs.declared.ask.Ask.{Ask}
use Rattle.lw_desk.specs.declared.ask.Reply.{Reply}
use Rattle.lw_sessions_tests.proofs.TestDesks.{may_give}
use Rattle.lw_sessions_tests.proofs.tests.renumber.names.brought.Goals as goal

pub on-second-requires-clause-may : goal.on-second-requires-clause-may
on-second-requires-clause-may g c =
    let before : Ask = c.one_place.result in
    let ask : Ask = c.one_answer-given.result in
    let reply : Reply = c.on-first.result in
    let e : Entry Ask Reply = entry 0 before reply in
    let told = c.holds_first.ensures c.if-assert.false in
    let b = c.one_place.ensures in
    let a = c.one_answer-given.ensures in
    subst₂ (λ (o : DeskOpening) (es : List (Entry Ask Reply)). May o (entries_of 0 es) ask)
    (sym (c.on-first.ensures.opening ∙ c.desk_of_one-desk.ensures.opening))
    (sym (c.on-first.ensures.entry ∙ ap (λ (es : List (Entry Ask Reply)). es ++ e ∷ []) c.desk_of_one-desk.ensures.entries))
    (may_give _ _ c.requires before ask reply b.gives b.failed told.0 told.1 a.gives a.failed a.wanted)
