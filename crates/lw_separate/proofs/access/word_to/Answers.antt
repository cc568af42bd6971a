use Rattle.std.proofs.Common.{◌≡◌, ◌∙◌, ◌<◌, ℕ, List, [], length, Some, None, get_or, sym, ap, arith, subst}
use Rattle.std.proofs.lemmas.List.{get_or_default}
use Rattle.lw_separate.specs.Canonical.{IsLeastAccess}
use Rattle.lw_separate.proofs.SearchLemmas.{option_seen}
use Rattle.lw_separate.proofs.AccessLemmas.{word_of_place, unreached}
use Rattle.lw_separate.proofs.access.word_to.Goals as goal

pub index-requires-in-Some : goal.index-requires-in-Some
index-requires-in-Some c =
    let s = c.requires.whole in
    let at : get_or c.args.s.now.places.items c.args.q None ≡ Some c.in-Some.place = option_seen c.args.s.now.places.items c.args.q c.index.result.now (omega (arith, s.placed, c.requires.state)) c.index.ensures ∙ c.in-Some.is in
    let lt : c.in-Some.place < length c.args.s.now.words.items = (s.back c.args.q c.in-Some.place at).0 in
    omega (arith, lt, c.from.ensures)

pub returns-in_ok-copy-in-Some : goal.returns-in_ok-copy-in-Some
returns-in_ok-copy-in-Some c =
    let s = c.requires.whole in
    let at : get_or c.args.s.now.places.items c.args.q None ≡ Some c.in-Some.place = option_seen c.args.s.now.places.items c.args.q c.index.result.now (omega (arith, s.placed, c.requires.state)) c.index.ensures ∙ c.in-Some.is in
    let lt : c.in-Some.place < length c.args.s.now.words.items = (s.back c.args.q c.in-Some.place at).0 in
    let word : c.in_ok-copy-in-Some.field-0 ≡ get_or c.args.s.now.words.items c.in-Some.place [] =
    c.in_ok-copy-in-Some.ensures ∙ (c.index-in-Some.ensures ∙ (ap (λ (n : ℕ). get_or c.args.s.now.words.items n c.index-in-Some.result.now) c.from.ensures ∙ get_or_default c.args.s.now.words.items c.in-Some.place c.index-in-Some.result.now [] lt)) in
    subst (λ (w : List ℕ). IsLeastAccess c.args.m.now.inputs c.args.m.now.rows c.args.q w) (sym word) (word_of_place c.args.m.now.inputs c.args.m.now.rows c.args.s.now.words.items c.args.s.now.states.items c.args.s.now.places.items s c.args.q c.in-Some.place at)

pub returns-in-None : goal.returns-in-None
returns-in-None c =
    let s = c.requires.whole in
    unreached c.args.m.now.inputs c.args.m.now.rows c.args.s.now.words.items c.args.s.now.states.items c.args.s.now.places.items s c.args.q
    (option_seen c.args.s.now.places.items c.args.q c.index.result.now (omega (arith, s.placed, c.requires.state)) c.index.ensures ∙ c.in-None.is)
