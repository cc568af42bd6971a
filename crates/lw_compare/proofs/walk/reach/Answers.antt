use Rattle.std.proofs.Common.{rules, ◌≡◌, ◌∙◌, ℕ, length, Option, Some, None, is_none, is_some, get_or, ap, sym, true, false}
use Rattle.std.proofs.lemmas.List.{get_or_default}
use Rattle.lw_separate.proofs.SearchLemmas.{is_none_value, is_some_value}
use Rattle.lw_compare.proofs.StepLemmas.{pair_known, pair_new, target_within}
use Rattle.lw_compare.proofs.walk.reach.Goals as goal

pub index-requires : goal.index-requires
index-requires c = let within = target_within c.args.first.now c.args.second.now c.args.by.now.letters.items c.args.by.now.outputs.items c.requires.by c.args.walk.now c.args.i c.args.x c.requires.walked c.requires.found c.requires.letter c.requires.agrees c.args.target c.requires.target in search (rules, within)

pub index_mut-requires : goal.index_mut-requires
index_mut-requires c = let within = target_within c.args.first.now c.args.second.now c.args.by.now.letters.items c.args.by.now.outputs.items c.requires.by c.args.walk.now c.args.i c.args.x c.requires.walked c.requires.found c.requires.letter c.requires.agrees c.args.target c.requires.target in search (rules, within)

pub returns-then-is_some-clause-walked : goal.returns-then-is_some-clause-walked
returns-then-is_some-clause-walked c =
    let within = target_within c.args.first.now c.args.second.now c.args.by.now.letters.items c.args.by.now.outputs.items c.requires.by c.args.walk.now c.args.i c.args.x c.requires.walked c.requires.found c.requires.letter c.requires.agrees c.args.target c.requires.target in
    let some : (k : ℕ) × (c.index.result.now ≡ Some k) = let e : is_none c.index.result.now ≡ false = search rules in is_some_value c.index.result.now e in
    pair_known c.args.first.now c.args.second.now c.args.by.now.letters.items c.args.by.now.outputs.items c.requires.by c.args.walk.now c.args.i c.args.x c.requires.walked c.requires.found c.requires.letter c.requires.agrees c.args.target c.requires.target
    some.0 (sym (c.index.ensures ∙ get_or_default c.args.walk.now.places.items c.args.target c.index.result.now None within) ∙ some.1)

pub returns-clause-walked : goal.returns-clause-walked
returns-clause-walked c =
    let within = target_within c.args.first.now c.args.second.now c.args.by.now.letters.items c.args.by.now.outputs.items c.requires.by c.args.walk.now c.args.i c.args.x c.requires.walked c.requires.found c.requires.letter c.requires.agrees c.args.target c.requires.target in
    let none : c.index.result.now ≡ None = let e : is_none c.index.result.now ≡ true = search rules in is_none_value c.index.result.now e in
    pair_new c.args.first.now c.args.second.now c.args.by.now.letters.items c.args.by.now.outputs.items c.requires.by c.args.walk.now c.args.i c.args.x c.requires.walked c.requires.found c.requires.letter c.requires.agrees c.args.target c.requires.target
    _ (sym (c.index.ensures ∙ get_or_default c.args.walk.now.places.items c.args.target c.index.result.now None within) ∙ none)
    c.in_ok-push.ensures.items c.in_ok-push-2.ensures.items (search rules)
