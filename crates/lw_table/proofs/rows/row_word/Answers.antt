use Rattle.std.proofs.Common.{rules, ◌≡◌, ◌-◌, ◌/◌, ◌%◌, ◌∷◌, ◌++◌, []}
use Rattle.std.proofs.lemmas.Option.{get_or_from_slice_get}
use Rattle.lw_cache.specs.Cut.{word_at}
use Rattle.lw_table.proofs.RowLemmas.{extension_word, row_word_letters}
use Rattle.lw_table.proofs.rows.row_word.Goals as goal

pub returns-clause-word : goal.returns-clause-word
returns-clause-word c =
    let a = c.args.inputs in
    let access = c.args.access.now in
    let from : c.get.result.now ≡ word_at access ((c.args.row - 1) / a) = search (rules, get_or_from_slice_get) in
    let is : c.push.new.self ≡ word_at access ((c.args.row - 1) / a) ++ (c.args.row - 1) % a ∷ [] = search (rules, from) in
    extension_word a access c.args.row c.push.new.self c.requires.inputs (search rules) c.requires.row is

pub returns-clause-letters : goal.returns-clause-letters
returns-clause-letters c =
    row_word_letters c.args.inputs c.args.access.now c.args.row c.push.new.self c.requires.words (returns-clause-word c)
