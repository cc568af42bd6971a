use Rattle.std.proofs.Common.{rules, ◌≡◌, ◌++◌, ◌<◌, ℕ, List, length, get_or, ap, ◌∙◌}
use Rattle.lw_cache.specs.Cut.{word_at}
use Rattle.lw_settle.proofs.BlockLemmas.{words_more, got_word}
use Rattle.lw_settle.proofs.parting.member_words.Goals as goal

pub loop-member-preserved : goal.loop-member-preserved
loop-member-preserved c =
    let l = c.loop-member in
    let t = c.args.tree.now in
    let members = c.args.members.now in
    let lt : l.member-index < length members = search rules in
    let access : c.get-access.result.now ≡ word_at t.access (get_or members l.member-index 0) = got_word c.access.result.now t.access c.from.result (get_or members l.member-index 0) c.get-access.result.now c.get-access.ensures c.access.ensures.value (search rules) in
    words_more t members c.args.suffix.now l.member-index c.in_ok-join.field-0 l.words c.push.new.self c.access.ensures.tree lt (c.requires.members l.member-index 0 lt) c.requires.suffix
    (c.in_ok-join.ensures ∙ ap (λ (w : List ℕ). w ++ c.args.suffix.now) access) c.in_ok-push.ensures.ok l.invariant
