use Rattle.std.proofs.Common.{ℕ, ap, ◌∙◌}
use Rattle.lw_mealy.specs.Machine.{after}
use Rattle.lw_wp.proofs.CursorLemmas.{front_is}
use Rattle.lw_wp.proofs.cursor.front_at.Goals as goal

pub returns-clause-front : goal.returns-clause-front
returns-clause-front c lt =
    let p = c.args.parts.now in
    front_is p c.args.front c.spell_front.new.word c.in_ok-left.left c.after.result c.in_ok-left.ensures
    (c.after.ensures.value ∙ ap (λ (q : ℕ). after p.machine.rows q c.spell_front.new.word) c.initial-start.ensures.value)
