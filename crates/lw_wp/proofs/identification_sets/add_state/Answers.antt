use Rattle.std.proofs.Common.{rules, ◌≡◌, ◌+◌, ℕ, List, false, subst, sym}
use Rattle.std.specs.List.{list_any}
use Rattle.lw_wp.specs.Identification.{separates, identification_below}
use Rattle.lw_wp.specs.Tables.{chosen}
use Rattle.lw_wp.specs.bodies.Chosen.{Chooses}
use Rattle.lw_wp.proofs.IdentificationLemmas.{state_added}
use Rattle.lw_wp.proofs.identification_sets.add_state.Goals as goal

pub returns-in_ok-push : goal.returns-in_ok-push
returns-in_ok-push c =
    let words = c.args.by.now.words in
    let none : false ≡ list_any (separates c.args.m.now.rows c.args.q c.args.p) (chosen words c.args.numbers.now.items) = search rules in
    record {
      so_far = subst (λ (ns : List ℕ). Chooses words ns (identification_below c.args.m.now.rows words c.args.q (c.args.p + 1))) (sym c.in_ok-push.ensures.items)
          (state_added c.args.m.now.rows words c.args.q c.args.p c.args.numbers.now.items c.requires.so_far c.in-Some.number none c.in-Some.ensures.0 c.in-Some.ensures.1);
    }
