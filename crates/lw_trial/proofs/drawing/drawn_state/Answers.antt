use Rattle.std.proofs.Common.{rules, ◌≡◌, ◌*◌, ◌-◌, ◌∷◌, ◌++◌, [], ℕ, map, refl, ap, ◌∙◌, subst, arith}
use Rattle.std.specs.List.{range_with_len}
use Rattle.lw_mealy.specs.Machine.{Row}
use Rattle.lw_draw.specs.Drawn.{after_draws}
use Rattle.lw_trial.specs.Drawn.{drawn_cell}
use Rattle.lw_draw.proofs.DrawLemmas.{none_yet}
use Rattle.lw_trial.proofs.DrawnLemmas.{cell_more, words_more, first_cell}
use Rattle.lw_trial.proofs.drawing.drawn_state.Goals as goal

pub loop-init : goal.loop-init
loop-init c = record {
  row = c.in_ok-push.ensures.items ∙ (ap (λ (l : Row). l ++ c.round_pair.result ∷ []) c.in_ok-row.ensures.items
      ∙ first_cell c.args.random.now c.args.states c.args.state c.round_pair.result.0 c.round_pair.result.1 c.round_pair.ensures.target c.round_pair.ensures.output);
  random = none_yet c.args.random.now 0 refl;
  some = omega arith;
}

pub loop-preserved : goal.loop-preserved
loop-preserved c =
    let l = c.loop in
    record {
      row = cell_more c.args.random.now l.random c.args.states c.args.state l.counter c.drawn_pair.result.0 c.drawn_pair.result.1 l.row.items c.push-in-loop.new.self.items l.invariant.some l.invariant.random l.invariant.row c.drawn_pair.ensures.target c.drawn_pair.ensures.output c.in_ok-push-2.ensures.items;
      random = words_more c.args.random.now l.random c.drawn_pair.new.random l.counter l.invariant.some l.invariant.random c.drawn_pair.ensures.random;
      some = omega arith;
    }

pub returns-clause-row : goal.returns-clause-row
returns-clause-row c =
    let past : c.loop.counter ≡ c.args.inputs = search rules in
    subst (λ (n : ℕ). c.loop.row.items ≡ map (drawn_cell c.args.random.now c.args.states c.args.state) (range_with_len 0 n)) past c.loop.invariant.row

pub returns-clause-random : goal.returns-clause-random
returns-clause-random c =
    let past : c.loop.counter ≡ c.args.inputs = search rules in
    subst (λ (n : ℕ). c.loop.random ≡ after_draws c.args.random.now (2 * (n - 1))) past c.loop.invariant.random
