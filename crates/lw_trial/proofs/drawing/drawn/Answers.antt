use Rattle.std.proofs.Common.{rules, ◌≡◌, ◌∷◌, [], ℕ, map, ap, sym, ◌∙◌, subst, arith}
use Rattle.std.specs.List.{range_with_len}
use Rattle.std.proofs.lemmas.List.{map-append}
use Rattle.lw_mealy.specs.Machine.{IsWithinLimits, mealy_of, Rows}
use Rattle.lw_draw.specs.Drawn.{seeded}
use Rattle.lw_trial.specs.Drawn.{words_before, drawn_row, drawn_rows}
use Rattle.lw_draw.proofs.DrawLemmas.{none_yet}
use Rattle.lw_trial.proofs.DrawnLemmas.{row_more, rows_words, drawn_within}
use Rattle.lw_trial.proofs.drawing.drawn.Goals as goal

pub loop-state-init : goal.loop-state-init
loop-state-init c = record {
  rows = ap (map (λ r. r.items)) c.in_ok-rows.ensures.items;
  random = c.of_seed-random.ensures ∙ none_yet (seeded c.args.seed) (words_before c.args.inputs 0) (omega arith);
}

pub loop-state-preserved : goal.loop-state-preserved
loop-state-preserved c =
    let l = c.loop-state in
    let row = c.in_ok-drawn_state.field-0 in
    record {
      rows = row_more (seeded c.args.seed) l.random c.args.states c.args.inputs l.state row.items (map (λ r. r.items) l.rows.items) (map (λ r. r.items) c.push.new.self.items) l.invariant.random l.invariant.rows c.in_ok-drawn_state.ensures.row
          (ap (map (λ r. r.items)) c.in_ok-push.ensures.items ∙ map-append (λ r. r.items) l.rows.items (row ∷ []));
      random = rows_words (seeded c.args.seed) l.random c.drawn_state.new.random c.args.inputs l.state l.invariant.random c.in_ok-drawn_state.ensures.random;
    }

pub of_rows-requires : goal.of_rows-requires
of_rows-requires c =
    let l = c.loop-state in
    let past : l.state ≡ c.args.states = search rules in
    let all : map (λ r. r.items) l.rows.items ≡ drawn_rows c.args.states c.args.inputs c.args.seed = l.invariant.rows ∙ ap (λ (n : ℕ). map (drawn_row (seeded c.args.seed) c.args.states c.args.inputs) (range_with_len 0 n)) past in
    subst (λ (rows : Rows). IsWithinLimits (mealy_of c.args.inputs 2 rows)) (sym all) (drawn_within c.args.states c.args.inputs c.args.seed c.requires.states c.requires.inputs)
