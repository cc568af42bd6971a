use Rattle.std.proofs.Common.{◌∙◌, ◌<◌, ℕ, List, length, refl, ap, sym, subst}
use Rattle.std.specs.List.{All}
use Rattle.lw_recheck.proofs.NameLemmas.{differs_as, same_as}
use Rattle.lw_recheck.proofs.asking.ask_again.Goals as goal

pub first_difference-found-requires-clause-known : goal.first_difference-found-requires-clause-known
first_difference-found-requires-clause-known g c = subst (λ (l : List ℕ). All (λ y. y < length c.args.outputs.now) l) (sym c.as_slice.ensures) c.requires.outs

pub first_difference-found-requires-clause-given : goal.first_difference-found-requires-clause-given
first_difference-found-requires-clause-given g c =
    let S = g.S.Sul in
    subst (λ (n : List (List ℕ)). All (λ y. y < length n) c.as_slice-2.result.now) (sym (ap (λ x. (S.state x).names) c.sul.ensures))
    (subst (λ (l : List ℕ). All (λ y. y < length (S.state c.run_again.new.session.sul).names) l) (sym c.as_slice-2.ensures) c.in_ok-outs.ensures.gains.below)

pub first_difference-found-requires-clause-even : goal.first_difference-found-requires-clause-even
first_difference-found-requires-clause-even g c =
    ap (λ (l : List ℕ). length l) c.as_slice-2.ensures ∙ (c.in_ok-outs.ensures.gains.even ∙ (sym c.requires.even ∙ ap (λ (l : List ℕ). length l) (sym c.as_slice.ensures)))

pub returns-in-Some-clause-ok : goal.returns-in-Some-clause-ok
returns-in-Some-clause-ok g c =
    let S = g.S.Sul in (
      refl,
      record {
        gains = c.in_ok-outs.ensures.gains;
        differs = differs_as c.args.outputs.now (S.state c.sul.result.now).names (S.state c.run_again.new.session.sul).names c.as_slice.result.now c.args.answer.now.outs c.as_slice-2.result.now c.in_ok-outs.outs c.in-Some.place (ap (λ x. (S.state x).names) c.sul.ensures) c.as_slice.ensures c.as_slice-2.ensures c.in-Some.ensures.some;
      },
    )

pub returns-in-None-clause-ok : goal.returns-in-None-clause-ok
returns-in-None-clause-ok g c =
    let S = g.S.Sul in
    record {
      outs = c.in_ok-outs.outs;
      gains = c.in_ok-outs.ensures.gains;
      same = same_as c.args.outputs.now (S.state c.sul.result.now).names (S.state c.run_again.new.session.sul).names c.as_slice.result.now c.args.answer.now.outs c.as_slice-2.result.now c.in_ok-outs.outs (ap (λ x. (S.state x).names) c.sul.ensures) c.as_slice.ensures c.as_slice-2.ensures c.in-None.ensures.none;
    }
