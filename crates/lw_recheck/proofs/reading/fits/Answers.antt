use Rattle.std.proofs.Common.{◌≡◌, ◌∙◌, Some, None, false, true, ap, option_map, rules, sym}
use Rattle.lw_system.specs.Systems.{declared_of}
use Rattle.lw_recheck.proofs.ReadLemmas.{fits_declared, fits_free, unfit_declared, unfit_letters}
use Rattle.lw_recheck.proofs.reading.fits.Goals as goal

pub returns-then-not-same-clause-no : goal.returns-then-not-same-clause-no
returns-then-not-same-clause-no c _ =
    unfit_letters c.args.answers.now c.args.system.now
    (λ same. let is : c.same.result ≡ true = c.same.ensures.1 (same ∙ sym c.inputs.ensures) in let other : c.same.result ≡ false = search rules in absurd (cc))

pub returns-in-Some-clause-yes : goal.returns-in-Some-clause-yes
returns-in-Some-clause-yes c among =
    let same : c.same.result ≡ true = search rules in
    let is : declared_of c.args.system.now ≡ Some c.in-Some.declared.now = sym c.outputs.ensures ∙ ap (option_map (λ n. n.now)) c.in-Some.is in
    fits_declared c.args.answers.now c.args.system.now c.in-Some.declared.now (c.same.ensures.0 same ∙ c.inputs.ensures) is (c.are_among.ensures.yes among)

pub returns-in-Some-clause-no : goal.returns-in-Some-clause-no
returns-in-Some-clause-no c lacking =
    let is : declared_of c.args.system.now ≡ Some c.in-Some.declared.now = sym c.outputs.ensures ∙ ap (option_map (λ n. n.now)) c.in-Some.is in
    unfit_declared c.args.answers.now c.args.system.now c.in-Some.declared.now is (c.are_among.ensures.no lacking)

pub returns-in-None-clause-yes : goal.returns-in-None-clause-yes
returns-in-None-clause-yes c _ =
    let same : c.same.result ≡ true = search rules in
    let is : declared_of c.args.system.now ≡ None = sym c.outputs.ensures ∙ ap (option_map (λ n. n.now)) c.in-None.is in
    fits_free c.args.answers.now c.args.system.now (c.same.ensures.0 same ∙ c.inputs.ensures) is
