use Rattle.std.proofs.Common.{◌∙◌, ◌<◌, ◌≤◌, ℕ, List, length, get_or, ap, refl, sym, subst, arith}
use Rattle.std.specs.List.{All}
use Rattle.std.proofs.lemmas.List.{take_all}
use Rattle.std.proofs.lemmas.List.Elements.{All-nil, All-push}
use Rattle.lw_words.specs.Word.{named}
use Rattle.lw_recheck.proofs.NameLemmas.{named_more}
use Rattle.lw_recheck.proofs.keeping.renamed.Goals as goal

pub loop-y-init : goal.loop-y-init
loop-y-init g c =
    let names = c.args.names.now in
    record {
      below = subst (λ (l : List ℕ). All (λ y. y < length names) l) (sym c.new-word.ensures) (All-nil (λ y. y < length names));
      named_so = ap (λ (l : List ℕ). named names l) c.new-word.ensures;
    }

pub loop-y-preserved : goal.loop-y-preserved
loop-y-preserved g c =
    let names = c.args.names.now in
    let own = (g.S.Sul.state c.args.sul.now).names in
    let outs = c.args.outs.now in
    let i = c.loop-y.y-index in
    let lt : i < length outs = omega (arith, c.loop-y-test.true) in
    let was = c.loop-y.invariant in
    let n = c.in_ok-number_among.field-0 in
    let found = c.in_ok-number_among.ensures in
    let more = c.in_ok-push.ensures.ok in
    record {
      below = subst (λ (l : List ℕ). All (λ y. y < length names) l) (sym more) (All-push (λ y. y < length names) c.loop-y.word n was.below found.below);
      named_so = ap (λ (l : List ℕ). named names l) more ∙ named_more names own c.loop-y.word outs i n (get_or outs i 0) lt refl was.named_so (found.named ∙ c.name.ensures);
    }

pub returns-clause-named : goal.returns-clause-named
returns-clause-named g c =
    let own = (g.S.Sul.state c.args.sul.now).names in
    let outs = c.args.outs.now in
    let all : length outs ≤ c.loop-y.y-index = omega (arith, c.loop-y-test.false) in
    c.loop-y.invariant.named_so ∙ ap (λ (l : List ℕ). named own l) (take_all c.loop-y.y-index outs all)
