use Rattle.std.proofs.Common.{◌≡◌, ◌<◌, ℕ, List, [], length, take, All, None, ap, sym, ◌∙◌, subst, arith}
use Rattle.std.proofs.lemmas.List.{get_or_read, take_all}
use Rattle.std.proofs.lemmas.List.Elements.{All-more}
use Rattle.lw_words.specs.Word.{IsName, AllDiffer, number_of, name_at}
use Rattle.lw_sessions_tests.proofs.TestTrials.{new_differ, none_of}
use Rattle.lw_sessions_tests.proofs.tests.desk.trial.differ.Goals as goal

pub loop-i-preserved : goal.loop-i-preserved
loop-i-preserved c =
    let i : ℕ = c.loop-i.i in
    let all = c.args.all.now in
    let x = c.index-all-i.result in
    let lt : i < length all = omega arith in
    let at : x ≡ name_at all i = get_or_read all i x lt c.index-all-i.is [] in
    let none : number_of (name_at all i) (take i all) ≡ None =
    ap (λ (n : List ℕ). number_of n (take i all)) (sym (c.as_slice.ensures.value ∙ at)) ∙ (sym c.find.ensures ∙ none_of c.find.result (sym c.is_some.ensures ∙ c.if-is_some.false)) in
    record {
      differ = new_differ all i lt c.loop-i.invariant.differ none;
      names = All-more IsName all i [] lt c.loop-i.invariant.names (subst IsName at c.as_slice.ensures.name);
    }

pub returns-clause-differ : goal.returns-clause-differ
returns-clause-differ c so = subst AllDiffer (take_all c.loop-i.i c.args.all.now (omega arith)) c.loop-i.invariant.differ

pub returns-clause-names : goal.returns-clause-names
returns-clause-names c so = subst (All IsName) (take_all c.loop-i.i c.args.all.now (omega arith)) c.loop-i.invariant.names
