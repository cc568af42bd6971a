use Rattle.std.proofs.Common.{◌≡◌, ◌<◌, ◌+◌, ℕ, List, [], ◌∷◌, ◌++◌, length, take, drop, ap, sym, ◌∙◌, subst, append_assoc, arith}
use Rattle.std.proofs.lemmas.List.{take_more, drop_more}
use Rattle.lw_names.specs.Naming.{MayBring}
use Rattle.lw_desk.specs.History.{MayGiveAll, names_given}
use Rattle.lw_desk.specs.declared.ask.Give.{Give}
use Rattle.lw_sessions_tests.proofs.TestTrials.{given_more}
use Rattle.lw_sessions_tests.proofs.tests.desk.trial.after_gives.Goals as goal

pub loop-g-preserved : goal.loop-g-preserved
loop-g-preserved g c =
    let i : ℕ = c.loop-g.g-index in
    let gives = c.args.gives.now in
    let given = c.g-item.result in
    let names = c.loop-g.names.items in
    let e = c.after_give-names.ensures in
    let lt : i < length gives = omega arith in
    let front : take i gives ++ given ∷ [] ≡ take (i + 1) gives = ap (λ (x : Give). take i gives ++ x ∷ []) c.g-item.is ∙ sym (take_more gives i given lt) in
    let back : given ∷ drop (i + 1) gives ≡ drop i gives = ap (λ (x : Give). x ∷ drop (i + 1) gives) c.g-item.is ∙ sym (drop_more gives i given lt) in
    let own : c.after_give-names.result.items ≡ names ++ given.names = e.own ∙ ap (λ (l : List (List ℕ)). l ++ given.names) c.deref.ensures.value in
    record {
      own = own
          ∙ (ap (λ (l : List (List ℕ)). l ++ given.names) c.loop-g.invariant.own
          ∙ (append_assoc c.args.own.now (names_given (take i gives)) given.names
          ∙ ap (λ (l : List (List ℕ)). c.args.own.now ++ l) (sym (given_more (take i gives) given) ∙ ap names_given front)));
      may = λ rest. c.loop-g.invariant.may (subst (MayGiveAll c.args.words.now c.args.free names) back (
        subst (λ (l : List (List ℕ)). MayBring c.args.free l given.names given.outs) c.deref.ensures.value e.may,
        e.long,
        subst (λ (l : List (List ℕ)). MayGiveAll c.args.words.now c.args.free l (drop (i + 1) gives)) own rest,
      ));
    }
