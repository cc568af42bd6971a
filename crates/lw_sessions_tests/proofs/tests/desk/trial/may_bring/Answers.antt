use Rattle.std.proofs.Common.{◌≡◌, ◌<◌, ◌≤◌, ℕ, List, ◌++◌, length, take, All, refl, subst, arith}
use Rattle.std.proofs.lemmas.List.{take_at, drop_at, nil_from_length}
use Rattle.std.proofs.lemmas.List.Elements.{All-drop}
use Rattle.lw_words.specs.Word.{IsName, AllDiffer, named}
use Rattle.lw_names.specs.Names.{with_names}
use Rattle.lw_sessions_tests.proofs.tests.desk.trial.may_bring.Goals as goal

pub returns : goal.returns
returns c so =
    let own = c.args.own.now in
    let names = c.args.names.now in
    let all = c.args.all.now in
    let outs = c.args.outs.now in
    let e : all ≡ own ++ names = c.requires in
    let apart = c.differ.ensures.differ c.if-not-differ.false in
    let each : All IsName (own ++ names) = subst (All IsName) e (c.differ.ensures.names c.if-not-differ.false) in
    let order : all ≡ with_names (take (length own) all) (named all outs) = c.come_in_order.ensures so in
    record {
      numbers = subst (λ (l : List (List ℕ)). All (λ y. y < length l) outs) e (c.below.ensures c.if-not-below.false);
      new = subst (λ (l : List (List ℕ)). own ++ names ≡ with_names l (named (own ++ names) outs)) (take_at own names (length own) refl)
          (subst (λ (l : List (List ℕ)). l ≡ with_names (take (length own) l) (named l outs)) e order);
      each = subst (All IsName) (drop_at own names (length own) refl) (All-drop IsName (length own) (own ++ names) each);
      differ = subst AllDiffer e apart;
      declared = λ off. nil_from_length names (omega (arith, c.few_enough.ensures.declared c.if-not-few_enough.false off, c.len.ensures));
      few = λ on. subst (λ (l : List (List ℕ)). length l ≤ 256) e (c.few_enough.ensures.free c.if-not-few_enough.false on);
    }
