use Rattle.std.proofs.Common.{ℕ, ◌∙◌, ◌++◌, ◌∷◌, [], List, OnOk, ap, subst}
use Rattle.lw_words.specs.declared.kept.KeptAnswer.{KeptAnswer}
use Rattle.lw_outside.specs.Streams.{TakesAll, TakesSome}
use Rattle.lw_ask.specs.Lines.{answer_line}
use Rattle.lw_ask.proofs.AskLemmas.{one_line, one_stop}
use Rattle.lw_ask.proofs.asking.ask_word.Goals as goal

pub returns-clause-ok : goal.returns-clause-ok
returns-clause-ok g c =
    let S = g.S.Sul in
    let O = g.O.Sink in
    let letters = c.args.letters.now in
    let k = c.in_ok-answer.answer in
    let was = c.in_ok-answer.ensures in
    let session = c.ask_one.new.session in
    let before = (O.state c.args.out.now).taken in
    let now = (O.state c.put_line-told.new.out).taken in
    let told = c.put_line-told.result in
    one_line (S.state c.args.session.now.sul).origin.machine letters c.args.word.now (S.state c.args.session.now.sul).names (S.state session.sul).names c.args.session.now.journal session.journal c.args.kept.now.answers c.keep.new.kept.answers before now k was.answer was.journal
    (c.keep.ensures ∙ ap (λ (ks : List KeptAnswer). ks ++ k ∷ []) was.kept) was.below was.given was.grown told
    (subst (λ (n : List (List ℕ)). OnOk told (TakesAll (answer_line letters n k) before now)) (ap (λ x. (S.state x).names) c.sul.ensures) c.put_line-told.ensures.ok)

pub returns-clause-err : goal.returns-clause-err
returns-clause-err g c =
    let S = g.S.Sul in
    let O = g.O.Sink in
    let letters = c.args.letters.now in
    let k = c.in_ok-answer.answer in
    let was = c.in_ok-answer.ensures in
    let session = c.ask_one.new.session in
    let before = (O.state c.args.out.now).taken in
    let now = (O.state c.put_line-told.new.out).taken in
    let told = c.put_line-told.result in
    one_stop (S.state c.args.session.now.sul).origin.machine letters c.args.word.now (S.state c.args.session.now.sul).names (S.state session.sul).names c.args.session.now.journal session.journal c.args.kept.now.answers c.keep.new.kept.answers before now k was.answer was.journal
    (c.keep.ensures ∙ ap (λ (ks : List KeptAnswer). ks ++ k ∷ []) was.kept) was.below was.given was.grown told
    (subst (λ (n : List (List ℕ)). TakesSome (answer_line letters n k) before now) (ap (λ x. (S.state x).names) c.sul.ensures) c.put_line-told.ensures.part) c.put_line-told.ensures.own
