use Rattle.std.proofs.Common.{◌∙◌, ◌<◌, ◌∷◌, ◌++◌, [], ℕ, List, length, ap, sym, subst}
use Rattle.std.specs.List.{All}
use Rattle.lw_words.specs.declared.kept.KeptAnswer.{KeptAnswer}
use Rattle.lw_words.specs.Word.{named}
use Rattle.lw_recheck.proofs.keeping.keep_other.Goals as goal

pub joined-requires : goal.joined-requires
joined-requires g c = subst (λ (l : List ℕ). All (λ y. y < length (g.S.Sul.state c.args.sul.now).names) l) (sym c.as_slice.ensures) c.requires.below

pub renamed-requires : goal.renamed-requires
renamed-requires g c = subst (λ (l : List ℕ). All (λ y. y < length (g.S.Sul.state c.args.sul.now).names) l) (sym c.as_slice-2.ensures) c.requires.below

pub returns-clause-ok : goal.returns-clause-ok
returns-clause-ok g c =
    let own = (g.S.Sul.state c.args.sul.now).names in
    let other = c.args.other.now in
    let answers = c.args.kept.now.answers in
    record {
      outs = c.in_ok-outs.outs;
      grown = c.in_ok-names.ensures.grown;
      below = c.in_ok-outs.ensures.below;
      shown_is = c.in_ok-outs.ensures.named ∙ ap (λ (l : List ℕ). named own l) c.as_slice-2.ensures;
      kept_is = c.in_ok-push_answer.ensures.ok
          ∙ ap (λ (w : List ℕ). let one : KeptAnswer = record { instance = 0; run = other.number; word = w; outs = c.in_ok-outs.outs } in answers ++ one ∷ []) c.in_ok-word.ensures;
    }
