use Rattle.std.proofs.Common.{Bor, List, ℕ, Contains, IfOk, map, ap, subst, ◌∙◌}
use Rattle.std.specs.List.{All}
use Rattle.lw_wordlist.proofs.words.read_word.Goals as goal

pub returns-clause-all : goal.returns-clause-all
returns-clause-all c =
    subst (λ (ns : List (List ℕ)). IfOk c.word_from.result (λ w. All (Contains c.args.letters.now) ns)) (ap (λ (l : List (Bor (List ℕ))). map (λ x. x.now) l) c.deref.ensures.value ∙ c.in_ok-names.ensures) c.word_from.ensures.all
