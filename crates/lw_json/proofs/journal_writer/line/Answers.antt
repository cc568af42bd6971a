use Rattle.std.proofs.Common.{◌≡◌, ◌∙◌, ◌++◌, ◌∷◌, [], ap, List, ℕ}
use Rattle.json.specs.Lex.{tokens}
use Rattle.json.specs.Print.{print}
use Rattle.lw_json.proofs.TokenLemmas.{compact_made}
use Rattle.lw_json.proofs.journal_writer.line.Goals as goal

pub returns : goal.returns
returns c d none start put =
    let ts = c.args.out.tokens in
    let made = c.into_inner-text.result.items in
    let text : made ≡ print ts = c.into_inner-text.ensures.items ∙ ap (λ b. b ++ print ts) start in
    let same = ap tokens text ∙ c.into_inner-text.ensures.reads_back in
    c.in_ok-push.ensures.items ∙ ap (λ (t : List ℕ). t ++ 10 ∷ []) (compact_made d ts made put text same none)
