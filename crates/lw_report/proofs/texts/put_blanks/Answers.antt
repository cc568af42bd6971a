use Rattle.std.proofs.Common.{◌∙◌, ◌++◌, [], List, ℕ, get_or, take, codes, string_bytes, ap, sym}
use Rattle.std.specs.List.{flat_map}
use Rattle.std.proofs.lemmas.List.{flat_map_more, take_more}
use Rattle.lw_words.specs.Word.{name_at}
use Rattle.lw_report.proofs.texts.put_blanks.Goals as goal

pub loop-letter-preserved : goal.loop-letter-preserved
loop-letter-preserved c =
    let f : ℕ → List ℕ = λ y. codes " " ++ name_at [] y in
    let rest : List ℕ = c.in-Some.rest.now in
    let i : ℕ = c.loop-letter._letter-index in
    let x : ℕ = get_or rest i 0 in
    c.in_ok-push_str.ensures.bytes
    ∙ (ap (λ (t : List ℕ). t ++ codes " ") c.loop-letter.invariant
    ∙ (flat_map_more f (string_bytes c.args.text.now) (take i rest) x
    ∙ ap (λ (l : List ℕ). string_bytes c.args.text.now ++ flat_map f l) (sym (take_more rest i 0 c.loop-letter-test.true))))
