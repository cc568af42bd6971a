use Rattle.std.proofs.Common.{rules, ◌≡◌, ◌∙◌, List, ℕ, map, get_or, ap₂, sym, subst}
use Rattle.lw_words.specs.Word.{IsWord}
use Rattle.lw_compare.specs.Comparing.{translated}
use Rattle.lw_compare.proofs.NameLemmas.{translated_is, translated_word}
use Rattle.lw_compare.proofs.comparing.translate.Goals as goal

pub returns-clause-value : goal.returns-clause-value
returns-clause-value c =
    let letters : c.deref.result.now ≡ c.args.by.now.letters.items = search rules in
    c.renumber.ensures
    ∙ (ap₂ (λ (to w : List ℕ). map (λ y. get_or to y 0) w) letters c.in_ok-other.ensures
    ∙ translated_is c.args.first.now c.args.second.now c.args.by.now.letters.items c.args.by.now.outputs.items c.requires.by c.args.word.now c.requires.word)

pub returns-clause-word : goal.returns-clause-word
returns-clause-word c =
    let letters : c.deref.result.now ≡ c.args.by.now.letters.items = search rules in
    let value : c.renumber.new.self ≡ translated c.args.first.now.inputs c.args.second.now.inputs c.args.word.now =
    c.renumber.ensures
    ∙ (ap₂ (λ (to w : List ℕ). map (λ y. get_or to y 0) w) letters c.in_ok-other.ensures
    ∙ translated_is c.args.first.now c.args.second.now c.args.by.now.letters.items c.args.by.now.outputs.items c.requires.by c.args.word.now c.requires.word) in
    subst (IsWord c.args.second.now.mealy.inputs) (sym value) (translated_word c.args.first.now c.args.second.now c.args.by.now.letters.items c.args.by.now.outputs.items c.requires.by c.args.word.now c.requires.word)
