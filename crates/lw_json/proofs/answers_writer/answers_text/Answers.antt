use Rattle.std.proofs.Common.{◌≡◌, ◌∙◌, ◌++◌, ◌∷◌, [], ap, sym, subst, List, ℕ, Some, false, map, length, refl}
use Rattle.std.specs.Str.{IsUtf8}
use Rattle.std.proofs.lemmas.List.Sorted.{All-permutation}
use Rattle.std.proofs.lemmas.Str.{IsUtf8-append}
use Rattle.json.proofs.Printed.Utf8.{IsUtf8-are_ascii}
use Rattle.serde_json.specs.Read.{read}
use Rattle.lw_words.specs.declared.kept.KeptAnswer.{KeptAnswer}
use Rattle.lw_json.specs.AnswersText.{IsWrittenOrder, answers_data}
use Rattle.lw_json.specs.Formats.{whole}
use Rattle.lw_json.specs.Journal.{is_journal}
use Rattle.lw_json.specs.KeptOver.{IsKeptOver, AreKeptOver}
use Rattle.lw_json.proofs.AnswersRoundTrip.{no_journal, written_of, says_it, spelled}
use Rattle.lw_json.proofs.LineFeed.{read-line_feed}
use Rattle.lw_json.proofs.answers_writer.answers_text.Goals as goal

-- the order of what was sorted, read through a slice
in_order : {V : Type 0} (v : V → KeptAnswer) (kept : List KeptAnswer) (xs ys zs : List V) → map v xs ≡ kept → zs ≡ ys → IsWrittenOrder (map v xs) (map v ys) → IsWrittenOrder kept (map v zs)
in_order v kept xs ys zs same slice h = subst (λ (l : List _). IsWrittenOrder kept (map v l)) (sym slice) (subst (λ (k : List KeptAnswer). IsWrittenOrder k (map v ys)) same h)

pub returns-clause-text : goal.returns-clause-text
returns-clause-text c =
    let ys : List KeptAnswer = map (λ k. k.now) c.deref.result.now in
    let order : IsWrittenOrder c.args.kept.now.answers ys =
    in_order (λ k. k.now) c.args.kept.now.answers c.in_ok-answers.answers.items c.sort.new.all.items c.deref.result.now c.in_ok-answers.ensures c.deref.ensures.value c.in_ok-sort.ensures in
    (ys, order, c.in_ok-push.ensures.items ∙ ap (λ (t : List ℕ). t ++ 10 ∷ []) c.in_ok-text.ensures.text.compact)

pub returns-clause-read_back : goal.returns-clause-read_back
returns-clause-read_back c a in_is out_is order' =
    let inputs = c.args.inputs.now in
    let outputs = c.args.outputs.now in
    let ys : List KeptAnswer = map (λ k. k.now) c.deref.result.now in
    let order : IsWrittenOrder c.args.kept.now.answers ys =
    in_order (λ k. k.now) c.args.kept.now.answers c.in_ok-answers.answers.items c.sort.new.all.items c.deref.result.now c.in_ok-answers.ensures c.deref.ensures.value c.in_ok-sort.ensures in
    let over : AreKeptOver (length inputs) (length outputs) ys = All-permutation (IsKeptOver (length inputs) (length outputs)) c.args.kept.now.answers ys order.same c.requires.over in
    let d = answers_data inputs outputs ys in
    let made = c.in_ok-text.text.items in
    let is = c.in_ok-text.ensures.text in
    let written : c.push.new.self.items ≡ made ++ 10 ∷ [] = c.in_ok-push.ensures.items in
    let back : read c.push.new.self.items ≡ Some d = ap read written ∙ (read-line_feed made d is.printed is.order ∙ is.read) in
    let other : is_journal c.push.new.self.items ≡ false = ap is_journal (written ∙ ap (λ (t : List ℕ). t ++ 10 ∷ []) is.compact) ∙ no_journal inputs outputs ys in
    let utf8 : IsUtf8 c.push.new.self.items = subst IsUtf8 (sym written) (IsUtf8-append made (10 ∷ []) is.utf8 (IsUtf8-are_ascii (10 ∷ []) refl)) in (
      whole d,
      (other, (utf8, back)),
      (
        written_of inputs outputs ys,
        says_it inputs outputs ys over,
        spelled inputs outputs c.in_ok-text.ensures.inputs c.in_ok-text.ensures.outputs c.args.kept.now.answers ys a c.requires.few over in_is out_is order order',
      ),
    )
