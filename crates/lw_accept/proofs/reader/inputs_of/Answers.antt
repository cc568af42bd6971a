use Rattle.std.proofs.Common.{◌≡◌, ◌∙◌, ◌≤◌, ℕ, List, Some, None, length, map, string_bytes, slice_get, ap, sym, subst, arith}
use Rattle.std.proofs.lemmas.List.{length-map}
use Rattle.lw_words.specs.Word.{IsNames, number_of}
use Rattle.lw_accept.specs.Acceptor.{question}
use Rattle.lw_accept.specs.bodies.Parts.{said_acceptor}
use Rattle.lw_accept.proofs.NameLemmas.{not_contained}
use Rattle.lw_accept.proofs.reader.inputs_of.Goals as goal

pub returns-in-Some-clause-err : goal.returns-in-Some-clause-err
returns-in-Some-clause-err c =
    let inputs : List (List ℕ) = (said_acceptor c.args.said.now).inputs in
    let is : c.in-Ok.names ≡ inputs = c.in-Ok.ensures.ok ∙ ap (map (λ s. string_bytes s)) c.deref.ensures.value in
    let few : length inputs ≤ 63 = omega (arith, c.in-Ok.ensures.few, length-map c.args.said.now.inputs.items (λ s. string_bytes s), ap length c.deref.ensures.value) in
    let at : slice_get c.in-Ok.names c.from.result ≡ Some question = ap (slice_get c.in-Ok.names) c.from.ensures ∙ c.in-Some.ensures.inverse in
    ((subst (λ (l : List (List ℕ)). IsNames l) is c.in-Ok.ensures.names, few), subst (λ (l : List (List ℕ)). slice_get l c.from.result ≡ Some question) is at)

pub returns-in-None-clause-free : goal.returns-in-None-clause-free
returns-in-None-clause-free c =
    let inputs : List (List ℕ) = (said_acceptor c.args.said.now).inputs in
    let is : c.in-Ok.names ≡ inputs = c.in-Ok.ensures.ok ∙ ap (map (λ s. string_bytes s)) c.deref.ensures.value in
    let few : length inputs ≤ 63 = omega (arith, c.in-Ok.ensures.few, length-map c.args.said.now.inputs.items (λ s. string_bytes s), ap length c.deref.ensures.value) in
    let named : IsNames inputs = subst (λ (l : List (List ℕ)). IsNames l) is c.in-Ok.ensures.names in
    let none : number_of question inputs ≡ None = ap (number_of question) (sym is) ∙ (sym c.number.ensures.value ∙ c.in-None.is) in
    ((named, few), not_contained inputs question named.differ none)
