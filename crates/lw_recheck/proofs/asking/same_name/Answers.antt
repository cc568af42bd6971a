use Rattle.std.proofs.Common.{◌≡◌, ◌∙◌, ◌↔◌, List, ℕ, rules, subst₂, sym}
use Rattle.std.specs.Prelude.{IsTrue}
use Rattle.lw_words.specs.Word.{name_at}
use Rattle.lw_names.proofs.NameLemmas.{is_name_at}
use Rattle.lw_recheck.proofs.asking.same_name.Goals as goal

pub returns : goal.returns
returns g c =
    let outputs = c.args.outputs.now in
    let own = (g.S.Sul.state c.args.sul.now).names in
    let here : name_at outputs c.args.known ≡ c.name.result.now = is_name_at outputs c.args.known c.name.result.now c.name.ensures.value in
    let one : c.as_bytes.result.now ≡ name_at outputs c.args.known = c.as_bytes.ensures.value ∙ sym here in
    let two : c.as_slice.result.now ≡ name_at own c.args.given = c.as_slice.ensures.value ∙ c.name-2.ensures in
    let bytes : IsTrue c.eq.result ↔ (c.as_bytes.result.now ≡ c.as_slice.result.now) = search rules in
    subst₂ (λ (a b : List ℕ). IsTrue c.eq.result ↔ (a ≡ b)) one two bytes
