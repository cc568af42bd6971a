use Rattle.std.proofs.Common.{◌≡◌, ◌<◌, ℕ, List, length, Option, None, Some, MatchOption, IfNone, IfSome, codes, refl, subst}
use Rattle.lw_words.specs.Word.{IsName, number_of}
use Rattle.lw_names.specs.Names.{Brings}
use Rattle.lw_outside.specs.Protocol.{bytes_behind, out_line}
use Rattle.lw_line.specs.Transcripts.{number_behind}
use Rattle.lw_line.specs.bodies.Exchanges.{NamesNone}
use Rattle.lw_line.specs.bodies.Naming.{OutputNaming}
use Rattle.lw_line.proofs.Naming.{behind_is, starts_so, names_no_output, names_unknown, names_known}
use Rattle.lw_line.proofs.exchange.output_in.Goals as goal

pub returns-in_err-name-clause-cases : goal.returns-in_err-name-clause-cases
returns-in_err-name-clause-cases c =
    let p = c.in_ok-strip_prefix.ensures.cases in
    let outputs = c.args.outputs.now in
    let answer = c.args.answer.now in
    rw c.from_residual-in_err-name.ensures
    (names_no_output outputs.names outputs.most answer c.in_ok-strip_prefix.field-0.now c.len-names.ensures.lawful (behind_is (codes "out ") answer c.in_ok-strip_prefix.field-0.now p.0 p.1) c.in_err-name.ensures.none, refl)

tells : (before after : OutputNaming) (answer rest : List ℕ) (o : Option ℕ) → bytes_behind (codes "out ") answer ≡ Some rest → answer ≡ out_line rest → IsName rest
    → IfNone o ((number_of rest before.names ≡ None) × (length before.names ≡ before.most) × (after ≡ before))
    → IfSome o (λ y. (number_of rest after.names ≡ Some y) × Brings before.names after.names y × (y < before.range))
    → MatchOption o (NamesNone before.names before.most answer × (after ≡ before)) (λ y. number_behind (codes "out ") after.names answer ≡ Some y)
tells before after answer rest None is same name none some = (names_unknown before.names before.most answer rest is same name none.0 none.1, none.2)
tells before after answer rest (Some y) is same name none some = names_known after.names answer rest y is some.0

pub returns-clause-cases : goal.returns-clause-cases
returns-clause-cases c =
    let p = c.in_ok-strip_prefix.ensures.cases in
    let before = c.args.outputs.now in
    let after = c.number.new.self in
    let answer = c.args.answer.now in
    let rest = c.in_ok-strip_prefix.field-0.now in
    let is = c.in_ok-name.ensures.some in
    tells before after answer rest c.number.result (behind_is (codes "out ") answer rest p.0 p.1) (starts_so (codes "out ") answer rest p.0 p.1)
    (subst (λ (n : List ℕ). IsName n) is c.in_ok-name.ensures.lawful)
    (subst (λ (n : List ℕ). IfNone c.number.result ((number_of n before.names ≡ None) × (length before.names ≡ before.most) × (after ≡ before))) is c.number.ensures.none)
    (subst (λ (n : List ℕ). IfSome c.number.result (λ y. (number_of n after.names ≡ Some y) × Brings before.names after.names y × (y < before.range))) is c.number.ensures.some)
