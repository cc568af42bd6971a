use Rattle.std.proofs.Common.{◌≡◌, ◌∙◌, List, ℕ, ap, map, string_bytes, subst, sym, Some}
use Rattle.lw_json.specs.Formats.{WrittenAnswers, numbered_answer, each_of, AreInputs}
use Rattle.lw_json.specs.AnswersFault.{SaysAnswersFault}
use Rattle.lw_json.specs.bodies.AnswersParts.{said_answer, said_answers, written}
use Rattle.lw_json.proofs.AnswersFaults.{inputs_fault, outputs_fault}
use Rattle.lw_json.proofs.Faults.{handed_on}
use Rattle.lw_json.proofs.KeptLemmas.{are_over}
use Rattle.lw_json.proofs.answers_reader.answers_of.Goals as goal

pub returns-in_err-inputs-clause-err : goal.returns-in_err-inputs-clause-err
returns-in_err-inputs-clause-err c =
    let w : WrittenAnswers = said_answers c.args.said.now in
    handed_on (SaysAnswersFault w) c.from_residual.result c.in_err-inputs.field-0.0 c.from_residual.ensures.1
    (inputs_fault w c.in_err-inputs.field-0.0 (rw c.deref.ensures.value at c.in_err-inputs.ensures.err))

pub returns-in_err-outputs-clause-err : goal.returns-in_err-outputs-clause-err
returns-in_err-outputs-clause-err c =
    let w : WrittenAnswers = said_answers c.args.said.now in
    let in_is : c.in_ok-inputs.inputs ≡ w.inputs = c.in_ok-inputs.ensures.ok ∙ ap (map (λ s. string_bytes s)) c.deref.ensures.value in
    let inputs : AreInputs w.inputs = subst (λ (l : List (List ℕ)). AreInputs l) in_is c.in_ok-inputs.ensures.names in
    handed_on (SaysAnswersFault w) c.from_residual-in_err-outputs.result c.in_err-outputs.field-0.0 c.from_residual-in_err-outputs.ensures.1
    (outputs_fault w c.in_err-outputs.field-0.0 inputs (rw c.deref-2.ensures.value at c.in_err-outputs.ensures.err))

pub returns-in_err-kept-clause-err : goal.returns-in_err-kept-clause-err
returns-in_err-kept-clause-err c =
    let w : WrittenAnswers = said_answers c.args.said.now in
    let in_is : c.in_ok-inputs.inputs ≡ w.inputs = c.in_ok-inputs.ensures.ok ∙ ap (map (λ s. string_bytes s)) c.deref.ensures.value in
    let out_is : c.in_ok-outputs.outputs ≡ w.outputs = c.in_ok-outputs.ensures.ok ∙ ap (map (λ s. string_bytes s)) c.deref-2.ensures.value in
    let told : SaysAnswersFault (written c.in_ok-inputs.inputs c.in_ok-outputs.outputs w.answers) c.in_err-kept.field-0.0 = rw c.deref-3.ensures.value at c.in_err-kept.ensures.err in
    let over : SaysAnswersFault (written w.inputs c.in_ok-outputs.outputs w.answers) c.in_err-kept.field-0.0 =
    subst (λ (i : List (List ℕ)). SaysAnswersFault (written i c.in_ok-outputs.outputs w.answers) c.in_err-kept.field-0.0) in_is told in
    handed_on (SaysAnswersFault w) c.from_residual-in_err-kept.result c.in_err-kept.field-0.0 c.from_residual-in_err-kept.ensures.1
    (subst (λ (o : List (List ℕ)). SaysAnswersFault (written w.inputs o w.answers) c.in_err-kept.field-0.0) out_is over)

pub invariant_of-result : goal.invariant_of-result
invariant_of-result c =
    let w : WrittenAnswers = said_answers c.args.said.now in
    let kept : each_of (numbered_answer c.in_ok-inputs.inputs c.in_ok-outputs.outputs) w.answers ≡ Some c.in_ok-kept.kept.answers = rw c.deref-3.ensures.value at c.in_ok-kept.ensures.ok in
    record {
      few = c.in_ok-inputs.ensures.names.1;
      over = are_over c.in_ok-inputs.inputs c.in_ok-outputs.outputs said_answer (λ a. a.known) c.args.said.now.answers.items c.in_ok-kept.kept.answers kept c.in_ok-kept.ensures.even;
    }

pub returns-clause-ok : goal.returns-clause-ok
returns-clause-ok c =
    let w : WrittenAnswers = said_answers c.args.said.now in
    let in_is : c.in_ok-inputs.inputs ≡ w.inputs = c.in_ok-inputs.ensures.ok ∙ ap (map (λ s. string_bytes s)) c.deref.ensures.value in
    let out_is : c.in_ok-outputs.outputs ≡ w.outputs = c.in_ok-outputs.ensures.ok ∙ ap (map (λ s. string_bytes s)) c.deref-2.ensures.value in
    let kept : each_of (numbered_answer c.in_ok-inputs.inputs c.in_ok-outputs.outputs) w.answers ≡ Some c.in_ok-kept.kept.answers = rw c.deref-3.ensures.value at c.in_ok-kept.ensures.ok in
    record {
      inputs = sym in_is;
      outputs = sym out_is;
      answers = kept;
      even = c.in_ok-kept.ensures.even;
      inputs_named = c.in_ok-inputs.ensures.names;
      outputs_named = c.in_ok-outputs.ensures.names;
    }
