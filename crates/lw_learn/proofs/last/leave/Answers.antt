use Rattle.std.proofs.Common.{◌∙◌, List, ℕ, inr, refl, subst}
use Rattle.lw_learn.specs.Saving.{IsWritten}
use Rattle.lw_learn.proofs.last.leave.Goals as goal

pub returns-in-Ok-clause-left : goal.returns-in-Ok-clause-left
returns-in-Ok-clause-left g c =
    let F = g.F.Files in
    let before = F.state c.args.files.now in
    let now = F.state c.write_text.new.files in
    let was = c.write_text.result in
    inr (record {
      machine = c.args.machine.now;
      complete = c.inputs-letters.ensures.complete;
      inputs_are = refl;
      outputs_are = refl;
      was = was;
      written = subst (λ (bytes : List ℕ). IsWritten c.args.name.now bytes before now was) (c.deref.ensures.value ∙ c.in-Ok.ensures) c.write_text.ensures.written;
      beside = c.write_text.ensures.beside;
    })
