use Rattle.std.proofs.Common.{◌≡◌, ◌∙◌, List, ℕ, Option, None, false, length, ap, subst, sym}
use Rattle.lw_learn.specs.Calls.{write_of}
use Rattle.lw_system.specs.Reads.{gained}
use Rattle.lw_learn.specs.Writing.{StandsInFile, StaysBesides}
use Rattle.lw_outside.specs.Files.{Call}
use Rattle.lw_learn.proofs.WriteLemmas.{always, stands_beside, take_front}
use Rattle.lw_learn.proofs.writing.write_files.Goals as goal

pub returns-clause-model : goal.returns-clause-model
returns-clause-model g c =
    let F = g.F.Files in
    let a = c.args.arguments.now in
    let before = (F.state c.write_named.new.files).holds in
    let now = (F.state c.write_named-2.new.files).holds in
    let bytes = c.args.texts.now.model.items in
    let stands : StandsInFile a.model before bytes =
    subst (λ (b : List ℕ). StandsInFile a.model before b) c.deref.ensures.value (subst (λ (m : Option (List ℕ)). StandsInFile m before c.deref.result.now) c.model.ensures c.in_ok-write_named.ensures.told) in
    let stays : StaysBesides a.answers None None before now = subst (λ (m : Option (List ℕ)). StaysBesides m None None before now) c.answers.ensures c.write_named-2.ensures.beside in
    always c.write_named-2.result (λ differ. stands_beside a.model a.answers before now bytes differ stays stands)

pub returns-clause-memory : goal.returns-clause-memory
returns-clause-memory g c is =
    let F = g.F.Files in
    let a = c.args.arguments.now in
    let front = write_of a.model false in
    let first : (F.state c.write_named.new.files).calls ≡ gained front (F.state c.args.files.now).calls =
    subst (λ (m : Option (List ℕ)). (F.state c.write_named.new.files).calls ≡ gained (write_of m false) (F.state c.args.files.now).calls) c.model.ensures c.in_ok-write_named.ensures.ok in (
      length front,
      c.write_named-2.ensures.memory is ∙ (first ∙ ap (λ (l : List Call). gained l (F.state c.args.files.now).calls) (sym (take_front front (write_of a.answers false)))),
    )
