use Rattle.std.proofs.Common.{◌≡◌, Err, ap, subst, sym, ◌∙◌, ◌++◌, ◌∷◌, [], ◌≤◌, length, List, ℕ}
use Rattle.lw_outside.specs.Files.{Holds, longest_of}
use Rattle.lw_report.specs.Stops.{read_outcome}
use Rattle.lw_report.specs.declared.role.Role.TheVariants.{Words}
use Rattle.lw_learn.proofs.WordLemmas.{named_read, named_unread, not_read_at}
use Rattle.lw_learn.proofs.asking.read_named.Goals as goal

pub returns-in-Err : goal.returns-in-Err
returns-in-Err g c =
    let F = g.F.Files in
    let name = c.args.name.now in
    let letters = c.args.inputs.now in
    let before = c.args.files.now in
    let now = c.read.new.self in
    let f = F.state before in
    let h = F.state now in
    let read = c.in-Err.ensures in
    let is = c.read_outcome.ensures ∙ ap (read_outcome Words) c.from.ensures in
    named_unread name letters f h c.read_outcome.result
    (not_read_at name letters f h c.in-Err.refusal c.read_outcome.result is (λ e. read.failed (ap (λ s. Err s) e)) (λ e. read.failed_call (ap (λ s. Err s) e)) (λ e. read.long (ap (λ s. Err s) e)) (λ e. read.long_call (ap (λ s. Err s) e)) (λ e. read.memory (ap (λ s. Err s) e)) read.withheld)
    read.same read.counts

pub returns : goal.returns
returns g c =
    let F = g.F.Files in
    let before = c.args.files.now in
    let now = c.read.new.self in
    let f = F.state before in
    let h = F.state now in
    let read = c.in-Ok.ensures in
    let words = c.words_in-words.ensures in
    named_read c.args.name.now c.args.inputs.now f h c.deref.result.now c.words_in-words.result
    (record { given = subst (λ (bytes : List ℕ). (F.state now).reads ≡ (F.state before).reads ++ (c.args.name.now, bytes) ∷ []) (sym c.deref.ensures.value) read.given; short = subst (λ (bytes : List ℕ). length bytes ≤ longest_of bytes) (sym c.deref.ensures.value) read.short; held = subst (λ (bytes : List ℕ). Holds (F.state before).holds c.args.name.now bytes) (sym c.deref.ensures.value) read.told })
    read.ok read.quiet read.same read.counts words.ok words.words words.err
