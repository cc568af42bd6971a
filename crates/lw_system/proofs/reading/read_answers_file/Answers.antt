use Rattle.std.proofs.Common.{List, ℕ, subst, sym}
use Rattle.lw_json.specs.declared.fault.JsonFault.{JsonFault}
use Rattle.lw_json.specs.AnswersFault.{HasAnswersFault, IsAnswersFault}
use Rattle.lw_json.specs.Formats.{IsAnswersFile}
use Rattle.lw_system.proofs.ReadLemmas.{IsOfBytes, has_fault, no_answers, stops_of_bytes}
use Rattle.lw_system.proofs.reading.read_answers_file.Goals as goal

pub returns : goal.returns
returns g c =
    let F = g.F.Files in
    let read = c.in-Ok.ensures in
    let bytes : List ℕ = c.in-Ok.bytes.items in
    let own : JsonFault = c.in-Err-read_answers.fault in
    let has : HasAnswersFault bytes own = subst (λ (b : List ℕ). HasAnswersFault b own) c.deref.ensures.value c.in-Err-read_answers.ensures.err in
    has_fault IsAnswersFile IsAnswersFault c.args.name.now
    (F.state c.args.files.now)
    (F.state c.read.new.self)
    bytes c.from-in-Err-read_answers.result
    (record {
      read = record { given = read.given; short = read.short; held = read.told };
      calls = read.ok;
      quiet = read.quiet;
      counts = read.counts;
      same = read.same;
    })
    (subst (IsOfBytes IsAnswersFile IsAnswersFault bytes) (sym c.from-in-Err-read_answers.ensures) (stops_of_bytes IsAnswersFile HasAnswersFault no_answers bytes own has))
