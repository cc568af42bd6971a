use Rattle.std.proofs.Common.{subst}
use Rattle.std.specs.List.{All}
use Rattle.lw_words.specs.Word.{answers_of}
use Rattle.lw_cache.specs.Known.{IsKnown}
use Rattle.lw_certify.specs.bodies.Stages.{IsFirstUnknown}
use Rattle.lw_certify.proofs.EnoughLemmas.{covers_told}
use Rattle.lw_certify.proofs.certificate.judge_apart.Goals as goal

pub returns-in_default : goal.returns-in_default
returns-in_default g c =
    let h = c.args.h.now in
    let ks = answers_of c.args.cache.now.kept in
    let suite = g.S.Chunks.left c.args.suite.now in
    let known : All (IsKnown ks) suite = subst (IsFirstUnknown ks suite) c.in_default.is c.in_ok-missing.ensures in
    (c.requires.minimal, c.requires.given, c.requires.size, covers_told h.rows ks suite known h.inputs c.args.extra c.requires.minimal c.requires.given c.requires.suite.tells)
