use Rattle.std.proofs.Common.{get_or, refl, arith}
use Rattle.std.proofs.lemmas.Bool.{false≢true}
use Rattle.lw_words.specs.Word.{answers_of}
use Rattle.lw_apart.proofs.BehindLemmas.{parting_unknown, parting_later}
use Rattle.lw_apart.proofs.apart.parts_behind.Goals as goal

pub returns-then-not-is_known : goal.returns-then-not-is_known
returns-then-not-is_known c =
    let unknown = parting_unknown c.args.h.now.rows (answers_of c.args.cache.now.kept) c.args.word.now c.args.p c.args.q c.args.letters.now c.loop-letter.word c.push.new.self c.loop-letter.first c.loop-letter.second c.loop-letter.letter-index
    (get_or c.args.letters.now c.loop-letter.letter-index 0) (omega arith) refl c.in_ok-push.ensures.ok c.loop-letter.invariant (c.is_known.ensures.no c.if-not-is_known.true) in
    (λ e. absurd (false≢true e), λ parts. absurd (unknown parts))

pub loop-letter-preserved : goal.loop-letter-preserved
loop-letter-preserved c =
    parting_later c.args.h.now.rows (answers_of c.args.cache.now.kept) c.args.word.now c.args.p c.args.q c.args.letters.now c.loop-letter.word c.push.new.self c.loop-letter.first c.loop-letter.second c.loop-letter.letter-index
    (get_or c.args.letters.now c.loop-letter.letter-index 0) (omega arith) refl c.in_ok-push.ensures.ok c.loop-letter.invariant
    c.step-one.result c.step-other.result c.step-one.ensures.value c.step-other.ensures.value c.if-one-other.false c.step-one.ensures.state c.step-other.ensures.state
