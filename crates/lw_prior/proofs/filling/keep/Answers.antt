use Rattle.std.proofs.Common.{sym, subst}
use Rattle.lw_words.specs.Word.{answers_of}
use Rattle.lw_cache.specs.Caching.{kept_answer}
use Rattle.lw_prior.specs.Prior.{HasFirstClash}
use Rattle.lw_prior.proofs.FillLemmas.{so_far_ok, so_far_err, stopped}
use Rattle.lw_prior.proofs.filling.keep.Goals as goal

pub returns-in-Ok-clause-so_far : goal.returns-in-Ok-clause-so_far
returns-in-Ok-clause-so_far c =
    so_far_ok c.args.cache.now.kept c.keep-kept_one.new.self.kept (kept_answer c.args.instance c.args.run c.in_ok-word.word c.in_ok-outs.outs) c.in-Ok.ensures.kept c.args.clash c.requires.so_far c.in-Ok.ensures.ok

pub returns-in-Clash-clause-so_far : goal.returns-in-Clash-clause-so_far
returns-in-Clash-clause-so_far c =
    let k = kept_answer c.args.instance c.args.run c.in_ok-word.word c.in_ok-outs.outs in
    let t = stopped c.args.cache.now c.keep-kept_one.new.self k c.keep-kept_one.result c.in-Err.stop c.in-Clash.found c.in-Err.is c.in-Clash.is c.keep-kept_one.ensures.err in
    subst (HasFirstClash (answers_of c.keep-kept_one.new.self.kept)) (sym c.or.ensures)
    (so_far_err c.args.cache.now.kept c.keep-kept_one.new.self.kept k t.0 c.args.clash c.in-Clash.found c.requires.so_far t.1)
