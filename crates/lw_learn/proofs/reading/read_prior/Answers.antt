use Rattle.lw_learn.proofs.ReadLemmas.{prior_read, prior_unread}
use Rattle.lw_learn.proofs.reading.read_prior.Goals as goal

pub returns-in-Ok : goal.returns-in-Ok
returns-in-Ok g c = prior_read c.args.name.now c.args.system (g.F.Files.state c.args.files.now) (g.F.Files.state c.read_answers_file.new.files) c.read_answers_file.result c.in-Ok.answers c.with_answers.result c.read_answers_file.ensures c.in-Ok.is c.with_answers.ensures.ok c.with_answers.ensures.err

pub returns-in-Err : goal.returns-in-Err
returns-in-Err g c = prior_unread c.args.name.now c.args.system (g.F.Files.state c.args.files.now) (g.F.Files.state c.read_answers_file.new.files) c.read_answers_file.result c.in-Err.stop c.unread_prior.result c.read_answers_file.ensures c.in-Err.is c.unread_prior.ensures.outcome c.unread_prior.ensures.system c.unread_prior.ensures.kept
