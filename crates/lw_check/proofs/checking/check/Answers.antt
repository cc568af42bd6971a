use Rattle.std.proofs.Common.{rules, ◌≡◌, ◌∙◌, List, [], ap, refl, subst, inl, inr, string_bytes}
use Rattle.lw_words.specs.declared.kept.KeptAnswer.{KeptAnswer}
use Rattle.lw_report.specs.Text.{text_of}
use Rattle.lw_report.specs.Writing.{TakesAll, TakesSome}
use Rattle.lw_check.specs.Decision.{pair_of}
use Rattle.lw_check.proofs.EndLemmas.{still_unread, exact_unread, exact_read, yes_is_fixed}
use Rattle.lw_check.proofs.checking.check.Goals as goal

pub returns-in-Err-clause-ran : goal.returns-in-Err-clause-ran
returns-in-Err-clause-ran g c = record {
  no_model = search rules;
  no_learner = search rules;
  untouched = search rules;
  ended =
      let F = g.F.Files in
      let E = g.E.Sink in
      let none : c.refuse.result.kept.answers ≡ [] = ap (λ k. k.answers) c.refuse.ensures.kept ∙ c.new-kept.ensures in
      let said = subst (λ (kept : List KeptAnswer). TakesAll (text_of [] [] kept c.args.arguments.now.extra c.refuse.result.outcome) (E.state c.args.err.now).taken (E.state c.refuse.new.err).taken) c.new-kept.ensures in
      let part = subst (λ (kept : List KeptAnswer). TakesSome (text_of [] [] kept c.args.arguments.now.extra c.refuse.result.outcome) (E.state c.args.err.now).taken (E.state c.refuse.new.err).taken) c.new-kept.ensures in
      inl (record {
        cause = still_unread c.args.arguments.now.goal (string_bytes c.args.arguments.now.model) (string_bytes c.args.arguments.now.answers) (F.state c.args.files.now) (F.state c.read_named.new.files) c.in-Err.outcome c.refuse.result.outcome c.in-Err.ensures.err c.refuse.ensures.outcome;
        kept_none = none;
        unnamed = c.refuse.ensures.named;
        unwritten = refl {a = g.O.Sink.state c.args.out.now};
        said = λ quiet. said (c.refuse.ensures.said quiet);
        said_part = part c.refuse.ensures.part;
      });
  exact = λ m a decision tm ta d.
      let F = g.F.Files in
      let before = F.state c.args.files.now in
      let now = F.state c.read_named.new.files in
      exact_unread c.args.arguments.now.goal (string_bytes c.args.arguments.now.model) (string_bytes c.args.arguments.now.answers) before now m a decision c.refuse.result.outcome (still_unread c.args.arguments.now.goal (string_bytes c.args.arguments.now.model) (string_bytes c.args.arguments.now.answers) before now c.in-Err.outcome c.refuse.result.outcome c.in-Err.ensures.err c.refuse.ensures.outcome) tm ta;
  sure = search rules;
}

pub returns-clause-ran : goal.returns-clause-ran
returns-clause-ran g c = record {
  no_model = search rules;
  no_learner = search rules;
  untouched = search rules;
  ended =
      let told = c.finish.ensures in
      inr (record {
        pair = pair_of c.in-Ok.read.machine c.in-Ok.read.answers;
        read = c.in-Ok.ensures.ok;
        kept_all = told.kept;
        named = told.outputs;
        comes = told.comes;
        quiet = told.quiet;
        written = told.written;
        unwritten = told.unwritten;
        said = told.said;
        said_part = told.said_part;
      });
  exact = λ m a decision tm ta d.
      let F = g.F.Files in
      let O = g.O.Sink in
      let before = F.state c.args.files.now in
      let now = F.state c.read_named.new.files in
      exact_read c.args.arguments.now.goal c.args.arguments.now.suite (string_bytes c.args.arguments.now.model) (string_bytes c.args.arguments.now.answers) before now _ c.args.arguments.now.extra (O.state c.args.out.now) (O.state c.finish.new.out) m a decision c.finish.result.outcome c.in-Ok.ensures.ok c.finish.ensures.comes tm ta d;
  sure = λ states is.
      let O = g.O.Sink in
      let fixed = yes_is_fixed c.args.arguments.now.suite (pair_of c.in-Ok.read.machine c.in-Ok.read.answers) c.args.arguments.now.extra (O.state c.args.out.now) (O.state c.finish.new.out) states c.finish.result.outcome c.finish.ensures.complete.machine c.finish.ensures.comes is in
      (pair_of c.in-Ok.read.machine c.in-Ok.read.answers, c.in-Ok.ensures.ok, fixed.0, fixed.1);
}
