use Rattle.std.proofs.Common.{◌≡◌, ◌∙◌, ap, sym, refl, Bool, List, ℕ, Option, Some, None, option_map}
use Rattle.clap.specs.Words.{found_of, rows_of}
use Rattle.lw_learn.specs.Arguments.{LearnValues}
use Rattle.lw_system.specs.declared.goal.Goal.{Goal}
use Rattle.lw_system.specs.declared.source.Source.{Source}
use Rattle.lw_top.specs.LearnCommand.{DrawValues, LearnFileNames, SettingValues, draw_values, drawn_in, file_names, learn_values_from, settings_by, source_in, verbose_in}
use Rattle.lw_top.proofs.arguments.learn.values_for.Goals as goal

-- where nothing can be drawn, nothing is learned
no_draws : (aim : Goal) (system : Option (Source × List ℕ)) (settings : Option SettingValues) (drawn : Option DrawValues) (files : LearnFileNames) (verbose : Bool) → drawn ≡ None → learn_values_from aim system settings drawn files verbose ≡ None
no_draws aim None settings drawn files verbose is = refl
no_draws aim (Some system) None drawn files verbose is = refl
no_draws aim (Some system) (Some settings) None files verbose is = refl
no_draws aim (Some system) (Some settings) (Some drawn) files verbose is = absurd (let wrong : ◌≡◌ {A = Option DrawValues} (Some drawn) None = is in cc)

pub returns-in_default-clause-refused : goal.returns-in_default-clause-refused
returns-in_default-clause-refused c usage =
    let rows = rows_of (found_of c.args.matches.now) in
    no_draws c.args.goal (source_in rows) (settings_by c.args.suite rows) (drawn_in rows) (file_names c.args.files) (verbose_in rows) (sym c.draws_at.ensures.value ∙ ap (option_map draw_values) c.in_default.is)
