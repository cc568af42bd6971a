use Rattle.std.proofs.Common.{map, string_bytes, ap, ◌∙◌}
use Rattle.lw_words.specs.Word.{number_of}
use Rattle.lw_words.proofs.NumberLemmas.{number_found, number_stands}
use Rattle.lw_words.proofs.names.Names.number.Goals as goal

pub returns-clause-value : goal.returns-clause-value
returns-clause-value c =
    c.copied.ensures
    ∙ (c.get.ensures.value
    ∙ (number_found c.self.inside.numbers (map (λ s. string_bytes s) c.self.inside.names.items) c.args.name.now c.self.invariant.1 c.self.invariant.0.differ ∙ ap (number_of c.args.name.now) c.self.view_is))

pub returns-clause-inverse : goal.returns-clause-inverse
returns-clause-inverse c = number_stands c.args.name.now c.args.self.now c.copied.result (returns-clause-value c)
