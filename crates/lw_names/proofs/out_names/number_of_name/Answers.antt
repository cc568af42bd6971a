use Rattle.std.proofs.Common.{ℕ, List, sym, ap, ◌∙◌}
use Rattle.lw_words.specs.Word.{number_of}
use Rattle.lw_names.proofs.Bringing.{found_name}
use Rattle.lw_names.proofs.out_names.number_of_name.Goals as goal

pub returns-in-Some-clause-number : goal.returns-in-Some-clause-number
returns-in-Some-clause-number c =
    found_name c.args.names.now.items c.args.name.now c.in-Some.number
    (ap (λ (x : List ℕ). number_of x c.args.names.now.items) (sym c.as_slice-2.ensures.value)
    ∙ (ap (λ (l : List (List ℕ)). number_of c.as_slice-2.result.now l) (sym c.as_slice.ensures.value)
    ∙ (sym c.find.ensures ∙ c.in-Some.is)))
