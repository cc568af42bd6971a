use Rattle.std.proofs.Common.{◌≡◌, ◌∙◌, ℕ, List, rules, subst, sym}
use Rattle.std.proofs.lemmas.Option.{slice_get_within}
use Rattle.lw_names.proofs.NameLemmas.{is_name_at}
use Rattle.lw_words.specs.Word.{IsName}
use Rattle.lw_line.proofs.Naming.{name_is_text}
use Rattle.lw_recheck.proofs.keeping.number_among.Goals as goal

pub unreachable-requires : goal.unreachable-requires
unreachable-requires c =
    let slice = c.as_slice.ensures in
    c.in-Err.ensures.cases.0 (name_is_text c.as_slice.result.now (subst (λ (l : List ℕ). IsName l) (sym slice.value) slice.name))

pub returns-in-Some-clause-below : goal.returns-in-Some-clause-below
returns-in-Some-clause-below c = slice_get_within c.args.names.now c.in-Some.number c.in-Ok.text.now c.in-Some.ensures.inverse

pub returns-in-Some-clause-named : goal.returns-in-Some-clause-named
returns-in-Some-clause-named c =
    let is : c.in-Ok.text.now ≡ c.args.name.now = search rules in
    is_name_at c.args.names.now c.in-Some.number c.in-Ok.text.now c.in-Some.ensures.inverse ∙ is
