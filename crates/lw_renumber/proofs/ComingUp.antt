-- Names that came up do so still, by the new numbers.
use Rattle.std.proofs.Common.{◌≡◌, ⊎_elim, ℕ, ◌<◌, ◌≤◌, List, length, get_or, sym, ◌∙◌, subst, arith}
use Rattle.std.proofs.lemmas.Bool.{cases_lt}
use Rattle.lw_words.specs.Renumbering.{renumbered, renumbered_answer, renumbered_answers}
use Rattle.lw_words.specs.declared.kept.KeptAnswer.{KeptAnswer}
use Rattle.lw_desk.specs.Ending.{ComeUp}
use Rattle.lw_names.proofs.Members.{In, in_contains, contains_in, in_map}
use Rattle.lw_renumber.specs.Sorting.{IsRenumbering}

module _ (to : List ℕ) (before now : List (List ℕ)) (f g : ℕ → ℕ) (is : IsRenumbering to before now f g) where
  -- the old number of a name is one
  was_below : (z : ℕ) → z < length now → g z < length before
  was_below z lt =
      ⊎_elim
      (λ (below : g z < length before). below)
      (λ (past : length before ≤ g z). let stays : z ≡ g z = sym (is.renames.forth z) ∙ is.past (g z) past in absurd (omega (arith, lt, past, stays, is.count)))
      (cases_lt (g z) (length before))

  pub come_up_still : (kept : List KeptAnswer) → ComeUp kept before → ComeUp (renumbered_answers to kept) now
  come_up_still kept were z lt =
      let below : g z < length before = was_below z lt in
      let c = were (g z) below in
      let same : get_or to (g z) 0 ≡ z = is.listed (g z) below ∙ is.renames.forth z in (
        renumbered_answer to c.0,
        in_contains (renumbered_answer to c.0) (renumbered_answers to kept) (in_map (renumbered_answer to) c.0 kept (contains_in c.0 kept c.1)),
        in_contains z (renumbered to (c.0).outs) (subst (λ (y : ℕ). In y (renumbered to (c.0).outs)) same (in_map (λ y. get_or to y 0) (g z) (c.0).outs (contains_in (g z) (c.0).outs c.2))),
      )
