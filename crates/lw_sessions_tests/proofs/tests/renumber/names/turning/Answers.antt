use Rattle.std.proofs.Common.{ℕ, List, [], ◌∷◌, true, sym, subst}
use Rattle.lw_names.specs.Naming.{MayBring}
use Rattle.lw_sessions_tests.proofs.BroughtNames.{may_bring_turned}
use Rattle.lw_sessions_tests.proofs.tests.renumber.names.turning.Goals as goal

pub brought-requires : goal.brought-requires
brought-requires g c = subst (λ (names : List (List ℕ)). MayBring true [] names (0 ∷ 1 ∷ 2 ∷ [])) (sym c.turned.ensures) may_bring_turned
