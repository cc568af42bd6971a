-- What a list of walks keeps while its words are made.
use Rattle.std.specs.Prelude.{◌≡◌, ℕ, ◌+◌, ◌*◌, ◌≤◌, List, length}
use Rattle.rand_pcg.specs.Lcg.{Lcg}
use Rattle.lw_draw.specs.Drawn.{after_draws, seeded}
use Rattle.lw_draw.specs.Walks.{walks}
use Rattle.lw_draw.specs.declared.parts.Parts.{Parts}

abbrev pub all_walks : Parts → List (List ℕ)
all_walks p = walks p.access p.ends p.inputs p.drawn

-- the generator stands behind the numbers of this many walks, of which there are no more than are to be drawn
pub record IsBehind (p : Parts) (given : ℕ) (g : Lcg) : Type 0 where
  pub within : given ≤ p.drawn.count
  pub at : g ≡ after_draws (seeded p.drawn.seed) ((length p.access * p.drawn.count + given) * (p.drawn.length + 1))
