-- What contracts see of a pass.
use Rattle.atomic_table.specs.Seated.{TableId}
use Rattle.lw_turn.specs.declared.view.View.{View}

-- the turnstile that made it, and what it knows
pub record Held (O A B : Type 0) : Type 0 where
  pub turnstile : TableId
  pub knows : View O A B
