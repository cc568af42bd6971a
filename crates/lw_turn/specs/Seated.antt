-- The fields of a pass, and what contracts see of them.
use Rattle.std.specs.Prelude.{◌≡◌, ℕ, ◌<◌, ◌^◌, []}
use Rattle.lw_turn.specs.declared.view.Stage.TheVariants.{Idle}
use Rattle.lw_turn.specs.declared.pass.PassParts.TheInside.{Inside}
use Rattle.lw_turn.specs.Held.{Held}

abbrev pub held : {C O A B : Type 0} → Inside C O A B → Held O A B
held p = record { turnstile = p.seat.table_id; knows = p.seat.me.0.view }

-- between two calls a pass waits for nothing and holds no slot
pub record IsSeated {C O A B : Type 0} (actors : O → ℕ) (p : Inside C O A B) : Type 0 where
  pub idle : p.seat.me.0.stage ≡ Idle
  pub empty : p.seat.me.1 ≡ []
  pub number : p.number ≡ p.seat.me.0.view.number
  pub few : actors p.seat.me.0.view.opening < 2 ^ 32
  pub made : p.made ≡ p.seat.me.0.view.made
