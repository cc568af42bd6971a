-- What a link in memory is made of.
use Rattle.std.specs.Prelude.{◌≡◌, ℕ, ◌≤◌, ◌-◌, [], vec_capacity, vec_len}
use Rattle.lw_outside.specs.declared.memory_link.LinkParts.{LinkParts}

-- nothing was sent or received, and this many bytes of each have room
pub record HasRoom (room : ℕ) (parts : LinkParts) : Type 0 where
  pub unsent : parts.sent.items ≡ []
  pub unreceived : parts.received.items ≡ []
  pub to_send : room ≤ vec_capacity parts.sent - vec_len parts.sent
  pub to_receive : room ≤ vec_capacity parts.received - vec_len parts.received
