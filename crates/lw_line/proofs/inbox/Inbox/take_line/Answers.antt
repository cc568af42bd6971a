use Rattle.std.proofs.Common.{◌≡◌, ◌<◌, ◌+◌, ◌-◌, ◌++◌, ◌∷◌, ℕ, List, length, take, ap, sym, ◌∙◌, subst, arith}
use Rattle.std.proofs.lemmas.List.{length-take-le, take-take}
use Rattle.lw_line.specs.bodies.Pieces.{NoFeed}
use Rattle.lw_line.proofs.Pieces.{behind_line}
use Rattle.lw_line.proofs.inbox.Inbox.take_line.Goals as goal

pub returns : goal.returns
returns c =
    let found = c.in_ok-end.ensures in
    let inside = c.self.inside in
    let e : ℕ = c.in_ok-end.end in
    let long : length (take inside.held inside.bytes) ≡ inside.held = length-take-le inside.held inside.bytes (omega arith) in
    let lt : e < inside.held = subst (λ (n : ℕ). e < n) long found.0 in
    let line : take e (take inside.held inside.bytes) ≡ c.new-line.result = take-take e inside.held inside.bytes (omega arith) ∙ sym c.new-line.ensures in
    let m : ℕ = inside.held - (e + 1) in (
      sym c.self.view_is
          ∙ (behind_line inside.held e inside.bytes (omega arith) lt found.2
          ∙ (ap (λ (bs : List ℕ). take e (take inside.held inside.bytes) ++ 10 ∷ take m bs) (sym c.copy_within.ensures.after)
          ∙ ap (λ (bs : List ℕ). bs ++ 10 ∷ take m c.copy_within.new.self) line)),
      subst (λ (bs : List ℕ). NoFeed bs) line found.1,
    )
