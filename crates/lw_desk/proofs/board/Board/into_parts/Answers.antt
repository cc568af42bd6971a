use Rattle.std.proofs.Common.{ℕ, List, length, ap, ◌∙◌, arith}
use Rattle.std.proofs.lemmas.List.{nil_from_length, length-map}
use Rattle.lw_cache.specs.Caching.{Claim}
use Rattle.lw_desk.specs.bodies.Board.{BoardState}
use Rattle.lw_desk.proofs.board.Board.into_parts.Goals as goal

pub returns-clause-claims : goal.returns-clause-claims
returns-clause-claims c none =
    let claims = c.self.inside.cache.claims in
    nil_from_length claims (omega (arith, ap (λ (l : List ℕ). length l) (ap (λ (b : BoardState). b.claimed) c.self.view_is ∙ none), length-map claims (λ (d : Claim). d.number)))
