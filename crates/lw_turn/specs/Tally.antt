-- A core for tests: actors add to one sum, and each is answered the sum before.
use Rattle.std.specs.Prelude.{◌≡◌, ℕ, ◌+◌, ◌*◌, ◌^◌, ◌<◌, ◌≤◌, List, [], ◌∷◌, length}
use Rattle.std.proofs.Common.{arith}
use Rattle.lw_turn.specs.declared.shared.Entry.{Entry}
use Rattle.lw_turn.specs.History.{entries_of}
use Rattle.lw_turn.specs.Counting.{sum_below, sum_below-le, length-by_actor}

-- what was added
abbrev pub sum_of : List (Entry ℕ ℕ) → ℕ
sum_of [] = 0
sum_of (e ∷ es) = e.ask + sum_of es

-- each reply is the sum before, from a sum on
abbrev pub AreReplies : ℕ → List (Entry ℕ ℕ) → Type 0
AreReplies sum [] = Unit {0}
AreReplies sum (e ∷ es) = (e.reply ≡ sum) × AreReplies (sum + e.ask) es

-- a history of this many actors, each of which adds at most so often, and at most 100 at once
pub record IsTally (actors each : ℕ) (es : List (Entry ℕ ℕ)) : Type 0 where
  pub replies : AreReplies 0 es
  pub small : sum_of es ≤ 100 * length es
  pub often : (n : ℕ) → length (entries_of n es) ≤ each
  pub others : (n : ℕ) → actors ≤ n → entries_of n es ≡ []
  pub few : (actors < 2 ^ 32) × (actors * each < 2 ^ 32)

-- an actor that has added these may add once more
abbrev pub MayAdd : ℕ → List (Entry ℕ ℕ) → ℕ → Type 0
MayAdd each mine ask = (ask ≤ 100) × (length mine < each)

pub tally_bounded : (actors each : ℕ) (es : List (Entry ℕ ℕ)) → IsTally actors each es → (length es ≤ actors * each) × (actors * each + actors < 2 ^ 64)
tally_bounded actors each es t =
    let l = length-by_actor actors es t.others in
    let s = sum_below-le actors each (λ n. length (entries_of n es)) (λ n lt. t.often n) in
    let product : ℕ = actors * each in
    let few : product < 2 ^ 32 = t.few.1 in
    let le : sum_below actors (λ n. length (entries_of n es)) ≤ product = s in
    (omega (arith, l, le), omega (arith, few, t.few.0))
