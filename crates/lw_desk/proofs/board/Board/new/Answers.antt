use Rattle.std.proofs.Common.{◌≡◌, ◌≤◌, List, ℕ, None, length, false, Result, Ok, Err, OnOk, sym, ◌∙◌, subst, arith}
use Rattle.std.specs.Bool.{⊤}
use Rattle.std.specs.Prelude.{is_err}
use Rattle.std.proofs.lemmas.Bool.{true≢false}
use Rattle.lw_words.specs.declared.kept.KeptAnswer.{KeptAnswer}
use Rattle.lw_desk.specs.bodies.Board.{IsBoard}
use Rattle.lw_desk.proofs.BoardLemmas.{begun}
use Rattle.lw_desk.proofs.board.Board.new.Goals as goal

not_refused : {E : Type 0} (P : Type 0) (r : Result ⊤ E) → OnOk r P → is_err r ≡ false → P
not_refused P (Ok x) p told = p
not_refused P (Err e) p told = absurd (true≢false told)

pub invariant_of-result : goal.invariant_of-result
invariant_of-result c =
    let n = c.in-Ok.needs in
    let r = c.reserve.new.self in
    let e = c.reserve.ensures in
    let room : (length n.places.items ≤ r.words) × (n.letters ≤ r.letters) = not_refused ((length n.places.items ≤ r.words) × (n.letters ≤ r.letters)) c.reserve.result (let p = e.room in subst (λ (k : ℕ). OnOk c.reserve.result ((k ≤ r.words) × (n.letters ≤ r.letters))) (omega (arith, c.len.ensures, n.places.ok)) p) (sym c.is_err.ensures.value ∙ c.if-is_err.false) in (
      omega arith,
      subst (λ (l : List (List ℕ)). IsBoard l r.kept r.claims None n.words.items n.places.items r.words r.letters) (sym c.in-Ok.ensures.batch)
          (subst (λ (k : List KeptAnswer). IsBoard c.args.batch.now k r.claims None n.words.items n.places.items r.words r.letters) (sym e.kept)
          (begun c.args.batch.now c.args.cache.kept r.claims n.words.items n.places.items r.words r.letters n.letters c.requires.few c.in-Ok.ensures.ready (e.claims ∙ c.requires.unclaimed) room.0 room.1)),
    )
