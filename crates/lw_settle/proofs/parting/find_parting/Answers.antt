use Rattle.std.proofs.Common.{rules, ◌≡◌, ℕ, ◌+◌, ◌<◌, ◌≤◌, length, Option, MatchOption, ap, sym, ◌∙◌, subst, arith}
use Rattle.lw_settle.specs.declared.parting.Parting.{Parting}
use Rattle.lw_settle.specs.bodies.Parting.{number_at, AreAllAlike, IsParting}
use Rattle.lw_settle.proofs.BlockLemmas.{parting_found, alike_more}
use Rattle.lw_settle.proofs.parting.find_parting.Goals as goal
use Rattle.lw_settle.proofs.parting.find_parting.Goals.{in-Some, in_default}

pub loop-state-preserved : goal.loop-state-preserved
loop-state-preserved c =
    let l = c.loop-state in
    let t = c.args.tree.now in
    let roots = c.args.roots.now in
    let least = c.args.least.now in
    let q : ℕ = l.state in
    let lt : q < length t.access = search rules in
    let low : q < length roots = subst (λ (n : ℕ). q < n) (sym c.requires.roots.each) lt in
    let before : number_at least q ≤ q = c.requires.least.before q low in
    let at : number_at least c.from.result ≡ number_at least q = ap (number_at least) c.from.ensures in
    elim c.match-parting_letter.branch [
      | in-Some w ↦
          let new : Parting = record { one = number_at least c.from.result; other = q; letter = w.in-Some.letter } in
          let is : IsParting t roots new = record {
            one = subst (λ (p : ℕ). p < length t.access) (sym at) (omega (arith, before, lt));
            other = lt;
            small = w.in-Some.ensures.0;
            same = ap (number_at roots) at ∙ c.requires.least.same q low;
            parts = w.in-Some.ensures.1;
          } in
          subst (λ (o : Option Parting). MatchOption o ((p : ℕ) → p < q + 1 → AreAllAlike t roots (number_at least p) p) (IsParting t roots)) (sym w.found-is)
          (parting_found t roots new w.earlier.result l.found ((p : ℕ) → p < q → AreAllAlike t roots (number_at least p) p) is w.earlier.ensures l.invariant)
      | in_default w ↦
          subst (λ (o : Option Parting). MatchOption o ((p : ℕ) → p < q + 1 → AreAllAlike t roots (number_at least p) p) (IsParting t roots)) (sym w.found-is)
          (alike_more t roots least q l.found (subst (λ (p : ℕ). AreAllAlike t roots p q) at w.in_default.ensures) l.invariant)
    ]
