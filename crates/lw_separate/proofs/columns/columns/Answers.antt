use Rattle.std.proofs.Common.{rules, ◌<◌, ℕ, List, [], Vec, Global, length, map, get_or, subst, sym}
use Rattle.lw_separate.specs.bodies.Columns.{IsColumn}
use Rattle.lw_separate.proofs.ColumnLemmas.{columns_push}
use Rattle.lw_separate.proofs.columns.columns.Goals as goal

pub loop-x-preserved : goal.loop-x-preserved
loop-x-preserved c =
    let h = c.loop-x.invariant in
    record {
      long = search rules;
      each = subst (λ (l : List (Vec (ℕ × ℕ) Global)). (k : ℕ) → k < length (map (λ (v : Vec (ℕ × ℕ) Global). v.items) l) → IsColumn c.args.m.now.rows k (get_or (map (λ (v : Vec (ℕ × ℕ) Global). v.items) l) k [])) (sym c.in_ok-push.ensures.items)
          (columns_push (λ (v : Vec (ℕ × ℕ) Global). v.items) c.args.m.now.inputs c.args.m.now.rows c.loop-x.all.items c.loop-x.x c.in_ok-column.field-0 h.long h.each c.in_ok-column.ensures);
    }
