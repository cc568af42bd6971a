use Rattle.std.proofs.Common.{◌≡◌, ℕ, ◌<◌, ◌+◌, List, [], ◌∷◌, ◌++◌, length, take, if◌then◌else◌, is_ok, sym, ap, ◌∙◌, append_assoc, arith}
use Rattle.std.proofs.lemmas.List.{take_more}
use Rattle.std.proofs.lemmas.Option.{get_or_from_slice_get}
use Rattle.lw_sessions_tests.proofs.tests.desk.trial.joined.Goals as goal

pub loop-i-preserved : goal.loop-i-preserved
loop-i-preserved g c =
    let names = c.args.names.now in
    let own = c.args.own.now in
    let i : ℕ = c.loop-i.i in
    let lt : i < length names = omega arith in
    let front : take i names ++ c.copy.result ∷ [] ≡ take (i + 1) names =
    ap (λ (x : List ℕ). take i names ++ x ∷ []) (c.copy.ensures ∙ sym (get_or_from_slice_get names i c.get.result.now [] c.get.ensures)) ∙ sym (take_more names i [] lt) in
    c.push.ensures.items
    ∙ (ap (λ r. if is_ok r then c.loop-i.v.items ++ c.copy.result ∷ [] else c.loop-i.v.items) c.expect.ensures
    ∙ (ap (λ (l : List (List ℕ)). l ++ c.copy.result ∷ []) c.loop-i.invariant
    ∙ (append_assoc own (take i names) (c.copy.result ∷ []) ∙ ap (λ (l : List (List ℕ)). own ++ l) front)))
