use Rattle.std.proofs.Common.{◌≡◌, ◌∙◌, List, ℕ, [], IfOk, ap, map, string_bytes, subst, unwrap_or}
use Rattle.clap.proofs.WalkLemmas.{raw_values-rows}
use Rattle.clap.specs.Words.{found_of}
use Rattle.lw_top.proofs.values.texts_at.Goals as goal

pub returns-in-Some : goal.returns-in-Some
returns-in-Some c =
    subst (λ (ts : List (List ℕ)). IfOk c.copies.result (λ copies. map (λ s. string_bytes s) copies.items ≡ ts))
    (ap (λ o. unwrap_or o []) (c.in-Some.ensures ∙ raw_values-rows (found_of c.args.matches.now) c.args.id.now))
    c.copies.ensures

pub returns-in-None : goal.returns-in-None
returns-in-None c =
    ap (map (λ s. string_bytes s)) c.new.ensures.items
    ∙ ap (λ o. unwrap_or o []) (c.in-None.ensures ∙ raw_values-rows (found_of c.args.matches.now) c.args.id.now)
