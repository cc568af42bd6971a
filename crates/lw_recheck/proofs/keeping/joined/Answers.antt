use Rattle.std.proofs.Common.{◌≡◌, ℕ, List, map, string_bytes, rules, subst, sym}
use Rattle.lw_names.specs.Names.{IsGrown}
use Rattle.lw_recheck.proofs.AgainLemmas.{grown_twice}
use Rattle.lw_recheck.proofs.NameLemmas.{grown_none}
use Rattle.lw_recheck.proofs.keeping.joined.Goals as goal

pub loop-y-init : goal.loop-y-init
loop-y-init g c =
    let names = c.args.names.now in
    subst (λ (l : List (List ℕ)). IsGrown names l) (sym c.in_ok-texts.ensures) (grown_none names)

pub loop-y-preserved : goal.loop-y-preserved
loop-y-preserved g c =
    grown_twice c.args.names.now (map (λ s. string_bytes s) c.loop-y.texts.items) (map (λ s. string_bytes s) c.put_text.new.texts.items) c.loop-y.invariant c.in_ok-put_text.ensures

pub returns-in-Ok-clause-grown : goal.returns-in-Ok-clause-grown
returns-in-Ok-clause-grown g c =
    let is : c.in-Ok.names ≡ map (λ s. string_bytes s) c.loop-y.texts.items = search rules in
    subst (λ (l : List (List ℕ)). IsGrown c.args.names.now l) (sym is) c.loop-y.invariant
