use Rattle.std.proofs.Common.{List, length, None, false, sym, subst, ap, arith}
use Rattle.std.proofs.lemmas.List.{length-map}
use Rattle.lw_pool.specs.Pool.{Member}
use Rattle.lw_pool.specs.declared.hands.Hand.{Hand}
use Rattle.lw_words.specs.declared.kept.KeptAnswer.{KeptAnswer}
use Rattle.lw_cache.specs.Caching.{Caching}
use Rattle.lw_pool.specs.Opening.{member_of}
use Rattle.lw_pool.specs.Standing.{IsPool}
use Rattle.lw_pool.proofs.HandLemmas.{seen_in}
use Rattle.lw_pool.proofs.PoolLemmas.{pool_new}
use Rattle.lw_pool.proofs.pool.Pool.new.Goals as goal

pub invariant_of-result : goal.invariant_of-result
invariant_of-result g c = (
  c.requires.unclaimed,
  (c.in-Ok.ensures.items, omega (arith, c.in-Ok.ensures.capacity, c.len.ensures, ap (λ (ms : List (Member _)). length ms) c.in-Ok-hands_of.ensures.hands, length-map c.in-Ok-hands_of.hands.items (λ (h : Hand _). h.worker), length-map c.args.sessions.items (member_of g.S.Sul.state))),
  subst (λ (k : List KeptAnswer). IsPool (seen_in c.in-Ok-hands_of.hands.items) c.args.names k c.args.cache.kept None false c.args.inputs c.args.outputs) (sym (ap (λ (x : Caching). x.kept) c.of-prior.ensures))
      (pool_new (member_of g.S.Sul.state) c.args.sessions.items c.in-Ok-hands_of.hands.items c.args.names c.args.inputs c.args.outputs c.args.cache.kept c.in-Ok-hands_of.ensures.hands c.requires.some c.requires.few c.requires.lists c.requires.shared c.requires.come_up c.requires.join c.requires.prior),
)

pub returns-clause-stands : goal.returns-clause-stands
returns-clause-stands g c =
    subst (λ (k : List KeptAnswer). IsPool (seen_in c.in-Ok-hands_of.hands.items) c.args.names k c.args.cache.kept None false c.args.inputs c.args.outputs) (sym (ap (λ (x : Caching). x.kept) c.of-prior.ensures))
    (pool_new (member_of g.S.Sul.state) c.args.sessions.items c.in-Ok-hands_of.hands.items c.args.names c.args.inputs c.args.outputs c.args.cache.kept c.in-Ok-hands_of.ensures.hands c.requires.some c.requires.few c.requires.lists c.requires.shared c.requires.come_up c.requires.join c.requires.prior)
