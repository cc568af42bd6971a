use Rattle.std.proofs.Common.{◌≡◌, List, length, All, Option, Some, Err, sym, ap, ◌∙◌, subst, arith}
use Rattle.lw_words.specs.Word.{IsWord}
use Rattle.lw_pool.specs.Pool.{PoolState}
use Rattle.lw_pool.specs.Settling.{HasSettled}
use Rattle.lw_pool.specs.declared.hands.Hand.{Hand}
use Rattle.lw_pool.specs.declared.parts.Parts.{Parts}
use Rattle.lw_pool.specs.bodies.PoolBody.{kept_in, naming_in}
use Rattle.lw_pool.specs.bodies.Running.{opening_of}
use Rattle.lw_pool.specs.Standing.{IsPool}
use Rattle.lw_pool.proofs.PoolLemmas.{settled_again, pool_after, settled_after, all_ready, all_read, after_long, settled_as}
use Rattle.lw_pool.proofs.HandLemmas.{seen_in, taken_all}
use Rattle.lw_pool.proofs.pool.Pool.settle_all.Goals as goal

pub returns-in-Some : goal.returns-in-Some
returns-in-Some g c =
    let p = c.self.inside in
    subst (λ (s : PoolState _). HasSettled c.args.batch.now s s (Err c.in-Some.stop)) c.self.view_is
    (settled_again c.args.batch.now p.hands.items (naming_in p.parts) p.prior.value.kept (kept_in p.parts) p.stop p.refused p.inputs p.outputs c.in-Some.stop c.in-Some.ensures.some c.self.invariant.2)

pub run-parts-requires-clause-ready : goal.run-parts-requires-clause-ready
run-parts-requires-clause-ready g c κs within =
    let p = c.self.inside in
    let there : p.parts ≡ Some c.in-Some-take.parts = sym c.take.ensures.value ∙ c.in-Some-take.is in
    let is : IsPool (seen_in c.deref_mut.result.now) c.in-Some-take.parts.names p.prior.value.kept c.in-Some-take.parts.cache.kept p.stop p.refused p.inputs p.outputs =
    subst (λ (hs : List (Hand _)). IsPool (seen_in hs) c.in-Some-take.parts.names p.prior.value.kept c.in-Some-take.parts.cache.kept p.stop p.refused p.inputs p.outputs) (sym c.deref_mut.ensures.value)
    (subst (λ (x : Option Parts). IsPool (seen_in p.hands.items) (naming_in x) p.prior.value.kept (kept_in x) p.stop p.refused p.inputs p.outputs) there c.self.invariant.2) in
    all_ready c.deref_mut.result.now c.in-Some-take.parts.names p.prior.value.kept c.in-Some-take.parts.cache.kept p.stop p.refused p.inputs p.outputs is

pub run-parts-requires-clause-letters : goal.run-parts-requires-clause-letters
run-parts-requires-clause-letters g c κs within =
    let p = c.self.inside in
    let there : p.parts ≡ Some c.in-Some-take.parts = sym c.take.ensures.value ∙ c.in-Some-take.is in
    let is : IsPool (seen_in c.deref_mut.result.now) c.in-Some-take.parts.names p.prior.value.kept c.in-Some-take.parts.cache.kept p.stop p.refused p.inputs p.outputs =
    subst (λ (hs : List (Hand _)). IsPool (seen_in hs) c.in-Some-take.parts.names p.prior.value.kept c.in-Some-take.parts.cache.kept p.stop p.refused p.inputs p.outputs) (sym c.deref_mut.ensures.value)
    (subst (λ (x : Option Parts). IsPool (seen_in p.hands.items) (naming_in x) p.prior.value.kept (kept_in x) p.stop p.refused p.inputs p.outputs) there c.self.invariant.2) in
    all_read c.deref_mut.result.now c.in-Some-take.parts.names p.prior.value.kept c.in-Some-take.parts.cache.kept p.stop p.refused p.inputs p.outputs is c.args.batch.now (subst (λ (s : PoolState _). All (IsWord s.inputs) c.args.batch.now) (sym c.self.view_is) c.requires.letters)

pub invariant_of-self : goal.invariant_of-self
invariant_of-self g c =
    let p = c.self.inside in
    let there : p.parts ≡ Some c.in-Some-take.parts = sym c.take.ensures.value ∙ c.in-Some-take.is in
    let is : IsPool (seen_in c.deref_mut.result.now) c.in-Some-take.parts.names p.prior.value.kept c.in-Some-take.parts.cache.kept p.stop p.refused p.inputs p.outputs =
    subst (λ (hs : List (Hand _)). IsPool (seen_in hs) c.in-Some-take.parts.names p.prior.value.kept c.in-Some-take.parts.cache.kept p.stop p.refused p.inputs p.outputs) (sym c.deref_mut.ensures.value)
    (subst (λ (x : Option Parts). IsPool (seen_in p.hands.items) (naming_in x) p.prior.value.kept (kept_in x) p.stop p.refused p.inputs p.outputs) there c.self.invariant.2) in
    let letters : All (IsWord p.inputs) c.args.batch.now = subst (λ (s : PoolState _). All (IsWord s.inputs) c.args.batch.now) (sym c.self.view_is) c.requires.letters in
    let long : length c.run-parts.new.hands ≡ p.hands.len = after_long (opening_of c.in-Some-take.parts c.args.batch.now (length c.deref_mut.result.now)) c.deref_mut.result.now c.run-parts.new.hands c.run-parts.result.0 c.run-parts.result.1 c.run-parts.ensures.after ∙ c.deref_mut.ensures.len in (
      c.run-parts.ensures.whole.claims,
      (c.self.invariant.1.0, omega (arith, c.self.invariant.1.1, ap (λ (hs : List (Hand _)). length hs) (taken_all c.run-parts.new.hands p.hands.items p.hands.len long), long, p.hands.ok.0)),
      subst (λ (hs : List (Hand _)). IsPool (seen_in hs) c.run-parts.result.0.names p.prior.value.kept c.run-parts.result.0.cache.kept c.copy_of-self-inside.result c.was_refused-self-inside.result p.inputs p.outputs) (sym (taken_all c.run-parts.new.hands p.hands.items p.hands.len long))
          (subst (λ (o : Option _). IsPool (seen_in c.run-parts.new.hands) c.run-parts.result.0.names p.prior.value.kept c.run-parts.result.0.cache.kept o c.was_refused-self-inside.result p.inputs p.outputs) (sym c.copy_of-self-inside.ensures)
          (pool_after c.args.batch.now c.deref_mut.result.now c.run-parts.new.hands c.in-Some-take.parts c.run-parts.result.0 p.prior.value.kept p.stop c.run-parts.result.1 p.refused c.was_refused-self-inside.result p.inputs p.outputs is c.run-parts.ensures.after c.run-parts.ensures.whole letters c.was_refused-self-inside.ensures)),
    )

pub returns : goal.returns
returns g c =
    let p = c.self.inside in
    let there : p.parts ≡ Some c.in-Some-take.parts = sym c.take.ensures.value ∙ c.in-Some-take.is in
    let is : IsPool (seen_in c.deref_mut.result.now) c.in-Some-take.parts.names p.prior.value.kept c.in-Some-take.parts.cache.kept p.stop p.refused p.inputs p.outputs =
    subst (λ (hs : List (Hand _)). IsPool (seen_in hs) c.in-Some-take.parts.names p.prior.value.kept c.in-Some-take.parts.cache.kept p.stop p.refused p.inputs p.outputs) (sym c.deref_mut.ensures.value)
    (subst (λ (x : Option Parts). IsPool (seen_in p.hands.items) (naming_in x) p.prior.value.kept (kept_in x) p.stop p.refused p.inputs p.outputs) there c.self.invariant.2) in
    let letters : All (IsWord p.inputs) c.args.batch.now = subst (λ (s : PoolState _). All (IsWord s.inputs) c.args.batch.now) (sym c.self.view_is) c.requires.letters in
    let long : length c.run-parts.new.hands ≡ p.hands.len = after_long (opening_of c.in-Some-take.parts c.args.batch.now (length c.deref_mut.result.now)) c.deref_mut.result.now c.run-parts.new.hands c.run-parts.result.0 c.run-parts.result.1 c.run-parts.ensures.after ∙ c.deref_mut.ensures.len in
    let settled = settled_after c.args.batch.now c.deref_mut.result.now c.run-parts.new.hands c.in-Some-take.parts c.run-parts.result.0 p.prior.value.kept p.stop c.run-parts.result.1 p.refused c.was_refused-self-inside.result p.inputs p.outputs is c.run-parts.ensures.after c.run-parts.ensures.whole letters c.was_refused-self-inside.ensures c.answer_of.result c.answer_of.ensures c.in_default.ensures.none in
    settled_as c.args.batch.now c.args.self.now p.hands.items c.deref_mut.result.now c.run-parts.new.hands p.hands.len (naming_in p.parts) (kept_in p.parts) c.in-Some-take.parts c.run-parts.result.0 p.prior.value.kept p.stop c.run-parts.result.1 c.copy_of-self-inside.result p.refused c.was_refused-self-inside.result p.inputs p.outputs c.answer_of.result
    (sym c.self.view_is) c.deref_mut.ensures.value (ap naming_in there) (ap kept_in there) c.copy_of-self-inside.ensures long settled
