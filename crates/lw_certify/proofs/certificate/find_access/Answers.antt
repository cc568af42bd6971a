use Rattle.std.proofs.Common.{◌<◌, ℕ, List, Option, None, length, set, arith, sym, ap₂, ◌∙◌}
use Rattle.lw_certify.proofs.CertifyLemmas.{taken_start, taken_none, taken_more, taken_all, element_is}
use Rattle.lw_certify.proofs.certificate.find_access.Goals as goal

pub loop-state-init : goal.loop-state-init
loop-state-init c = rw c.new-words.ensures (taken_start c.args.h.now.inputs c.args.h.now.rows c.in_ok-found.found.items c.in_ok-found.ensures)

pub returns-in_default-clause-access : goal.returns-in_default-clause-access
returns-in_default-clause-access c =
    let state = c.loop-state-test.true in
    let few = c.states-state-end.ensures.value in
    let i = c.index_mut.ensures.value in
    let t = c.take.ensures.value in
    let f = c.from.ensures in
    taken_none c.args.h.now.inputs c.args.h.now.rows c.in_ok-found.found.items c.in_ok-found.ensures c.loop-state.state c.loop-state.found.items c.loop-state.words c.loop-state.invariant (omega arith)
    (element_is c.loop-state.found.items c.loop-state.state c.from.result c.index_mut.result.now None f (omega (arith, c.loop-state.invariant.long, c.in_ok-found.ensures.each)) i ∙ (sym t ∙ c.in_default.is))

pub loop-state-preserved : goal.loop-state-preserved
loop-state-preserved c =
    let i = c.index_mut.ensures.value in
    let t = c.take.ensures.after in
    let f = c.from.ensures in
    let state = c.loop-state-test.true in
    let few = c.states-state-end.ensures.value in
    let within : c.loop-state.state < length c.loop-state.found.items = omega (arith, c.loop-state.invariant.long, c.in_ok-found.ensures.each) in
    taken_more c.args.h.now.inputs c.args.h.now.rows c.in_ok-found.found.items c.in_ok-found.ensures c.loop-state.state c.loop-state.found.items _ c.loop-state.words c.push.new.self c.in-Some.word c.loop-state.invariant within
    (element_is c.loop-state.found.items c.loop-state.state c.from.result c.index_mut.result.now None f within i ∙ (sym c.take.ensures.value ∙ c.in-Some.is))
    (ap₂ (λ (n : ℕ) (o : Option (List ℕ)). set c.loop-state.found.items n o) f t) c.in_ok-push.ensures.ok

pub returns-clause-access : goal.returns-clause-access
returns-clause-access c =
    let few = c.states-state-end.ensures.value in
    let past = c.loop-state-test.false in
    let within = c.loop-state.auto.state-end in
    taken_all c.args.h.now.inputs c.args.h.now.rows c.in_ok-found.found.items c.in_ok-found.ensures c.loop-state.state c.loop-state.found.items c.loop-state.words c.loop-state.invariant (omega arith) (omega arith)
