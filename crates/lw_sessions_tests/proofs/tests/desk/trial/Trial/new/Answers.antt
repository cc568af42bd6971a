use Rattle.std.proofs.Common.{◌≡◌, ℕ, List, [], false, length, map, is_some, ap, sym, ◌∙◌, arith}
use Rattle.std.proofs.lemmas.List.{get_or-replicate, length-replicate}
use Rattle.lw_names.specs.Naming.{own_names}
use Rattle.lw_desk.specs.History.{DeskOpening, Seat}
use Rattle.lw_sessions_tests.specs.TestTrial.{seat_by, seat_at}
use Rattle.lw_sessions_tests.proofs.TestTrials.{trial_new}
use Rattle.lw_sessions_tests.proofs.tests.desk.trial.Trial.new.Goals as goal

pub invariant_of-result : goal.invariant_of-result
invariant_of-result g c =
    let own = c.args.own.now in
    let e = c.in-Ok.ensures in
    let seats : List Seat = map (λ x. seat_by x.held x.ended x.own.items) c.loop.seats.items in
    let n : ℕ = c.loop.counter in
    let long : length seats ≡ n = ap (λ (l : List Seat). length l) c.loop.invariant ∙ length-replicate n (seat_by [] false own) in
    trial_new c.in-Ok.desk c.args.words.items own c.is_free-free.result seats
    (ap (λ (o : DeskOpening). o.batch) e.opening ∙ c.deref.ensures.value)
    (ap (λ (o : DeskOpening). is_some o.naming.brought) e.opening ∙ sym c.is_free-free.ensures.free)
    (ap (λ (o : DeskOpening). o.actors) e.opening ∙ omega arith)
    e.entries
    (λ a. ap (λ (o : DeskOpening). own_names o.naming a) e.opening ∙ c.requires.alike a)
    (λ a lt. ap (λ (l : List Seat). seat_at l a) c.loop.invariant ∙ get_or-replicate n a (seat_by [] false own) _ (omega (arith, lt, long)))
