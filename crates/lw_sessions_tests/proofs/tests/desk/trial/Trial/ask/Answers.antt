use Rattle.std.proofs.Common.{◌≡◌, ◌<◌, ◌++◌, ℕ, List, [], Bool, false, ◌||◌, length, map, get_or, ap, sym, ◌∙◌, subst, arith}
use Rattle.std.proofs.lemmas.List.{map-set, get_or-map, length-map}
use Rattle.lw_turn.specs.declared.shared.Entry.{Entry}
use Rattle.lw_desk.specs.History.{Seat, seat_after, names_given}
use Rattle.lw_sessions_tests.specs.TestTrial.{seat_by, seat_at, IsDeskTrial}
use Rattle.lw_desk.specs.bodies.DeskBody.{entry}
use Rattle.lw_desk.specs.declared.ask.Ask.{Ask}
use Rattle.lw_desk.specs.declared.ask.Reply.{Reply}
use Rattle.lw_sessions_tests.specs.declared.tests.desk.trial.Standing.{Standing}
use Rattle.lw_sessions_tests.proofs.TestTrials.{trial_more, stands_after}
use Rattle.lw_sessions_tests.proofs.tests.desk.trial.Trial.ask.Goals as goal

abbrev seat : Standing → Seat
seat x = seat_by x.held x.ended x.own.items

pub invariant_of-self : goal.invariant_of-self
invariant_of-self g c =
    let t = c.self.inside in
    let a : ℕ = c.args.actor in
    let seats = t.seats.items in
    let e : Entry Ask Reply = entry a c.args.ask c.on-reply.result in
    let new : Standing = record { held = c.on-reply.result.places; ended = c.either.result; own = c.after_ask-own.result } in
    let found = c.in-Some.ensures.lookup in
    let lt : a < length (map seat seats) = omega (arith, found.3.0, ap (λ (l : List Standing). length l) c.deref.ensures.value, length-map seats seat) in
    let was : seat_at (map seat seats) a ≡ seat c.in-Some.seat.now =
    get_or-map seat seats a c.in-Some.seat.now (record { held = []; ended = false; own = [] }) (omega (arith, found.3.0, ap (λ (l : List Standing). length l) c.deref.ensures.value))
    ∙ ap seat (sym (found.3.1 c.in-Some.seat.now ∙ ap (λ (l : List Standing). get_or l a c.in-Some.seat.now) c.deref.ensures.value)) in
    let standing : seat new ≡ seat_after (seat_at (map seat seats) a) e =
    stands_after (seat_at (map seat seats) a) e c.either.result c.after_ask-own.result.items (c.either.ensures ∙ ap (λ (b : Bool). c.on-reply.result.done || b) c.is_some-failed.ensures) (c.after_ask-own.ensures.own ∙ ap (λ (x : Seat). x.own ++ names_given c.args.ask.gives.items) (sym was)) in
    subst (IsDeskTrial c.on-reply.new.self t.words.items t.free) (sym (map-set seat seats a new))
    (trial_more t.desk c.on-reply.new.self t.words.items t.free (map seat seats) e (seat new) c.self.invariant lt c.on-reply.ensures.opening c.on-reply.ensures.entry standing)
