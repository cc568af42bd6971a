use Rattle.std.proofs.Common.{◌≡◌, ◌<◌, ◌≤◌, ℕ, ◌+◌, List, [], ◌∷◌, length, take, drop, map, get_or, vec_capacity, refl, sym, ap, ◌∙◌, subst, arith}
use Rattle.std.specs.List.{All}
use Rattle.std.proofs.lemmas.List.{take_all}
use Rattle.lw_words.specs.Word.{IsWord}
use Rattle.lw_words.specs.declared.stop.RunStop.TheVariants.{NoMemory}
use Rattle.lw_desk.specs.declared.ask.Give.{Give}
use Rattle.lw_pool.specs.Working.{GivesBetween}
use Rattle.lw_pool.proofs.GiveLemmas.{gives_more, answered_all, answered_some, places_more, refused_first}
use Rattle.lw_pool.proofs.worker.Worker.answer.Goals as goal

pub returns-in_default : goal.returns-in_default
returns-in_default g c =
    answered_some c.args.batch.now c.args.places.now c.args.self.now.seen c.args.self.now.seen c.refused.result c.args.self.now.seen 0 c.from.result NoMemory (omega (arith, c.requires.some))
    (subst (GivesBetween c.args.batch.now c.args.self.now.seen c.args.self.now.seen) (sym (c.refused.ensures.gives ∙ c.new.ensures.items)) refl)
    (ap (map (λ (x : Give). x.place)) (c.refused.ensures.gives ∙ c.new.ensures.items)) c.from.ensures c.refused.ensures.failed c.refused.ensures.wanted (refused_first c.args.self.now.seen)

pub loop-i-init : goal.loop-i-init
loop-i-init g c = record {
  gives = subst (GivesBetween c.args.batch.now c.args.self.now.seen c.args.self.now.seen) (sym c.in-Ok.ensures.items) refl;
  places = ap (map (λ (x : Give). x.place)) c.in-Ok.ensures.items;
  count = c.in-Ok.ensures.len;
  room = subst (λ (l : List ℕ). length l ≤ vec_capacity c.in-Ok.gives) c.as_slice.ensures.value c.in-Ok.ensures.capacity;
  inputs = refl;
  items = c.as_slice-place-items.ensures.value;
}

pub ask-requires-clause-letters : goal.ask-requires-clause-letters
ask-requires-clause-letters g c = subst (λ (n : ℕ). All (IsWord n) c.args.batch.now) (sym c.loop-i.invariant.inputs) c.requires.letters

pub push_reserved-requires : goal.push_reserved-requires
push_reserved-requires g c = omega (arith, c.loop-i.invariant.count, c.loop-i.invariant.room, c.loop-i-test.true, ap (λ (l : List ℕ). length l) c.loop-i.invariant.items)

pub returns-in-Err : goal.returns-in-Err
returns-in-Err g c =
    answered_some c.args.batch.now c.args.places.now c.args.self.now.seen c.ask.new.self.seen c.refused-in-Err.result c.loop-i.self.seen c.loop-i.i c.from-in-Err.result c.in-Err.stop (omega (arith, c.loop-i-test.true, ap (λ (l : List ℕ). length l) c.loop-i.invariant.items)) (subst (GivesBetween c.args.batch.now c.args.self.now.seen c.loop-i.self.seen) (sym c.refused-in-Err.ensures.gives) c.loop-i.invariant.gives) (ap (map (λ (x : Give). x.place)) c.refused-in-Err.ensures.gives ∙ c.loop-i.invariant.places)
    c.from-in-Err.ensures c.refused-in-Err.ensures.failed c.refused-in-Err.ensures.wanted c.in-Err.ensures.refused

pub loop-i-preserved : goal.loop-i-preserved
loop-i-preserved g c = record {
  gives = subst (GivesBetween c.args.batch.now c.args.self.now.seen c.ask.new.self.seen) (sym c.push_reserved.ensures.items) (gives_more c.args.batch.now c.args.self.now.seen c.loop-i.self.seen c.ask.new.self.seen c.loop-i.gives.items c.in-Ok-ask.give c.loop-i.invariant.gives c.in-Ok-ask.ensures.given);
  places = ap (map (λ (x : Give). x.place)) c.push_reserved.ensures.items
      ∙ places_more c.loop-i.gives.items c.in-Ok-ask.give c.args.places.now c.loop-i.i (get_or c.args.places.now c.loop-i.i 0) c.loop-i.invariant.places (omega (arith, c.loop-i-test.true, ap (λ (l : List ℕ). length l) c.loop-i.invariant.items)) refl (c.in-Ok-ask.ensures.place ∙ ap (λ (l : List ℕ). get_or l c.loop-i.i 0) c.loop-i.invariant.items);
  count = c.push_reserved.ensures.len ∙ ap (λ (n : ℕ). n + 1) c.loop-i.invariant.count;
  room = omega (arith, c.push_reserved.ensures.capacity, c.loop-i.invariant.room);
  inputs = c.in-Ok-ask.ensures.given.same.inputs ∙ c.loop-i.invariant.inputs;
  items = c.loop-i.invariant.items;
}

pub returns : goal.returns
returns g c =
    answered_all c.args.batch.now c.args.places.now c.args.self.now.seen c.loop-i.self.seen (record { gives = c.loop-i.gives; failed = Rattle.std.proofs.Common.None; wanted = c.args.wanted }) c.loop-i.invariant.gives (c.loop-i.invariant.places ∙ take_all c.loop-i.i c.args.places.now (omega (arith, c.loop-i-test.false, ap (λ (l : List ℕ). length l) c.loop-i.invariant.items))) refl c.requires.wanted.0 c.requires.wanted.1
