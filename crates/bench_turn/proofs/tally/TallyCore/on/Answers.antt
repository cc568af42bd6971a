use Rattle.std.proofs.Common.{ℕ, ◌+◌, ◌*◌, ◌<◌, ◌≤◌, List, [], ◌∷◌, ◌++◌, length, sym, ap, ◌∙◌, subst, arith}
use Rattle.lw_turn.specs.declared.shared.Entry.{Entry}
use Rattle.bench_turn.specs.declared.tally.Limits.{Limits}
use Rattle.lw_turn.specs.History.{entries_of}
use Rattle.lw_turn.specs.Tally.{IsTally, MayAdd, sum_of}
use Rattle.lw_turn.proofs.Tallying.{tally_more, tally_room, tally_fits, sum_of-snoc}
use Rattle.bench_turn.proofs.tally.TallyCore.on.Goals as goal

pub overflow_add-self : goal.overflow_add-self
overflow_add-self c =
    let t = c.self.inside in
    let f = tally_fits t.limits.actors t.limits.each t.history.items c.args.ask c.self.invariant.0 c.requires.may.0 in omega (arith, f, c.self.invariant.1, c.from.ensures)

module _ (c : goal.After-push_reserved-arg-1) where
  abbrev here : Entry ℕ ℕ
  here = record { actor = c.args.actor; ask = c.args.ask; reply = c.self.inside.total }

  lt : c.args.actor < c.self.inside.limits.actors
  lt = subst (λ (w : Limits × List (Entry ℕ ℕ)). c.args.actor < w.0.actors) (sym c.self.view_is) c.requires.actor

  may : MayAdd c.self.inside.limits.each (entries_of c.args.actor c.self.inside.history.items) c.args.ask
  may = subst (λ (w : Limits × List (Entry ℕ ℕ)). MayAdd w.0.each (entries_of c.args.actor w.1) c.args.ask) (sym c.self.view_is) c.requires.may

pub push_reserved-requires : goal.push_reserved-requires
push_reserved-requires c =
    let t = c.self.inside in
    let product : ℕ = t.limits.actors * t.limits.each in
    let room : length t.history.items < product = tally_room t.limits.actors t.limits.each t.history.items (here c) c.self.invariant.0 (lt c) (may c) c.self.invariant.1 in
    let cap : product ≤ _ = c.self.invariant.2 in omega (arith, room, cap)

module _ (c : goal.After-push_reserved) where
  abbrev told : Entry ℕ ℕ
  told = record { actor = c.args.actor; ask = c.args.ask; reply = c.self.inside.total }

  one_more : IsTally c.self.inside.limits.actors c.self.inside.limits.each (c.self.inside.history.items ++ told ∷ [])
  one_more = tally_more c.self.inside.limits.actors c.self.inside.limits.each c.self.inside.history.items told c.self.invariant.0
      (subst (λ (w : Limits × List (Entry ℕ ℕ)). c.args.actor < w.0.actors) (sym c.self.view_is) c.requires.actor)
      (subst (λ (w : Limits × List (Entry ℕ ℕ)). MayAdd w.0.each (entries_of c.args.actor w.1) c.args.ask) (sym c.self.view_is) c.requires.may) c.self.invariant.1

  after : IsTally c.self.inside.limits.actors c.self.inside.limits.each c.push_reserved.new.self.items
  after = subst (λ (l : List (Entry ℕ ℕ)). IsTally c.self.inside.limits.actors c.self.inside.limits.each l) (sym c.push_reserved.ensures.items) one_more

pub invariant_of-self : goal.invariant_of-self
invariant_of-self c = (
  after c,
  ap (λ (n : ℕ). c.self.inside.total + n) c.from.ensures ∙ ap (λ (n : ℕ). n + c.args.ask) c.self.invariant.1 ∙ sym (sum_of-snoc c.self.inside.history.items (told c)) ∙ ap sum_of (sym c.push_reserved.ensures.items),
  let cap = c.self.invariant.2 in let same = c.push_reserved.ensures.capacity in subst (λ (n : ℕ). c.self.inside.limits.actors * c.self.inside.limits.each ≤ n) (sym same) cap,
)

pub returns-clause-legal : goal.returns-clause-legal
returns-clause-legal c = after c
