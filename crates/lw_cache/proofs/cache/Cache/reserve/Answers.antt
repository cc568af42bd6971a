use Rattle.std.proofs.Common.{◌≡◌, ℕ, List, length, max, vec_len, vec_capacity, subst, ap, sym, arith}
use Rattle.lw_words.specs.declared.kept.KeptAnswer.{KeptAnswer}
use Rattle.lw_cache.specs.bodies.Trie.{node_at, IsStored}
use Rattle.lw_cache.specs.bodies.Room.{HasRoom}
use Rattle.lw_cache.specs.declared.node.Node.{Node}
use Rattle.lw_cache.specs.declared.node.Held.{Held}
use Rattle.lw_cache.proofs.RoomLemmas.{room_made}
use Rattle.lw_cache.proofs.RootLemmas.{plant_stored}
use Rattle.lw_cache.proofs.cache.Cache.reserve.Goals as goal

pub invariant_of-self-2 : goal.invariant_of-self-2
invariant_of-self-2 c =
    let nodes : c.reserve-3.new.self.items ≡ c.self.inside.nodes.items = c.reserve-3.ensures.items in
    let stored : IsStored (node_at c.reserve-3.new.self.items) (length c.reserve-3.new.self.items) c.self.inside.held.items c.self.inside.kept.answers =
    subst (λ (l : List Node). IsStored (node_at l) (length l) c.self.inside.held.items c.self.inside.kept.answers) (sym nodes) c.self.invariant.0 in
    let planted : IsStored (node_at c.plant.new.nodes.items) (length c.plant.new.nodes.items) c.self.inside.held.items c.self.inside.kept.answers =
    plant_stored c.reserve-3.new.self.items c.plant.new.nodes.items c.self.inside.held.items c.self.inside.kept.answers c.plant.ensures.first c.plant.ensures.later stored in (
      subst (λ (h : List Held). IsStored (node_at c.plant.new.nodes.items) (length c.plant.new.nodes.items) h c.reserve.new.self.answers) (sym c.reserve-2.ensures.items)
          (subst (λ (k : List KeptAnswer). IsStored (node_at c.plant.new.nodes.items) (length c.plant.new.nodes.items) c.self.inside.held.items k) (sym c.reserve.ensures.answers) planted),
      subst (λ (w : ℕ). HasRoom w c.max-self-inside-2.result (vec_len c.plant.new.nodes) (vec_capacity c.plant.new.nodes) (vec_len c.reserve-2.new.self) (vec_capacity c.reserve-2.new.self) (length c.reserve.new.self.answers) c.reserve.new.self.room) (sym c.max-self-inside.ensures)
          (subst (λ (l : ℕ). HasRoom (max c.self.inside.words c.args.words) l (vec_len c.plant.new.nodes) (vec_capacity c.plant.new.nodes) (vec_len c.reserve-2.new.self) (vec_capacity c.reserve-2.new.self) (length c.reserve.new.self.answers) c.reserve.new.self.room) (sym c.max-self-inside-2.ensures)
          (room_made c.self.inside.words c.self.inside.letters (vec_len c.self.inside.nodes) (vec_capacity c.self.inside.nodes) (vec_len c.self.inside.held) (vec_capacity c.self.inside.held) (length c.self.inside.kept.answers) c.self.inside.kept.room
          c.args.words c.args.letters (vec_len c.plant.new.nodes) (vec_capacity c.plant.new.nodes) (vec_len c.reserve-2.new.self) (vec_capacity c.reserve-2.new.self) (length c.reserve.new.self.answers) c.reserve.new.self.room c.self.invariant.1
          (omega arith) (omega arith) (omega (arith, c.in_ok-reserve.ensures.room)) (omega (arith, c.in_ok-reserve.ensures.kept)) (omega (arith, c.in_ok-reserve-2.ensures.ok)) (omega arith) (omega (arith, c.in_ok-reserve-3.ensures.ok)) (omega arith) c.plant.ensures.some (omega arith)
          (λ any. omega (arith, ap (λ (l : List Node). length l) (c.plant.ensures.later (omega (arith, ap (λ (l : List Node). length l) nodes))), ap (λ (l : List Node). length l) nodes)) c.reserve-2.ensures.len (ap (λ (k : List KeptAnswer). length k) c.reserve.ensures.answers))),
    )
