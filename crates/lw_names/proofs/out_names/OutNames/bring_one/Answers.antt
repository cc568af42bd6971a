use Rattle.std.proofs.Common.{◌<◌, ◌≤◌, ℕ, List, length, get_or, map, subst, arith, vec_capacity, Vec, Global}
use Rattle.std.proofs.lemmas.List.{length-map}
use Rattle.std.proofs.lemmas.List.Elements.{All-get_or}
use Rattle.lw_names.proofs.Bringing.{few_names, room_names, inside_tables, room_table, rooms_tables, brings_one, owns_one, keeps_one, old_items, old_room, put_items, put_rooms}
use Rattle.lw_names.proofs.out_names.OutNames.bring_one.Goals as goal

abbrev items : Vec ℕ Global → List ℕ
items t = t.items

abbrev capacity : Vec ℕ Global → ℕ
capacity t = vec_capacity t

pub number_of_name-number-requires-clause-few : goal.number_of_name-number-requires-clause-few
number_of_name-number-requires-clause-few c =
    let n = c.self.inside in
    few_names n.free n.names.items (map items n.tables.items) (vec_capacity n.names) (map capacity n.tables.items) c.args.self.now c.self.view_is c.self.invariant c.requires.free c.args.actor c.requires.actor c.requires.few

pub number_of_name-number-requires-clause-room : goal.number_of_name-number-requires-clause-room
number_of_name-number-requires-clause-room c =
    let n = c.self.inside in
    room_names n.free n.names.items (map items n.tables.items) (vec_capacity n.names) (map capacity n.tables.items) c.args.self.now c.self.view_is c.self.invariant c.requires.free c.args.actor c.requires.actor c.requires.few

pub push_reserved-requires : goal.push_reserved-requires
push_reserved-requires c =
    let n = c.self.inside in
    let a : ℕ = c.args.actor in
    let old = c.index_mut-table.result.now in
    let inside = inside_tables n.free n.names.items (map items n.tables.items) (vec_capacity n.names) (map capacity n.tables.items) c.args.self.now c.self.view_is c.self.invariant c.requires.free a c.requires.actor c.requires.few in
    let short = room_table n.free n.names.items (map items n.tables.items) (vec_capacity n.names) (map capacity n.tables.items) c.args.self.now c.self.view_is c.self.invariant c.requires.free a c.requires.actor c.requires.few in
    let rooms = rooms_tables n.free n.names.items (map items n.tables.items) (vec_capacity n.names) (map capacity n.tables.items) c.args.self.now c.self.view_is c.self.invariant c.requires.free a c.requires.actor c.requires.few in
    let within : a < length n.tables.items = omega (arith, inside, length-map n.tables.items items) in
    let table = old_items items capacity n.tables.items a old old within c.index_mut-table.ensures.value in
    let room = old_room items capacity n.tables.items a old old within c.index_mut-table.ensures.value in
    let large : 256 ≤ get_or (map capacity n.tables.items) a 0 = All-get_or (λ m. 256 ≤ m) (map capacity n.tables.items) a 0 (omega (arith, within, length-map n.tables.items capacity)) rooms in
    let small : length old.items < 256 = subst (λ (l : List ℕ). length l < 256) table short in
    let big : 256 ≤ vec_capacity old = subst (λ (k : ℕ). 256 ≤ k) room large in
    omega (arith, small, big, old.ok)

pub invariant_of-self : goal.invariant_of-self
invariant_of-self c =
    let n = c.self.inside in
    let a : ℕ = c.args.actor in
    let x = c.number_of_name-number in
    let old = c.index_mut-table.result.now in
    let v = c.push_reserved.new.self in
    let inside = inside_tables n.free n.names.items (map items n.tables.items) (vec_capacity n.names) (map capacity n.tables.items) c.args.self.now c.self.view_is c.self.invariant c.requires.free a c.requires.actor c.requires.few in
    let rooms = rooms_tables n.free n.names.items (map items n.tables.items) (vec_capacity n.names) (map capacity n.tables.items) c.args.self.now c.self.view_is c.self.invariant c.requires.free a c.requires.actor c.requires.few in
    let within : a < length n.tables.items = omega (arith, inside, length-map n.tables.items items) in
    keeps_one n.free n.names.items (map items n.tables.items) (vec_capacity n.names) (map capacity n.tables.items) c.args.self.now c.self.view_is c.self.invariant c.requires.free a c.requires.actor c.requires.few
    c.args.name.now x.ensures.name x.result x.new.names.items _ x.ensures.names x.ensures.number x.ensures.within
    (put_items items capacity n.tables.items a old v within c.index_mut-table.ensures.value x.result c.push_reserved.ensures.items)
    (vec_capacity x.new.names) _ x.ensures.capacity
    (put_rooms items capacity n.tables.items a old v within c.index_mut-table.ensures.value c.push_reserved.ensures.capacity rooms)

pub returns-clause-brings : goal.returns-clause-brings
returns-clause-brings c =
    let n = c.self.inside in
    let a : ℕ = c.args.actor in
    let x = c.number_of_name-number in
    let old = c.index_mut-table.result.now in
    let v = c.push_reserved.new.self in
    let inside = inside_tables n.free n.names.items (map items n.tables.items) (vec_capacity n.names) (map capacity n.tables.items) c.args.self.now c.self.view_is c.self.invariant c.requires.free a c.requires.actor c.requires.few in
    let within : a < length n.tables.items = omega (arith, inside, length-map n.tables.items items) in
    brings_one n.free n.names.items (map items n.tables.items) (vec_capacity n.names) (map capacity n.tables.items) c.args.self.now c.self.view_is c.self.invariant c.requires.free a c.requires.actor c.requires.few
    c.args.name.now x.ensures.name x.result x.new.names.items _ x.ensures.names x.ensures.number x.ensures.within
    (put_items items capacity n.tables.items a old v within c.index_mut-table.ensures.value x.result c.push_reserved.ensures.items)

pub returns-clause-own : goal.returns-clause-own
returns-clause-own c =
    let n = c.self.inside in
    let a : ℕ = c.args.actor in
    let x = c.number_of_name-number in
    let old = c.index_mut-table.result.now in
    let v = c.push_reserved.new.self in
    let inside = inside_tables n.free n.names.items (map items n.tables.items) (vec_capacity n.names) (map capacity n.tables.items) c.args.self.now c.self.view_is c.self.invariant c.requires.free a c.requires.actor c.requires.few in
    let within : a < length n.tables.items = omega (arith, inside, length-map n.tables.items items) in
    owns_one n.free n.names.items (map items n.tables.items) (vec_capacity n.names) (map capacity n.tables.items) c.args.self.now c.self.view_is c.self.invariant c.requires.free a c.requires.actor c.requires.few
    c.args.name.now x.ensures.name x.result x.new.names.items _ x.ensures.names x.ensures.number x.ensures.within
    (put_items items capacity n.tables.items a old v within c.index_mut-table.ensures.value x.result c.push_reserved.ensures.items)
