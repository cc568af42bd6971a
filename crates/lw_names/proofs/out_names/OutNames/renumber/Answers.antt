use Rattle.std.proofs.Common.{◌<◌, ℕ, List, length, map, sym, ap, ◌∙◌, subst, arith, vec_capacity, Vec, Global}
use Rattle.std.specs.List.{All}
use Rattle.std.proofs.lemmas.List.{length-map}
use Rattle.lw_words.specs.Renumbering.{renumbered}
use Rattle.lw_names.proofs.Bringing.{shared_seen_declared, below_table, shared_seen_free, here_inside, old_items}
use Rattle.lw_names.proofs.out_names.OutNames.renumber.Goals as goal

pub returns-then-not-self : goal.returns-then-not-self
returns-then-not-self c =
    let n = c.self.inside in
    shared_seen_declared n.free n.names.items (map (λ t. t.items) n.tables.items) (vec_capacity n.names) (map (λ t. vec_capacity t) n.tables.items) c.args.self.now c.self.view_is c.self.invariant c.if-not-self.true c.args.actor c.args.outs c.requires.numbers

pub renumber-requires : goal.renumber-requires
renumber-requires c =
    let n = c.self.inside in
    let tables : List (List ℕ) = map (λ t. t.items) n.tables.items in
    let inside = here_inside n.free n.names.items tables (vec_capacity n.names) (map (λ t. vec_capacity t) n.tables.items) c.args.self.now c.self.view_is c.self.invariant c.if-not-self.false c.args.actor c.requires.actor c.args.outs c.requires.numbers in
    let below = below_table n.free n.names.items tables (vec_capacity n.names) (map (λ t. vec_capacity t) n.tables.items) c.args.self.now c.self.view_is c.self.invariant c.if-not-self.false c.args.actor c.requires.actor c.args.outs c.requires.numbers in
    let within : c.args.actor < length n.tables.items = omega (arith, inside, length-map n.tables.items (λ (t : Vec ℕ Global). t.items)) in
    let table = old_items (λ (t : Vec ℕ Global). t.items) (λ (t : Vec ℕ Global). vec_capacity t) n.tables.items c.args.actor c.index.result.now c.index.result.now within c.index.ensures in
    subst (λ (l : List ℕ). All (λ y. y < length l) c.args.outs) (table ∙ sym c.as_slice.ensures.value) below

pub returns : goal.returns
returns c =
    let n = c.self.inside in
    let tables : List (List ℕ) = map (λ t. t.items) n.tables.items in
    let inside = here_inside n.free n.names.items tables (vec_capacity n.names) (map (λ t. vec_capacity t) n.tables.items) c.args.self.now c.self.view_is c.self.invariant c.if-not-self.false c.args.actor c.requires.actor c.args.outs c.requires.numbers in
    let within : c.args.actor < length n.tables.items = omega (arith, inside, length-map n.tables.items (λ (t : Vec ℕ Global). t.items)) in
    let table = old_items (λ (t : Vec ℕ Global). t.items) (λ (t : Vec ℕ Global). vec_capacity t) n.tables.items c.args.actor c.index.result.now c.index.result.now within c.index.ensures in
    let told = shared_seen_free n.free n.names.items tables (vec_capacity n.names) (map (λ t. vec_capacity t) n.tables.items) c.args.self.now c.self.view_is c.self.invariant c.if-not-self.false c.args.actor c.requires.actor c.args.outs c.requires.numbers in
    c.renumber.ensures
    ∙ (ap (λ (l : List ℕ). renumbered l c.args.outs) (c.as_slice.ensures.value ∙ sym table)
    ∙ told)
