use Rattle.std.proofs.Common.{◌≡◌, ◌<◌, ℕ, List, [], ◌∷◌, ◌++◌, Bool, refl, ap, sym, ◌∙◌, subst}
use Rattle.std.proofs.lemmas.List.{map_push}
use Rattle.lw_turn.specs.declared.shared.Entry.{Entry}
use Rattle.lw_turn.specs.History.{entries_of}
use Rattle.lw_desk.specs.Desk.{DeskHistory}
use Rattle.lw_desk.specs.History.{DeskOpening, May, MayMake, seat_in}
use Rattle.lw_desk.specs.bodies.DeskBody.{entry, entry_of, entries_in, opening_of, IsDesk}
use Rattle.lw_desk.specs.declared.ask.Ask.{Ask}
use Rattle.lw_desk.specs.declared.ask.Reply.{Reply}
use Rattle.lw_desk.proofs.SeatLemmas.{may_is}
use Rattle.lw_desk.proofs.DeskLemmas.{desk_more, desk_legal}
use Rattle.lw_desk.proofs.desk.DeskCore.on.Goals as goal

pub turn-reply-requires-clause-may : goal.turn-reply-requires-clause-may
turn-reply-requires-clause-may c =
    let d = c.self.inside in
    let i = c.self.invariant in
    let o : DeskOpening = opening_of d.cache_then.value.kept d.names_then.value d.board.batch d.actors in
    let may : May o (entries_of c.args.actor (entries_in d.history.items)) c.args.ask =
    subst (λ (h : DeskHistory). May h.opening (entries_of c.args.actor h.entries) c.args.ask) (sym c.self.view_is) c.requires.may in
    (i.state, i.agrees, subst (λ (free : Bool). MayMake o.batch free (seat_in i.state c.args.actor) c.args.ask) (sym i.kind) (may_is o (entries_in d.history.items) i.state c.args.actor c.args.ask i.lists i.replays may))

module _ (c : goal.After-drop-asked) where
  now : IsDesk (opening_of c.self.inside.cache_then.value.kept c.self.inside.names_then.value c.turn-reply.new.self.batch c.self.inside.actors) (entries_in c.and-self-inside.result.items) c.turn-reply.new.self
  now =
      let d = c.self.inside in
      let i = c.self.invariant in
      let actor : ℕ = c.args.actor in
      let reply = c.turn-reply.result in
      let o : DeskOpening = opening_of d.cache_then.value.kept d.names_then.value d.board.batch d.actors in
      let es : List (Entry Ask Reply) = entries_in d.history.items in
      let may : May o (entries_of actor es) c.args.ask = subst (λ (h : DeskHistory). May h.opening (entries_of actor h.entries) c.args.ask) (sym c.self.view_is) c.requires.may in
      let lt : actor < o.actors = subst (λ (h : DeskHistory). actor < (h.opening).actors) (sym c.self.view_is) c.requires.actor in
      let m = c.turn-reply.ensures.makes o i.state refl lt (may_is o es i.state actor c.args.ask i.lists i.replays may) i.agrees in
      let more : entries_in c.and-self-inside.result.items ≡ es ++ entry actor c.args.ask reply ∷ [] =
      ap entries_in c.and-self-inside.ensures ∙ (map_push entry_of d.history.items _ ∙ ap (λ (a : Ask). es ++ entry actor a reply ∷ []) c.of.ensures) in
      subst (λ (l : List (List ℕ)). IsDesk (opening_of d.cache_then.value.kept d.names_then.value l d.actors) (entries_in c.and-self-inside.result.items) c.turn-reply.new.self) (sym c.turn-reply.ensures.batch)
      (subst (λ (l : List (Entry Ask Reply)). IsDesk o l c.turn-reply.new.self) (sym more)
      (desk_more o es (entry actor c.args.ask reply) d.board c.turn-reply.new.self i c.turn-reply.ensures.kind m))

pub invariant_of-self : goal.invariant_of-self
invariant_of-self c = now c

pub returns-clause-legal : goal.returns-clause-legal
returns-clause-legal c = desk_legal _ _ _ (now c)
