use Rattle.std.proofs.Common.{◌≡◌, ◌<◌, ◌^◌, ℕ, List, [], length, is_some, refl, ap, sym, ◌∙◌, subst}
use Rattle.lw_turn.specs.declared.shared.Entry.{Entry}
use Rattle.lw_names.specs.Naming.{Naming, HasLists}
use Rattle.lw_desk.specs.History.{DeskOpening, opened, Replays}
use Rattle.lw_desk.specs.bodies.DeskBody.{opening_of, entries_in}
use Rattle.lw_desk.specs.declared.ask.Ask.{Ask}
use Rattle.lw_desk.specs.declared.ask.Reply.{Reply}
use Rattle.lw_names.proofs.Bringing.{fewer_lists}
use Rattle.lw_desk.proofs.desk.Desk.new.Goals as goal

pub invariant_of-result : goal.invariant_of-result
invariant_of-result c =
    let b = c.in_ok-board.board in
    let e = c.in_ok-board.ensures in
    let names = c.of-names_then.result.value in
    let o : DeskOpening = opening_of c.of-cache_then.result.value.kept names b.batch c.args.actors in
    let none : entries_in c.new-2.result.items ≡ [] = ap entries_in c.new-2.ensures in
    record {
      few_actors = c.requires.actors.1;
      few_words = subst (λ (l : List (List ℕ)). length l < 2 ^ 32) (sym e.batch) c.requires.few;
      lists = fewer_lists names.brought 16 c.args.actors c.requires.actors.1 (subst (λ (n : Naming). HasLists n.brought 16) (sym c.of-names_then.ensures) c.is_free.ensures.lists);
      kind = ap (λ (n : Naming). is_some n.brought) (e.naming ∙ sym c.of-names_then.ensures);
      state = opened o;
      replays = subst (λ (es : List (Entry Ask Reply)). Replays o (opened o) es (opened o)) (sym none) refl;
      agrees = record {
        naming = c.of-names_then.ensures ∙ sym e.naming;
        kept = ap (λ x. x.kept) c.of-cache_then.ensures ∙ sym e.kept;
        claims = sym e.claimed;
        stop = sym e.stop;
      };
    }
