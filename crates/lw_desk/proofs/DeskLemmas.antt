-- A desk after one more entry.
use Rattle.std.proofs.Common.{◌≡◌, List, [], ◌∷◌, ◌++◌, map, Option, is_some, ap, sym, ◌∙◌, subst₂}
use Rattle.lw_words.specs.declared.kept.KeptAnswer.{KeptAnswer}
use Rattle.lw_cache.specs.Caching.{Caching}
use Rattle.lw_cache.specs.declared.stops.AskStop.{AskStop}
use Rattle.lw_turn.specs.declared.shared.Entry.{Entry}
use Rattle.lw_desk.specs.Desk.{Finishes}
use Rattle.lw_desk.specs.Ending.{FreeComeUp}
use Rattle.lw_names.specs.Naming.{Naming}
use Rattle.lw_desk.specs.Step.{Claimed, DeskState}
use Rattle.lw_desk.specs.History.{DeskOpening, Makes, Legal, Replays, opened}
use Rattle.lw_desk.specs.bodies.Board.{BoardState, Agrees}
use Rattle.lw_desk.specs.bodies.DeskBody.{IsDesk}
use Rattle.lw_desk.specs.declared.ask.Ask.{Ask}
use Rattle.lw_desk.specs.declared.ask.Reply.{Reply}
use Rattle.lw_desk.proofs.ComingUp.{free_come_up}
use Rattle.lw_desk.proofs.ReplayLemmas.{replays_more}

pub desk_more : (o : DeskOpening) (es : List (Entry Ask Reply)) (e : Entry Ask Reply) (b now : BoardState) (is : IsDesk o es b) → is_some now.naming.brought ≡ is_some b.naming.brought → (t : DeskState) × Makes o is.state e t × Agrees now t → IsDesk o (es ++ e ∷ []) now
desk_more o es e b now is kind made = record {
  few_actors = is.few_actors;
  few_words = is.few_words;
  lists = is.lists;
  kind = kind ∙ is.kind;
  state = made.0;
  replays = replays_more o (opened o) is.state made.0 es e is.replays made.1;
  agrees = made.2;
}

pub desk_legal : (o : DeskOpening) (es : List (Entry Ask Reply)) (b : BoardState) → IsDesk o es b → Legal o es
desk_legal o es b is = record { few_actors = is.few_actors; few_words = is.few_words; lists = is.lists; state = is.state; replays = is.replays }

-- what a desk leaves, by what its board does
pub desk_finishes : (o : DeskOpening) (es : List (Entry Ask Reply)) (b : BoardState) (is : IsDesk o es b) → ((t : DeskState) → Replays o (opened o) es t → t.claims ≡ []) → (result : Caching × Naming × Option AskStop) → result.0.kept ≡ b.kept → (b.claimed ≡ [] → result.0.claims ≡ []) → result.1 ≡ b.naming → result.2 ≡ b.stop → Finishes (record { opening = o; entries = es }) result
desk_finishes o es b is idle result kept claims naming stop =
    let kept_is : result.0.kept ≡ is.state.kept = kept ∙ sym is.agrees.kept in
    let naming_is : result.1 ≡ is.state.naming = naming ∙ sym is.agrees.naming in
    record {
      state = is.state;
      replays = is.replays;
      kept = kept_is;
      claims = claims (sym is.agrees.claims ∙ ap (map (λ (c : Claimed). c.place)) (idle is.state is.replays));
      naming = naming_is;
      stop = stop ∙ sym is.agrees.stop;
      come_up = λ was. subst₂ (λ (ks : List KeptAnswer) (n : Naming). FreeComeUp ks n) (sym kept_is) (sym naming_is) (free_come_up o is.state es is.lists is.replays was);
    }
