-- Replays that go on.
use Rattle.std.proofs.Common.{List, [], ◌∷◌, ◌++◌, refl, subst}
use Rattle.lw_turn.specs.declared.shared.Entry.{Entry}
use Rattle.lw_desk.specs.Step.{DeskState}
use Rattle.lw_desk.specs.History.{DeskOpening, Makes, Replays}
use Rattle.lw_desk.specs.declared.ask.Ask.{Ask}
use Rattle.lw_desk.specs.declared.ask.Reply.{Reply}

-- one entry more
pub replays_more : (o : DeskOpening) (s t u : DeskState) (es : List (Entry Ask Reply)) (e : Entry Ask Reply) → Replays o s es t → Makes o t e u → Replays o s (es ++ e ∷ []) u
replays_more o s t u [] e same makes = (u, subst (λ (x : DeskState). Makes o x e u) same makes, refl)
replays_more o s t u (f ∷ es) e replays makes = (replays.0, replays.1, replays_more o replays.0 t u es e replays.2 makes)
