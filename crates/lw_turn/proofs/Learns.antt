-- Pass 0 learns what the pass that was joined last had seen.
use Rattle.std.proofs.Common.{◌≡◌, ℕ, List, [], ◌∷◌, length, refl, sym, ap, ◌∙◌, subst, inl, inr, ⊎_elim, arith, set, cond, eq-eqb}
use Rattle.std.specs.Prelude.{Option, Some, slice_index}
use Rattle.std.proofs.lemmas.List.{length-set}
use mathlib.Core.Option.{some, none}
use lib.ListN.{get_elem?}
use Rattle.atomic_table.specs.Table.{State, Me, step, keeps, Allows}
use Rattle.lw_turn.specs.declared.shared.Entry.{Entry}
use Rattle.lw_turn.specs.declared.view.View.{View}
use Rattle.lw_turn.specs.declared.view.Ended.{Ended}
use Rattle.lw_turn.specs.declared.view.Doing.{Doing}
use Rattle.lw_turn.specs.declared.view.Stage.TheVariants.{Idle}
use Rattle.lw_turn.specs.Views.{ended_of}
use Rattle.lw_turn.specs.Rule.{Fits, IsTurn, RuleHolds}
use Rattle.lw_turn.specs.Steps.{Learn, learned, IsOneHistory}
use Rattle.lw_turn.proofs.Histories.{prefix_longer_first, prefix_longer_second, prefix_longer_both}
use Rattle.lw_turn.proofs.Fitting.{live_set}
use Rattle.lw_turn.proofs.Tickets.{tickets_same}
use Rattle.lw_turn.proofs.Turning.{idle_is_calm, out_set, turning_set}

module _ {O A B : Type 0} where
  -- what is learned is a beginning of the history too, and begins with what both had seen
  learned_fits : (o : O) (log : List (Entry A B)) (places : List (Doing O A B)) (i : ℕ) (v : View O A B) (es : List (Ended A B)) → v.ended ≡ es → Fits o log places i v
      → Fits o log places i (learned es v) × IsOneHistory es v.seen
  learned_fits o log places i v [] is f = (f, tt)
  learned_fits o log places i v (e ∷ es) is f =
      let first : ended_of e.number v.ended ≡ Some e = ap (ended_of e.number) is ∙ ap (λ b. cond b (Some e) (ended_of e.number es)) (eq-eqb e.number e.number refl) in
      let h = f.ended e.number e first in (
        record {
          number = f.number;
          opened = f.opened;
          seen = prefix_longer_both v.seen e.seen log f.seen h.1;
          mine = f.mine;
          made = f.made;
          ended = f.ended;
        },
        (prefix_longer_first v.seen e.seen log f.seen h.1, prefix_longer_second v.seen e.seen log f.seen h.1),
      )

module _ {C O A B : Type 0} (actors : O → ℕ) (legal : O → List (Entry A B) → Type 0) (opening : C → O) (entries : C → List (Entry A B)) (o : O) where
  abbrev Law : State (Option C) (Doing O A B) → Type 0
  Law = RuleHolds actors legal opening entries o

  -- the view of an idle place changes, and the words and the slot stay
  pub idle_changes : (id : ℕ) (v w : View O A B) (s : State (Option C) (Doing O A B)) (k : Law s) (ws : List ℕ) → ws ≡ s.words → get_elem? s.views id ≡ some record { stage = Idle; view = v }
      → Fits o k.log s.views id w → Law record { words = ws; homes = s.homes; views = set s.views id record { stage = Idle; view = w } }
  idle_changes id v w s k ws same at fit =
      let d : Doing O A B = record { stage = Idle; view = v } in
      let new : Doing O A B = record { stage = Idle; view = w } in
      let len = length-set s.views id new in record {
        log = k.log;
        next = k.next;
        words = same ∙ k.words;
        lawful = k.lawful;
        room = omega (arith, len, k.room);
        tickets = tickets_same (length k.log) k.next s.views id d new at refl k.tickets;
        live = live_set o k.log s.views id d new at tt k.live fit;
        absent = λ n le. k.absent n (omega (arith, len, le));
        turning = turning_set (IsTurn k.log s.homes) s.views id new idle_is_calm k.turning;
        slot = ⊎_elim (λ h. inl h) (λ out. inr (out_set s.views id d new at idle_is_calm out)) k.slot;
      }

  pub learns : (slots id : ℕ) (v : View O A B) → Allows Law slots id (record { stage = Idle; view = v }, []) 0 (λ n. n) (Learn (step slots 0 0 0 none) (record { stage = Idle; view = v }, []))
  learns slots id v s k len at small =
      let words : set s.words 0 (slice_index s.words 0) ≡ s.words = ap (λ (ws : List ℕ). set ws 0 (slice_index ws 0)) k.words ∙ sym k.words in
      let f = learned_fits o k.log s.views id v v.ended refl (k.live id record { stage = Idle; view = v } at tt) in (
        record { stage = Idle; view = learned v.ended v },
        keeps,
        tt,
        idle_changes id v (learned v.ended v) s k (set s.words 0 (slice_index s.words 0)) words at f.0,
        (refl, f.1),
      )

  pub learns_idle : (slots id : ℕ) (me : Me (Option C) (Doing O A B)) → me.0.stage ≡ Idle → me.1 ≡ [] → Allows Law slots id me 0 (λ n. n) (Learn (step slots 0 0 0 none) me)
  learns_idle slots id me idle empty =
      let is : ◌≡◌ {A = Me (Option C) (Doing O A B)} (record { stage = Idle; view = me.0.view }, []) me = λ i. (record { stage = sym idle i; view = me.0.view }, sym empty i) in
      subst (λ (m : Me (Option C) (Doing O A B)). Allows Law slots id m 0 (λ n. n) (Learn (step slots 0 0 0 none) m)) is (learns slots id me.0.view)
