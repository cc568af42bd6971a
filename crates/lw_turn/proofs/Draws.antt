-- Drawing a ticket keeps the rule.
use Rattle.std.proofs.Common.{◌≡◌, ℕ, ◌+◌, ◌%◌, ◌^◌, ◌<◌, ◌≤◌, List, [], ◌∷◌, length, refl, sym, ap, ◌∙◌, subst, inl, inr, ⊎_elim, arith, set}
use Rattle.std.specs.Prelude.{Option, Some, slice_index}
use Rattle.std.proofs.lemmas.List.{length-set}
use Rattle.std.proofs.lemmas.List.Sums.{count_by-le-length}
use mathlib.Core.Option.{some, none}
use lib.ListN.{get_elem?}
use Rattle.atomic_table.specs.Table.{State, Me, step, keeps, Allows}
use Rattle.lw_turn.specs.declared.shared.Entry.{Entry}
use Rattle.lw_turn.specs.declared.view.View.{View}
use Rattle.lw_turn.specs.declared.view.Doing.{Doing}
use Rattle.lw_turn.specs.declared.view.Stage.TheVariants.{Idle, Waiting}
use Rattle.lw_turn.specs.Rule.{has_ticket, IsTurn, RuleHolds}
use Rattle.lw_turn.specs.Steps.{Draw}
use Rattle.lw_turn.proofs.Fitting.{live_set}
use Rattle.lw_turn.proofs.Tickets.{tickets_drawn}
use Rattle.lw_turn.proofs.Turning.{idle_is_calm, waiting_is_calm, out_set, turning_set}

module _ {C O A B : Type 0} (actors : O → ℕ) (legal : O → List (Entry A B) → Type 0) (opening : C → O) (entries : C → List (Entry A B)) (most : O → ℕ) (bounded : (o : O) (es : List (Entry A B)) → legal o es → (length es ≤ most o) × (most o + actors o < 2 ^ 64)) (o : O) where
  abbrev Law : State (Option C) (Doing O A B) → Type 0
  Law = RuleHolds actors legal opening entries o

  -- the next ticket fits a word
  room_for_ticket : (s : State (Option C) (Doing O A B)) (k : Law s) (id : ℕ) (v : View O A B) (n : ℕ) → get_elem? s.views id ≡ some record { stage = Idle; view = v } → (k.next + 1) % 2 ^ 64 ≡ k.next + 1
  room_for_ticket s k id v n at =
      let more = tickets_drawn (length k.log) k.next s.views id record { stage = Idle; view = v } record { stage = Waiting k.next; view = v } at refl refl k.tickets in
      let few = count_by-le-length has_ticket (set s.views id record { stage = Waiting k.next; view = v }) in
      let len = length-set s.views id record { stage = Waiting k.next; view = v } in
      let b = bounded o k.log k.lawful in
      omega (arith, more.counted, few, len, k.room, b.0, b.1)

  drawn : (slots id : ℕ) (v : View O A B) (s : State (Option C) (Doing O A B)) (k : Law s) (found : ℕ) → found ≡ k.next → get_elem? s.views id ≡ some record { stage = Idle; view = v }
      → set s.words 0 ((found + 1) % 2 ^ 64) ≡ (k.next + 1) ∷ length k.log ∷ []
      → Law record { words = set s.words 0 ((found + 1) % 2 ^ 64); homes = s.homes; views = set s.views id record { stage = Waiting found; view = v } }
  drawn slots id v s k found is at words =
      let d : Doing O A B = record { stage = Idle; view = v } in
      let new : Doing O A B = record { stage = Waiting found; view = v } in
      let len = length-set s.views id new in record {
        log = k.log;
        next = k.next + 1;
        words = words;
        lawful = k.lawful;
        room = omega (arith, len, k.room);
        tickets = tickets_drawn (length k.log) k.next s.views id d new at refl (ap (λ (n : ℕ). Some n) is) k.tickets;
        live = live_set o k.log s.views id d new at tt k.live (k.live id d at tt);
        absent = λ n le. k.absent n (omega (arith, len, le));
        turning = turning_set (IsTurn k.log s.homes) s.views id new (waiting_is_calm found) k.turning;
        slot = ⊎_elim (λ h. inl h) (λ out. inr (out_set s.views id d new at idle_is_calm out)) k.slot;
      }

  pub draws : (slots id : ℕ) (v : View O A B) → Allows Law slots id (record { stage = Idle; view = v }, []) 0 (λ n. (n + 1) % 2 ^ 64) (Draw (step slots 0 1 0 none) (record { stage = Idle; view = v }, []))
  draws slots id v s k len at small =
      let found : slice_index s.words 0 ≡ k.next = ap (λ (ws : List ℕ). slice_index ws 0) k.words in
      let words : set s.words 0 ((slice_index s.words 0 + 1) % 2 ^ 64) ≡ (k.next + 1) ∷ length k.log ∷ [] =
      ap (λ (ws : List ℕ). set ws 0 ((slice_index ws 0 + 1) % 2 ^ 64)) k.words ∙ ap (λ (n : ℕ). n ∷ length k.log ∷ []) (room_for_ticket s k id v 0 at) in (
        record { stage = Waiting (slice_index s.words 0); view = v },
        keeps,
        tt,
        drawn slots id v s k (slice_index s.words 0) found at words,
        refl,
      )

  pub draws_idle : (slots id : ℕ) (me : Me (Option C) (Doing O A B)) → me.0.stage ≡ Idle → me.1 ≡ [] → Allows Law slots id me 0 (λ n. (n + 1) % 2 ^ 64) (Draw (step slots 0 1 0 none) me)
  draws_idle slots id me idle empty =
      let is : ◌≡◌ {A = Me (Option C) (Doing O A B)} (record { stage = Idle; view = me.0.view }, []) me = λ i. (record { stage = sym idle i; view = me.0.view }, sym empty i) in
      subst (λ (m : Me (Option C) (Doing O A B)). Allows Law slots id m 0 (λ n. (n + 1) % 2 ^ 64) (Draw (step slots 0 1 0 none) m)) is (draws slots id me.0.view)
