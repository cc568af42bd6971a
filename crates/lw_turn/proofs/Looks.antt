-- A look keeps the rule, and takes the core out of the slot where the ticket is served.
use Rattle.std.proofs.Common.{◌≡◌, ◌≢◌, ℕ, ◌<◌, List, [], ◌∷◌, length, Bool, true, false, refl, sym, ap, ◌∙◌, subst, inr, ⊎_elim, arith, set, eqb, MatchBool}
use Rattle.std.specs.Prelude.{Option, Some, slice_index, ◌==◌}
use Rattle.std.specs.Cmp.{unsigned_Decides}
use Rattle.std.proofs.lemmas.List.{length-set}
use mathlib.Core.Option.{some, none}
use mathlib.Core.Option.{Option as Maybe}
use mathlib.Core.List.{IsPrefix}
use lib.ListN.{get_elem?}
use Rattle.atomic_table.specs.Table.{State, Me, step, Act, keeps, takes, Allows, Valid, stepped, carried_after}
use Rattle.atomic_table.proofs.Lists.{at_set, set_again, set_here}
use Rattle.lw_turn.specs.declared.shared.Entry.{Entry}
use Rattle.lw_turn.specs.declared.view.View.{View}
use Rattle.lw_turn.specs.declared.view.Doing.{Doing}
use Rattle.lw_turn.specs.declared.view.Stage.TheVariants.{Waiting, Turning}
use Rattle.lw_turn.specs.History.{entries_of}
use Rattle.lw_turn.specs.Rule.{ticket_of, Fits, IsHome, IsOut, RuleHolds}
use Rattle.lw_turn.specs.Steps.{Look, IsServed}
use Rattle.lw_turn.proofs.Histories.{prefix_refl}
use Rattle.lw_turn.proofs.Places.{there, one_at}
use Rattle.lw_turn.proofs.Fitting.{live_set}
use Rattle.lw_turn.proofs.Tickets.{tickets_same}

module _ {C O A B : Type 0} (actors : O → ℕ) (legal : O → List (Entry A B) → Type 0) (opening : C → O) (entries : C → List (Entry A B)) (o : O) where
  abbrev Law : State (Option C) (Doing O A B) → Type 0
  Law = RuleHolds actors legal opening entries o

  -- where a caller's ticket is served, the core is in the slot
  home_for : (s : State (Option C) (Doing O A B)) (k : Law s) (id t : ℕ) (v : View O A B) → get_elem? s.views id ≡ some record { stage = Waiting t; view = v } → t ≡ length k.log → IsHome opening entries o k.log s.homes
  home_for s k id t v at now =
      ⊎_elim
      (λ (h : IsHome opening entries o k.log s.homes). h)
      (λ (out : IsOut s.views).
      let q = k.turning out.0 out.1 out.2 out.3 out.4 in
      let te : ticket_of out.1.stage ≡ Some t = ap ticket_of out.4 ∙ ap (λ (n : ℕ). Some n) (q.0 ∙ sym now) in
      let same : out.0 ≡ id = k.tickets.apart out.0 id out.1 record { stage = Waiting t; view = v } t out.3 at te refl in
      let d : out.1 ≡ record { stage = Waiting t; view = v } = one_at s.views id out.1 record { stage = Waiting t; view = v } (subst (λ (n : ℕ). get_elem? s.views n ≡ some out.1) same out.3) at in
      let e : Turning out.2 ≡ Waiting t = sym out.4 ∙ ap (λ (x : Doing O A B). x.stage) d in absurd (cc))
      k.slot

  served : (slots id t : ℕ) (v : View O A B) (s : State (Option C) (Doing O A B)) (k : Law s) (found : ℕ) → found ≡ length k.log → found ≡ t → get_elem? s.views id ≡ some record { stage = Waiting t; view = v }
      → set s.words 1 found ≡ k.next ∷ length k.log ∷ [] → (h : IsHome opening entries o k.log s.homes)
      → Law record { words = set s.words 1 found; homes = set s.homes 0 none; views = set s.views id record { stage = Turning t; view = record v { seen = entries h.0 } } }
  served slots id t v s k found is now at words h =
      let d : Doing O A B = record { stage = Waiting t; view = v } in
      let w : View O A B = record v { seen = entries h.0 } in
      let new : Doing O A B = record { stage = Turning t; view = w } in
      let len = length-set s.views id new in
      let fit : Fits o k.log s.views id v = k.live id d at tt in
      let out : set s.homes 0 none ≡ none ∷ [] = ap (λ (hs : List (Maybe (Option C))). set hs 0 none) h.1 in record {
        log = k.log;
        next = k.next;
        words = words;
        lawful = k.lawful;
        room = omega (arith, len, k.room);
        tickets = tickets_same (length k.log) k.next s.views id d new at refl k.tickets;
        live = live_set o k.log s.views id d new at tt k.live record {
          number = fit.number;
          opened = fit.opened;
          seen = subst (λ (l : List (Entry A B)). IsPrefix l k.log) (sym h.2) (prefix_refl k.log);
          mine = fit.mine;
          made = fit.made;
          ended = fit.ended;
        };
        absent = λ n le. k.absent n (omega (arith, len, le));
        turning = λ i x n at' tk. ⊎_elim
            (λ (q : (i ≡ id) × (new ≡ x)).
            let e : Turning t ≡ Turning n = ap (λ (z : Doing O A B). z.stage) q.1 ∙ tk in
            let m : t ≡ n = cc in (sym m ∙ sym now ∙ is, ap (λ (z : Doing O A B). z.view.seen) (sym q.1) ∙ h.2, out))
            (λ (q : (i ≢ id) × (get_elem? s.views i ≡ some x)).
            let r = k.turning i x n q.1 tk in
            let e : some (Some h.0) ∷ [] ≡ none ∷ [] = sym h.1 ∙ r.2 in absurd (cc))
            (at_set s.views id i new x at');
        slot = inr (id, new, t, set_here s.views id new (there s.views id d at), refl);
      }

  module _ (slots id t : ℕ) (v : View O A B) (s : State (Option C) (Doing O A B)) (k : Law s) (found : ℕ) (is : found ≡ length k.log) (at : get_elem? s.views id ≡ some record { stage = Waiting t; view = v }) (words : set s.words 1 found ≡ k.next ∷ length k.log ∷ []) where
    abbrev me : Me (Option C) (Doing O A B)
    me = (record { stage = Waiting t; view = v }, [])

    abbrev Goal : Bool → Type 0
    Goal b = (w : Doing O A B) × (a : Act (Option C)) × Valid s.homes [] a × Law (stepped s 1 found id [] w a)
        × MatchBool b ((core : C) × IsServed actors opening entries t v core (w, carried_after [] a)) (◌≡◌ {A = Me (Option C) (Doing O A B)} (w, carried_after [] a) me)

    hit : found ≡ t → Goal true
    hit now =
        let h = home_for s k id t v at (sym now ∙ is) in
        let fit : Fits o k.log s.views id v = k.live id record { stage = Waiting t; view = v } at tt in (
          record { stage = Turning t; view = record v { seen = entries h.0 } },
          takes 0 (Some h.0),
          ap (λ (hs : List (Maybe (Option C))). get_elem? hs 0) h.1,
          served slots id t v s k found is now at words h,
          (
            h.0,
            record {
              place = refl;
              opened = h.3 ∙ sym fit.opened;
              seen = subst (λ (l : List (Entry A B)). IsPrefix v.seen l) (sym h.2) fit.seen;
              mine = ap (entries_of v.number) h.2 ∙ ap (λ (n : ℕ). entries_of n k.log) fit.number ∙ fit.mine;
              actor = let p = there s.views id record { stage = Waiting t; view = v } at in
                  let q : v.number < actors o = omega (arith, p, k.room, fit.number) in subst (λ (x : O). v.number < actors x) (sym fit.opened) q;
            },
          ),
        )

    miss : Goal false
    miss = (
      record { stage = Waiting t; view = v },
      keeps,
      tt,
      (let vs : set s.views id record { stage = Waiting t; view = v } ≡ s.views = set_again s.views id record { stage = Waiting t; view = v } at in
          let ws : set s.words 1 found ≡ s.words = words ∙ sym k.words in
          let p : s ≡ record { words = set s.words 1 found; homes = s.homes; views = set s.views id record { stage = Waiting t; view = v } } = λ j. record { words = sym ws j; homes = s.homes; views = sym vs j } in
          subst Law p k),
      refl,
    )

    decided : Goal (found == t)
    decided = elim (eqb found t) as (λ b. eqb found t ≡ b → Goal b) [ true ↦ λ e. hit ((unsigned_Decides found t).0 e) | false ↦ λ e. miss ] refl

  pub looks : (slots id t : ℕ) (v : View O A B) → Allows Law slots id (record { stage = Waiting t; view = v }, []) 1 (λ n. n) (Look actors opening entries (step slots 1 0 0 none) (record { stage = Waiting t; view = v }, []))
  looks slots id t v s k len at small =
      let found : slice_index s.words 1 ≡ length k.log = ap (λ (ws : List ℕ). slice_index ws 1) k.words in
      let words : set s.words 1 (slice_index s.words 1) ≡ k.next ∷ length k.log ∷ [] = ap (λ (ws : List ℕ). set ws 1 (slice_index ws 1)) k.words in
      decided slots id t v s k (slice_index s.words 1) found at words

  pub looks_waiting : (slots id t : ℕ) (me : Me (Option C) (Doing O A B)) → ◌≡◌ {A = Me (Option C) (Doing O A B)} me (record { stage = Waiting t; view = me.0.view }, []) → Allows Law slots id me 1 (λ n. n) (Look actors opening entries (step slots 1 0 0 none) me)
  looks_waiting slots id t me is =
      subst (λ (m : Me (Option C) (Doing O A B)). Allows Law slots id m 1 (λ n. n) (Look actors opening entries (step slots 1 0 0 none) m)) (sym is) (looks slots id t me.0.view)
