-- The end of a turn keeps the rule.
use Rattle.std.proofs.Common.{◌≡◌, ◌≢◌, ℕ, ◌+◌, ◌%◌, ◌^◌, ◌<◌, ◌≤◌, List, [], ◌∷◌, ◌++◌, length, refl, sym, ap, ◌∙◌, subst, inl, ⊎_elim, arith, set, drop, length-append}
use Rattle.std.specs.Prelude.{Option, Some, slice_index}
use Rattle.std.proofs.lemmas.List.{length-set}
use Rattle.std.proofs.Math.Seq.{drop-append_seam}
use mathlib.Core.Option.{some, none}
use mathlib.Core.Option.{Option as Maybe}
use mathlib.Core.List.{IsPrefix}
use lib.ListN.{get_elem?}
use Rattle.atomic_table.specs.Table.{State, Me, step, gives, Allows}
use Rattle.atomic_table.proofs.Lists.{at_set}
use Rattle.lw_turn.specs.declared.shared.Entry.{Entry}
use Rattle.lw_turn.specs.declared.view.View.{View}
use Rattle.lw_turn.specs.declared.view.Doing.{Doing}
use Rattle.lw_turn.specs.declared.view.Stage.TheVariants.{Idle, Turning}
use Rattle.lw_turn.specs.History.{entries_of}
use Rattle.lw_turn.specs.Turns.{Carries}
use Rattle.lw_turn.specs.Rule.{ticket_of, IsLiveStage, IsSpent, Fits, AreTickets, IsTurn, RuleHolds}
use Rattle.lw_turn.specs.Steps.{End, grown}
use Rattle.lw_turn.proofs.Histories.{prefix_refl, prefix_more, prefix_trans, own_more, other_more}
use Rattle.lw_turn.proofs.Places.{there}
use Rattle.lw_turn.proofs.Fitting.{fits_still, spent_apart, spent_set}
use Rattle.lw_turn.proofs.Tickets.{tickets_ended}
use Rattle.lw_turn.proofs.Turning.{idle_is_calm}

module _ {C O A B : Type 0} (actors : O → ℕ) (legal : O → List (Entry A B) → Type 0) (opening : C → O) (entries : C → List (Entry A B)) (most : O → ℕ) (bounded : (o : O) (es : List (Entry A B)) → legal o es → (length es ≤ most o) × (most o + actors o < 2 ^ 64)) (o : O) where
  abbrev Law : State (Option C) (Doing O A B) → Type 0
  Law = RuleHolds actors legal opening entries o

  -- The core that is out has one entry more than the history: the caller's
  module _ (slots id t : ℕ) (v : View O A B) (core : C) (e : Entry A B) (own : e.actor ≡ v.number) (opened : opening core ≡ v.opening) (list : entries core ≡ v.seen ++ e ∷ []) (lawful : legal v.opening (v.seen ++ e ∷ []))
      (s : State (Option C) (Doing O A B)) (k : Law s) (at : get_elem? s.views id ≡ some record { stage = Turning t; view = v }) where
    abbrev d : Doing O A B
    d = record { stage = Turning t; view = v }

    abbrev new : Doing O A B
    new = record { stage = Idle; view = grown v (entries core) }

    abbrev log' : List (Entry A B)
    log' = k.log ++ e ∷ []

    abbrev places : List (Doing O A B)
    places = set s.views id new

    fit : Fits o k.log s.views id v
    fit = k.live id d at tt

    now : IsTurn k.log s.homes d t
    now = k.turning id d t at refl

    whole : entries core ≡ log'
    whole = list ∙ ap (λ (l : List (Entry A B)). l ++ e ∷ []) now.1

    longer_by_one : length log' ≡ length k.log + 1
    longer_by_one = length-append k.log (e ∷ [])

    actor : e.actor ≡ id
    actor = own ∙ fit.number

    legal_still : legal o log'
    legal_still = subst (λ (x : O). legal x log') fit.opened (subst (λ (l : List (Entry A B)). legal v.opening (l ++ e ∷ [])) now.1 lawful)

    elsewhere : (n : ℕ) → n ≢ id → entries_of n log' ≡ entries_of n k.log
    elsewhere n ne = other_more n k.log e (λ q. ne (sym q ∙ actor))

    gone : (n : ℕ) → IsSpent s.views n → IsSpent places n × (entries_of n log' ≡ entries_of n k.log)
    gone n sp = (spent_set s.views id n d new at tt sp, elsewhere n (spent_apart s.views id n d at tt sp))

    mine_grows : entries_of id log' ≡ v.mine ++ drop (length v.seen) (entries core)
    mine_grows =
        let tail : drop (length v.seen) (entries core) ≡ e ∷ [] = ap (drop (length v.seen)) list ∙ drop-append_seam v.seen (e ∷ []) in
        own_more id k.log e actor ∙ ap (λ (l : List (Entry A B)). l ++ e ∷ []) fit.mine ∙ ap (λ (l : List (Entry A B)). v.mine ++ l) (sym tail)

    own_fit : Fits o log' places id new.view
    own_fit = record {
      number = fit.number;
      opened = fit.opened;
      seen = subst (λ (l : List (Entry A B)). IsPrefix l log') (sym whole) (prefix_refl log');
      mine = mine_grows;
      made = λ z. fit.made z ∙ sym (length-set s.views id new);
      ended = λ n x is. let h = fit.ended n x is in let g = gone n h.2 in (g.1 ∙ h.0, prefix_trans x.seen k.log log' h.1 (prefix_more k.log (e ∷ [])), g.0);
    }

    live_still : (i : ℕ) (x : Doing O A B) → get_elem? places i ≡ some x → IsLiveStage x.stage → Fits o log' places i x.view
    live_still i x is lx =
        ⊎_elim
        (λ (h : (i ≡ id) × (new ≡ x)). subst (λ (y : Doing O A B). Fits o log' places i y.view) h.1 (subst (λ (n : ℕ). Fits o log' places n new.view) (sym h.0) own_fit))
        (λ (h : (i ≢ id) × (get_elem? s.views i ≡ some x)).
        fits_still o k.log log' s.views places i x.view (k.live i x h.1 lx) (prefix_more k.log (e ∷ [])) (elsewhere i h.0) (λ z. length-set s.views id new) gone)
        (at_set s.views id i new x is)

    none_turning : (homes : List (Maybe (Option C))) (i : ℕ) (x : Doing O A B) (n : ℕ) → get_elem? places i ≡ some x → x.stage ≡ Turning n → IsTurn log' homes x n
    none_turning homes i x n is tk =
        ⊎_elim
        (λ (h : (i ≡ id) × (new ≡ x)). absurd (idle_is_calm n (ap (λ (z : Doing O A B). z.stage) h.1 ∙ tk)))
        (λ (h : (i ≢ id) × (get_elem? s.views i ≡ some x)).
        let q = k.turning i x n h.1 tk in
        absurd (h.0 (k.tickets.apart i id x d t h.1 at (ap ticket_of tk ∙ ap (λ (m : ℕ). Some m) (q.0 ∙ sym now.0)) refl)))
        (at_set s.views id i new x is)

    room_for_entry : (length k.log + 1) % 2 ^ 64 ≡ length log'
    room_for_entry = let b = bounded o log' legal_still in omega (arith, longer_by_one, b.0, b.1)

    given : (found : ℕ) → found ≡ length k.log → set s.words 1 ((found + 1) % 2 ^ 64) ≡ k.next ∷ length log' ∷ []
        → Law record { words = set s.words 1 ((found + 1) % 2 ^ 64); homes = set s.homes 0 (some (Some core)); views = places }
    given found is words =
        let homes : set s.homes 0 (some (Some core)) ≡ some (Some core) ∷ [] = ap (λ (hs : List (Maybe (Option C))). set hs 0 (some (Some core))) now.2 in
        let len = length-set s.views id new in record {
          log = log';
          next = k.next;
          words = words;
          lawful = legal_still;
          room = omega (arith, len, k.room);
          tickets = subst (λ (n : ℕ). AreTickets n k.next places) (sym longer_by_one) (tickets_ended (length k.log) k.next s.views id d new at (ap (λ (m : ℕ). Some m) now.0) refl k.tickets);
          live = live_still;
          absent = λ n le. let p = there s.views id d at in elsewhere n (λ q. omega (arith, len, le, p, q)) ∙ k.absent n (omega (arith, len, le));
          turning = none_turning (set s.homes 0 (some (Some core)));
          slot = inl (core, homes, whole, opened ∙ fit.opened);
        }

  pub ends : (slots id t : ℕ) (v : View O A B) (core : C) (e : Entry A B) → e.actor ≡ v.number → opening core ≡ v.opening → entries core ≡ v.seen ++ e ∷ [] → legal v.opening (v.seen ++ e ∷ [])
      → Allows Law slots id (record { stage = Turning t; view = v }, (0, Some core) ∷ []) 1 (λ n. (n + 1) % 2 ^ 64) (End entries (step slots 1 1 0 none) (record { stage = Turning t; view = v }, (0, Some core) ∷ []))
  ends slots id t v core e own opened list lawful s k len at small =
      let found : slice_index s.words 1 ≡ length k.log = ap (λ (ws : List ℕ). slice_index ws 1) k.words in
      let words : set s.words 1 ((slice_index s.words 1 + 1) % 2 ^ 64) ≡ k.next ∷ length (k.log ++ e ∷ []) ∷ [] =
      ap (λ (ws : List ℕ). set ws 1 ((slice_index ws 1 + 1) % 2 ^ 64)) k.words ∙ ap (λ (n : ℕ). k.next ∷ n ∷ []) (room_for_entry slots id t v core e own opened list lawful s k at) in (
        record { stage = Idle; view = grown v (entries core) },
        gives,
        tt,
        given slots id t v core e own opened list lawful s k at (slice_index s.words 1) found words,
        refl,
      )

  pub ends_turning : (slots id t : ℕ) (me : Me (Option C) (Doing O A B)) (core : C) (e : Entry A B) → me.0.stage ≡ Turning t → Carries opening entries core (me.0.view.seen ++ e ∷ []) me → e.actor ≡ me.0.view.number → legal me.0.view.opening (me.0.view.seen ++ e ∷ [])
      → Allows Law slots id me 1 (λ n. (n + 1) % 2 ^ 64) (End entries (step slots 1 1 0 none) me)
  ends_turning slots id t me core e turning has own lawful =
      let is : ◌≡◌ {A = Me (Option C) (Doing O A B)} (record { stage = Turning t; view = me.0.view }, (0, Some core) ∷ []) me = λ i. (record { stage = sym turning i; view = me.0.view }, sym has.slot i) in
      subst (λ (m : Me (Option C) (Doing O A B)). Allows Law slots id m 1 (λ n. (n + 1) % 2 ^ 64) (End entries (step slots 1 1 0 none) m)) is (ends slots id t me.0.view core e own has.opened has.list lawful)
