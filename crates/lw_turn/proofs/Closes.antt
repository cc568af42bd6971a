-- What the core is once every pass was joined.
use Rattle.std.proofs.Common.{◌≡◌, ◌≢◌, ℕ, zero, suc, ◌<◌, ◌≤◌, List, [], length, cond, eq-eqb, ne_eqb, true≢false, refl, sym, ap, ◌∙◌, subst, ⊎_elim, arith}
use Rattle.std.specs.Prelude.{Option, Some, None, IsSome}
use mathlib.Core.Option.{some, some-injective}
use mathlib.Core.Option.{Option as Maybe}
use lib.ListN.{get_elem?}
use Rattle.atomic_table.specs.Table.{State, Final, Seen}
use Rattle.lw_turn.specs.declared.shared.Entry.{Entry}
use Rattle.lw_turn.specs.declared.view.View.{View}
use Rattle.lw_turn.specs.declared.view.Ended.{Ended}
use Rattle.lw_turn.specs.declared.view.Doing.{Doing}
use Rattle.lw_turn.specs.declared.view.Stage.TheVariants.{Idle}
use Rattle.lw_turn.specs.History.{entries_of}
use Rattle.lw_turn.specs.Counting.{sum_below-same, length-by_actor}
use Rattle.lw_turn.specs.Views.{ended_of, mine_of, own_of, IsWhole}
use Rattle.lw_turn.specs.Rule.{IsSpent, Fits, IsHome, IsOut, RuleHolds}
use Rattle.std.proofs.lemmas.Bool.{cases_lt}
use Rattle.lw_turn.proofs.Places.{there, one_at, same_or_not}
use Rattle.lw_turn.proofs.Turning.{IsCalm, idle_is_calm, spent_is_calm}

module _ {C O A B : Type 0} (actors : O → ℕ) (legal : O → List (Entry A B) → Type 0) (opening : C → O) (entries : C → List (Entry A B)) (o : O) where
  abbrev Law : State (Option C) (Doing O A B) → Type 0
  Law = RuleHolds actors legal opening entries o

  module _ (id : ℕ) (v : View O A B) (zeroth : v.number ≡ 0) (all : (n : ℕ) → 0 < n → n < v.made → IsSome (ended_of n v.ended)) (s : State (Option C) (Doing O A B)) (k : Law s) (at : get_elem? s.views id ≡ some record { stage = Idle; view = v }) where
    abbrev d : Doing O A B
    d = record { stage = Idle; view = v }

    fit : Fits o k.log s.views id v
    fit = k.live id d at tt

    id_is : id ≡ 0
    id_is = sym fit.number ∙ zeroth

    made_is : v.made ≡ length s.views
    made_is = fit.made id_is

    was_joined : (n : ℕ) (x : Option (Ended A B)) → ended_of n v.ended ≡ x → IsSome x → IsSpent s.views n
    was_joined n None is h = absurd (true≢false (sym h))
    was_joined n (Some e) is h = (fit.ended n e is).2

    -- nobody is left who could be in a turn
    calm : (i : ℕ) (x : Doing O A B) → get_elem? s.views i ≡ some x → IsCalm x.stage
    calm zero x is =
        let q : d ≡ x = one_at s.views 0 d x (subst (λ (n : ℕ). get_elem? s.views n ≡ some d) id_is at) is in
        subst (λ (y : Doing O A B). IsCalm y.stage) q idle_is_calm
    calm (suc i) x is =
        let p = there s.views (suc i) x is in
        let sp = was_joined (suc i) (ended_of (suc i) v.ended) refl (all (suc i) (omega arith) (omega (arith, p, made_is))) in
        let q : sp.0 ≡ x = one_at s.views (suc i) sp.0 x sp.1 is in
        subst IsCalm (sym sp.2 ∙ ap (λ (y : Doing O A B). y.stage) q) spent_is_calm

    pub home : IsHome opening entries o k.log s.homes
    home = ⊎_elim (λ (h : IsHome opening entries o k.log s.homes). h) (λ (out : IsOut s.views). absurd (calm out.0 out.1 out.3 out.2 out.4)) k.slot

    own_log : (n : ℕ) → entries_of n k.log ≡ own_of v n
    own_log n = ⊎_elim
        (λ (z : n ≡ 0).
        let mine : entries_of n k.log ≡ v.mine = ap (λ (m : ℕ). entries_of m k.log) (z ∙ sym id_is) ∙ fit.mine in
        mine ∙ sym (ap (λ b. cond b v.mine (mine_of (ended_of n v.ended))) (eq-eqb n v.number (z ∙ sym zeroth))))
        (λ (nz : n ≢ 0). kept (ended_of n v.ended) refl nz ∙ sym (ap (λ b. cond b v.mine (mine_of (ended_of n v.ended))) (ne_eqb n v.number (λ q. nz (q ∙ zeroth)))))
        (same_or_not n 0)
      where
        kept : (x : Option (Ended A B)) → ended_of n v.ended ≡ x → n ≢ 0 → entries_of n k.log ≡ mine_of x
        kept None is nz = ⊎_elim
            (λ (lt : n < v.made). let h : IsSome (ended_of n v.ended) = all n (omega (arith, nz)) lt in absurd (true≢false (sym (subst IsSome is h))))
            (λ (le : v.made ≤ n). k.absent n (omega (arith, le, made_is)))
            (cases_lt n v.made)
        kept (Some e) is nz = (fit.ended n e is).0

    whole_log : IsWhole legal v k.log
    whole_log =
        let others : (n : ℕ) → v.made ≤ n → entries_of n k.log ≡ [] = λ n le. k.absent n (omega (arith, le, made_is)) in record {
          lawful = subst (λ (x : O). legal x k.log) (sym fit.opened) k.lawful;
          own = own_log;
          others = others;
          total = length-by_actor v.made k.log others ∙ sum_below-same v.made (λ n. length (entries_of n k.log)) (λ n. length (own_of v n)) (λ n. ap length (own_log n));
          seen = fit.seen;
          ended = λ n e is. (fit.ended n e is).1;
        }

    pub closed : (core : C) × (get_elem? s.homes 0 ≡ some (some (Some core))) × (opening core ≡ v.opening) × IsWhole legal v (entries core)
    closed =
        let h = home in (
          h.0,
          ap (λ (hs : List (Maybe (Option C))). get_elem? hs 0) h.1,
          h.3 ∙ sym fit.opened,
          subst (λ (l : List (Entry A B)). IsWhole legal v l) (sym h.2) whole_log,
        )

  -- the slot of a table that was closed holds the core
  pub closes : (id : ℕ) (v : View O A B) → v.number ≡ 0 → ((n : ℕ) → 0 < n → n < v.made → IsSome (ended_of n v.ended)) → (ws : List ℕ) (slots : List (Option C))
      → Final (Seen Law id record { stage = Idle; view = v }) ws slots
      → (core : C) × (get_elem? slots 0 ≡ some (Some core)) × (opening core ≡ v.opening) × IsWhole legal v (entries core)
  closes id v zeroth all ws slots f =
      let c = closed id v zeroth all f.0 f.1.0 f.1.1 in (c.0, f.4 0 (Some c.0) c.1, c.2, c.3)

  pub closes_idle : (id : ℕ) (d : Doing O A B) → d.stage ≡ Idle → d.view.number ≡ 0 → ((n : ℕ) → 0 < n → n < d.view.made → IsSome (ended_of n d.view.ended)) → (ws : List ℕ) (slots : List (Option C))
      → Final (Seen Law id d) ws slots
      → (core : C) × (get_elem? slots 0 ≡ some (Some core)) × (opening core ≡ d.view.opening) × IsWhole legal d.view (entries core)
  closes_idle id d idle zeroth all ws slots f =
      let is : d ≡ record { stage = Idle; view = d.view } = λ i. record { stage = idle i; view = d.view } in
      closes id d.view zeroth all ws slots (subst (λ (x : Doing O A B). Final (Seen Law id x) ws slots) is f)

  module _ (id : ℕ) (d : Doing O A B) (known : View O A B) (known_is : d.view ≡ known) (idle : d.stage ≡ Idle) (zeroth : known.number ≡ 0) (all : (n : ℕ) → 0 < n → n < known.made → IsSome (ended_of n known.ended)) (ws : List ℕ) (slots : List (Option C)) (f : Final (Seen Law id d) ws slots) (slot : Option C) (taken : get_elem? slots 0 ≡ some slot) where
    the_core : (core : C) × (slot ≡ Some core) × (opening core ≡ known.opening) × IsWhole legal known (entries core)
    the_core =
        let number : d.view.number ≡ 0 = ap (λ (v : View O A B). v.number) known_is ∙ zeroth in
        let joined : (n : ℕ) → 0 < n → n < d.view.made → IsSome (ended_of n d.view.ended) = subst (λ (v : View O A B). (n : ℕ) → 0 < n → n < v.made → IsSome (ended_of n v.ended)) (sym known_is) all in
        let r = closes_idle id d idle number joined ws slots f in
        (r.0, some-injective slot (Some r.0) (sym taken ∙ r.1), r.2 ∙ ap (λ (v : View O A B). v.opening) known_is, subst (λ (v : View O A B). IsWhole legal v (entries r.0)) known_is r.3)

    pub slot_is_full : slot ≢ None
    slot_is_full e = let r = the_core in let q : Some r.0 ≡ None = sym r.1 ∙ e in cc

    pub core_is_whole : (core : C) → slot ≡ Some core → (opening core ≡ known.opening) × IsWhole legal known (entries core)
    core_is_whole core e =
        let r = the_core in
        let q : Some r.0 ≡ Some core = sym r.1 ∙ e in
        let same : r.0 ≡ core = cc in (ap opening (sym same) ∙ r.2, subst (λ (x : C). IsWhole legal known (entries x)) same r.3)
