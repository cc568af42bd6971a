-- Loops that write one hand after the other.
use Rattle.std.proofs.Common.{◌≡◌, ◌⊎◌, ◌≢◌, eq-eqb, ne_eqb, subst₂, Option, is_some, unwrap_or, inl, inr, ⊎_elim, ℕ, zero, suc, ◌+◌, ◌<◌, ◌≤◌, List, [], ◌∷◌, ◌++◌, length, get_or, set, All, Bool, true, false, cond, Some, refl, ap, sym, ◌∙◌, subst, arith, eqb, length-append}
use Rattle.std.proofs.lemmas.Bool.Decides.{eqb_tells}
use Rattle.std.proofs.lemmas.List.{get_or-set_same, get_or-set_other, get_or_append_left, get_or-append_right}
use Rattle.lw_turn.specs.declared.view.View.{View}
use Rattle.lw_turn.specs.Views.{ended_of, ended_view, joined_view, mine_of, own_of}
use Rattle.lw_turn.specs.Held.{Held}
use Rattle.lw_turn.specs.History.{entries_of}
use Rattle.lw_turn.specs.declared.shared.Entry.{Entry}
use Rattle.lw_words.specs.Word.{IsWord}
use Rattle.lw_names.specs.Naming.{own_names}
use Rattle.lw_desk.specs.History.{DeskOpening}
use Rattle.lw_desk.specs.declared.ask.Ask.{Ask}
use Rattle.lw_desk.specs.declared.ask.Reply.{Reply}
use Rattle.lw_pool.specs.Pool.{Seen, Same, Member}
use Rattle.lw_pool.specs.declared.crew.Engaged.{Engaged}
use Rattle.lw_pool.specs.declared.hands.Hand.{Hand}
use Rattle.lw_pool.specs.bodies.Engaged.{Working, IsReady}
use Rattle.lw_pool.specs.bodies.Crew.{CanRun, HasRun, IsHired, MayWork, HasWorkedOff}

pub same_or_not : (a b : ℕ) → (a ≡ b) ⊎ (a ≢ b)
same_or_not a b = ⊎_elim (λ (e : (eqb a b ≡ true) × (a ≡ b)). inl e.1) (λ (e : (eqb a b ≡ false) × (a ≢ b)). inr e.1) (eqb_tells a b)

module _ {X : Type 0} (old now : List X) (i : ℕ) (y : X) (len : length now ≡ length old) (lt : i < length old) where
  -- what holds of the places before i holds of i too, once it is written
  pub more_places : (R : ℕ → X → X → Type 0) → ((k : ℕ) (d : X) → k < i → R k (get_or old k d) (get_or now k d)) → ((d : X) → R i (get_or old i d) y) → (k : ℕ) (d : X) → k < i + 1 → R k (get_or old k d) (get_or (set now i y) k d)
  more_places R before at k d below =
      ⊎_elim
      (λ (e : k ≡ i). subst (λ (n : ℕ). R n (get_or old n d) (get_or (set now i y) n d)) (sym e) (subst (R i (get_or old i d)) (sym (get_or-set_same now i y d (omega (arith, lt, len)))) (at d)))
      (λ (e : k ≢ i). subst (R k (get_or old k d)) (sym (get_or-set_other now i k y d e)) (before k d (omega (arith, e, below))))
      (same_or_not k i)

  -- and the places after i are as they were
  pub left_places : ((k : ℕ) (d : X) → i ≤ k → k < length old → get_or now k d ≡ get_or old k d) → (k : ℕ) (d : X) → i + 1 ≤ k → k < length old → get_or (set now i y) k d ≡ get_or old k d
  left_places left k d above within = get_or-set_other now i k y d (λ e. omega (arith, e, above)) ∙ left k d (omega (arith, above)) within

-- a write at i, as any other place sees it
pub write_place : {X : Type 0} (R : ℕ → X → X → Type 0) (old now : List X) (i : ℕ) (y : X) → i < length now → (k : ℕ) (d : X) → (k ≢ i → R k (get_or old k d) (get_or now k d)) → R i (get_or old i d) y → R k (get_or old k d) (get_or (set now i y) k d)
write_place R old now i y lt k d other at =
    ⊎_elim
    (λ (e : k ≡ i). subst (λ (n : ℕ). R n (get_or old n d) (get_or (set now i y) n d)) (sym e) (subst (R i (get_or old i d)) (sym (get_or-set_same now i y d lt)) at))
    (λ (e : k ≢ i). subst (R k (get_or old k d)) (sym (get_or-set_other now i k y d e)) (other e))
    (same_or_not k i)

-- what holds of each of two pairs of lists holds of the pair of their joins
pub both_parts : {X : Type 0} (R : X → X → Type 0) (xs ys us vs : List X) → length us ≡ length xs → ((i : ℕ) (d : X) → i < length xs → R (get_or xs i d) (get_or us i d)) → ((i : ℕ) (d : X) → i < length ys → R (get_or ys i d) (get_or vs i d)) → (i : ℕ) (d : X) → i < length (xs ++ ys) → R (get_or (xs ++ ys) i d) (get_or (us ++ vs) i d)
both_parts R [] ys [] vs len front back i d lt = back i d lt
both_parts R [] ys (u ∷ us) vs len front back i d lt = absurd (omega (arith, len))
both_parts R (x ∷ xs) ys [] vs len front back i d lt = absurd (omega (arith, len))
both_parts R (x ∷ xs) ys (u ∷ us) vs len front back zero d lt = front zero d (omega arith)
both_parts R (x ∷ xs) ys (u ∷ us) vs len front back (suc i) d lt = both_parts R xs ys us vs (omega (arith, len)) (λ j e l. front (suc j) e (omega (arith, l))) back i d (omega (arith, lt))

pub left_part : {X : Type 0} (P : X → Type 0) (xs ys : List X) → All P (xs ++ ys) → All P xs
left_part P xs ys all k d lt = subst P (get_or_append_left xs ys d k lt) (all k d (omega (arith, lt, length-append xs ys)))

pub right_part : {X : Type 0} (P : X → Type 0) (xs ys : List X) → All P (xs ++ ys) → All P ys
right_part P xs ys all k d lt = subst P (get_or-append_right xs ys (length xs) (length xs + k) d refl (omega arith) ∙ ap (λ (n : ℕ). get_or ys n d) (omega arith)) (all (length xs + k) d (omega (arith, lt, length-append xs ys)))

-- a pass that made one more has worked as far
pub working_made : (start now : Seen) (v w : View DeskOpening Ask Reply) (reply : Reply) → w ≡ record v { made = v.made + 1 } → Working start now v reply → Working start now w reply
working_made start now v w reply same is = subst (λ (x : View DeskOpening Ask Reply). Working start now x reply) (sym same)
    (record {
      own = is.own;
      begun = is.begun;
      held = is.held;
      going = is.going;
      ended = is.ended;
      names = is.names;
      within = is.within;
      mid = is.mid;
      gives = is.gives;
      after = is.after;
      failed = is.failed;
      unfailed = is.unfailed;
      live = is.live;
    })

-- the pass of the number i is joined, after those of the numbers before it
pub joined_more : (v x w : View DeskOpening Ask Reply) (i k : ℕ) (e : View DeskOpening Ask Reply) → x ≡ joined_view v w → w.number ≡ i → (k ≢ i → ended_of k v.ended ≡ Some (ended_view e)) → (k ≡ i → w ≡ e) → ended_of k x.ended ≡ Some (ended_view e)
joined_more v x w i k e same number before at =
    ap (λ (y : View DeskOpening Ask Reply). ended_of k y.ended) same
    ∙ ⊎_elim
    (λ (t : (eqb w.number k ≡ true) × (w.number ≡ k)). ap (λ (b : Bool). cond b (Some (ended_view w)) (ended_of k v.ended)) t.0 ∙ ap (λ (y : View DeskOpening Ask Reply). Some (ended_view y)) (at (sym t.1 ∙ number)))
    (λ (t : (eqb w.number k ≡ false) × (w.number ≢ k)). ap (λ (b : Bool). cond b (Some (ended_view w)) (ended_of k v.ended)) t.0 ∙ before (λ s. t.1 (number ∙ sym s)))
    (eqb_tells w.number k)

module _ {S : Type 0} (Ours : Held DeskOpening Ask Reply → Type 0) where
  -- a hand that was hired can run
  pub can_run : (o : DeskOpening) (batch : List (List ℕ)) (number : ℕ) (was now : Hand S) → o.batch ≡ batch → IsReady (is_some o.naming.brought) (own_names o.naming number) was.worker.seen → All (IsWord was.worker.seen.inputs) batch → IsHired Ours o number was now → CanRun Ours batch now
  can_run o batch number was now same ready letters h =
      let opening : h.place.pass.knows.opening ≡ o = h.opening in
      let seen : now.worker.seen ≡ was.worker.seen = ap (λ (m : Member S). m.seen) h.worker in
      record {
        place = h.place;
        is = h.is;
        ours = h.ours;
        batch_is = ap (λ (p : DeskOpening). p.batch) opening ∙ same;
        begun = h.begun now.worker.seen;
        may = subst₂ (λ (p : DeskOpening) (n : ℕ). MayWork p n now.worker.seen) (sym opening) (sym h.number_is)
            (subst (MayWork o number) (sym seen) (record { ready = ready; letters = subst (All (IsWord was.worker.seen.inputs)) (sym same) letters }));
      }

  -- the place that a hand has after its run
  pub record HasEnded (o : DeskOpening) (number : ℕ) (start : Seen) (h : Hand S) : Type 0 where
    pub place : Engaged
    pub is : h.engaged ≡ Some place
    pub ours : Ours place.pass
    pub opening : place.pass.knows.opening ≡ o
    pub number_is : place.pass.knows.number ≡ number
    pub first : number ≡ 0 → (place.pass.knows.made ≡ o.actors) × (place.pass.knows.ended ≡ [])
    pub working : Working start h.worker.seen place.pass.knows place.reply
    pub idle : place.reply.places ≡ []
    pub same : Same start h.worker.seen

  pub has_ended : (o : DeskOpening) (number : ℕ) (was mid now : Hand S) → IsHired Ours o number was mid → HasRun Ours mid now → HasEnded o number was.worker.seen now
  has_ended o number was mid now h r =
      let before : r.before ≡ h.place = some_same r.before h.place (sym r.was_is ∙ h.is) in
      let seen : mid.worker.seen ≡ was.worker.seen = ap (λ (m : Member S). m.seen) h.worker in
      record {
        place = r.place;
        is = r.is;
        ours = r.ours;
        opening = r.opening ∙ (ap (λ (e : Engaged). e.pass.knows.opening) before ∙ h.opening);
        number_is = r.number ∙ (ap (λ (e : Engaged). e.pass.knows.number) before ∙ h.number_is);
        first = λ z. (
          r.made ∙ (ap (λ (e : Engaged). e.pass.knows.made) before ∙ (h.first z).0),
          r.ended ∙ (ap (λ (e : Engaged). e.pass.knows.ended) before ∙ (h.first z).1),
        );
        working = subst (λ (s : Seen). Working s now.worker.seen r.place.pass.knows r.place.reply) seen r.working;
        idle = r.idle;
        same = subst (λ (s : Seen). Same s now.worker.seen) seen r.session;
      }
    where
      some_same : (a b : Engaged) → Some a ≡ Some b → a ≡ b
      some_same a b e = ap (λ (x : Option Engaged). unwrap_or x a) e

  -- and what the history has of it
  pub worked_off : (o : DeskOpening) (es : List (Entry Ask Reply)) (number : ℕ) (start : Seen) (h last : Hand S) → (e : HasEnded o number start h) → last.worker ≡ h.worker → entries_of number es ≡ e.place.pass.knows.mine → HasWorkedOff o es number start last.worker.seen
  worked_off o es number start h last e same mine =
      let seen : h.worker.seen ≡ last.worker.seen = ap (λ (m : Member S). m.seen) (sym same) in
      record {
        view = e.place.pass.knows;
        opening = e.opening;
        number_is = e.number_is;
        mine = sym mine;
        reply = e.place.reply;
        working = subst (λ (s : Seen). Working start s e.place.pass.knows e.place.reply) seen e.working;
        idle = e.idle;
        same = subst (Same start) seen e.same;
      }

-- the entries of a number in a whole history: those of the last pass, or of a pass that was joined
pub own_first : (v : View DeskOpening Ask Reply) (n : ℕ) → n ≡ v.number → own_of v n ≡ v.mine
own_first v n same = ap (λ (b : Bool). cond b v.mine (mine_of (ended_of n v.ended))) (eq-eqb n v.number same)

pub own_other : (v w : View DeskOpening Ask Reply) (n : ℕ) → n ≢ v.number → ended_of n v.ended ≡ Some (ended_view w) → own_of v n ≡ w.mine
own_other v w n other ended = ap (λ (b : Bool). cond b v.mine (mine_of (ended_of n v.ended))) (ne_eqb n v.number other) ∙ ap mine_of ended
