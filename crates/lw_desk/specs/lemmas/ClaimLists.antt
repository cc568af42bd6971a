-- Lists of claims: each place is claimed once, and what is left when places are left out.
use Rattle.std.proofs.Common.{◌≡◌, ◌≢◌, inl, inr, ⊎_elim, ℕ, List, [], ◌∷◌, ◌++◌, map, filter, Bool, true, false, not, ◌==◌, cond, refl, ap, sym, ◌∙◌}
use Rattle.std.proofs.lemmas.Bool.{true≢false, false≢true}
use Rattle.lw_desk.specs.Step.{Claimed, without_place, without_places}
use Rattle.lw_names.proofs.Members.{In, in_filter, in_filter_of, same_number, is_same, is_other, other_number, removed, removed_all, none_left, in_map, in_mapped}

-- no claim is on this place
abbrev pub NotAt : ℕ → List Claimed → Type 0
NotAt place [] = Unit {0}
NotAt place (c ∷ cs) = (c.place ≢ place) × NotAt place cs

-- each place is claimed once
abbrev pub EachOnce : List Claimed → Type 0
EachOnce [] = Unit {0}
EachOnce (c ∷ cs) = NotAt c.place cs × EachOnce cs

-- the places of an actor
abbrev pub places_of : ℕ → List Claimed → List ℕ
places_of actor cs = map (λ c. c.place) (filter (λ c. c.actor == actor) cs)

pub not_at_of : (place : ℕ) (cs : List Claimed) → ((c : Claimed) → In c cs → c.place ≢ place) → NotAt place cs
not_at_of place [] all = tt
not_at_of place (c ∷ cs) all = (all c (inl refl), not_at_of place cs (λ d i. all d (inr i)))

pub at_none : (place : ℕ) (cs : List Claimed) → NotAt place cs → (c : Claimed) → In c cs → c.place ≢ place
at_none place [] none c h = absurd h
at_none place (d ∷ cs) none c h = ⊎_elim (λ (e : c ≡ d). λ same. none.0 (ap (λ (x : Claimed). x.place) (sym e) ∙ same)) (λ (i : In c cs). at_none place cs none.1 c i) h

pub not_at_without : (place gone : ℕ) (cs : List Claimed) → NotAt place cs → NotAt place (without_place gone cs)
not_at_without place gone cs none = not_at_of place (without_place gone cs) (λ c i. at_none place cs none c (in_filter (λ c. not (c.place == gone)) c cs i).0)

pub once_without : (gone : ℕ) (cs : List Claimed) → EachOnce cs → EachOnce (without_place gone cs)
once_without gone [] once = tt
once_without gone (c ∷ cs) once = by (not (c.place == gone)) (not_at_without c.place gone cs once.0) (once_without gone cs once.1)
  where
    by : (b : Bool) → NotAt c.place (without_place gone cs) → EachOnce (without_place gone cs) → EachOnce (cond b (c ∷ without_place gone cs) (without_place gone cs))
    by true none rest = (none, rest)
    by false none rest = rest

pub once_without_all : (gone : List ℕ) (cs : List Claimed) → EachOnce cs → EachOnce (without_places gone cs)
once_without_all [] cs once = once
once_without_all (p ∷ ps) cs once = once_without_all ps (without_place p cs) (once_without p cs once)

not_at_more : (place : ℕ) (cs : List Claimed) (c : Claimed) → NotAt place cs → c.place ≢ place → NotAt place (cs ++ c ∷ [])
not_at_more place [] c none other = (other, tt)
not_at_more place (d ∷ cs) c none other = (none.0, not_at_more place cs c none.1 other)

pub once_more : (cs : List Claimed) (c : Claimed) → EachOnce cs → NotAt c.place cs → EachOnce (cs ++ c ∷ [])
once_more [] c once none = (tt, tt)
once_more (d ∷ cs) c once none = (not_at_more d.place cs c once.0 (λ e. none.0 (sym e)), once_more cs c once.1 none.1)

-- claims that are in both at one place are one
pub one_claim : (cs : List Claimed) (c d : Claimed) → EachOnce cs → In c cs → In d cs → c.place ≡ d.place → c ≡ d
one_claim [] c d once in_c in_d same = absurd in_c
one_claim (x ∷ cs) c d once in_c in_d same =
    ⊎_elim
    (λ (e : c ≡ x). ⊎_elim
    (λ (f : d ≡ x). e ∙ sym f)
    (λ (i : In d cs). absurd (at_none x.place cs once.0 d i (sym same ∙ ap (λ (y : Claimed). y.place) e)))
    in_d)
    (λ (i : In c cs). ⊎_elim
    (λ (f : d ≡ x). absurd (at_none x.place cs once.0 c i (same ∙ ap (λ (y : Claimed). y.place) f)))
    (λ (j : In d cs). one_claim cs c d once.1 i j same)
    in_d)
    in_c

pub in_without : (gone : ℕ) (cs : List Claimed) (c : Claimed) → In c (without_place gone cs) → In c cs × (c.place ≢ gone)
in_without gone cs c i =
    let t = in_filter (λ c. not (c.place == gone)) c cs i in
    (t.0, λ same. false≢true (sym (ap not (is_same c.place gone same)) ∙ t.1))

pub in_without_of : (gone : ℕ) (cs : List Claimed) (c : Claimed) → In c cs → c.place ≢ gone → In c (without_place gone cs)
in_without_of gone cs c i other = in_filter_of (λ c. not (c.place == gone)) c cs i (ap not (is_other c.place gone other))

without_kept : (gone : ℕ) (c : Claimed) (cs : List Claimed) → not (c.place == gone) ≡ true → without_place gone (c ∷ cs) ≡ c ∷ without_place gone cs
without_kept gone c cs e = ap (λ (b : Bool). cond b (c ∷ without_place gone cs) (without_place gone cs)) e

without_gone : (gone : ℕ) (c : Claimed) (cs : List Claimed) → not (c.place == gone) ≡ false → without_place gone (c ∷ cs) ≡ without_place gone cs
without_gone gone c cs e = ap (λ (b : Bool). cond b (c ∷ without_place gone cs) (without_place gone cs)) e

removed_kept : (gone x : ℕ) (xs : List ℕ) → not (x == gone) ≡ true → removed gone (x ∷ xs) ≡ x ∷ removed gone xs
removed_kept gone x xs e = ap (λ (b : Bool). cond b (x ∷ removed gone xs) (removed gone xs)) e

removed_gone : (gone x : ℕ) (xs : List ℕ) → not (x == gone) ≡ false → removed gone (x ∷ xs) ≡ removed gone xs
removed_gone gone x xs e = ap (λ (b : Bool). cond b (x ∷ removed gone xs) (removed gone xs)) e

pub places_own : (actor : ℕ) (c : Claimed) (cs : List Claimed) → (c.actor == actor) ≡ true → places_of actor (c ∷ cs) ≡ c.place ∷ places_of actor cs
places_own actor c cs e = ap (λ (b : Bool). map (λ (d : Claimed). d.place) (cond b (c ∷ filter (λ (d : Claimed). d.actor == actor) cs) (filter (λ (d : Claimed). d.actor == actor) cs))) e

pub places_other : (actor : ℕ) (c : Claimed) (cs : List Claimed) → (c.actor == actor) ≡ false → places_of actor (c ∷ cs) ≡ places_of actor cs
places_other actor c cs e = ap (λ (b : Bool). map (λ (d : Claimed). d.place) (cond b (c ∷ filter (λ (d : Claimed). d.actor == actor) cs) (filter (λ (d : Claimed). d.actor == actor) cs))) e

-- the places of the actor itself, when one is left out
pub own_without : (actor gone : ℕ) (cs : List Claimed) → places_of actor (without_place gone cs) ≡ removed gone (places_of actor cs)
own_without actor gone [] = refl
own_without actor gone (c ∷ cs) = by (c.actor == actor) (not (c.place == gone)) refl refl (own_without actor gone cs)
  where
    by : (a g : Bool) → (c.actor == actor) ≡ a → not (c.place == gone) ≡ g → places_of actor (without_place gone cs) ≡ removed gone (places_of actor cs) → places_of actor (without_place gone (c ∷ cs)) ≡ removed gone (places_of actor (c ∷ cs))
    by true true a g rest =
        ap (places_of actor) (without_kept gone c cs g)
        ∙ (places_own actor c (without_place gone cs) a
        ∙ (ap (λ (l : List ℕ). c.place ∷ l) rest
        ∙ (sym (removed_kept gone c.place (places_of actor cs) g) ∙ ap (removed gone) (sym (places_own actor c cs a)))))
    by false true a g rest =
        ap (places_of actor) (without_kept gone c cs g) ∙ (places_other actor c (without_place gone cs) a ∙ (rest ∙ ap (removed gone) (sym (places_other actor c cs a))))
    by true false a g rest =
        ap (places_of actor) (without_gone gone c cs g)
        ∙ (rest ∙ (sym (removed_gone gone c.place (places_of actor cs) g) ∙ ap (removed gone) (sym (places_own actor c cs a))))
    by false false a g rest = ap (places_of actor) (without_gone gone c cs g) ∙ (rest ∙ ap (removed gone) (sym (places_other actor c cs a)))

pub own_without_all : (actor : ℕ) (gone : List ℕ) (cs : List Claimed) → places_of actor (without_places gone cs) ≡ removed_all gone (places_of actor cs)
own_without_all actor [] cs = refl
own_without_all actor (p ∷ ps) cs = own_without_all actor ps (without_place p cs) ∙ ap (removed_all ps) (own_without actor p cs)

passes : (b : Bool) → not b ≡ false → b ≡ true
passes true e = refl
passes false e = absurd (true≢false e)

-- the places of another actor stay, when one is left out that it hasn't
pub others_without : (actor gone : ℕ) (cs : List Claimed) → ((c : Claimed) → In c cs → c.place ≡ gone → (c.actor == actor) ≡ false) → places_of actor (without_place gone cs) ≡ places_of actor cs
others_without actor gone [] all = refl
others_without actor gone (c ∷ cs) all =
    by (c.actor == actor) (not (c.place == gone)) refl refl (others_without actor gone cs (λ d i. all d (inr i)))
  where
    by : (a g : Bool) → (c.actor == actor) ≡ a → not (c.place == gone) ≡ g → places_of actor (without_place gone cs) ≡ places_of actor cs → places_of actor (without_place gone (c ∷ cs)) ≡ places_of actor (c ∷ cs)
    by true true a g rest =
        ap (places_of actor) (without_kept gone c cs g)
        ∙ (places_own actor c (without_place gone cs) a ∙ (ap (λ (l : List ℕ). c.place ∷ l) rest ∙ sym (places_own actor c cs a)))
    by false true a g rest =
        ap (places_of actor) (without_kept gone c cs g) ∙ (places_other actor c (without_place gone cs) a ∙ (rest ∙ sym (places_other actor c cs a)))
    by true false a g rest = absurd (true≢false (sym a ∙ all c (inl refl) (same_number c.place gone (passes (c.place == gone) g))))
    by false false a g rest = ap (places_of actor) (without_gone gone c cs g) ∙ (rest ∙ sym (places_other actor c cs a))

pub others_without_all : (actor : ℕ) (gone : List ℕ) (cs : List Claimed) → ((c : Claimed) → In c cs → In c.place gone → (c.actor == actor) ≡ false) → places_of actor (without_places gone cs) ≡ places_of actor cs
others_without_all actor [] cs all = refl
others_without_all actor (p ∷ ps) cs all =
    others_without_all actor ps (without_place p cs) (λ c i. λ g. all c (in_without p cs c i).0 (inr g))
    ∙ others_without actor p cs (λ c i. λ e. all c i (inl e))

-- the place of a claim is one of its actor's, and the other way
pub place_is : (actor : ℕ) (c : Claimed) (cs : List Claimed) → In c cs → (c.actor == actor) ≡ true → In c.place (places_of actor cs)
place_is actor c cs i own = in_map (λ (d : Claimed). d.place) c (filter (λ (d : Claimed). d.actor == actor) cs) (in_filter_of (λ (d : Claimed). d.actor == actor) c cs i own)

pub place_of_actor : (actor p : ℕ) (cs : List Claimed) → In p (places_of actor cs) → (c : Claimed) × In c cs × ((c.actor == actor) ≡ true) × (c.place ≡ p)
place_of_actor actor p cs i =
    let r = in_mapped (λ (d : Claimed). d.place) p (filter (λ (d : Claimed). d.actor == actor) cs) i in
    let t = in_filter (λ (d : Claimed). d.actor == actor) r.0 cs r.1 in
    (r.0, t.0, t.1, r.2)

-- an actor that gives up all its places has none, and the others keep theirs
pub gives_up : (actor : ℕ) (cs : List Claimed) → places_of actor (without_places (places_of actor cs) cs) ≡ []
gives_up actor cs = own_without_all actor (places_of actor cs) cs ∙ none_left (places_of actor cs) (places_of actor cs) (λ x i. i)

pub others_keep : (actor other : ℕ) (cs : List Claimed) → EachOnce cs → (other == actor) ≡ false → places_of other (without_places (places_of actor cs) cs) ≡ places_of other cs
others_keep actor other cs once differ =
    others_without_all other (places_of actor cs) cs (λ c i. λ g.
    let r = place_of_actor actor c.place cs g in
    let same : c ≡ r.0 = one_claim cs c r.0 once i r.1 (sym r.3) in
    let is : c.actor ≡ actor = ap (λ (x : Claimed). x.actor) same ∙ same_number (r.0).actor actor r.2 in
    is_other c.actor other (λ e. other_number other actor differ (sym e ∙ is)))

-- a claim more
pub places_more : (actor : ℕ) (cs : List Claimed) (c : Claimed) → (c.actor == actor) ≡ true → places_of actor (cs ++ c ∷ []) ≡ places_of actor cs ++ c.place ∷ []
places_more actor [] c own = places_own actor c [] own
places_more actor (d ∷ cs) c own = by (d.actor == actor) refl (places_more actor cs c own)
  where
    by : (b : Bool) → (d.actor == actor) ≡ b → places_of actor (cs ++ c ∷ []) ≡ places_of actor cs ++ c.place ∷ [] → places_of actor (d ∷ (cs ++ c ∷ [])) ≡ places_of actor (d ∷ cs) ++ c.place ∷ []
    by true e rest = places_own actor d (cs ++ c ∷ []) e ∙ (ap (λ (l : List ℕ). d.place ∷ l) rest ∙ ap (λ (l : List ℕ). l ++ c.place ∷ []) (sym (places_own actor d cs e)))
    by false e rest = places_other actor d (cs ++ c ∷ []) e ∙ (rest ∙ ap (λ (l : List ℕ). l ++ c.place ∷ []) (sym (places_other actor d cs e)))

pub places_same : (actor : ℕ) (cs : List Claimed) (c : Claimed) → (c.actor == actor) ≡ false → places_of actor (cs ++ c ∷ []) ≡ places_of actor cs
places_same actor [] c other = places_other actor c [] other
places_same actor (d ∷ cs) c other = by (d.actor == actor) refl (places_same actor cs c other)
  where
    by : (b : Bool) → (d.actor == actor) ≡ b → places_of actor (cs ++ c ∷ []) ≡ places_of actor cs → places_of actor (d ∷ (cs ++ c ∷ [])) ≡ places_of actor (d ∷ cs)
    by true e rest = places_own actor d (cs ++ c ∷ []) e ∙ (ap (λ (l : List ℕ). d.place ∷ l) rest ∙ sym (places_own actor d cs e))
    by false e rest = places_other actor d (cs ++ c ∷ []) e ∙ (rest ∙ sym (places_other actor d cs e))
