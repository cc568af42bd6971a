-- Answers that are given one after the other.
use Rattle.std.proofs.Common.{◌≡◌, inl, ⊎_elim, ℕ, ◌+◌, ◌<◌, ◌≤◌, List, [], ◌∷◌, ◌++◌, length, map, take, drop, get_or, Bool, true, false, Option, Some, None, is_some, refl, ap, sym, ◌∙◌, subst, arith, append-nil, take-append-drop, ◌==◌, ◌≢◌, pos_of_ne-zero, All, length-append}
use Rattle.lw_names.proofs.Members.{In, other_number}
use Rattle.std.proofs.lemmas.Bool.{true≢false, false≢true}
use Rattle.std.proofs.lemmas.List.{map_push, take_more, length-drop}
use Rattle.lw_words.specs.declared.stop.SulStop.{SulStop}
use Rattle.lw_words.specs.declared.stop.RunStop.{RunStop}
use Rattle.lw_sul.specs.Told.{Answers}
use Rattle.lw_mealy.specs.Origin.{Origin}
use Rattle.lw_desk.specs.Step.{word_at_place}
use Rattle.std.proofs.lemmas.List.Elements.{All-weaker}
use Rattle.lw_desk.specs.History.{failed_places}
use Rattle.lw_desk.specs.declared.ask.Ask.{Ask}
use Rattle.lw_desk.specs.declared.ask.Give.{Give}
use Rattle.lw_desk.specs.declared.ask.Failed.{Failed}
use Rattle.lw_pool.specs.Pool.{Seen, Same, WentOn}
use Rattle.lw_pool.specs.bodies.Working.{FailsAfter, HasAnswered}
use Rattle.lw_pool.specs.Working.{HasGiven, IsUnanswered, GivesBetween}

pub gives_both : (batch : List (List ℕ)) (was mid now : Seen) (gs hs : List Give) → GivesBetween batch was mid gs → GivesBetween batch mid now hs → GivesBetween batch was now (gs ++ hs)
gives_both batch was mid now [] hs same rest = subst (λ (s : Seen). GivesBetween batch s now hs) same rest
gives_both batch was mid now (g ∷ gs) hs gives rest = (gives.0, gives.1, gives_both batch gives.0 mid now gs hs gives.2 rest)

pub gives_more : (batch : List (List ℕ)) (was mid now : Seen) (gs : List Give) (g : Give) → GivesBetween batch was mid gs → HasGiven batch mid now g → GivesBetween batch was now (gs ++ g ∷ [])
gives_more batch was mid now gs g gives given = gives_both batch was mid now gs (g ∷ []) gives (now, given, refl)

pub same_both : (a b c : Seen) → Same a b → Same b c → Same a c
same_both a b c one two = record {
  instance = two.instance ∙ one.instance;
  most = two.most ∙ one.most;
  origin = two.origin ∙ one.origin;
  inputs = two.inputs ∙ one.inputs;
  outputs = two.outputs ∙ one.outputs;
}

pub same_not : (a : Seen) → Same a a
same_not a = record { instance = refl; most = refl; origin = refl; inputs = refl; outputs = refl }

pub gives_same : (batch : List (List ℕ)) (was now : Seen) (gs : List Give) → GivesBetween batch was now gs → Same was now
gives_same batch was now [] same = subst (Same was) (sym same) (same_not was)
gives_same batch was now (g ∷ gs) gives = same_both was gives.0 now gives.1.same (gives_same batch gives.0 now gs gives.2)

-- nothing was asked, since there was no memory
pub refused_first : (s : Seen) → IsUnanswered s s Rattle.lw_words.specs.declared.stop.RunStop.TheVariants.NoMemory
refused_first s = record {
  same = same_not s;
  journal = refl;
  names = ([], sym (append-nil s.names));
  few = inl refl;
  sul = λ x e. absurd (no_sul x e);
  memory = λ e. refl;
  again = λ x e. refl;
}
  where
    is_memory : RunStop → Bool
    is_memory (Rattle.lw_words.specs.declared.stop.RunStop.TheVariants.Sul x) = false
    is_memory Rattle.lw_words.specs.declared.stop.RunStop.TheVariants.NoMemory = true

    no_sul : (x : _) → Rattle.lw_words.specs.declared.stop.RunStop.TheVariants.NoMemory ≡ Rattle.lw_words.specs.declared.stop.RunStop.TheVariants.Sul x → ⊥
    no_sul x e = true≢false (ap is_memory e)

-- the places of the answers, and those that were not asked
module _ (batch : List (List ℕ)) (held : List ℕ) (was now : Seen) (ask : Ask) where
  pub answered_all : GivesBetween batch was now ask.gives.items → map (λ g. g.place) ask.gives.items ≡ held → ask.failed ≡ None → 0 < ask.wanted → ask.wanted ≤ 16 → HasAnswered batch held was now ask
  answered_all gives places none some few = record {
    places = ap (λ (f : Option Failed). map (λ (g : Give). g.place) ask.gives.items ++ failed_places f) none ∙ (append-nil (map (λ (g : Give). g.place) ask.gives.items) ∙ places);
    mid = now;
    gives = gives;
    fails = subst (FailsAfter now now) (sym none) refl;
    some = λ e. some;
    none = λ failed. absurd (false≢true (ap is_some (sym none) ∙ failed));
    few = few;
  }

  pub answered_some : (mid : Seen) (n : ℕ) (rest : List ℕ) (stop : RunStop) → n < length held → GivesBetween batch was mid ask.gives.items → map (λ g. g.place) ask.gives.items ≡ take n held → rest ≡ drop n held → ask.failed ≡ Some (record { places = rest; stop = stop }) → ask.wanted ≡ 0
      → IsUnanswered mid now stop → HasAnswered batch held was now ask
  answered_some mid n rest stop lt gives places left failed zero_wanted refused = record {
    places = ap (λ (f : Option Failed). map (λ (g : Give). g.place) ask.gives.items ++ failed_places f) failed
        ∙ (ap (λ (l : List ℕ). l ++ rest) places ∙ (ap (λ (l : List ℕ). take n held ++ l) left ∙ take-append-drop n held));
    mid = mid;
    gives = gives;
    fails = subst (FailsAfter mid now) (sym failed) refused;
    some = λ e. absurd (false≢true (ap is_some (sym e ∙ failed)));
    none = λ e. (subst (λ (f : Option Failed). 0 < length (failed_places f)) (sym failed) (omega (arith, lt, ap (λ (l : List ℕ). length l) left, length-drop n held)), zero_wanted);
    few = omega (arith, zero_wanted);
  }

pub places_more : (gs : List Give) (g : Give) (held : List ℕ) (i place : ℕ) → map (λ g. g.place) gs ≡ take i held → i < length held → get_or held i 0 ≡ place → g.place ≡ place → map (λ g. g.place) (gs ++ g ∷ []) ≡ take (i + 1) held
places_more gs g held i place front lt at is =
    map_push (λ (g : Give). g.place) gs g
    ∙ (ap (λ (l : List ℕ). l ++ g.place ∷ []) front
    ∙ (ap (λ (p : ℕ). take i held ++ p ∷ []) (is ∙ sym at) ∙ sym (take_more held i 0 lt)))

pub answered_same : (batch : List (List ℕ)) (held : List ℕ) (was now : Seen) (ask : Ask) → HasAnswered batch held was now ask → Same was now
answered_same batch held was now ask a = same_both was a.mid now (gives_same batch was a.mid ask.gives.items a.gives) (by ask.failed a.fails)
  where
    by : (f : Option Failed) → FailsAfter a.mid now f → Same a.mid now
    by None same = subst (Same a.mid) (sym same) (same_not a.mid)
    by (Some f) refused = refused.same

pub some_places : (xs ys : List ℕ) (b : Bool) → b ≡ false → b ≡ (length xs == 0) → xs ≡ ys → 0 < length ys
some_places xs ys b lacks is same =
    let other : length xs ≢ 0 = other_number (length xs) 0 (sym is ∙ lacks) in
    pos_of_ne-zero (λ e. other (ap (λ (l : List ℕ). length l) same ∙ e))

no_more : (was now more : List (List ℕ)) → now ≡ was ++ more → length now ≤ length was → now ≡ was
no_more was now [] same le = same ∙ append-nil was
no_more was now (x ∷ more) same le = absurd (omega (arith, le, ap (λ (l : List (List ℕ)). length l) same, length-append was (x ∷ more)))

names_longer : (batch : List (List ℕ)) (was now : Seen) (gs : List Give) → GivesBetween batch was now gs → length was.names ≤ length now.names
names_longer batch was now [] same = omega (arith, ap (λ (s : Seen). length s.names) same)
names_longer batch was now (g ∷ gs) gives = omega (arith, names_longer batch gives.0 now gs gives.2, ap (λ (l : List (List ℕ)). length l) gives.1.names, length-append was.names g.names)

-- what holds of each answer that was given
pub each_given : (batch : List (List ℕ)) (was now : Seen) (gs : List Give) (g : Give) → GivesBetween batch was now gs → In g gs → Answers was.origin.machine (word_at_place batch g.place) g.outs × All (λ y. y < length now.names) g.outs
each_given batch was now [] g same i = absurd i
each_given batch was now (h ∷ gs) g gives i =
    ⊎_elim
    (λ (same : g ≡ h).
    let first : Answers was.origin.machine (word_at_place batch h.place) h.outs × All (λ y. y < length now.names) h.outs =
    (gives.1.answers, All-weaker (λ y. y < length gives.0.names) (λ y. y < length now.names) (λ y lt. omega (arith, lt, names_longer batch gives.0 now gs gives.2)) h.outs gives.1.numbers) in
    subst (λ (x : Give). Answers was.origin.machine (word_at_place batch x.place) x.outs × All (λ y. y < length now.names) x.outs) (sym same) first)
    (λ (j : In g gs).
    let rest = each_given batch gives.0 now gs g gives.2 j in
    (subst (λ (o : Origin). Answers o.machine (word_at_place batch g.place) g.outs) gives.1.same.origin rest.0, rest.1))
    i

-- the names of a system that may have no more than it had are as they were
pub gives_few : (batch : List (List ℕ)) (was now : Seen) (gs : List Give) → GivesBetween batch was now gs → was.most ≤ length was.names → now.names ≡ was.names
gives_few batch was now [] same le = ap (λ (s : Seen). s.names) same
gives_few batch was now (g ∷ gs) gives le =
    let first : gives.0.names ≡ was.names = no_more was.names gives.0.names g.names gives.1.names (omega (arith, gives.1.few, le)) in
    gives_few batch gives.0 now gs gives.2 (omega (arith, le, gives.1.same.most, ap (λ (l : List (List ℕ)). length l) first)) ∙ first

pub refused_few : (was now : Seen) (stop : RunStop) → IsUnanswered was now stop → was.most ≤ length was.names → now.names ≡ was.names
refused_few was now stop refused le =
    ⊎_elim
    (λ (same : now.names ≡ was.names). same)
    (λ (few : length now.names ≤ was.most). no_more was.names now.names refused.names.0 refused.names.1 (omega (arith, few, le)))
    refused.few

-- a session that was stopped answers nothing
pub gives_stopped : (batch : List (List ℕ)) (was now : Seen) (gs : List Give) (x : SulStop) → was.stop ≡ Some x → GivesBetween batch was now gs → now ≡ was
gives_stopped batch was now [] x told same = same
gives_stopped batch was now (g ∷ gs) x told gives = absurd (false≢true (ap is_some (sym gives.1.was_live ∙ told)))

pub went_on_not : (s : Seen) → WentOn s s
went_on_not s = record {
  same = same_not s;
  more = [];
  journal = sym (append-nil s.journal);
  names = ([], sym (append-nil s.names));
  stopped = λ x told. refl;
}

pub gives_live : (batch : List (List ℕ)) (was now : Seen) (gs : List Give) → GivesBetween batch was now gs → was.stop ≡ None → now.stop ≡ None
gives_live batch was now [] same live = ap (λ (s : Seen). s.stop) same ∙ live
gives_live batch was now (g ∷ gs) gives live = gives_live batch gives.0 now gs gives.2 gives.1.live
