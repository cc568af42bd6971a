-- A desk whose one actor has taken its one place: it may give it, and bring the names.
use Rattle.std.proofs.Common.{◌≡◌, ◌||◌, ℕ, List, [], ◌∷◌, ◌++◌, length, map, Bool, true, false, None, Option, is_some, refl, ap, ap₂, sym, ◌∙◌, subst, arith}
use Rattle.std.proofs.lemmas.Bool.{true≢false}
use Rattle.lw_names.specs.Naming.{MayBring}
use Rattle.lw_desk.specs.History.{settled_places, failed_places, names_given, MayGiveAll, May}
use Rattle.lw_desk.specs.bodies.DeskBody.{entry}
use Rattle.lw_desk.specs.declared.ask.Ask.{Ask}
use Rattle.lw_desk.specs.declared.ask.Failed.{Failed}
use Rattle.lw_desk.specs.declared.ask.Give.{Give}
use Rattle.lw_desk.specs.declared.ask.Reply.{Reply}
use Rattle.lw_sessions_tests.specs.TestNames.{one_give, one_word}

none_fails : (failed : Option Failed) → failed ≡ None → is_some failed ≡ true → ⊥
none_fails failed e some = true≢false (sym some ∙ ap (λ (f : Option Failed). is_some f) e)

settled_are : (ask : Ask) (gs : List Give) → ask.gives.items ≡ gs → ask.failed ≡ None → settled_places ask ≡ map (λ g. g.place) gs ++ []
settled_are ask gs given none = ap₂ (λ (l : List Give) (f : Option Failed). map (λ g. g.place) l ++ failed_places f) given none

pub may_give : (names : List (List ℕ)) (outs : List ℕ) → MayBring true [] names outs → (before ask : Ask) (reply : Reply) → before.gives.items ≡ [] → before.failed ≡ None → reply.done ≡ false → reply.places ≡ 0 ∷ []
    → ask.gives.items ≡ one_give names outs ∷ [] → ask.failed ≡ None → ask.wanted ≡ 0 → May (one_word outs) (entry 0 before reply ∷ []) ask
may_give names outs may before ask reply was_given was_none live held given none wanted =
    let own : names_given before.gives.items ≡ [] = ap names_given was_given in
    let settled : settled_places ask ≡ 0 ∷ [] = settled_are ask (one_give names outs ∷ []) given none in
    record {
      live = ap₂ (λ (d : Bool) (f : Option Failed). d || is_some f) live was_none;
      places = settled ∙ sym held;
      gives = subst (λ (own : List (List ℕ)). MayGiveAll (outs ∷ []) true own ask.gives.items) (sym own)
          (subst (λ (gs : List Give). MayGiveAll (outs ∷ []) true [] gs) (sym given) (may, refl, tt));
      fails = λ some. absurd (none_fails ask.failed none some);
      some = let n = ap (λ (l : List ℕ). length l) settled in omega (arith, n);
      few = omega (arith, wanted);
    }
