-- Lines that are put one by one.
use Rattle.std.proofs.Common.{◌≡◌, ◌≢◌, ◌⊎◌, ℕ, List, [], ◌∷◌, ◌++◌, Result, Ok, Err, IfOk, OnErr, append_assoc, append-nil, refl, sym, ap, ◌∙◌, subst, inl, inr}
use Rattle.std.proofs.lemmas.List.Concat.{flat_map-append}
use Rattle.lw_words.specs.Cause.{CountedFault}
use Rattle.lw_outside.specs.Logs.{LogFileState}
use Rattle.lw_log.specs.Putting.{Puts, PutsEach, PutsFront, joined_lines}
use Rattle.lw_log.specs.declared.log.LogState.{LogState}
use Rattle.lw_log.specs.declared.log.LogState.TheVariants.{Closed, Open, Failed}

one_put : (text : List ℕ) (state : LogState) (before now : LogFileState) → Puts text state before now → PutsEach (text ∷ []) state before now
one_put text Closed before now puts = puts
one_put text Open before now puts = (puts.0, puts.1 ∙ ap (λ t. before.text ++ t) (sym (append-nil text)), puts.2)
one_put text Failed before now puts = (puts.0, ([], text, [], refl, puts.1 ∙ sym (append-nil before.text)), inl puts.2)

one_short : (text : List ℕ) (state : LogState) (before now : LogFileState) → state ≡ Failed → now ≡ before → PutsEach (text ∷ []) state before now
one_short text state before now failed same =
    subst (λ s. PutsEach (text ∷ []) s before now) (sym failed)
    (ap (λ (f : LogFileState). f.name) same, ([], text, [], refl, ap (λ (f : LogFileState). f.text) same ∙ sym (append-nil before.text)), inr (ap (λ (f : LogFileState). f.faults) same))

-- one line, where there was memory to make it
pub one_line : {X E F : Type 0} (bytes : X → List ℕ) (told : F → LogFileState) (text : List ℕ) (line : Result X E) (state : LogState) (before now : F) → IfOk line (λ l. bytes l ≡ text) → IfOk line (λ l. Puts (bytes l) state (told before) (told now))
    → OnErr line ((state ≡ Failed) × (now ≡ before)) → PutsEach (text ∷ []) state (told before) (told now)
one_line bytes told text (Ok l) state before now is puts short =
    one_put text state (told before) (told now) (subst (λ t. Puts t state (told before) (told now)) is puts)
one_line bytes told text (Err e) state before now is puts short =
    one_short text state (told before) (told now) short.0 (ap told short.1)

later_front : (xs ys : List (List ℕ)) (before mid now : List ℕ) → mid ≡ before ++ joined_lines xs → PutsFront ys mid now → PutsFront (xs ++ ys) before now
later_front xs ys before mid now whole part =
    let more : now ≡ before ++ (joined_lines xs ++ joined_lines part.0) =
    part.4 ∙ (ap (λ t. t ++ joined_lines part.0) whole ∙ append_assoc before (joined_lines xs) (joined_lines part.0)) in (
      xs ++ part.0,
      part.1,
      part.2,
      ap (λ l. xs ++ l) part.3 ∙ sym (append_assoc xs part.0 (part.1 ∷ part.2)),
      more ∙ ap (λ t. before ++ t) (sym (flat_map-append (λ line. line) xs part.0)),
    )

early_front : (xs ys : List (List ℕ)) (before now : List ℕ) → PutsFront xs before now → PutsFront (xs ++ ys) before now
early_front xs ys before now part =
    (part.0, part.1, part.2 ++ ys, ap (λ l. l ++ ys) part.3 ∙ append_assoc part.0 (part.1 ∷ part.2) ys, part.4)

open_then : (xs ys : List (List ℕ)) (last : LogState) (before mid now : LogFileState) → PutsEach xs Open before mid → PutsEach ys last mid now → PutsEach (xs ++ ys) last before now
open_then xs ys Closed before mid now first next = next
open_then xs ys Open before mid now first next = (
  next.0 ∙ first.0,
  next.1 ∙ (ap (λ t. t ++ joined_lines ys) first.1 ∙ (append_assoc before.text (joined_lines xs) (joined_lines ys) ∙ ap (λ t. before.text ++ t) (sym (flat_map-append (λ line. line) xs ys)))),
  next.2 ∙ first.2,
)
open_then xs ys Failed before mid now first next = (
  next.0 ∙ first.0,
  later_front xs ys before.text mid.text now.text first.1 next.1,
  subst (λ n. CountedFault n now.faults ⊎ (now.faults ≡ n)) first.2 next.2,
)

-- lines, and then others where the log is open still
pub then : (xs ys : List (List ℕ)) (here last : LogState) (before mid now : LogFileState) → PutsEach xs here before mid → (here ≢ Open → (last ≡ here) × (now ≡ mid)) → (here ≡ Open → PutsEach ys last mid now)
    → PutsEach (xs ++ ys) last before now
then xs ys Closed last before mid now first kept next = absurd first
then xs ys Open last before mid now first kept next = open_then xs ys last before mid now first (next refl)
then xs ys Failed last before mid now first kept next =
    let stays = kept (λ (is : Failed ≡ Open). cc) in
    let here : PutsEach (xs ++ ys) Failed before mid = (first.0, early_front xs ys before.text mid.text first.1, first.2) in
    subst (λ s. PutsEach (xs ++ ys) s before now) (sym stays.0) (subst (λ f. PutsEach (xs ++ ys) Failed before f) (sym stays.1) here)
