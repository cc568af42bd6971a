-- Clashes, and clear answers.
use Rattle.std.proofs.Common.{◌≡◌, ℕ, zero, suc, ◌+◌, ◌<◌, ◌≤◌, ⊎_elim, List, [], length, take, get_or, ap, sym, ◌∙◌, subst, arith}
use Rattle.std.proofs.lemmas.Bool.{cases_lt}
use Rattle.std.proofs.lemmas.List.{get_or-take}
use Rattle.lw_words.specs.Word.{Answer, answer_at}
use Rattle.lw_mealy.specs.Machine.{Rows, answer}
use Rattle.lw_mealy.proofs.WordLemmas.{out-take}
use Rattle.lw_cache.specs.Clash.{Clash, IsClearAfter, IsClear, ClearIsUnclashed, AllAreClear, GivenNeverClash}

-- what is clear after n answers clashes with none of them that is clear
pub unclashed_after : (ks : List Answer) (n : ℕ) (k : Answer) → IsClearAfter ks n k → (j : ℕ) → j < n → IsClear ks j → ¬ Clash (answer_at ks j) k
unclashed_after ks zero k clear j lt other = absurd (omega arith)
unclashed_after ks (suc n) k clear j lt other =
    ⊎_elim
    (λ (before : j < n). unclashed_after ks n k clear.0 j before other)
    (λ (at : n ≤ j).
    let is : j ≡ n = omega arith in
    subst (λ (i : ℕ). ¬ Clash (answer_at ks i) k) (sym is) (clear.1 (subst (λ (i : ℕ). IsClearAfter ks i (answer_at ks i)) is other.1)))
    (cases_lt j n)

pub clear_after : (ks : List Answer) (n : ℕ) (k : Answer) → n ≤ length ks → ((j : ℕ) → j < n → IsClear ks j → ¬ Clash (answer_at ks j) k) → IsClearAfter ks n k
clear_after ks zero k le none = tt
clear_after ks (suc n) k le none =
    (clear_after ks n k (omega arith) (λ j lt. none j (omega arith)), λ clear. none n (omega arith) (omega arith, clear))

pub clear_is_unclashed : ClearIsUnclashed
clear_is_unclashed ks i lt =
    (λ clear. unclashed_after ks i (answer_at ks i) clear.1, λ none. (lt, clear_after ks i (answer_at ks i) (omega arith) none))

pub all_are_clear : AllAreClear
all_are_clear ks nothing i lt =
    (lt, clear_after ks i (answer_at ks i) (omega arith) (λ j before clear. nothing j i (record { word = []; outs = [] }) before lt))

-- the answers of a machine to two words don't clash
pub machine_never_clashes : (m : Rows) (k l : Answer) → answer m k.word ≡ k.outs → answer m l.word ≡ l.outs → ¬ Clash k l
machine_never_clashes m k l of_k of_l clash =
    let p : ℕ = clash.0 in
    let c = clash.1 in
    let at : (v o : List ℕ) → answer m v ≡ o → get_or o p 0 ≡ get_or (answer m (take (p + 1) v)) p 0 = λ v o of.
    ap (λ (xs : List ℕ). get_or xs p 0) (sym of) ∙ (sym (get_or-take (p + 1) (answer m v) p 0 (omega arith)) ∙ ap (λ (xs : List ℕ). get_or xs p 0) (sym (out-take m 0 (p + 1) v))) in
    c.here (at k.word k.outs of_k ∙ (ap (λ (v : List ℕ). get_or (answer m v) p 0) c.letters ∙ sym (at l.word l.outs of_l)))

pub given_never_clash : GivenNeverClash
given_never_clash m ks gives i j d before within =
    machine_never_clashes m (get_or ks i d) (get_or ks j d) (gives i d (omega arith)) (gives j d within)
