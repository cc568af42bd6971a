-- The search for a cut, one try at a time.
use Rattle.std.proofs.Common.{◌≡◌, ℕ, suc, ◌+◌, ◌-◌, ◌<◌, ◌≤◌, Bool, ap, sym, ◌∙◌, subst, arith}
use Rattle.std.specs.List.{All}
use Rattle.std.proofs.lemmas.List.Elements.{All-push}
use Rattle.lw_plain.specs.Table.{Search, halved, middle_of, search_cut}
use Rattle.lw_plain.proofs.LawLemmas.{search_more}

pub search_on : (agrees : ℕ → Bool) (n i : ℕ) (before now whole : Search) → i < n → before.low + 1 < before.high → now ≡ halved agrees before → search_cut agrees (n - i) before ≡ whole → search_cut agrees (n - (i + 1)) now ≡ whole
search_on agrees n i before now whole lt wide is left =
    let more : n - i ≡ suc (n - (i + 1)) = omega arith in
    ap (λ (s : Search). search_cut agrees (n - (i + 1)) s) is ∙ (sym (search_more agrees (n - (i + 1)) before wide) ∙ (ap (λ (k : ℕ). search_cut agrees k before) (sym more) ∙ left))

pub tried_more : (agrees : ℕ → Bool) (n : ℕ) (before now : Search) → now ≡ halved agrees before → before.low < before.high → before.high ≤ n → All (λ i. i ≤ n) before.tried → All (λ i. i ≤ n) now.tried
tried_more agrees n before now is order within all =
    let few : middle_of before ≤ n = omega arith in
    subst (λ (s : Search). All (λ (i : ℕ). i ≤ n) s.tried) (sym is) (All-push (λ (i : ℕ). i ≤ n) before.tried (middle_of before) all few)
