-- A machine has one suite, of at most as many words as its size says.
use Rattle.std.proofs.Common.{◌≡◌, ℕ, suc, ◌+◌, ◌*◌, ◌<◌, ◌≤◌, ⊎_elim, List, [], ◌∷◌, ◌++◌, length, sym, ap, ap₂, ◌∙◌, arith}
use Rattle.std.proofs.Math.Nat.{mul-le-mul_right}
use Rattle.std.proofs.lemmas.Bool.{cases_lt}
use Rattle.lw_separate.proofs.OneLemmas.{one_least_access, one_separators}
use Rattle.lw_chunks.specs.Size.{powers}
use Rattle.lw_suite.specs.Suite.{OneSuite, SuiteIsCounted}
use Rattle.lw_chunks.specs.Middle.{each_with, suite_of, words_up_to}
use Rattle.lw_chunks.proofs.EachLemmas.{length-each}
use Rattle.lw_chunks.proofs.SizeLemmas.{length-words_up_to}
use Rattle.lw_separate.proofs.ListLemmas.{few_ends}

pub one_suite : OneSuite
one_suite a m k s t hs ht =
    hs.words
    ∙ (ap₂ (λ (u v : List (List ℕ)). suite_of u (words_up_to a (k + 1)) v) (one_least_access a m hs.access ht.access hs.least ht.least) (one_separators a m hs.ends ht.ends hs.separating ht.separating)
    ∙ sym ht.words)

pub suite_is_counted : SuiteIsCounted
suite_is_counted a m k suite is =
    let n : ℕ = length m in
    let middles : List (List ℕ) = words_up_to a (k + 1) in
    let long : length suite ≡ (n * powers a (k + 1)) * suc (length is.ends) =
    ap length is.words
    ∙ (length-each (λ (front end : List ℕ). front ++ end) (each_with (λ (u v : List ℕ). u ++ v) is.access middles) ([] ∷ is.ends)
    ∙ ap (λ (x : ℕ). x * suc (length is.ends))
    (length-each (λ (u v : List ℕ). u ++ v) is.access middles ∙ ap₂ (λ (x y : ℕ). x * y) is.least.each (length-words_up_to a (k + 1)))) in
    ⊎_elim
    (λ (some : 0 < n).
    let few : length is.ends < n = few_ends a m is.ends is.separating some in
    let up : suc (length is.ends) ≤ n = omega (arith, few) in
    let most = mul-le-mul_right (n * powers a (k + 1)) up in
    omega (arith, long, most))
    (λ (none : n ≤ 0).
    let empty : n ≡ 0 = omega (arith, none) in
    let short : length suite ≡ (0 * powers a (k + 1)) * suc (length is.ends) = long ∙ ap (λ (x : ℕ). (x * powers a (k + 1)) * suc (length is.ends)) empty in
    omega (arith, short))
    (cases_lt 0 n)
