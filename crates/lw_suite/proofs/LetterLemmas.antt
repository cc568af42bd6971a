-- The words of a suite are over the machine's letters.
use Rattle.std.proofs.Common.{ℕ, ◌+◌, List, sym, subst}
use Rattle.std.specs.List.{All}
use Rattle.lw_words.specs.Word.{IsWord}
use Rattle.lw_suite.specs.Suite.{SuiteIsOfWords}
use Rattle.lw_chunks.proofs.LetterLemmas.{suite_of_words}
use Rattle.lw_separate.proofs.ListLemmas.{access_are_words, ends_are_words}

pub suite_is_of_words : SuiteIsOfWords
suite_is_of_words a m k suite is =
    subst (λ (words : List (List ℕ)). All (IsWord a) words) (sym is.words)
    (suite_of_words a (k + 1) is.access is.ends (access_are_words a m is.access is.least) (ends_are_words a m is.ends is.separating))
