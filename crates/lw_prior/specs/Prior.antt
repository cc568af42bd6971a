-- The answers of an earlier call, as those that a learning begins with.
use Rattle.std.specs.Prelude.{ℕ, ◌+◌, List, [], ◌∷◌, map, Option, None, Some}
use Rattle.lw_words.specs.Word.{Answer, name_at, number_in}
use Rattle.lw_words.specs.declared.kept.KeptAnswer.{KeptAnswer}
use Rattle.lw_cache.specs.Clash.{NothingClashes}
use Rattle.lw_cache.specs.declared.stops.Clash.{Clash}
use Rattle.lw_cache.specs.FirstClash.{IsFirstClash}

-- a prior answer, under the number 16 and this run, its outputs by the numbers that their names have in another list
abbrev pub prior_answer : ℕ → (own names : List (List ℕ)) → KeptAnswer → KeptAnswer
prior_answer n own names k = record { instance = 16; run = n; word = k.word; outs = map (λ y. number_in names (name_at own y)) k.outs }

-- answers in the runs n, n + 1 and so on
abbrev pub prior_from : ℕ → (own names : List (List ℕ)) → List KeptAnswer → List KeptAnswer
prior_from n own names [] = []
prior_from n own names (k ∷ ks) = prior_answer n own names k ∷ prior_from (n + 1) own names ks

-- each answer in the run of its place
abbrev pub prior_answers : (own names : List (List ℕ)) → List KeptAnswer → List KeptAnswer
prior_answers own names ks = prior_from 0 own names ks

-- the first two answers that no one machine agrees with, where there are any
abbrev pub HasFirstClash : List Answer → Option Clash → Type 0
HasFirstClash ks None = NothingClashes ks
HasFirstClash ks (Some clash) = IsFirstClash ks clash
