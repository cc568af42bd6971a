-- What a list of answers says of a word: what its clear answers say. Source: the query cache of a learner, as in LearnLib
-- (Isberner, Howar, Steffen 2015); clear answers are this project's.
use Rattle.std.specs.Prelude.{◌≡◌, ◌⊎◌, ◌↔◌, ℕ, List, [], ◌++◌, length, take}
use Rattle.lw_words.specs.Word.{Answer, AreAnswers, answer_at, IsPrefix}
use Rattle.lw_cache.specs.Clash.{IsClear}

-- the word is empty, or a prefix of a clear answer's word
abbrev pub IsKnown : List Answer → List ℕ → Type 0
IsKnown ks w = (w ≡ []) ⊎ ((i : ℕ) × IsClear ks i × IsPrefix w (answer_at ks i).word)

-- the word is known with these outputs: none for the empty word, else the first ones of such an answer
abbrev pub Reads : List Answer → List ℕ → List ℕ → Type 0
Reads ks w o = ((w ≡ []) × (o ≡ [])) ⊎ ((i : ℕ) × IsClear ks i × IsPrefix w (answer_at ks i).word × (o ≡ take (length w) (answer_at ks i).outs))

-- a word is known exactly where it has outputs
abbrev pub KnownIsRead : Type 0
KnownIsRead = (ks : List Answer) (w : List ℕ) → IsKnown ks w ↔ ((o : List ℕ) × Reads ks w o)

-- more answers behind them change nothing of what is read
abbrev pub ReadsStay : Type 0
ReadsStay = (ks more : List Answer) (w o : List ℕ) → Reads ks w o → Reads (ks ++ more) w o

-- the outputs don't depend on the clear answer that they are taken from
abbrev pub ReadsOnce : Type 0
ReadsOnce = (a : ℕ) (ks : List Answer) (w o p : List ℕ) → AreAnswers a ks → Reads ks w o → Reads ks w p → o ≡ p
