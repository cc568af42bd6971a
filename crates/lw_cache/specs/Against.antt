-- The known words on which a machine answers otherwise.
use Rattle.std.specs.Prelude.{◌≢◌, List, ℕ, Option, Some, None}
use Rattle.std.specs.declared.cmp.Ordering.TheVariants.{Less}
use Rattle.lw_words.specs.Word.{Answer, shortlex_cmp}
use Rattle.lw_mealy.specs.Machine.{Rows, answer}
use Rattle.lw_cache.specs.Known.{Reads}

-- the word is known, and the machine's answer isn't what is read
abbrev pub Differs : Rows → List Answer → List ℕ → Type 0
Differs m ks w = (outs : List ℕ) × Reads ks w outs × (answer m w ≢ outs)

-- the first such word in shortlex order, or None where there is none
abbrev pub DiffersFirst : Rows → List Answer → Option (List ℕ) → Type 0
DiffersFirst m ks None = (w : List ℕ) → ¬ Differs m ks w
DiffersFirst m ks (Some w) = Differs m ks w × ((v : List ℕ) → Differs m ks v → shortlex_cmp v w ≢ Less)
