-- What the looks of the readers find.
use Rattle.std.specs.Prelude.{◌≡◌, ℕ, List, Option, Vec, map, option_map}
use Rattle.std.specs.Borrow.{Bor}
use Rattle.std.specs.declared.alloc.Global.{Global}
use Rattle.lw_json.specs.Formats.{WrittenAnswer, NamedRow}
use Rattle.lw_json.specs.bodies.AnswersParts.{said_answer}
use Rattle.lw_json.specs.declared.said_answer.SaidAnswer.{SaidAnswer}

-- the answers that are sought, or that there are none
abbrev pub FindsAnswers : Option (List WrittenAnswer) → Option (Vec SaidAnswer Global) → Type 0
FindsAnswers sought found = option_map (λ v. map said_answer v.items) found ≡ sought

-- a row with its outputs as texts
abbrev pub named_row : List (ℕ × Bor (List ℕ)) → NamedRow
named_row cells = map (λ c. (c.0, c.1.now)) cells

-- the rows that are sought, or that there are none
abbrev pub FindsRow : Option NamedRow → Option (Vec (ℕ × Bor (List ℕ)) Global) → Type 0
FindsRow sought found = option_map (λ v. named_row v.items) found ≡ sought

abbrev pub FindsRows : Option (List NamedRow) → Option (Vec (Vec (ℕ × Bor (List ℕ)) Global) Global) → Type 0
FindsRows sought found = option_map (λ v. map (λ w. named_row w.items) v.items) found ≡ sought
