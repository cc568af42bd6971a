-- Names that an instance brings to a desk, for tests.
use Rattle.std.specs.Prelude.{ℕ, List, [], ◌∷◌, replicate, Some}
use Rattle.lw_desk.specs.History.{DeskOpening}
use Rattle.lw_desk.specs.declared.ask.Give.{Give}

-- z and a
abbrev pub pair_names : List (List ℕ)
pair_names = (122 ∷ []) ∷ (97 ∷ []) ∷ []

-- b, c and a
abbrev pub turned_names : List (List ℕ)
turned_names = (98 ∷ []) ∷ (99 ∷ []) ∷ (97 ∷ []) ∷ []

-- one actor, free names and one word
abbrev pub one_word : List ℕ → DeskOpening
one_word letters = record {
  kept = [];
  naming = record { names = []; brought = Some (replicate 16 []) };
  batch = letters ∷ [];
  actors = 1;
}

-- the answer to the word, which brings the names
abbrev pub one_give : List (List ℕ) → List ℕ → Give
one_give names outs = record { place = 0; outs = outs; names = names; run = 0 }
