-- Worked by hand: answers that a machine agrees with, and answers with a gap.
use Rattle.std.specs.Prelude.{List, [], ◌∷◌}
use Rattle.lw_words.specs.Word.{Answer}
use Rattle.lw_mealy.specs.Machine.{IsMachine, Gives, Sure}
use Rattle.lw_mealy.specs.Worked.{one, counter_of_three}

-- one answer to seven letters, of which all words of the counter's suite for two extra states are prefixes
abbrev pub seven_letters : List Answer
seven_letters = record { word = 0 ∷ 0 ∷ 0 ∷ 0 ∷ 0 ∷ 0 ∷ 0 ∷ []; outs = 0 ∷ 0 ∷ 1 ∷ 0 ∷ 0 ∷ 1 ∷ 0 ∷ [] } ∷ []

-- two letters of the same counter
abbrev pub two_letters : List Answer
two_letters = record { word = 0 ∷ 0 ∷ []; outs = 0 ∷ 0 ∷ [] } ∷ []

pub record AsWorked : Type 0 where
  pub machine : IsMachine 1 counter_of_three
  -- a machine agrees with the answers, so what is sure of them is said of at least that machine
  pub given : Gives counter_of_three seven_letters
  -- and they fix the counter among all machines of at most five states
  pub fixed : Sure 1 counter_of_three seven_letters 2
  -- the machine of one state agrees with the two letters too, and the counter is a machine of two states more
  pub gap : ¬ Sure 1 one two_letters 2
