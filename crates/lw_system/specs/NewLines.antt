-- Systems over links, before anything was asked.
use Rattle.std.specs.Prelude.{ℕ, List, [], length, false, Option, Some, None}
use Rattle.lw_line.specs.LineState.{LineState}

-- the greatest number of names of a child's outputs: those of a declared list, or 256
abbrev pub most_outputs_of : Option (List (List ℕ)) → ℕ
most_outputs_of None = 256
most_outputs_of (Some names) = length names

-- the numbers that a child's outputs may have
abbrev pub count_of : Option (List (List ℕ)) → ℕ
count_of None = 4096
count_of (Some names) = length names

-- the names that are there from the start: of a declared list, or of none
abbrev pub first_names : Option (List (List ℕ)) → List (List ℕ)
first_names None = []
first_names (Some names) = names

-- a system over a link, before anything was asked
abbrev pub new_line : {L : Type 0} → L → List (List ℕ) → Option (List (List ℕ)) → LineState L
new_line link letters outputs = record {
  link = link;
  letters = letters;
  names = first_names outputs;
  most = most_outputs_of outputs;
  outputs = count_of outputs;
  started = false;
  stop = None;
  cut = false;
}
