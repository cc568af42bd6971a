-- Two machines by hand, and what the definitions say of them.
use Rattle.std.specs.Prelude.{◌≡◌, [], ◌∷◌, Some, None}
use Rattle.lw_mealy.specs.Worked.{counter_of_three, ring}
use Rattle.lw_plain.specs.Table.{PlainTable, first_table, search_word}
use Rattle.lw_plain.specs.Rounds.{Task, closed_by, hypothesis_of, new_row_of, refined_by}

abbrev pub counter_task : Task
counter_task = record { letters = 1; machine = counter_of_three; extra = 2; most = 1024 }

-- the first table, which is closed at once
abbrev pub counter_table : PlainTable
counter_table = record {
  access = [] ∷ [];
  suffixes = (0 ∷ []) ∷ [];
  batches = ((0 ∷ []) ∷ (0 ∷ 0 ∷ []) ∷ []) ∷ [];
}

-- the table that the counterexample of three letters leaves: its one probe, the suffix of two letters, and two access words more
abbrev pub counter_refined : PlainTable
counter_refined = record {
  access = [] ∷ (0 ∷ []) ∷ (0 ∷ 0 ∷ []) ∷ [];
  suffixes = (0 ∷ []) ∷ (0 ∷ 0 ∷ []) ∷ [];
  batches = ((0 ∷ []) ∷ (0 ∷ 0 ∷ []) ∷ [])
      ∷ ((0 ∷ 0 ∷ []) ∷ [])
      ∷ ((0 ∷ 0 ∷ []) ∷ (0 ∷ 0 ∷ 0 ∷ []) ∷ [])
      ∷ ((0 ∷ 0 ∷ 0 ∷ []) ∷ (0 ∷ 0 ∷ 0 ∷ 0 ∷ []) ∷ [])
      ∷ ((0 ∷ 0 ∷ 0 ∷ 0 ∷ []) ∷ (0 ∷ 0 ∷ 0 ∷ 0 ∷ 0 ∷ []) ∷ [])
      ∷ [];
}

abbrev pub ring_task : Task
ring_task = record { letters = 1; machine = ring; extra = 1; most = 2 }

pub record WorkedTables : Type 0 where
  pub first : closed_by counter_task (first_table 1 []) ≡ counter_table
  pub guess : hypothesis_of counter_task counter_table ≡ ((0, 0) ∷ []) ∷ []
  pub search : search_word counter_of_three (((0, 0) ∷ []) ∷ []) ([] ∷ []) 3 (0 ∷ 0 ∷ 0 ∷ []) ≡ record { low = 0; high = 1; tried = 1 ∷ [] }
  pub refined : refined_by counter_task counter_table (0 ∷ 0 ∷ 0 ∷ []) [] ≡ counter_refined
  pub closed : new_row_of counter_task counter_refined ≡ None
  pub model : hypothesis_of counter_task counter_refined ≡ counter_of_three
  pub crowd : new_row_of ring_task (closed_by ring_task (first_table 1 [])) ≡ Some (0 ∷ 0 ∷ [])
  pub full : (closed_by ring_task (first_table 1 [])).access ≡ [] ∷ (0 ∷ []) ∷ []
