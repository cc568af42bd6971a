-- A table that is being closed.
use Rattle.std.proofs.Common.{◌≡◌, ⊎_elim, ℕ, ◌+◌, ◌*◌, ◌<◌, ◌≤◌, List, [], ◌∷◌, ◌++◌, length, refl, ap, sym, ◌∙◌, subst, arith, Result, Ok, Err, IsErrAnd, append-nil}
use Rattle.std.proofs.lemmas.Bool.{cases_lt}
use Rattle.std.specs.Bool.{⊤}
use Rattle.std.proofs.Math.Nat.{mul-le-mul_right}
use Rattle.std.proofs.lemmas.List.{length-append}
use Rattle.std.proofs.lemmas.List.Elements.{All-from_get_or}
use Rattle.lw_words.specs.Word.{Answer}
use Rattle.lw_cache.specs.Settling.{OracleState, Leaves, grown_stop}
use Rattle.lw_cache.specs.declared.stops.GrowStop.{GrowStop}
use Rattle.lw_table.specs.Grown.{HasGrown, TellsCrowd, HasClosed}
use Rattle.lw_table.specs.Table.{TableState, row_number, row_at, home_at, access_row, IsTable, IsClosedTable}
use Rattle.lw_table.specs.bodies.Growing.{AreFull, HasState, HaveStates}
use Rattle.lw_table.proofs.FilledLemmas.{homes_in}
use Rattle.lw_table.proofs.RowLemmas.{home_row, rows_more}

-- a row that goes on where all cells were filled stays
no_more : (row now cells : List (List ℕ)) (n : ℕ) → now ≡ row ++ cells → length row ≡ n → length now ≡ n → now ≡ row
no_more row now [] n is was size = is ∙ append-nil row
no_more row now (cell ∷ cells) n is was size =
    let long : length (row ++ cell ∷ cells) ≡ length row + length (cell ∷ cells) = length-append row (cell ∷ cells) in
    let all : length now ≡ length (row ++ cell ∷ cells) = ap (λ (l : List (List ℕ)). length l) is in
    absurd (omega (arith, long, all, was, size))

-- where an access word has a row, it has it after a step that leaves the suffixes
module _ (ks : List Answer) (before now : TableState) (table : IsTable before) (grown : HasGrown ks before now) (was_full : AreFull before) (full : AreFull now) (same : now.suffixes ≡ before.suffixes) where
  more_access : length now.access ≡ length before.access + length grown.more
  more_access = ap (λ (l : List (List ℕ)). length l) grown.access ∙ length-append before.access grown.more

  more_rows : length before.cells ≤ length now.cells
  more_rows =
      let more : length before.access * before.inputs ≤ length now.access * before.inputs = mul-le-mul_right before.inputs (omega (arith, more_access)) in
      let at : length now.access * now.inputs ≡ length now.access * before.inputs = ap (λ (n : ℕ). length now.access * n) grown.inputs in
      omega (arith, table.rows, grown.table.rows, more, at)

  row_same : (j : ℕ) → j < length before.cells → row_at now j ≡ row_at before j
  row_same j lt =
      let r = grown.rows j in
      no_more (row_at before j) (row_at now j) r.0 (length before.suffixes) r.1 (was_full j lt) (full j (omega (arith, lt, more_rows)) ∙ ap (λ (l : List (List ℕ)). length l) same)

  pub state_stays : (j : ℕ) → j < length before.cells → HasState before j → HasState now j
  state_stays j lt has =
      let p = has.0 in
      let home : row_at now (home_at now p) ≡ access_row before p = ap (row_at now) (grown.homes p has.1) ∙ row_same (home_at before p) (homes_in before table p has.1) in
      (p, (let le = has.1 in omega (arith, le, more_access)), row_same j lt ∙ (has.2 ∙ sym home))

  pub states_more : (row : ℕ) → row < length before.cells → HaveStates before 1 row → HasState now row → HaveStates now 1 (row + 1)
  states_more row inside was here = rows_more (HasState now) 1 row (λ j le lt. state_stays j (omega (arith, lt, inside)) (was j le lt)) here

  pub rows_left : (row : ℕ) → row < length before.cells → row + 1 ≤ length now.cells
  rows_left row lt = omega (arith, lt, more_rows)

-- each extension has the row of an access word
pub all_closed : (t : TableState) → IsTable t → AreFull t → HaveStates t 1 (length t.cells) → IsClosedTable t
all_closed t g full states =
    record {
      filled = All-from_get_or (λ row. length row ≡ length t.suffixes) t.cells [] full;
      targets = λ q x lt small. states (row_number t.inputs q x) (omega arith) (home_row t.inputs (length t.access) q x (row_number t.inputs q x) (length t.cells) lt small refl g.rows);
    }

pub has_closed : (ks : List Answer) (before now : TableState) → HasGrown ks before now → AreFull now → HaveStates now 1 (length now.cells) → now.suffixes ≡ before.suffixes → now.refinements ≡ before.refinements → HasClosed ks before now (Ok tt)
has_closed ks before now grown full states suffixes refinements =
    record {
      grown = grown;
      closed = all_closed now grown.table full states;
      suffixes = suffixes;
      refinements = refinements;
      crowd = λ words told. cc;
    }

pub stopped_closed : (ks : List Answer) (before now : TableState) (stop : GrowStop) → HasGrown ks before now → now.suffixes ≡ before.suffixes → now.refinements ≡ before.refinements → TellsCrowd ks now (Err stop) → HasClosed ks before now (Err stop)
stopped_closed ks before now stop grown suffixes refinements crowd =
    record { grown = grown; closed = tt; suffixes = suffixes; refinements = refinements; crowd = crowd }

-- rows to one, and from it on
pub states_then : (from middle to : ℕ) (t : TableState) → HaveStates t from middle → HaveStates t middle to → HaveStates t from to
states_then from middle to t one two j le lt = ⊎_elim (λ (below : j < middle). one j le below) (λ (above : middle ≤ j). two j above lt) (cases_lt j middle)

-- a stop that is handed on
pub handed_stop : (stop : GrowStop) (result : Result ⊤ GrowStop) → IsErrAnd result (λ e. e ≡ stop) → result ≡ Err stop
handed_stop stop (Ok _) is = elim is [ ]
handed_stop stop (Err e) is = ap Err is

pub handed_closed : (ks : List Answer) (before now : TableState) (stop : GrowStop) (result : Result ⊤ GrowStop) → HasClosed ks before now (Err stop) → IsErrAnd result (λ e. e ≡ stop) → HasClosed ks before now result
handed_closed ks before now stop result closed is = subst (HasClosed ks before now) (sym (handed_stop stop result is)) closed

pub handed_leaves : (before now : OracleState) (stop : GrowStop) (result : Result ⊤ GrowStop) → Leaves before now (grown_stop {X = ⊤} (Err stop)) → IsErrAnd result (λ e. e ≡ stop) → Leaves before now (grown_stop result)
handed_leaves before now stop result leaves is = subst (λ (r : Result ⊤ GrowStop). Leaves before now (grown_stop r)) (sym (handed_stop stop result is)) leaves
