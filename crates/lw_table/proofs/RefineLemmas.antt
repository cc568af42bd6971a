-- A table that is being refined.
use Rattle.std.proofs.Common.{◌≡◌, inr, ⊎_elim, ℕ, ◌+◌, ◌<◌, ◌≤◌, List, [], ◌∷◌, ◌++◌, length, take, drop, refl, ap, sym, ◌∙◌, subst, arith, Result, Ok, Err, IsErrAnd}
use Rattle.std.specs.Bool.{⊤}
use Rattle.std.proofs.Math.ListN.{get_or-append}
use Rattle.std.proofs.Math.Seq.{take-append_seam, get_or-append_seam}
use Rattle.std.proofs.lemmas.Bool.{cases_lt}
use Rattle.std.proofs.lemmas.List.{length-append}
use Rattle.lw_words.specs.Word.{Answer, AreAnswers, answers_of}
use Rattle.lw_words.specs.declared.kept.KeptAnswer.{KeptAnswer}
use Rattle.lw_mealy.specs.Machine.{Rows, next}
use Rattle.lw_cache.specs.Crowd.{Separates}
use Rattle.lw_cache.specs.Cut.{IsCut, word_at}
use Rattle.lw_cache.specs.Known.{Reads}
use Rattle.lw_cache.specs.declared.cut.Cut.{Cut}
use Rattle.lw_cache.specs.declared.stops.GrowStop.{GrowStop}
use Rattle.lw_cache.proofs.KnownLemmas.{reads_once}
use Rattle.lw_cache.proofs.ReadLemmas.{reads_more}
use Rattle.lw_table.specs.Grown.{HasGrown, HasClosed, HasRefined}
use Rattle.lw_table.specs.Table.{TableState, row_number, row_at, home_at, access_row, extension_row, IsTable, IsClosedTable, IsMachineOf}
use Rattle.lw_table.specs.bodies.Growing.{with_suffix, refined_once}
use Rattle.lw_table.proofs.CellLemmas.{same_place, access_read}
use Rattle.lw_table.proofs.CloseLemmas.{handed_stop}
use Rattle.lw_table.proofs.FilledLemmas.{homes_in}
use Rattle.lw_table.proofs.GrownLemmas.{grown_then}
use Rattle.lw_table.proofs.RowLemmas.{home_row}

-- fronts of equal rows are equal
same_front : (r s more rest : List (List ℕ)) → length r ≡ length s → r ++ more ≡ s ++ rest → r ≡ s
same_front r s more rest size same = sym (take-append_seam r more) ∙ (ap (take (length r)) same ∙ (ap (λ (n : ℕ). take n (s ++ rest)) size ∙ take-append_seam s rest))

-- once a closed table is closed again with a suffix by which an extension differs from its target, there are more access words
module _ (ks : List Answer) (t now : TableState) (m : Rows) (state letter target : ℕ) (suffix : List ℕ) (g : IsTable t) (are : AreAnswers t.inputs ks) (closed : IsClosedTable t) (is : IsMachineOf t m)
    (in_state : state < length t.access) (small : letter < t.inputs) (is_target : target ≡ next m state letter) (separates : Separates ks suffix (word_at t.access state ++ letter ∷ []) (word_at t.access target))
    (grown : HasGrown ks (with_suffix t suffix) now) (again : IsClosedTable now) (suffixes : now.suffixes ≡ t.suffixes ++ suffix ∷ []) where
  in_target : target < length t.access
  in_target = subst (λ (q : ℕ). q < length t.access) (sym is_target) (is.within state letter in_state small)

  more_access : length now.access ≡ length t.access + length grown.more
  more_access = ap (λ (l : List (List ℕ)). length l) grown.access ∙ length-append t.access grown.more

  word_same : (q : ℕ) → q < length t.access → word_at now.access q ≡ word_at t.access q
  word_same q lt = ap (λ (l : List (List ℕ)). word_at l q) grown.access ∙ get_or-append t.access grown.more [] q lt

  row_index : extension_row now state letter ≡ row_at now (row_number t.inputs state letter)
  row_index = ap (λ (a : ℕ). row_at now (row_number a state letter)) grown.inputs

  -- the number of the new suffix
  abbrev place : ℕ
  place = length t.suffixes

  new_suffix : word_at now.suffixes place ≡ suffix
  new_suffix = ap (λ (l : List (List ℕ)). word_at l place) suffixes ∙ get_or-append_seam t.suffixes suffix [] []

  full_row : (j : ℕ) → j < length now.cells → length (row_at now j) ≡ place + 1
  full_row j lt = again.filled j [] lt ∙ (ap (λ (l : List (List ℕ)). length l) suffixes ∙ length-append t.suffixes (suffix ∷ []))

  was_full : (j : ℕ) → j < length t.cells → length (row_at t j) ≡ place
  was_full j lt = closed.filled j [] lt

  extension_inside : row_number t.inputs state letter < length t.cells
  extension_inside = home_row t.inputs (length t.access) state letter (row_number t.inputs state letter) (length t.cells) in_state small refl g.rows

  -- where there are no more, the extension has the row of its target once more
  module _ (no_more : length now.access ≡ length t.access) where
    found : (p : ℕ) × (p < length now.access) × (extension_row now state letter ≡ access_row now p)
    found = again.targets state letter (omega (arith, in_state, no_more)) (subst (λ (a : ℕ). letter < a) (sym grown.inputs) small)

    in_found : found.0 < length t.access
    in_found = let lt = found.1 in omega (arith, lt, no_more)

    old_rows : extension_row t state letter ≡ access_row t found.0
    old_rows =
        let e = grown.rows (row_number t.inputs state letter) in
        let h = grown.rows (home_at t found.0) in
        let home : access_row now found.0 ≡ row_at now (home_at t found.0) = ap (row_at now) (grown.homes found.0 in_found) in
        same_front (extension_row t state letter) (access_row t found.0) e.0 h.0
        (was_full (row_number t.inputs state letter) extension_inside ∙ sym (was_full (home_at t found.0) (homes_in t g found.0 in_found)))
        (sym e.1 ∙ (sym row_index ∙ (found.2 ∙ (home ∙ h.1))))

    same_target : found.0 ≡ target
    same_target = same_place t g found.0 target in_found in_target (sym old_rows ∙ (is.targets state letter in_state small ∙ ap (access_row t) (sym is_target)))

    same_rows : extension_row now state letter ≡ access_row now target
    same_rows = found.2 ∙ ap (access_row now) same_target

    pub not_the_same : ⊥
    not_the_same =
        let in_now : state < length now.access = omega (arith, in_state, no_more) in
        let small_now : letter < now.inputs = subst (λ (a : ℕ). letter < a) (sym grown.inputs) small in
        let inside : row_number now.inputs state letter < length now.cells = home_row now.inputs (length now.access) state letter (row_number now.inputs state letter) (length now.cells) in_now small_now refl grown.table.rows in
        let here : place < length (extension_row now state letter) = (let f = full_row (row_number now.inputs state letter) inside in omega (arith, f)) in
        let there : place < length (access_row now target) = subst (λ (r : List (List ℕ)). place < length r) same_rows here in
        let one = grown.read.extensions state letter in_now small_now place here in
        let two = access_read now grown.table ks grown.read target (omega (arith, in_target, no_more)) place there in
        let word_one : word_at now.access state ++ letter ∷ [] ≡ word_at t.access state ++ letter ∷ [] = ap (λ (w : List ℕ). w ++ letter ∷ []) (word_same state in_state) in
        let word_two : word_at now.access target ≡ word_at t.access target = word_same target in_target in
        let read_one : Reads ks ((word_at t.access state ++ letter ∷ []) ++ suffix) one.0 = subst (λ (w : List ℕ). Reads ks (w ++ suffix) one.0) word_one (subst (λ (e : List ℕ). Reads ks ((word_at now.access state ++ letter ∷ []) ++ e) one.0) new_suffix one.1) in
        let read_two : Reads ks (word_at t.access target ++ suffix) two.0 = subst (λ (w : List ℕ). Reads ks (w ++ suffix) two.0) word_two (subst (λ (e : List ℕ). Reads ks (word_at now.access target ++ e) two.0) new_suffix two.1) in
        let outs_one : one.0 ≡ separates.one = reads_once t.inputs ks ((word_at t.access state ++ letter ∷ []) ++ suffix) one.0 separates.one are read_one separates.one_read in
        let outs_two : two.0 ≡ separates.other = reads_once t.inputs ks (word_at t.access target ++ suffix) two.0 separates.other are read_two separates.other_read in
        separates.differ
        (ap (drop (length (word_at t.access state ++ letter ∷ []))) (sym outs_one) ∙ (ap (λ (w : List ℕ). drop (length w) one.0) (sym word_one) ∙ (sym one.2
        ∙ (ap (λ (r : List (List ℕ)). word_at r place) same_rows ∙ (two.2 ∙ (ap (λ (w : List ℕ). drop (length w) two.0) word_two ∙ ap (drop (length (word_at t.access target))) outs_two))))))

  pub more_states : length t.access < length now.access
  more_states =
      ⊎_elim
      (λ (more : length t.access < length now.access). more)
      (λ (le : length now.access ≤ length t.access). absurd (not_the_same (omega (arith, le, more_access))))
      (cases_lt (length t.access) (length now.access))

-- words that are apart stay so where answers are gained
separates_more : (before gained now : List KeptAnswer) (e u v : List ℕ) → now ≡ before ++ gained → Separates (answers_of before) e u v → Separates (answers_of now) e u v
separates_more before gained now e u v grown s =
    record {
      one = s.one;
      other = s.other;
      one_read = reads_more before gained now (u ++ e) s.one grown s.one_read;
      other_read = reads_more before gained now (v ++ e) s.other grown s.other_read;
      differ = s.differ;
    }

-- after the closing there are more access words than refinements
pub split_by : (before gained kept : List KeptAnswer) (t now : TableState) (cut : Cut) → kept ≡ before ++ gained → IsTable t → AreAnswers t.inputs (answers_of kept) → IsClosedTable t → (m : Rows) × IsMachineOf t m × IsCut (answers_of before) t.inputs m t.access cut
    → HasClosed (answers_of kept) (with_suffix t cut.suffix) now (Ok tt) → length t.access < length now.access
split_by before gained kept t now cut grown g are closed cuts done =
    let m = cuts.0 in
    let is = cuts.1 in
    let c = cuts.2 in
    more_states (answers_of kept) t now m cut.state cut.letter cut.target cut.suffix g are closed is (subst (λ (n : ℕ). cut.state < n) is.states c.state) c.letter c.target
    (separates_more before gained kept cut.suffix (word_at t.access cut.state ++ cut.letter ∷ []) (word_at t.access cut.target) grown c.separates) done.grown done.closed done.suffixes

pub room_to_count : (t now : TableState) → IsTable t → length t.access < length now.access → now.refinements ≡ t.refinements → now.refinements + 1 < length now.access
room_to_count t now g more same = let r = g.refined in omega (arith, r, more, same)

pub has_refined : (first ks : List Answer) (suffix : List ℕ) (t now last : TableState) → HasGrown first t (with_suffix t suffix) → HasClosed ks (with_suffix t suffix) now (Ok tt) → length t.access < length now.access → last ≡ refined_once now → IsTable last → HasRefined ks suffix t last (Ok tt)
has_refined first ks suffix t now last one done more is table =
    let grown = grown_then first ks t (with_suffix t suffix) now one done.grown done.suffixes in
    subst (λ (u : TableState). HasRefined ks suffix t u (Ok tt)) (sym is)
    (record {
      grown = record { inputs = grown.inputs; outputs = grown.outputs; most = grown.most; more = grown.more; access = grown.access; rows = grown.rows; longer = grown.longer; whole = grown.whole; each_new = grown.each_new; homes = grown.homes; table = subst (λ (u : TableState). IsTable u) is table; read = record { first = grown.read.first; extensions = grown.read.extensions } };
      closed = record { filled = done.closed.filled; targets = done.closed.targets };
      split = more;
      added = done.suffixes;
      left = tt;
      refined = ap (λ (n : ℕ). n + 1) done.refinements;
      refused = tt;
      crowd = λ words told. cc;
    })

pub not_all_refined : (first ks : List Answer) (suffix : List ℕ) (t now : TableState) (stop : GrowStop) → HasGrown first t (with_suffix t suffix) → HasClosed ks (with_suffix t suffix) now (Err stop) → HasRefined ks suffix t now (Err stop)
not_all_refined first ks suffix t now stop one done =
    record {
      grown = grown_then first ks t (with_suffix t suffix) now one done.grown done.suffixes;
      closed = tt;
      split = tt;
      added = tt;
      left = inr done.suffixes;
      refined = tt;
      refused = done.refinements;
      crowd = done.crowd;
    }

pub handed_refined : (ks : List Answer) (suffix : List ℕ) (before now : TableState) (stop : GrowStop) (result : Result ⊤ GrowStop) → HasRefined ks suffix before now (Err stop) → IsErrAnd result (λ e. e ≡ stop) → HasRefined ks suffix before now result
handed_refined ks suffix before now stop result refined is = subst (HasRefined ks suffix before now) (sym (handed_stop stop result is)) refined
