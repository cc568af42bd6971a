-- A table that is closed as the plain one.
use Rattle.std.proofs.Common.{◌≡◌, ◌≢◌, ℕ, ◌+◌, ◌-◌, ◌<◌, List, [], ◌∷◌, ◌++◌, length, map, Some, None, ap, ap₂, sym, ◌∙◌, subst, arith}
use Rattle.std.proofs.lemmas.List.{length-append, length-map}
use Rattle.std.proofs.lemmas.List.Elements.{All-map}
use Rattle.lw_words.specs.Word.{answers_of}
use Rattle.lw_words.specs.declared.kept.KeptAnswer.{KeptAnswer}
use Rattle.lw_mealy.specs.Machine.{Rows}
use Rattle.lw_cache.specs.Settling.{OracleState}
use Rattle.lw_plain.specs.Table.{PlainTable, close, extensions, row_words, cell_words, first_new}
use Rattle.lw_plain.specs.Turns.{IsPlainOracle, AsksBatch}
use Rattle.lw_plain.proofs.LawLemmas.{close_done, closing_on}
use Rattle.lw_plain.proofs.TurnLemmas.{asks_on, asks_as, plain_first, plain_next}
use Rattle.lw_table.specs.Grown.{HasGrown}
use Rattle.lw_table.specs.Plain.{open_words, plain_of, closed_plainly, refined_plainly, ComesToPlain, ClosesPlainly, RefinesPlainly}
use Rattle.lw_table.specs.Table.{TableState, row_at, access_row, IsTable, IsClosedTable}
use Rattle.lw_table.specs.bodies.Growing.{AreFull, HaveStates, ChangesCells, with_suffix, refined_once}
use Rattle.lw_table.specs.bodies.Plain.{AddsPlainly, ClosesOn}
use Rattle.lw_table.proofs.OpenLemmas.{length-row_words, open_last}
use Rattle.lw_table.proofs.PlainLemmas.{first_is, none_is}

plain_same : (now : TableState) (access suffixes : List (List ℕ)) (asked : List (List (List ℕ))) → now.access ≡ access → now.suffixes ≡ suffixes → plain_of now asked ≡ record { access = access; suffixes = suffixes; batches = asked }
plain_same now access suffixes asked one two = ap₂ (λ (us es : List (List ℕ)). let p : PlainTable = record { access = us; suffixes = es; batches = asked } in p) one two

-- all cells were filled
pub closing_begins : (t filled : TableState) (before now : OracleState) → ChangesCells t filled → AsksBatch (open_words t) before now → ClosesOn t filled before now
closing_begins t filled before now same asks m asked plain =
    let batches : List (List (List ℕ)) = asked ++ open_words t ∷ [] in
    record {
      batches = batches;
      left = ap (λ (u : TableState). close t.inputs m (t.most - length u.access) (plain_of u batches)) same;
      asks = asks m asked plain;
    }

-- an access word more
pub closing_goes_on : (t between now : TableState) (o p q : OracleState) (row : ℕ) (gained : List KeptAnswer) → HasGrown (answers_of p.kept) t between → HasGrown (answers_of q.kept) between now → AreFull between → row < length between.cells → HaveStates between 1 row
    → ((k : ℕ) → k < length between.access → row_at between row ≢ access_row between k) → AddsPlainly row between now p q → now.suffixes ≡ between.suffixes → p.exact ≡ o.exact → q.kept ≡ p.kept ++ gained → ClosesOn t between o p → ClosesOn t now o q
closing_goes_on t between now o p q row gained grown next full inside states new adds suffixes exact came closes m asked plain =
    let a = t.inputs in
    let w = adds.word in
    let first : IsPlainOracle m asked o p = plain_first m asked o p q gained came plain in
    let was = closes m asked first in
    let then : IsPlainOracle m was.batches p q = plain_next m asked was.batches o p q exact was.asks plain in
    let cells = cell_words (extensions a w) between.suffixes in
    let asks : AsksBatch cells p q = subst (λ (n : ℕ). AsksBatch (cell_words (extensions n w) between.suffixes) p q) grown.inputs adds.asks in
    let found : first_new a m (plain_of between was.batches) ≡ Some w =
    subst (λ (n : ℕ). first_new n m (plain_of between was.batches) ≡ Some w) grown.inputs (first_is m (answers_of p.kept) between was.batches grown.table first.gives grown.read full row w inside states new adds.of_row) in
    let long : length now.access ≡ length between.access + 1 = ap (λ (l : List (List ℕ)). length l) adds.access ∙ length-append between.access (w ∷ []) in
    let room : length between.access < t.most = (let few = next.table.few in let same = next.most ∙ grown.most in omega (arith, few, same, long)) in
    let batches : List (List (List ℕ)) = was.batches ++ cells ∷ [] in
    record {
      batches = batches;
      left = ap₂ (λ (n : ℕ) (u : PlainTable). close a m (t.most - n) u) long (plain_same now (between.access ++ w ∷ []) between.suffixes batches adds.access suffixes)
          ∙ closing_on a m t.most (length between.access) (closed_plainly m t asked) (plain_of between was.batches) w room found was.left;
      asks = asks_on m asked was.batches batches o.kept p.kept q.kept was.asks (asks m was.batches then);
    }

-- no row is new
pub closing_ends : (t now : TableState) (o p : OracleState) → HasGrown (answers_of p.kept) t now → AreFull now → HaveStates now 1 (length now.cells) → ClosesOn t now o p → ClosesPlainly t now o p
closing_ends t now o p grown full states closes m asked plain =
    let was = closes m asked plain in
    let none : first_new t.inputs m (plain_of now was.batches) ≡ None =
    subst (λ (n : ℕ). first_new n m (plain_of now was.batches) ≡ None) grown.inputs (none_is m (answers_of p.kept) now was.batches grown.table plain.gives grown.read full states) in
    let is : plain_of now was.batches ≡ closed_plainly m t asked = sym (close_done t.inputs m (t.most - length now.access) (plain_of now was.batches) none) ∙ was.left in
    record {
      access = ap (λ (u : PlainTable). u.access) is;
      suffixes = ap (λ (u : PlainTable). u.suffixes) is;
      asks = asks_as m asked was.batches (closed_plainly m t asked).batches o.kept p.kept (ap (λ (u : PlainTable). u.batches) is) was.asks;
    }

-- of a closed table with a suffix more the cells of that suffix are open
open_of_suffix : (t : TableState) (e : List ℕ) → IsTable t → IsClosedTable t → open_words (with_suffix t e) ≡ cell_words (row_words t.inputs t.access) (e ∷ [])
open_of_suffix t e g closed =
    let counts : List ℕ = map (λ (row : List (List ℕ)). length row) t.cells in
    let size : length (row_words t.inputs t.access) ≡ length counts = length-row_words t.inputs t.access ∙ (sym g.rows ∙ sym (length-map t.cells (λ (row : List (List ℕ)). length row))) in
    open_last t.suffixes e (row_words t.inputs t.access) counts size (All-map (λ (n : ℕ). n ≡ length t.suffixes) (λ (row : List (List ℕ)). length row) t.cells closed.filled)

refined_is : (m : Rows) (t : TableState) (e : List ℕ) (asked : List (List (List ℕ))) → IsTable t → IsClosedTable t → closed_plainly m (with_suffix t e) asked ≡ refined_plainly m t e asked
refined_is m t e asked g closed =
    ap (λ (batch : List (List ℕ)). close t.inputs m (t.most - length t.access) (plain_of (with_suffix t e) (asked ++ batch ∷ []))) (open_of_suffix t e g closed)

-- a refined table
pub refines_plainly : (t closed refined : TableState) (e : List ℕ) (o p : OracleState) → IsTable t → IsClosedTable t → ClosesPlainly (with_suffix t e) closed o p → refined ≡ refined_once closed → RefinesPlainly e t refined o p
refines_plainly t closed refined e o p g was closes is m asked plain =
    subst (λ (u : TableState). ComesToPlain m asked o.kept p.kept u (refined_plainly m t e asked)) (sym is)
    (subst (λ (u : PlainTable). ComesToPlain m asked o.kept p.kept (refined_once closed) u) (refined_is m t e asked g was)
    (let comes = closes m asked plain in record { access = comes.access; suffixes = comes.suffixes; asks = comes.asks }))
