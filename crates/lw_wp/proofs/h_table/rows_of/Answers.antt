use Rattle.std.proofs.Common.{rules, ◌≡◌, ◌<◌, ◌+◌, ℕ, List, [], ◌∷◌, ◌++◌, Vec, Global, All, Contains, Bool, false, length, map, get_or, take, drop, replicate, subst, sym, ap, ◌∙◌, arith}
use Rattle.std.proofs.lemmas.List.{take_at, map-append}
use Rattle.lw_wp.specs.bodies.HTables.{AddsStates, AreMarked, IsOfPair, IsTarget, marked_numbers}
use Rattle.lw_wp.proofs.HTableLemmas.{own_below, own_read, RowsUpTo, rows_begun, rows_more}
use Rattle.lw_wp.proofs.h_table.rows_of.Goals as goal

pub mark_all-requires : goal.mark_all-requires
mark_all-requires c =
    let words = c.args.by.now.words in
    let items : Vec ℕ Global → List ℕ = λ v. v.items in
    let own : List (List ℕ) = map items c.args.own.now in
    let lt : c.args.q < length own = let l = c.requires.own.long in let s = c.requires.state in omega (arith, l, s) in
    let is : get_or own c.args.q [] ≡ c.as_slice.result.now = own_read items c.args.own.now c.args.q c.from.result c.index-own-from.result c.as_slice.result.now lt c.from.ensures c.index-own-from.is c.as_slice.ensures.value in
    let long : length words ≡ length c.as_mut_slice.result.now = search rules in
    subst (λ (n : ℕ). All (λ (i : ℕ). i < n) c.as_slice.result.now) long (subst (All (λ (i : ℕ). i < length words)) is (own_below c.args.m.now.inputs c.args.m.now.rows words own c.requires.own c.args.q))

pub loop-letters-init : goal.loop-letters-init
loop-letters-init c =
    let h = c.args.m.now.rows in
    let words = c.args.by.now.words in
    let q = c.args.q in
    let items : Vec ℕ Global → List ℕ = λ v. v.items in
    let own : List (List ℕ) = map items c.args.own.now in
    let lt : q < length own = let l = c.requires.own.long in let s = c.requires.state in omega (arith, l, s) in
    let is : get_or own q [] ≡ c.as_slice.result.now = own_read items c.args.own.now q c.from.result c.index-own-from.result c.as_slice.result.now lt c.from.ensures c.index-own-from.is c.as_slice.ensures.value in
    let marks : List Bool = c.mark_all.new.marks in
    let long : length marks ≡ length words = search rules in
    let seam : take c.in_ok-marks.marks.len (marks ++ drop (length marks) c.in_ok-marks.marks.items) ≡ marks = take_at marks (drop (length marks) c.in_ok-marks.marks.items) c.in_ok-marks.marks.len (search rules) in
    let slice : c.as_slice-2.result.now ≡ marks = c.as_slice-2.ensures.value ∙ seam in
    let reached : c.in_ok-reached.reached.items ≡ q ∷ [] = c.in_ok-reached.ensures.items in
    let rows : map items c.push.new.self.items ≡ c.in_ok-marked.field-0.items ∷ [] = ap (map items) (c.in_ok-push.ensures.items ∙ ap (λ (l : List (Vec ℕ Global)). l ++ c.in_ok-marked.field-0 ∷ []) c.in_ok-rows.ensures.items) in
    let row : c.in_ok-marked.field-0.items ≡ marked_numbers marks = c.in_ok-marked.ensures ∙ ap marked_numbers slice in
    let before : c.as_mut_slice.result.now ≡ replicate (length words) false = search rules in
    let set_are : AreMarked (replicate (length words) false) marks (Contains (get_or own q [])) =
    subst (λ (l : List ℕ). AreMarked (replicate (length words) false) marks (Contains l)) (sym is)
    (subst (λ (l : List Bool). AreMarked l marks (Contains c.as_slice.result.now)) before c.mark_all.ensures) in
    let begun : RowsUpTo c.args.m.now.inputs h words own q 0 marks (q ∷ []) (map items c.push.new.self.items) =
    rows_begun c.args.m.now.inputs h words own q (length words) marks c.in_ok-marked.field-0.items (map items c.push.new.self.items) long set_are c.requires.state row rows in
    subst (λ (l : List ℕ). RowsUpTo c.args.m.now.inputs h words own q 0 (take c.in_ok-marks.marks.len (marks ++ drop (length marks) c.in_ok-marks.marks.items)) l (map items c.push.new.self.items)) (sym reached)
    (subst (λ (l : List Bool). RowsUpTo c.args.m.now.inputs h words own q 0 l (q ∷ []) (map items c.push.new.self.items)) (sym seam) begun)

pub loop-letters-preserved : goal.loop-letters-preserved
loop-letters-preserved c =
    let a = c.args.m.now.inputs in
    let h = c.args.m.now.rows in
    let words = c.args.by.now.words in
    let q = c.args.q in
    let d = c.loop-letters._letters in
    let items : Vec ℕ Global → List ℕ = λ v. v.items in
    let own : List (List ℕ) = map items c.args.own.now in
    let before = c.loop-letters.marks.items in
    let marks : List Bool = c.mark_pairs.new.marks in
    let reached = c.in_ok-reached-2.reached.items in
    let row = c.in_ok-marked-2.field-0 in
    let has : AddsStates h [] reached (IsTarget a h c.loop-letters.reached.items) =
    subst (λ (l : List ℕ). AddsStates h [] reached (IsTarget a h l)) c.as_slice-in-loop-letters.ensures.value c.in_ok-reached-2.ensures in
    let pairs : AreMarked before marks (IsOfPair h words own q reached) =
    subst (λ (l : List Bool). AreMarked l marks (IsOfPair h words own q reached)) c.as_mut_slice-in-loop-letters.ensures.value
    (subst (λ (l : List ℕ). AreMarked c.as_mut_slice-in-loop-letters.result.now marks (IsOfPair h words own q l)) c.as_slice-in-loop-letters-2.ensures.value c.mark_pairs.ensures) in
    let long : length marks ≡ c.loop-letters.marks.len = pairs.long ∙ (search rules) in
    let seam : take c.loop-letters.marks.len (marks ++ drop (length marks) before) ≡ marks = take_at marks (drop (length marks) before) c.loop-letters.marks.len long in
    let slice : c.as_slice-in-loop-letters-3.result.now ≡ marks = c.as_slice-in-loop-letters-3.ensures.value ∙ seam in
    let row_is : row.items ≡ marked_numbers marks = c.in_ok-marked-2.ensures ∙ ap marked_numbers slice in
    let rows : map items c.push-in-loop-letters.new.self.items ≡ map items c.loop-letters.rows.items ++ row.items ∷ [] = ap (map items) c.in_ok-push-2.ensures.items ∙ map-append items c.loop-letters.rows.items (row ∷ []) in
    subst (λ (l : List Bool). RowsUpTo a h words own q (d + 1) l reached (map items c.push-in-loop-letters.new.self.items)) (sym seam)
    (rows_more a h words own q d before marks c.loop-letters.reached.items reached (map items c.loop-letters.rows.items) (map items c.push-in-loop-letters.new.self.items) row.items c.loop-letters.invariant has pairs row_is rows)
