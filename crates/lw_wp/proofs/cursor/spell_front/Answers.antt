use Rattle.std.proofs.Common.{◌≡◌, ℕ, List, [], ◌+◌, ◌-◌, ◌++◌, length, get_or, sym, ap, ap₂, ◌∙◌, arith}
use Rattle.std.proofs.lemmas.List.{length-append}
use Rattle.std.proofs.lemmas.Option.{get_or_from_slice_get}
use Rattle.lw_chunks.specs.Middle.{words_up_to}
use Rattle.lw_wp.proofs.CursorLemmas.{middle_is, spelled}
use Rattle.lw_wp.proofs.cursor.spell_front.Goals as goal

pub overflow_sub-result-2 : goal.overflow_sub-result-2
overflow_sub-result-2 c =
    let p = c.args.parts.now in
    let j = c.split_front-access.result.1 in
    let v : List ℕ = get_or (words_up_to p.machine.inputs (p.extra + 1)) j [] in
    let m = middle_is p c.requires.parts j c.split_front-access.ensures.middle_within in
    let is : c.spell.new.word ≡ c.extend.new.self ++ v =
    c.in_ok-spell.ensures ∙ ap (λ (a : ℕ). c.extend.new.self ++ get_or (words_up_to a (p.extra + 1)) j []) c.inputs.ensures.value in
    let l : length c.spell.new.word ≡ length c.extend.new.self + length v = ap length is ∙ length-append c.extend.new.self v in
    omega (arith, l, m.1, c.len.ensures, c.len-first.ensures, c.from.ensures)

pub returns : goal.returns
returns c =
    let p = c.args.parts.now in
    let i = c.split_front-access.result.0 in
    let j = c.split_front-access.result.1 in
    let first : c.extend.new.self ≡ get_or p.access i [] =
    c.in_ok-extend.ensures.ok ∙ (ap₂ (λ (x y : List ℕ). x ++ y) c.clear.ensures c.as_slice.ensures ∙ sym (get_or_from_slice_get p.access i c.get.result.now [] c.get.ensures)) in
    let is : c.spell.new.word ≡ get_or p.access i [] ++ get_or (words_up_to p.machine.inputs (p.extra + 1)) j [] =
    c.in_ok-spell.ensures ∙ ap₂ (λ (x : List ℕ) (a : ℕ). x ++ get_or (words_up_to a (p.extra + 1)) j []) first c.inputs.ensures.value in
    let l : length c.extend.new.self ≡ length (get_or p.access i []) = ap length first in
    spelled p c.requires.parts c.args.front i j c.spell.new.word (c.from.result + 1 - (c.len.result - c.len-first.result)) c.split_front-access.ensures is
    (omega (arith, l, c.len.ensures, c.len-first.ensures, c.from.ensures))
