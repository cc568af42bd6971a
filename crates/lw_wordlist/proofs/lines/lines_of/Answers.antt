use Rattle.std.proofs.Common.{◌≡◌, ◌==◌, ◌∙◌, Bool, Bor, IfOk, List, ℕ, [], ap, cond, false, length, lit<, map, rules, subst, sym, tests}
use Rattle.std.specs.Io.BufRead.{strip_last}
use Rattle.std.specs.List.{slice_split}
use Rattle.std.proofs.lemmas.Iterator.{YieldsList-from_map_by}
use Rattle.std.proofs.lemmas.Iterator.Consumers.{map_from_collect}
use Rattle.std.proofs.lemmas.Iterator.Splits.{YieldsList-from_str_split}
use Rattle.lw_wordlist.specs.Lines.{lines_in}
use Rattle.lw_wordlist.proofs.lines.lines_of.Goals as goal

pub returns : goal.returns
returns c =
    let text : List ℕ = c.args.text.now in
    let parts : List ℕ → List (List ℕ) = λ t. map (strip_last 13) (slice_split (λ c. c == 10) t) in
    let some : (length text == 0) ≡ false = sym c.is_empty.ensures ∙ c.if-is_empty.false in
    let are : parts (strip_last 10 text) ≡ lines_in text = ap (λ (b : Bool). cond b [] (parts (strip_last 10 text))) (sym some) in
    subst (λ (ls : List (List ℕ)). IfOk c.collect.result (λ v. map (λ (l : Bor (List ℕ)). l.now) v.items ≡ ls)) (ap parts c.without_last.ensures ∙ are)
    (map_from_collect _ c.collect.ensures.ran
    (YieldsList-from_map_by _ (λ t. t.now) (strip_last 13) (YieldsList-from_str_split 10 c.without_last.result.now (lit< tt) (cc) (cc) (cc)) (cc) (λ x r q k. search (rules, tests))))
