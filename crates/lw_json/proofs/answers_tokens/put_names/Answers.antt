use Rattle.std.proofs.Common.{◌≡◌, ◌∙◌, ◌+◌, ◌≤◌, ℕ, ◌∷◌, drop, length, map, sym, ap, subst, arith, List}
use Rattle.std.proofs.lemmas.List.{drop_all, drop_more}
use Rattle.std.proofs.lemmas.Option.{slice_get_within, get_or_from_slice_get}
use Rattle.serde_json.specs.Data.{string}
use Rattle.serde_json.specs.View.{items_of}
use Rattle.serde_json.specs.Written.{WritesItems}
use Rattle.lw_json.proofs.TokenLemmas.{writes_end, writes_item, writes_list, writes_text}
use Rattle.lw_json.proofs.answers_tokens.put_names.Goals as goal

pub loop-n-init : goal.loop-n-init
loop-n-init c = (c.begin_array.ensures.room.0, λ end w. writes_list _ _ _ _ c.in_ok-begin_array.ensures.ok w)

pub loop-n-preserved : goal.loop-n-preserved
loop-n-preserved c =
    let l = c.loop-n in
    let xs = c.args.names.now in
    let x = c.name.result.now in
    let here : drop l.n xs ≡ x ∷ drop (l.n + 1) xs =
    drop_more xs l.n x (slice_get_within xs l.n x c.name.ensures.value) ∙ ap (λ y. y ∷ drop (l.n + 1) xs) (get_or_from_slice_get xs l.n x x c.name.ensures.value) in (
      c.string.ensures.room.0 ∙ l.invariant.0,
      λ end rest. l.invariant.1 end (subst (λ (ys : List (List ℕ)). WritesItems (items_of (map string ys)) l.out.tokens end) (sym here)
          (writes_item (string x) _ _ _ _ (writes_text x _ _ c.in_ok-string.ensures.ok) rest)),
    )

pub returns-clause-value : goal.returns-clause-value
returns-clause-value c =
    let l = c.loop-n in
    let stop : length c.args.names.now ≤ l.n = omega arith in
    record {
      before = c.end_array.ensures.room.0 ∙ l.invariant.0;
      tokens = l.invariant.1 _ (subst (λ (ys : List (List ℕ)). WritesItems (items_of (map string ys)) l.out.tokens c.end_array.new.self.tokens) (sym (drop_all l.n c.args.names.now stop)) (writes_end _ _ c.in_ok-end_array.ensures.ok));
    }
