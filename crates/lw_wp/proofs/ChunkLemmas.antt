-- A chunk of a suite that is filled word by word.
use Rattle.std.proofs.Common.{◌≡◌, ℕ, ◌+◌, ◌≤◌, ◌⊎◌, inl, inr, ⊎_elim, List, [], ◌∷◌, ◌++◌, length, take, drop, sym, ap, ◌∙◌, arith, append_assoc}
use Rattle.std.specs.List.{flat_map}
use Rattle.std.proofs.lemmas.List.{length-take-le, drop_all}
use Rattle.lw_chunks.specs.declared.chunks.Place.{Place}
use Rattle.lw_wp.specs.bodies.Cursors.{blocks, left_from, IsCursor}
use Rattle.lw_wp.specs.declared.cursor.Cursor.{Cursor}
use Rattle.lw_wp.specs.declared.parts.Parts.{Parts}
use Rattle.lw_wp.proofs.FlatLemmas.{chunk_of}

-- so many words of the chunk are those from the first place on to before the cursor
pub record Filled (p : Parts) (from : Place) (index : ℕ) (c : Cursor) (chunk : List (List ℕ)) : Type 0 where
  pub cursor : IsCursor p c
  pub few : index ≤ 512
  pub long : index ≤ length chunk
  pub words : take index chunk ++ left_from p c.place ≡ left_from p from

module _ (p : Parts) (from : Place) (index : ℕ) where
  -- one word more
  pub words_more : (old new : Cursor) (chunk more : List (List ℕ)) (w : List ℕ) → Filled p from index old chunk → left_from p old.place ≡ w ∷ left_from p new.place
      → take (index + 1) more ≡ take index chunk ++ w ∷ [] → take (index + 1) more ++ left_from p new.place ≡ left_from p from
  words_more old new chunk more w f next put =
      ap (λ (ws : List (List ℕ)). ws ++ left_from p new.place) put
      ∙ (append_assoc (take index chunk) (w ∷ []) (left_from p new.place)
      ∙ (ap (λ (ws : List (List ℕ)). take index chunk ++ ws) (sym next) ∙ f.words))

  none_left : (at : Place) → length (blocks p) ≤ at.front → left_from p at ≡ []
  none_left at past = ap (λ (yss : List (List (List ℕ))). drop at.end (flat_map (λ ws. ws) yss)) (drop_all at.front (blocks p) past) ∙ drop_all at.end [] (omega arith)

  -- all words that are wanted, or all that are left
  pub chunk_done : (c : Cursor) (chunk : List (List ℕ)) → Filled p from index c chunk → (512 ≤ index) ⊎ (length (blocks p) ≤ c.place.front)
      → (take index chunk ≡ take 512 (left_from p from)) × (left_from p c.place ≡ drop 512 (left_from p from))
  chunk_done c chunk f ends =
      let l : length (take index chunk) ≡ index = length-take-le index chunk f.long in
      let few = f.few in
      chunk_of (take index chunk) (left_from p c.place) (left_from p from) 512 f.words (omega (arith, l, few))
      (⊎_elim (λ (full : 512 ≤ index). inl (omega (arith, l, few, full))) (λ (past : length (blocks p) ≤ c.place.front). inr (none_left c.place past)) ends)
