-- The words that are asked to fill a table.
use Rattle.std.proofs.Common.{◌≡◌, ⊎_elim, inl, inr, ℕ, List, [], ◌∷◌, ◌++◌, Contains, All, ap, sym, ◌∙◌, subst, subst₂, arith}
use Rattle.std.proofs.Math.ListN.{get_or-append}
use Rattle.std.proofs.lemmas.List.{length-append}
use Rattle.std.proofs.lemmas.List.Elements.{All-push}
use Rattle.lw_words.specs.declared.kept.KeptAnswer.{KeptAnswer}
use Rattle.lw_cache.specs.Settling.{GainsAnswers, GainsOnly}
use Rattle.lw_cache.proofs.SettlingLemmas.{gains_of_batch, gains_then, gains_wider}
use Rattle.lw_table.specs.Table.{TableState}
use Rattle.lw_table.specs.Grown.{IsWordOfRow, IsCellWord, IsCellWordOf}
use Rattle.lw_table.specs.bodies.Rows.{IsRowWord}

pub row_word_is : (a : ℕ) (access : List (List ℕ)) (j : ℕ) (w : List ℕ) → IsRowWord a access j w → IsWordOfRow a access w
row_word_is a access j w is = ⊎_elim (λ e. inl e.1) (λ r. inr (r.0, r.1, r.2, r.3, r.5)) is

-- a cell's word more
pub cell_word_more : (a : ℕ) (access suffixes : List (List ℕ)) (words now : List (List ℕ)) (row suffix asked : List ℕ) → IsWordOfRow a access row → Contains suffixes suffix → asked ≡ row ++ suffix → now ≡ words ++ asked ∷ []
    → All (IsCellWord a access suffixes) words → All (IsCellWord a access suffixes) now
cell_word_more a access suffixes words now row suffix asked of_row in_table word is all =
    subst (All (IsCellWord a access suffixes)) (sym is) (All-push (IsCellWord a access suffixes) words asked all (record { row = row; suffix = suffix; of_row = of_row; in_table = in_table; word = word }))

-- what is a cell's word is one of a table with more access words
stays_of_row : (a : ℕ) (access more : List (List ℕ)) (w : List ℕ) → IsWordOfRow a access w → IsWordOfRow a (access ++ more) w
stays_of_row a access more w is =
    ⊎_elim inl
    (λ r. inr (r.0, r.1, omega (arith, r.2, length-append access more), r.3, r.4 ∙ ap (λ (u : List ℕ). u ++ r.1 ∷ []) (sym (get_or-append access more [] r.0 r.2))))
    is

stays_cell_word : (a : ℕ) (access more suffixes : List (List ℕ)) (w : List ℕ) → IsCellWord a access suffixes w → IsCellWord a (access ++ more) suffixes w
stays_cell_word a access more suffixes w is = record { row = is.row; suffix = is.suffix; of_row = stays_of_row a access more is.row is.of_row; in_table = is.in_table; word = is.word }

-- what was asked for a table is asked for one that has grown
pub asks_stays : (before now : TableState) (more : List (List ℕ)) (was is : List KeptAnswer) → now.inputs ≡ before.inputs → now.access ≡ before.access ++ more → now.suffixes ≡ before.suffixes
    → GainsOnly (IsCellWordOf before) was is → GainsOnly (IsCellWordOf now) was is
asks_stays before now more was is inputs access suffixes asks =
    gains_wider (IsCellWordOf before) (IsCellWordOf now) was is
    (λ w cell.
    subst (λ (a : ℕ). IsCellWord a now.access now.suffixes w) (sym inputs)
    (subst₂ (λ (l s : List (List ℕ)). IsCellWord before.inputs l s w) (sym access) (sym suffixes) (stays_cell_word before.inputs before.access more before.suffixes w cell)))
    asks

pub asks_then : (before now : TableState) (more : List (List ℕ)) (was mid is : List KeptAnswer) → now.inputs ≡ before.inputs → now.access ≡ before.access ++ more → now.suffixes ≡ before.suffixes
    → GainsOnly (IsCellWordOf before) was mid → GainsOnly (IsCellWordOf now) mid is → GainsOnly (IsCellWordOf now) was is
asks_then before now more was mid is inputs access suffixes first next = gains_then (IsCellWordOf now) was mid is (asks_stays before now more was mid inputs access suffixes first) next

-- the words of a batch are cells' words
pub asked_cells : (a : ℕ) (access suffixes words batch : List (List ℕ)) (was is : List KeptAnswer) → All (IsCellWord a access suffixes) words → batch ≡ words → GainsAnswers batch was is → GainsOnly (IsCellWord a access suffixes) was is
asked_cells a access suffixes words batch was is cells same gains = gains_of_batch (IsCellWord a access suffixes) batch was is (subst (All (IsCellWord a access suffixes)) (sym same) cells) gains
