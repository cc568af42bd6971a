-- The search as the plain learner makes it.
use Rattle.std.proofs.Common.{◌≡◌, ℕ, ◌+◌, ◌-◌, ◌/◌, ◌<◌, ◌≤◌, Bool, true, false, cond, List, [], ◌∷◌, ◌++◌, length, map, drop, refl, ap, ap₂, sym, ◌∙◌, arith, append_assoc, append-nil}
use Rattle.std.proofs.lemmas.List.{map-append}
use Rattle.std.proofs.lemmas.Slice.Eq.{bytes_eq-Decides}
use Rattle.lw_words.specs.Word.{Answer, answers_of}
use Rattle.lw_words.specs.declared.kept.KeptAnswer.{KeptAnswer}
use Rattle.lw_mealy.specs.Machine.{Rows, Gives, answer}
use Rattle.lw_cache.specs.Settling.{OracleState}
use Rattle.lw_plain.specs.Table.{Search, probe, agrees_on, agrees_at, halved, search_cut, search_word, probe_batch}
use Rattle.lw_plain.specs.Turns.{IsPlainOracle, AsksBatch}
use Rattle.lw_plain.proofs.CutLemmas.{search_on}
use Rattle.lw_plain.proofs.KnownLemmas.{reads_answer}
use Rattle.lw_plain.proofs.LawLemmas.{search_done}
use Rattle.lw_plain.proofs.TurnLemmas.{asks_on, asks_as, asks_nothing, plain_first, plain_next}
use Rattle.lw_cex.specs.Plain.{SplitsPlainly}
use Rattle.lw_cex.specs.bodies.Search.{Tells, FindsPlainly, SearchesOn}

-- what is told of a known word is what the machine says
pub told_is : (m h : Rows) (ks : List Answer) (w : List ℕ) (told : Bool) → Gives m ks → Tells h ks w told → agrees_on m h w ≡ told
told_is m h ks w true gives tells = (bytes_eq-Decides (answer h w) (answer m w)).1 (reads_answer m ks w (answer h w) gives tells)
told_is m h ks w false gives tells = is_not (agrees_on m h w) (λ same. tells.2 ((bytes_eq-Decides (answer h w) (answer m w)).0 same ∙ sym (reads_answer m ks w tells.0 gives tells.1)))
  where
    is_not : (b : Bool) → (b ≡ true → ⊥) → b ≡ false
    is_not true never = absurd (never refl)
    is_not false never = refl

module _ (h : Rows) (access : List (List ℕ)) (w : List ℕ) where
  -- nothing was tried
  pub search_begins : (n : ℕ) (o : OracleState) → n ≡ length w → SearchesOn h access w 0 n o o
  search_begins n o whole m asked plain = record {
    tries = 0;
    tried = [];
    few = omega arith;
    left = ap₂ (λ (i high : ℕ). search_cut (agrees_at m h access w) i (record { low = 0; high = high; tried = [] })) (omega arith) whole;
    asks = asks_as m asked asked (asked ++ []) o.kept o.kept (sym (append-nil asked)) (asks_nothing m asked o.kept plain.knows);
  }

  -- the middle was tried
  pub search_goes_on : (low high : ℕ) (told : Bool) (o p q : OracleState) (gained : List KeptAnswer) → 1 < high - low → Tells h (answers_of q.kept) (probe h access w (low + (high - low) / 2)) told → AsksBatch (probe_batch h access w (low + (high - low) / 2)) p q
      → p.exact ≡ o.exact → q.kept ≡ p.kept ++ gained → SearchesOn h access w low high o p
      → SearchesOn h access w (cond told low (low + (high - low) / 2)) (cond told (low + (high - low) / 2) high) o q
  search_goes_on low high told o p q gained wide tells asks exact came searches m asked plain =
      let middle : ℕ = low + (high - low) / 2 in
      let first : IsPlainOracle m asked o p = plain_first m asked o p q gained came plain in
      let was = searches m asked first in
      let batches : List (List (List ℕ)) = asked ++ map (probe_batch h access w) was.tried in
      let then : IsPlainOracle m batches p q = plain_next m asked batches o p q exact was.asks plain in
      let here : agrees_at m h access w middle ≡ told = told_is m h (answers_of q.kept) (probe h access w middle) told plain.gives tells in
      let before : Search = record { low = low; high = high; tried = was.tried } in
      let now : Search = record { low = cond told low middle; high = cond told middle high; tried = was.tried ++ middle ∷ [] } in
      let is : now ≡ halved (agrees_at m h access w) before = ap (λ (b : Bool). let s : Search = record { low = cond b low middle; high = cond b middle high; tried = was.tried ++ middle ∷ [] } in s) (sym here) in
      let lt : was.tries < length w = (let few = was.few in omega arith) in
      let all : asked ++ map (probe_batch h access w) (was.tried ++ middle ∷ []) ≡ batches ++ probe_batch h access w middle ∷ [] =
      ap (λ (bs : List (List (List ℕ))). asked ++ bs) (map-append (probe_batch h access w) was.tried (middle ∷ [])) ∙ sym (append_assoc asked (map (probe_batch h access w) was.tried) (probe_batch h access w middle ∷ [])) in
      record {
        tries = was.tries + 1;
        tried = was.tried ++ middle ∷ [];
        few = fewer told low high middle was.tries (length w) (omega arith) (omega arith) was.few;
        left = search_on (agrees_at m h access w) (length w) was.tries before now (search_word m h access (length w) w) lt (omega arith) is was.left;
        asks = asks_as m asked (batches ++ probe_batch h access w middle ∷ []) (asked ++ map (probe_batch h access w) (was.tried ++ middle ∷ [])) o.kept q.kept (sym all)
            (asks_on m asked batches (batches ++ probe_batch h access w middle ∷ []) o.kept p.kept q.kept was.asks (asks m batches then));
      }
    where
      fewer : (b : Bool) (l u mid i n : ℕ) → l < mid → mid < u → u + i ≤ l + n → cond b mid u + (i + 1) ≤ cond b l mid + n
      fewer true l u mid i n above below few = omega arith
      fewer false l u mid i n above below few = omega arith

  -- two neighbours are left
  pub search_ends : (low high : ℕ) (o p : OracleState) → high - low ≤ 1 → SearchesOn h access w low high o p → FindsPlainly h access w low o p
  search_ends low high o p narrow searches m asked plain =
      let was = searches m asked plain in
      let s : Search = record { low = low; high = high; tried = was.tried } in
      let whole = search_word m h access (length w) w in
      let is : s ≡ whole = sym (search_done (agrees_at m h access w) (length w - was.tries) s (omega arith)) ∙ was.left in
      record {
        here = ap (λ (t : Search). t.low) is;
        asks = asks_as m asked (asked ++ map (probe_batch h access w) was.tried) (asked ++ map (probe_batch h access w) whole.tried) o.kept p.kept (ap (λ (t : Search). asked ++ map (probe_batch h access w) t.tried) is) was.asks;
      }

  pub splits_plainly : (place : ℕ) (suffix : List ℕ) (o p : OracleState) → suffix ≡ drop (place + 1) w → FindsPlainly h access w place o p → SplitsPlainly h access w suffix o p
  splits_plainly place suffix o p is finds m asked plain =
      let found = finds m asked plain in
      record { behind = is ∙ ap (λ (i : ℕ). drop (i + 1) w) found.here; asks = found.asks }
