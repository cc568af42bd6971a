-- What a table gains, from one step to the next.
use Rattle.std.proofs.Common.{◌≤◌, ◌≡◌, ◌≢◌, ⊎_elim, inl, inr, ℕ, ◌+◌, ◌<◌, List, [], ◌∷◌, ◌++◌, length, refl, ap, sym, ◌∙◌, subst, Result, Ok, Err, arith, append-nil, append_assoc}
use Rattle.std.specs.Bool.{⊤}
use Rattle.std.proofs.lemmas.Bool.{cases_lt}
use Rattle.std.proofs.lemmas.List.{length-append, get_or_default}
use Rattle.std.proofs.lemmas.List.Quantifiers.{all_pairs_push}
use Rattle.lw_words.specs.Word.{Answer}
use Rattle.lw_cache.specs.declared.stops.AskStop.{AskStop}
use Rattle.lw_cache.specs.declared.stops.GrowStop.{GrowStop}
use Rattle.lw_cache.specs.declared.stops.GrowStop.TheVariants.{Ask, Crowd}
use Rattle.lw_cache.specs.Crowd.{Apart, IsCrowd}
use Rattle.lw_cache.specs.Cut.{word_at}
use Rattle.lw_table.specs.Table.{TableState, row_at, access_row, IsTable, CellsAreRead}
use Rattle.lw_table.specs.bodies.Growing.{AreFull}
use Rattle.lw_table.specs.bodies.Rows.{IsRowWord}
use Rattle.lw_table.proofs.AccessLemmas.{extends_some}
use Rattle.lw_table.proofs.CellLemmas.{access_is_crowd, access_read, row_word_read, rows_apart}
use Rattle.lw_table.specs.Grown.{HasGrown, IsCrowdOf, TellsCrowd, HasClosed, HasRefined}

-- where nothing came
pub not_grown : (ks : List Answer) (t : TableState) → IsTable t → CellsAreRead ks t → HasGrown ks t t
not_grown ks t table read =
    record {
      inputs = refl;
      outputs = refl;
      most = refl;
      more = [];
      access = sym (append-nil t.access);
      rows = λ j. ([], sym (append-nil (row_at t j)));
      longer = omega arith;
      whole = inl (λ j. refl);
      each_new = λ j ge lt. absurd (omega (arith, ge, lt));
      homes = λ q lt. refl;
      table = table;
      read = read;
    }

-- a stop of the oracle is no crowd
pub no_crowd : (ks : List Answer) (t : TableState) (stop : AskStop) → TellsCrowd ks t (Err (Ask stop))
no_crowd ks t stop words same = cc

pub not_closed : (ks : List Answer) (t : TableState) (stop : AskStop) → IsTable t → CellsAreRead ks t → HasClosed ks t t (Err (Ask stop))
not_closed ks t stop table read =
    record {
      grown = not_grown ks t table read;
      closed = tt;
      suffixes = refl;
      refinements = refl;
      crowd = no_crowd ks t stop;
    }

pub not_refined : (ks : List Answer) (suffix : List (ℕ)) (t : TableState) (stop : AskStop) → IsTable t → CellsAreRead ks t → HasRefined ks suffix t t (Err (Ask stop))
not_refined ks suffix t stop table read =
    record {
      grown = not_grown ks t table read;
      closed = tt;
      split = tt;
      added = tt;
      left = inl refl;
      refined = tt;
      refused = refl;
      crowd = no_crowd ks t stop;
    }

-- one step after another
pub grown_then : (first ks : List Answer) (a b c : TableState) → HasGrown first a b → HasGrown ks b c → c.suffixes ≡ b.suffixes → HasGrown ks a c
grown_then first ks a b c one two same =
    record {
      inputs = two.inputs ∙ one.inputs;
      outputs = two.outputs ∙ one.outputs;
      most = two.most ∙ one.most;
      more = one.more ++ two.more;
      access = two.access ∙ (ap (λ (l : List (List ℕ)). l ++ two.more) one.access ∙ append_assoc a.access one.more two.more);
      rows = λ j.
          let r = one.rows j in
          let s = two.rows j in
          (r.0 ++ s.0, s.1 ∙ (ap (λ (l : List (List ℕ)). l ++ s.0) r.1 ∙ append_assoc (row_at a j) r.0 s.0));
      longer = omega (arith, one.longer, two.longer);
      whole = ⊎_elim
          (λ (still : (j : ℕ) → row_at c j ≡ row_at b j). ⊎_elim
          (λ (before : (j : ℕ) → row_at b j ≡ row_at a j). inl (λ j. still j ∙ before j))
          (λ (full : (j : ℕ) → j < length a.cells → length (row_at b j) ≡ length b.suffixes). inr (λ j lt. full_still j (still j) (full j lt)))
          one.whole)
          (λ (full : (j : ℕ) → j < length b.cells → length (row_at c j) ≡ length c.suffixes). inr (λ j lt. full j (omega (arith, lt, one.longer))))
          two.whole;
      each_new = λ j ge lt. ⊎_elim
          (λ (inside : j < length b.cells). ⊎_elim
          (λ (still : (i : ℕ) → row_at c i ≡ row_at b i). ⊎_elim
          (λ (none : row_at b j ≡ []). inl (still j ∙ none))
          (λ (full : length (row_at b j) ≡ length b.suffixes). inr (full_still j (still j) full))
          (one.each_new j ge inside))
          (λ (full : (i : ℕ) → i < length b.cells → length (row_at c i) ≡ length c.suffixes). inr (full j inside))
          two.whole)
          (λ (past : length b.cells ≤ j). two.each_new j past lt)
          (cases_lt j (length b.cells));
      homes = λ q lt. two.homes q (omega (arith, lt, count)) ∙ one.homes q lt;
      table = two.table;
      read = two.read;
    }
  where
    full_still : (j : ℕ) → row_at c j ≡ row_at b j → length (row_at b j) ≡ length b.suffixes → length (row_at c j) ≡ length c.suffixes
    full_still j still full = ap (λ (r : List (List ℕ)). length r) still ∙ (full ∙ ap (λ (l : List (List ℕ)). length l) (sym same))

    count : length b.access ≡ length a.access + length one.more
    count = ap (λ (l : List (List ℕ)). length l) one.access ∙ length-append a.access one.more

-- the access words, and a row's word that none of them has the row of
pub crowd_of : (ks : List Answer) (t : TableState) (j : ℕ) (w : List ℕ) (words : List (List ℕ)) → IsTable t → CellsAreRead ks t → AreFull t → j < length t.cells → IsRowWord t.inputs t.access j w → ((q : ℕ) → q < length t.access → row_at t j ≢ access_row t q)
    → length t.access ≡ t.most → words ≡ t.access ++ w ∷ [] → IsCrowdOf ks t words
crowd_of ks t j w words table read full inside is new count all =
    let size : length (t.access ++ w ∷ []) ≡ length t.access + 1 = length-append t.access (w ∷ []) in
    let first : length (row_at t j) ≡ length (row_at t 0) = full j inside ∙ sym (full 0 (omega (arith, inside))) in
    let apart : IsCrowd ks (t.access ++ w ∷ []) =
    all_pairs_push (Apart ks) t.access w (access_is_crowd ks t table read) (λ q d lt.
    subst (λ (u : List ℕ). Apart ks u w) (get_or_default t.access q [] d lt)
    (rows_apart ks t.suffixes (word_at t.access q) w (access_row t q) (row_at t j) (access_read t table ks read q lt) (row_word_read ks t j w read is) (table.even q lt ∙ sym first) (λ same. new q lt (sym same)))) in
    let e = extends_some t j w table is new in
    record {
      count = ap (λ (l : List (List ℕ)). length l) all ∙ (size ∙ ap (λ (n : ℕ). n + 1) count);
      state = e.0;
      letter = e.1;
      from = e.2;
      small = e.3;
      all = all ∙ ap (λ (v : List ℕ). t.access ++ v ∷ []) e.4;
      apart = subst (IsCrowd ks) (sym all) apart;
    }

-- a crowd that is told
abbrev told_words : List (List ℕ) → Result ⊤ GrowStop → List (List ℕ)
told_words d (Ok _) = d
told_words d (Err (Ask stop)) = d
told_words d (Err (Crowd words)) = words

pub tells_crowd : (ks : List Answer) (t : TableState) (words : List (List ℕ)) → IsCrowdOf ks t words → TellsCrowd ks t (Err (Crowd words))
tells_crowd ks t words is told same = subst (IsCrowdOf ks t) (ap (told_words []) same) is
