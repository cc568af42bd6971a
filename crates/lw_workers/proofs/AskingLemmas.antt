-- Words that are answered: what is known is, and stays so under more answers and under other outputs.
use Rattle.std.proofs.Common.{◌≡◌, inl, inr, ℕ, ◌<◌, List, [], ◌++◌, length, map, All, get_or, Result, Ok, Err, OnOk, ap, sym, ◌∙◌, subst}
use Rattle.std.proofs.lemmas.List.{get_or-map, length-map}
use Rattle.std.proofs.lemmas.List.Elements.{Contains-get_or, Contains-append_left}
use Rattle.lw_words.specs.Word.{Answer, answer_of, answers_of, IsPrefix}
use Rattle.lw_words.specs.declared.kept.KeptAnswer.{KeptAnswer}
use Rattle.lw_cache.specs.Known.{IsKnown}
use Rattle.lw_workers.specs.Asking.{WordIsAnswered, AnswersWords}

abbrev nothing : KeptAnswer
nothing = record { instance = 0; run = 0; word = []; outs = [] }

known_is_answered : (kept : List KeptAnswer) (w : List ℕ) → IsKnown (answers_of kept) w → WordIsAnswered kept w
known_is_answered kept w (inl empty) = inl empty
known_is_answered kept w (inr (i, clear, front)) =
    let lt : i < length kept = subst (λ (n : ℕ). i < n) (length-map kept answer_of) clear.0 in
    inr (
      get_or kept i nothing,
      Contains-get_or kept i nothing lt,
      subst (λ (k : Answer). IsPrefix w k.word) (get_or-map answer_of kept i nothing (record { word = []; outs = [] }) lt) front,
    )

-- what is known is answered
pub known_are_answered : (kept : List KeptAnswer) (words : List (List ℕ)) → All (IsKnown (answers_of kept)) words → AnswersWords words kept
known_are_answered kept words known w d lt = known_is_answered kept (get_or words w d) (known w d lt)

answered_more : (kept more : List KeptAnswer) (w : List ℕ) → WordIsAnswered kept w → WordIsAnswered (kept ++ more) w
answered_more kept more w (inl empty) = inl empty
answered_more kept more w (inr (k, within, front)) = inr (k, Contains-append_left kept more k within, front)

-- more answers behind keep it
pub are_answered_more : (words : List (List ℕ)) (kept more now : List KeptAnswer) → now ≡ kept ++ more → AnswersWords words kept → AnswersWords words now
are_answered_more words kept more now same answered = subst (AnswersWords words) (sym same) (λ w d lt. answered_more kept more (get_or words w d) (answered w d lt))

-- what holds in any case holds where a call answers Ok
pub when_ok : {X E : Type 0} (result : Result X E) (P : Type 0) → P → OnOk result P
when_ok (Ok x) P holds = holds
when_ok (Err stop) P holds = tt

word_at : (ks : List KeptAnswer) (i : ℕ) (d : KeptAnswer) → i < length ks → get_or (map (λ (k : KeptAnswer). k.word) ks) i [] ≡ (get_or ks i d).word
word_at ks i d lt = get_or-map (λ (k : KeptAnswer). k.word) ks i d [] lt

as_long : (ks ls : List KeptAnswer) → map (λ k. k.word) ks ≡ map (λ k. k.word) ls → length ks ≡ length ls
as_long ks ls same =
    sym (length-map ks (λ (k : KeptAnswer). k.word))
    ∙ (ap (λ (ws : List (List ℕ)). length ws) same ∙ length-map ls (λ (k : KeptAnswer). k.word))

answered_by_same : (ks ls : List KeptAnswer) (w : List ℕ) → map (λ k. k.word) ks ≡ map (λ k. k.word) ls → WordIsAnswered ks w → WordIsAnswered ls w
answered_by_same ks ls w same (inl empty) = inl empty
answered_by_same ks ls w same (inr (k, (i, lt, is), front)) =
    let within : i < length ls = subst (λ (n : ℕ). i < n) (as_long ks ls same) lt in
    let one : k.word ≡ (get_or ls i k).word =
    ap (λ (x : KeptAnswer). x.word) (sym is) ∙ (sym (word_at ks i k lt) ∙ (ap (λ (ws : List (List ℕ)). get_or ws i []) same ∙ word_at ls i k within)) in
    inr (get_or ls i k, Contains-get_or ls i k within, subst (IsPrefix w) one front)

-- it holds of answers to the same words, whatever their outputs
pub answered_by_words : (words : List (List ℕ)) (ks ls : List KeptAnswer) → map (λ k. k.word) ks ≡ map (λ k. k.word) ls → AnswersWords words ks → AnswersWords words ls
answered_by_words words ks ls same answered w d lt = answered_by_same ks ls (get_or words w d) same (answered w d lt)
