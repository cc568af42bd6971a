-- What is read of a word and of its front.
use Rattle.std.proofs.Common.{◌≡◌, ℕ, ◌<◌, ◌≤◌, inl, inr, ⊎_elim, List, [], ◌∷◌, ◌++◌, length, take, drop, refl, ap, sym, ◌∙◌, subst, arith, append-nil, append_assoc}
use Rattle.std.proofs.Math.Seq.{drop-append_seam, take-append_seam}
use Rattle.std.proofs.lemmas.List.{length-append, length-take-le, map-append, take-append-drop, take-take, take_all}
use Rattle.std.proofs.lemmas.List.Elements.{All-nil, All-take}
use Rattle.lw_words.specs.Word.{Answer, AreAnswers, answer_at, answer_of, answers_of, IsWord, IsPrefix}
use Rattle.lw_words.specs.declared.kept.KeptAnswer.{KeptAnswer}
use Rattle.lw_mealy.specs.Machine.{Rows, after, out, answer}
use Rattle.lw_mealy.proofs.WordLemmas.{length-out, out-append}
use Rattle.lw_cache.specs.Clash.{IsClear}
use Rattle.lw_cache.specs.Known.{Reads}
use Rattle.lw_cache.proofs.GrowLemmas.{reads_stay}
use Rattle.lw_cache.proofs.KnownLemmas.{prefix_long, reads_once}

-- the front of a word is a word
pub front_is_word : (a : ℕ) (u v : List ℕ) → IsWord a (u ++ v) → IsWord a u
front_is_word a u v is = subst (IsWord a) (take-append_seam u v) (All-take (λ x. x < a) (length u) (u ++ v) is)

-- what is read is a word over the answers' letters
pub read_is_word : (a : ℕ) (ks : List Answer) (w o : List ℕ) → AreAnswers a ks → Reads ks w o → IsWord a w
read_is_word a ks w o are read =
    ⊎_elim
    (λ (r : (w ≡ []) × (o ≡ [])). subst (IsWord a) (sym r.0) (All-nil (λ x. x < a)))
    (λ (r : (i : ℕ) × IsClear ks i × IsPrefix w (answer_at ks i).word × (o ≡ take (length w) (answer_at ks i).outs)).
    front_is_word a w r.2.0 (subst (IsWord a) r.2.1 (are r.0 (record { word = []; outs = [] }) r.1.0).0))
    read

-- it has an output for each letter
pub read_length : (a : ℕ) (ks : List Answer) (w o : List ℕ) → AreAnswers a ks → Reads ks w o → length o ≡ length w
read_length a ks w o are read =
    ⊎_elim
    (λ (r : (w ≡ []) × (o ≡ [])). ap (λ (l : List ℕ). length l) (r.1 ∙ sym r.0))
    (λ (r : (i : ℕ) × IsClear ks i × IsPrefix w (answer_at ks i).word × (o ≡ take (length w) (answer_at ks i).outs)).
    let whole : length (answer_at ks r.0).outs ≡ length (answer_at ks r.0).word = (are r.0 (record { word = []; outs = [] }) r.1.0).1 in
    let long : length w ≤ length (answer_at ks r.0).word = prefix_long w (answer_at ks r.0).word r.2 in
    ap (λ (l : List ℕ). length l) r.3 ∙ length-take-le (length w) (answer_at ks r.0).outs (omega (arith, whole, long)))
    read

no_front : (u v : List ℕ) → u ++ v ≡ [] → u ≡ []
no_front [] v e = refl
no_front (x ∷ u) v e = cc

-- a known word's front is known, with the first outputs
pub read_front : (ks : List Answer) (u v o : List ℕ) → Reads ks (u ++ v) o → Reads ks u (take (length u) o)
read_front ks u v o read =
    ⊎_elim
    (λ (r : (u ++ v ≡ []) × (o ≡ [])).
    let none : u ≡ [] = no_front u v r.0 in
    inl (none, ap (λ (l : List ℕ). take (length l) o) none))
    (λ (r : (i : ℕ) × IsClear ks i × IsPrefix (u ++ v) (answer_at ks i).word × (o ≡ take (length (u ++ v)) (answer_at ks i).outs)).
    inr (r.0, r.1, (v ++ r.2.0, r.2.1 ∙ append_assoc u v r.2.0), ap (take (length u)) r.3 ∙ take-take (length u) (length (u ++ v)) (answer_at ks r.0).outs (omega (arith, length-append u v))))
    read

-- where a machine agrees on a known word it agrees on the front
pub front_agrees : (m : Rows) (ks : List Answer) (u v : List ℕ) → Reads ks (u ++ v) (answer m (u ++ v)) → Reads ks u (answer m u)
front_agrees m ks u v read =
    subst (Reads ks u)
    (ap (take (length u)) (out-append m 0 u v) ∙ (ap (λ (n : ℕ). take n (answer m u ++ out m (after m 0 u) v)) (sym (length-out m 0 u)) ∙ take-append_seam (answer m u) (out m (after m 0 u) v)))
    (read_front ks u v (answer m (u ++ v)) read)

-- where a machine agrees on the front, the outputs are its own and then those on the rest
pub front_and_rest : (a : ℕ) (m : Rows) (ks : List Answer) (u v o : List ℕ) → AreAnswers a ks → Reads ks u (answer m u) → Reads ks (u ++ v) o → answer m u ++ drop (length u) o ≡ o
front_and_rest a m ks u v o are front read =
    ap (λ (f : List ℕ). f ++ drop (length u) o) (reads_once a ks u (answer m u) (take (length u) o) are front (read_front ks u v o read)) ∙ take-append-drop (length u) o

-- a machine's outputs on the rest of a word
pub rest_of_answer : (m : Rows) (u v : List ℕ) → drop (length u) (answer m (u ++ v)) ≡ out m (after m 0 u) v
rest_of_answer m u v =
    ap (drop (length u)) (out-append m 0 u v) ∙ (ap (λ (n : ℕ). drop n (answer m u ++ out m (after m 0 u) v)) (sym (length-out m 0 u)) ∙ drop-append_seam (answer m u) (out m (after m 0 u) v))

-- what is read stays so where answers are gained
pub reads_more : (before gained now : List KeptAnswer) (w o : List ℕ) → now ≡ before ++ gained → Reads (answers_of before) w o → Reads (answers_of now) w o
reads_more before gained now w o grown read =
    subst (λ (ks : List Answer). Reads ks w o) (sym (ap answers_of grown ∙ map-append answer_of before gained)) (reads_stay (answers_of before) (answers_of gained) w o read)

-- a clear answer's word is read with its own outputs
pub own_is_read : (a : ℕ) (ks : List Answer) (i : ℕ) → AreAnswers a ks → IsClear ks i → Reads ks (answer_at ks i).word (answer_at ks i).outs
own_is_read a ks i are clear =
    let k : Answer = answer_at ks i in
    let whole : length k.outs ≡ length k.word = (are i (record { word = []; outs = [] }) clear.0).1 in
    inr (i, clear, ([], sym (append-nil k.word)), sym (take_all (length k.word) k.outs (omega (arith, whole))))
