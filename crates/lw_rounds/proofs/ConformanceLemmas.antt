-- What answers that were gained say of a machine.
use Rattle.std.proofs.Common.{◌≡◌, refl, ℕ, ◌+◌, ◌<◌, ⊎_elim, List, [], ◌++◌, length, take, drop, Option, Some, None, Contains, get_or, ap, sym, ◌∙◌, subst, arith, append-nil, append_assoc}
use Rattle.std.specs.List.{All, AllWithin}
use Rattle.std.proofs.lemmas.List.{length-append, length-map, length-take, map-append, get_or-append-add, take-append-drop}
use Rattle.std.proofs.lemmas.List.Elements.{All-nil, All-append, All-map, All-weaker, All-contains, All-get_or, All-from_get_or, All-drop}
use Rattle.lw_words.specs.Word.{Answer, AreAnswers, answer_at, answer_of, answers_of, IsWord}
use Rattle.lw_words.specs.declared.kept.KeptAnswer.{KeptAnswer}
use Rattle.lw_mealy.specs.Machine.{Rows, answer, Gives}
use Rattle.lw_separate.proofs.CrowdLemmas.{same_or_not}
use Rattle.lw_cache.specs.Against.{DiffersFirst}
use Rattle.lw_cache.specs.Clash.{NothingClashes}
use Rattle.lw_cache.specs.Known.{IsKnown, Reads}
use Rattle.lw_cache.proofs.ClashLemmas.{all_are_clear}
use Rattle.lw_cache.proofs.CrowdLemmas.{reads_given}
use Rattle.lw_cache.proofs.KnownLemmas.{known_is_read, reads_once}
use Rattle.lw_cache.proofs.ReadLemmas.{own_is_read, reads_more}
use Rattle.lw_rounds.specs.bodies.Conformance.{AgreesOn, FindsFirst, Passes, Comes}

-- where nothing clashes each answer is read of its own word
own : (a : ℕ) (ks : List Answer) → AreAnswers a ks → NothingClashes ks → (i : ℕ) → i < length ks → Reads ks (answer_at ks i).word (answer_at ks i).outs
own a ks are nothing i lt = own_is_read a ks i are (all_are_clear ks nothing i lt)

-- a machine that differs on no known word gives the answers
pub none_differs : (a : ℕ) (h : Rows) (ks : List Answer) → AreAnswers a ks → NothingClashes ks → DiffersFirst h ks None → Gives h ks
none_differs a h ks are nothing none =
    All-from_get_or (λ k. answer h k.word ≡ k.outs) ks (record { word = []; outs = [] }) (λ i lt.
    ⊎_elim
    (λ (same : answer h (answer_at ks i).word ≡ (answer_at ks i).outs). same)
    (λ (other : answer h (answer_at ks i).word ≡ (answer_at ks i).outs → ⊥). absurd (none (answer_at ks i).word ((answer_at ks i).outs, own a ks are nothing i lt, other)))
    (same_or_not (answer h (answer_at ks i).word) (answer_at ks i).outs))

at_gained : (before gained : List KeptAnswer) (j : ℕ) → answer_at (answers_of (before ++ gained)) (length before + j) ≡ answer_at (answers_of gained) j
at_gained before gained j =
    ap (λ (ks : List Answer). answer_at ks (length before + j)) (map-append answer_of before gained)
    ∙ (ap (λ (n : ℕ). answer_at (answers_of before ++ answers_of gained) (n + j)) (sym (length-map before answer_of))
    ∙ get_or-append-add (answers_of before) (answers_of gained) j (record { word = []; outs = [] }))

module _ (a : ℕ) (h : Rows) (batch : List (List ℕ)) (before gained : List KeptAnswer) (are : AreAnswers a (answers_of (before ++ gained))) (nothing : NothingClashes (answers_of (before ++ gained)))
    (of_batch : All (λ k. Contains batch k.word) gained) (agrees : All (AgreesOn h (answers_of (before ++ gained))) batch) where
  gained_given : Gives h (answers_of gained)
  gained_given =
      All-from_get_or (λ k. answer h k.word ≡ k.outs) (answers_of gained) (record { word = []; outs = [] }) (λ j lt.
      let ks : List Answer = answers_of (before ++ gained) in
      let k : Answer = answer_at (answers_of gained) j in
      let in_batch : All (λ x. Contains batch x.word) (answers_of gained) = All-map (λ x. Contains batch x.word) answer_of gained of_batch in
      let asked : Contains batch k.word = All-get_or (λ x. Contains batch x.word) (answers_of gained) j (record { word = []; outs = [] }) lt in_batch in
      let within : length before + j < length ks = rw (map-append answer_of before gained) omega (arith, lt, length-map before answer_of, length-append (answers_of before) (answers_of gained)) in
      let read : Reads ks k.word k.outs = subst (λ (x : Answer). Reads ks x.word x.outs) (at_gained before gained j) (own a ks are nothing (length before + j) within) in
      reads_once a ks k.word (answer h k.word) k.outs are (All-contains (AgreesOn h ks) batch k.word agrees asked) read)

  all_given : Gives h (answers_of before) → Gives h (answers_of (before ++ gained))
  all_given given = subst (Gives h) (sym (map-append answer_of before gained)) (All-append (λ k. answer h k.word ≡ k.outs) (answers_of before) (answers_of gained) given gained_given)

-- a machine that gave the answers, and agrees on all words of the batch, gives those that were gained too
pub gives_more : (a : ℕ) (h : Rows) (batch : List (List ℕ)) (before gained now : List KeptAnswer) → now ≡ before ++ gained → AreAnswers a (answers_of now) → NothingClashes (answers_of now)
    → All (λ k. Contains batch k.word) gained → Gives h (answers_of before) → All (AgreesOn h (answers_of now)) batch → Gives h (answers_of now)
gives_more a h batch before gained now grown are nothing of_batch given agrees =
    subst (λ (kept : List KeptAnswer). Gives h (answers_of kept)) (sym grown)
    (all_given a h batch before gained
    (subst (λ (kept : List KeptAnswer). AreAnswers a (answers_of kept)) grown are)
    (subst (λ (kept : List KeptAnswer). NothingClashes (answers_of kept)) grown nothing)
    of_batch
    (subst (λ (kept : List KeptAnswer). All (AgreesOn h (answers_of kept)) batch) grown agrees)
    given)

-- answers from one on that a machine gives, beside those before that it gives, are all
pub gives_later : (h : Rows) (before gained now : List KeptAnswer) → now ≡ before ++ gained → AllWithin (λ k. answer h k.word ≡ k.outs) now (length before) (length now) → Gives h (answers_of before) → Gives h (answers_of now)
gives_later h before gained now grown within given =
    let Given : KeptAnswer → Type 0 = λ k. answer h k.word ≡ k.outs in
    let later : All Given gained = λ i d lt.
    let at : get_or now (length before + i) d ≡ get_or gained i d = ap (λ (l : List KeptAnswer). get_or l (length before + i) d) grown ∙ get_or-append-add before gained i d in
    let size : length now ≡ length before + length gained = ap (λ (l : List KeptAnswer). length l) grown ∙ length-append before gained in
    subst Given at (within (length before + i) d (omega arith) (omega (arith, lt, size))) in
    subst (λ (l : List KeptAnswer). Gives h (answers_of l)) (sym grown)
    (subst (Gives h) (sym (map-append answer_of before gained))
    (All-append (λ k. answer h k.word ≡ k.outs) (answers_of before) (answers_of gained) given (All-map (λ k. answer h k.word ≡ k.outs) answer_of gained later)))

-- a machine that gives the answers agrees on all that is known
pub agrees_on_known : (h : Rows) (ks : List Answer) (words : List (List ℕ)) → Gives h ks → All (IsKnown ks) words → All (AgreesOn h ks) words
agrees_on_known h ks words gives known =
    All-weaker (IsKnown ks) (AgreesOn h ks)
    (λ w k. let r = (known_is_read ks w).0 k in subst (Reads ks w) (reads_given h ks w r.0 gives r.1) r.1)
    words known

-- what words come to, by what is found in them
pub comes : (h : Rows) (ks : List Answer) (words : List (List ℕ)) (found : Option (List ℕ)) → (All (AgreesOn h ks) words → Passes h ks words) → FindsFirst h ks words found → Comes h ks words found
comes h ks words None passes agrees = passes agrees
comes h ks words (Some front) passes first = first.here.differs

-- what is known stays known
pub known_more : (before gained now : List KeptAnswer) (words : List (List ℕ)) → now ≡ before ++ gained → All (IsKnown (answers_of before)) words → All (IsKnown (answers_of now)) words
known_more before gained now words grown =
    All-weaker (IsKnown (answers_of before)) (IsKnown (answers_of now))
    (λ w known. let r = (known_is_read (answers_of before) w).0 known in (known_is_read (answers_of now) w).1 (r.0, reads_more before gained now w r.0 grown r.1))
    words

-- some words of a suite are settled, and the machine agrees on them; these are left
pub record HasSettled (a : ℕ) (h : Rows) (ks : List Answer) (suite left : List (List ℕ)) : Type 0 where
  pub taken : List (List ℕ)
  pub whole : suite ≡ taken ++ left
  pub passes : Passes h ks taken
  pub letters : All (IsWord a) left

pub settled_none : (a : ℕ) (h : Rows) (ks : List Answer) (suite : List (List ℕ)) → Gives h ks → All (IsWord a) suite → HasSettled a h ks suite suite
settled_none a h ks suite gives letters =
    record {
      taken = [];
      whole = refl;
      passes = record { gives = gives; known = All-nil (IsKnown ks) };
      letters = letters;
    }

pub settled_more : (a : ℕ) (h : Rows) (before gained now : List KeptAnswer) (suite left chunk rest : List (List ℕ)) (n : ℕ) → now ≡ before ++ gained → chunk ≡ take n left → rest ≡ drop n left
    → HasSettled a h (answers_of before) suite left → Passes h (answers_of now) chunk → HasSettled a h (answers_of now) suite rest
settled_more a h before gained now suite left chunk rest n grown is_chunk is_rest was passes =
    record {
      taken = was.taken ++ chunk;
      whole = was.whole
          ∙ (ap (λ (words : List (List ℕ)). was.taken ++ words) (sym (take-append-drop n left) ∙ (ap (λ (words : List (List ℕ)). words ++ drop n left) (sym is_chunk) ∙ ap (λ (words : List (List ℕ)). chunk ++ words) (sym is_rest)))
          ∙ sym (append_assoc was.taken chunk rest));
      passes = record {
        gives = passes.gives;
        known = All-append (IsKnown (answers_of now)) was.taken chunk (known_more before gained now was.taken grown was.passes.known) passes.known;
      };
      letters = subst (All (IsWord a)) (sym is_rest) (All-drop (IsWord a) n left was.letters);
    }

pub settled_all : (a : ℕ) (h : Rows) (ks : List Answer) (suite left : List (List ℕ)) → left ≡ [] → HasSettled a h ks suite left → Passes h ks suite
settled_all a h ks suite left none was =
    subst (Passes h ks) (sym (was.whole ∙ (ap (λ (words : List (List ℕ)). was.taken ++ words) none ∙ append-nil was.taken))) was.passes

pub few_in_chunk : (chunk left : List (List ℕ)) → chunk ≡ take 512 left → length chunk < 4294967296
few_in_chunk chunk left is = omega (arith, ap (λ (words : List (List ℕ)). length words) is, length-take 512 left)
