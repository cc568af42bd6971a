-- The search of counterexample analysis, and the cut that it ends at.
use Rattle.std.proofs.Common.{◌≡◌, ◌≢◌, inl, ℕ, zero, suc, ◌+◌, ◌<◌, List, [], ◌∷◌, ◌++◌, length, get_or, Contains, Bool, true, false, ◌-◌, ◌/◌, take, drop, refl, ap, sym, ◌∙◌, subst, arith, add-one, append-nil, append_assoc, drop-cons}
use Rattle.std.proofs.lemmas.List.{drop_all, take_more}
use Rattle.std.proofs.lemmas.List.Elements.{All-append, All-weaker, All-take, All-drop}
use Rattle.lw_words.specs.Word.{Answer, AreAnswers, answers_of, IsWord}
use Rattle.lw_words.specs.declared.kept.KeptAnswer.{KeptAnswer}
use Rattle.lw_mealy.specs.Machine.{Rows, IsMachine, after, next, out, answer}
use Rattle.lw_mealy.proofs.RowLemmas.{target_below}
use Rattle.lw_mealy.proofs.WordLemmas.{letter, after-append, out-append, after_below}
use Rattle.lw_cache.specs.Against.{Differs}
use Rattle.lw_cache.specs.Crowd.{Separates}
use Rattle.lw_cache.specs.Cut.{AreAccess, StepsAreRead, IsCut, word_at}
use Rattle.lw_cache.specs.Known.{Reads}
use Rattle.lw_cache.specs.Settling.{GainsAnswers}
use Rattle.lw_cache.specs.declared.cut.Cut.{Cut}
use Rattle.lw_cache.proofs.KnownLemmas.{reads_once}
use Rattle.lw_plain.specs.Table.{probe}
use Rattle.lw_cex.specs.Probe.{IsProbe, AsksProbes}
use Rattle.lw_cex.specs.bodies.Search.{AgreesOn, Tells, IsBetween, IsCutAt}
use Rattle.lw_cache.proofs.ReadLemmas.{front_agrees, front_and_rest, reads_more, rest_of_answer}

-- a machine that agrees on an access word and the letter, and differs once the suffix follows, is cut there
module _ (a : ℕ) (m : Rows) (ks : List Answer) (access : List (List ℕ)) (q x : ℕ) (v : List ℕ) (are : AreAnswers a ks) (acc : AreAccess a m access) (steps : StepsAreRead ks a m access) (state : q < length m) (inside : x < a) (target : next m q x < length m) (differs : Differs m ks (word_at access q ++ x ∷ v)) (agrees : AgreesOn m ks (word_at access (next m q x) ++ v)) where
  abbrev one : List ℕ
  one = word_at access q ++ x ∷ []

  abbrev other : List ℕ
  other = word_at access (next m q x)

  whole : one ++ v ≡ word_at access q ++ x ∷ v
  whole = append_assoc (word_at access q) (x ∷ []) v

  read : Reads ks (one ++ v) differs.0
  read = subst (λ (w : List ℕ). Reads ks w differs.0) (sym whole) differs.1

  lead : after m 0 one ≡ next m q x
  lead = after-append m 0 (word_at access q) (x ∷ []) ∙ ap (λ (s : ℕ). next m s x) (acc.lead q state)

  -- were the rest the machine's, so were all of it
  not_the_rest : drop (length one) differs.0 ≢ out m (next m q x) v
  not_the_rest same =
      differs.2
      (ap (answer m) (sym whole)
      ∙ (out-append m 0 one v
      ∙ (ap (λ (s : ℕ). answer m one ++ out m s v) lead
      ∙ (ap (λ (o : List ℕ). answer m one ++ o) (sym same) ∙ front_and_rest a m ks one v differs.0 are (steps q x state inside) read))))

  pub some_suffix : v ≢ []
  some_suffix none =
      let at : one ++ v ≡ one = ap (λ (w : List ℕ). one ++ w) none ∙ append-nil one in
      differs.2
      (ap (answer m) (sym whole ∙ at) ∙ reads_once a ks one (answer m one) differs.0 are (steps q x state inside) (subst (λ (w : List ℕ). Reads ks w differs.0) at read))

  pub separated : Separates ks v one other
  separated =
      record {
        one = differs.0;
        other = answer m (other ++ v);
        one_read = read;
        other_read = agrees;
        differ = λ same. not_the_rest (same ∙ (rest_of_answer m other v ∙ ap (λ (s : ℕ). out m s v) (acc.lead (next m q x) target)));
      }

pub steps_more : (a : ℕ) (m : Rows) (access : List (List ℕ)) (before gained now : List KeptAnswer) → now ≡ before ++ gained → StepsAreRead (answers_of before) a m access → StepsAreRead (answers_of now) a m access
steps_more a m access before gained now grown steps q x state inside = reads_more before gained now (word_at access q ++ x ∷ []) (answer m (word_at access q ++ x ∷ [])) grown (steps q x state inside)

-- a word on which a machine differs has a letter
pub some_letter : (a : ℕ) (m : Rows) (ks : List Answer) (w : List ℕ) → AreAnswers a ks → Differs m ks w → 0 < length w
some_letter a m ks [] are differs = absurd (differs.2 (reads_once a ks [] [] differs.0 are (inl (refl, refl)) differs.1))
some_letter a m ks (x ∷ w) are differs = omega arith

-- the probe in the middle becomes the upper one or the lower one, by what is told of it
module _ (m : Rows) (access : List (List ℕ)) (w : List ℕ) (before gained now : List KeptAnswer) (low high : ℕ) (grown : now ≡ before ++ gained) (was : IsBetween m (answers_of before) access w low high) (wide : 1 < high - low) where
  abbrev middle : ℕ
  middle = low + (high - low) / 2

  pub lower_half : (told : Bool) → told ≡ true → Tells m (answers_of now) (probe m access w middle) told → IsBetween m (answers_of now) access w low middle
  lower_half told is tells =
      record {
        order = omega arith;
        within = omega (arith, was.within);
        differs = (was.differs.0, reads_more before gained now (probe m access w low) was.differs.0 grown was.differs.1, was.differs.2);
        agrees = subst (Tells m (answers_of now) (probe m access w middle)) is tells;
      }

  pub upper_half : (told : Bool) → told ≡ false → Tells m (answers_of now) (probe m access w middle) told → IsBetween m (answers_of now) access w middle high
  upper_half told is tells =
      record {
        order = omega arith;
        within = was.within;
        differs = subst (Tells m (answers_of now) (probe m access w middle)) is tells;
        agrees = reads_more before gained now (probe m access w high) (answer m (probe m access w high)) grown was.agrees;
      }

-- an access word is known with the machine's outputs, where there is a letter
access_read : (a : ℕ) (m : Rows) (ks : List Answer) (access : List (List ℕ)) (q : ℕ) → 0 < a → StepsAreRead ks a m access → q < length m → Reads ks (word_at access q) (answer m (word_at access q))
access_read a m ks access q some steps state = front_agrees m ks (word_at access q) (0 ∷ []) (steps q 0 state some)

module _ (a : ℕ) (m : Rows) (access : List (List ℕ)) (w : List ℕ) (machine : IsMachine a m) (acc : AreAccess a m access) (letters : IsWord a w) where
  -- the states on the word's way
  abbrev state : ℕ → ℕ
  state i = after m 0 (take i w)

  state_below : (i : ℕ) → state i < length m
  state_below i = after_below a m (take i w) 0 machine machine.some_state (All-take (λ x. x < a) i w letters)

  -- the word itself is the first probe
  first_probe : probe m access w 0 ≡ w
  first_probe = ap (λ (u : List ℕ). u ++ w) acc.first

  -- the last one is an access word
  last_probe : probe m access w (length w) ≡ word_at access (state (length w))
  last_probe = ap (λ (v : List ℕ). word_at access (state (length w)) ++ v) (drop_all (length w) w (omega arith)) ∙ append-nil (word_at access (state (length w)))

  pub starts : (ks : List Answer) → 0 < a → StepsAreRead ks a m access → Differs m ks w → 0 < length w → IsBetween m ks access w 0 (length w)
  starts ks some steps differs long =
      record {
        order = long;
        within = omega arith;
        differs = subst (Differs m ks) (sym first_probe) differs;
        agrees = subst (AgreesOn m ks) (sym last_probe) (access_read a m ks access (state (length w)) some steps (state_below (length w)));
      }

  -- the letters from a place on
  from : (i : ℕ) → i < length w → drop i w ≡ get_or w i 0 ∷ drop (i + 1) w
  from i lt = rw (add-one, drop-cons w i 0) refl

  next_state : (i : ℕ) → i < length w → state (i + 1) ≡ next m (state i) (get_or w i 0)
  next_state i lt = ap (after m 0) (take_more w i 0 lt) ∙ after-append m 0 (take i w) (get_or w i 0 ∷ [])

  pub cut_is : (ks : List Answer) (place : ℕ) (cut : Cut) → AreAnswers a ks → StepsAreRead ks a m access → IsBetween m ks access w place (place + 1) → IsCutAt m w place cut → IsCut ks a m access cut
  cut_is ks place cut are steps between at =
      let lt : place < length w = omega (arith, between.within) in
      let rest = from place lt in
      let after_letter = next_state place lt in
      let low : probe m access w place ≡ word_at access cut.state ++ cut.letter ∷ cut.suffix = cc in
      let high : probe m access w (place + 1) ≡ word_at access (next m cut.state cut.letter) ++ cut.suffix = cc in
      let differs : Differs m ks (word_at access cut.state ++ cut.letter ∷ cut.suffix) = subst (Differs m ks) low between.differs in
      let agrees : AgreesOn m ks (word_at access (next m cut.state cut.letter) ++ cut.suffix) = subst (AgreesOn m ks) high between.agrees in
      let is_state : cut.state < length m = subst (λ (q : ℕ). q < length m) (sym at.state) (state_below place) in
      let is_letter : cut.letter < a = subst (λ (x : ℕ). x < a) (sym at.letter) (letter a w place lt letters) in
      let is_target : next m cut.state cut.letter < length m = target_below a m cut.state cut.letter machine is_state is_letter in
      record {
        state = is_state;
        letter = is_letter;
        target = at.target;
        suffix = subst (IsWord a) (sym at.suffix) (All-drop (λ x. x < a) (place + 1) w letters);
        some = some_suffix a m ks access cut.state cut.letter cut.suffix are acc steps is_state is_letter is_target differs agrees;
        separates = subst (λ (t : ℕ). Separates ks cut.suffix (word_at access cut.state ++ cut.letter ∷ []) (word_at access t)) (sym at.target)
            (separated a m ks access cut.state cut.letter cut.suffix are acc steps is_state is_letter is_target differs agrees);
      }

only_at : (v u : List ℕ) (k : ℕ) → k < 1 → get_or (v ∷ []) k u ≡ u → v ≡ u
only_at v u zero lt is = is
only_at v u (suc k) lt is = absurd (omega arith)

only : (v u : List ℕ) → Contains (v ∷ []) u → v ≡ u
only v u has = only_at v u has.0 has.1 has.2

-- answers to one probe more
pub asks_probe : (m : Rows) (access : List (List ℕ)) (w : List ℕ) (v : List ℕ) (before now : List KeptAnswer) → IsProbe m access w v → GainsAnswers (v ∷ []) before now → AsksProbes m access w before now
asks_probe m access w v before now is gains =
    record {
      gained = gains.gained;
      at_end = gains.at_end;
      probes = All-weaker (λ k. Contains (v ∷ []) k.word) (λ k. IsProbe m access w k.word) (λ k has. subst (IsProbe m access w) (only v k.word has) is) gains.gained gains.of_batch;
    }

pub asks_then : (m : Rows) (access : List (List ℕ)) (w : List ℕ) (a b c : List KeptAnswer) → AsksProbes m access w a b → AsksProbes m access w b c → AsksProbes m access w a c
asks_then m access w a b c first next =
    record {
      gained = first.gained ++ next.gained;
      at_end = next.at_end ∙ (ap (λ (kept : List KeptAnswer). kept ++ next.gained) first.at_end ∙ append_assoc a first.gained next.gained);
      probes = All-append (λ k. IsProbe m access w k.word) first.gained next.gained first.probes next.probes;
    }
