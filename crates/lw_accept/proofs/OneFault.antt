-- Acceptor files have no fault, and no bytes have two first faults.
use Rattle.std.proofs.Common.{◌≡◌, ◌≢◌, ◌∙◌, ◌⊎◌, ⊎_elim, inl, inr, ℕ, ◌<◌, ◌≤◌, List, [], Bool, Some, None, Contains, length, slice_get, slice_index_or, refl, sym, ap, ap₂, subst, arith}
use Rattle.std.specs.List.{All}
use Rattle.std.proofs.lemmas.Option.{none-some, slice_get_within, get_or_from_slice_get}
use Rattle.json.proofs.Found.{Some_inj}
use Rattle.serde_json.specs.Data.{Data}
use Rattle.lw_words.specs.First.{FailsFirst}
use Rattle.lw_words.specs.declared.names.NamesFault.{NamesFault}
use Rattle.lw_words.proofs.NumberLemmas.{number_at_place}
use Rattle.lw_json.specs.Fault.{IsFaultOf, first_failing}
use Rattle.lw_json.specs.Formats.{IsJson}
use Rattle.lw_json.proofs.FirstFault.{first_one, one_names}
use Rattle.lw_json.proofs.NoFault.{names_none}
use Rattle.lw_accept.specs.Acceptor.{NamedAcceptor, AreFewInputs, question, target}
use Rattle.lw_accept.specs.AcceptorFile.{WrittenAcceptor, SaysAcceptor, SpellsAcceptor, acceptor_tests, TargetFailsFirst, SaysAcceptorFault, HasAcceptorFault, AcceptorFilesHaveNoFault, HaveOneAcceptorFault}
use Rattle.lw_accept.specs.declared.fault.AcceptorField.{AcceptorField}
use Rattle.lw_accept.specs.declared.fault.AcceptorFault.{AcceptorFault}
use Rattle.lw_accept.specs.declared.fault.AcceptorFault.TheVariants.{NotJson, Shape, Inputs, Reserved, NoState, TooMany, Lengths, Ragged, Target, NoMemory}

-- these are one fault at the most
abbrev AreOne : (AcceptorFault → Type 0) → Type 0
AreOne Has = (f g : AcceptorFault) → Has f → Has g → f ≡ g

-- a stage of the search for faults has one at the most, and none where it is passed
record IsStage (Has : AcceptorFault → Type 0) (Passed : Type 0) : Type 0 where
  one : AreOne Has
  never : (f : AcceptorFault) → Has f → ¬ Passed

-- the fault is made of something of which P holds
abbrev Made : {X : Type 0} → (X → AcceptorFault) → (X → Type 0) → AcceptorFault → Type 0
Made {X} wrap P f = (x : X) × (f ≡ wrap x) × P x

made : {X : Type 0} (wrap : X → AcceptorFault) (P : X → Type 0) (Passed : Type 0) → ((x y : X) → P x → P y → x ≡ y) → ((x : X) → P x → ¬ Passed) → IsStage (Made wrap P) Passed
made wrap P Passed one never = record {
  one = λ f g h k. h.1 ∙ (ap wrap (one h.0 k.0 h.2 k.2) ∙ sym k.1);
  never = λ f h. never h.0 h.2;
}

-- a stage has the fault, or it is passed and the later ones have it
abbrev Staged : (AcceptorFault → Type 0) → Type 0 → (AcceptorFault → Type 0) → AcceptorFault → Type 0
Staged Has Passed Later f = Has f ⊎ (Passed × Later f)

then : (Has : AcceptorFault → Type 0) (Passed : Type 0) (Later : AcceptorFault → Type 0) → IsStage Has Passed → (Passed → AreOne Later) → AreOne (Staged Has Passed Later)
then Has Passed Later here there f g (inl h) (inl k) = here.one f g h k
then Has Passed Later here there f g (inl h) (inr k) = absurd (here.never f h k.0)
then Has Passed Later here there f g (inr h) (inl k) = absurd (here.never g k h.0)
then Has Passed Later here there f g (inr h) (inr k) = there h.0 f g h.1 k.1

-- What the members say, stage by stage.
module _ (w : WrittenAcceptor) where
  abbrev few : Type 0
  few = AreFewInputs w.inputs

  abbrev at_names : AcceptorFault → Type 0
  at_names = Made (λ (x : NamesFault). Inputs x) (IsFaultOf 63 w.inputs)

  abbrev at_question : AcceptorFault → Type 0
  at_question = Made (λ (p : ℕ). Reserved p) (λ p. slice_get w.inputs p ≡ Some question)

  abbrev at_no_state : AcceptorFault → Type 0
  at_no_state = Made (λ (u : Unit {0}). NoState) (λ u. w.targets ≡ [])

  abbrev at_many : AcceptorFault → Type 0
  at_many = Made (λ (n : ℕ). TooMany n) (λ n. (n ≡ length w.targets) × (1024 < n))

  abbrev at_lengths : AcceptorFault → Type 0
  at_lengths = Made (λ (u : Unit {0}). Lengths) (λ u. length w.accepting ≢ length w.targets)

  abbrev at_ragged : AcceptorFault → Type 0
  at_ragged = Made (λ (q : ℕ). Ragged q) (FailsFirst (λ r. length r ≡ length w.inputs) w.targets)

  abbrev at_target : AcceptorFault → Type 0
  at_target = Made (λ (k : ℕ × ℕ). Target k.0 k.1 (target w.targets k.0 k.1)) (λ k. TargetFailsFirst w.targets k.0 k.1)

  abbrev squared : Type 0
  squared = All (λ r. length r ≡ length w.inputs) w.targets

  -- behind all stages stands out of memory, the fault that no stage has
  abbrev from_target : AcceptorFault → Type 0
  from_target = Staged at_target (All (λ r. All (λ t. t < length w.targets) r) w.targets) (λ f. f ≡ NoMemory)

  abbrev from_ragged : AcceptorFault → Type 0
  from_ragged = Staged at_ragged squared from_target

  abbrev from_lengths : AcceptorFault → Type 0
  from_lengths = Staged at_lengths (length w.accepting ≡ length w.targets) from_ragged

  abbrev from_many : AcceptorFault → Type 0
  from_many = Staged at_many (length w.targets ≤ 1024) from_lengths

  abbrev from_no_state : AcceptorFault → Type 0
  from_no_state = Staged at_no_state (0 < length w.targets) from_many

  abbrev from_question : AcceptorFault → Type 0
  from_question = Staged at_question (¬ Contains w.inputs question) from_no_state

  abbrev from_names : AcceptorFault → Type 0
  from_names = Staged at_names few from_question

  one_question : few → (p r : ℕ) → slice_get w.inputs p ≡ Some question → slice_get w.inputs r ≡ Some question → p ≡ r
  one_question names p r h k = Some_inj p r (sym (number_at_place w.inputs p question names.0.differ h) ∙ number_at_place w.inputs r question names.0.differ k)

  one_target : (k l : ℕ × ℕ) → TargetFailsFirst w.targets k.0 k.1 → TargetFailsFirst w.targets l.0 l.1 → k ≡ l
  one_target k l h g =
      let same : k.0 ≡ l.0 = first_one [] (λ r. All (λ t. t < length w.targets) r) w.targets k.0 l.0 h.0 g.0 in
      let there : k.1 ≡ l.1 =
      first_one 0 (λ t. t < length w.targets) (slice_index_or w.targets l.0 []) k.1 l.1 (subst (λ (i : ℕ). FailsFirst (λ t. t < length w.targets) (slice_index_or w.targets i []) k.1) same h.1) g.1 in
      ap₂ (λ (i j : ℕ). (i, j)) same there

  one_said : AreOne from_names
  one_said =
      then at_names few from_question
      (made (λ (x : NamesFault). Inputs x) (IsFaultOf 63 w.inputs) few (λ x y h k. one_names 63 w.inputs x y h.0 k.0 h.1 k.1) (λ x h names. names_none 63 w.inputs x names.0 names.1 h))
      (λ names.
      then at_question (¬ Contains w.inputs question) from_no_state
      (made (λ (p : ℕ). Reserved p) (λ p. slice_get w.inputs p ≡ Some question) (¬ Contains w.inputs question) (one_question names)
      (λ p h free. free (p, slice_get_within w.inputs p question h, get_or_from_slice_get w.inputs p question question h)))
      (λ _.
      then at_no_state (0 < length w.targets) from_many
      (made (λ (u : Unit {0}). NoState) (λ u. w.targets ≡ []) (0 < length w.targets) (λ u v h k. refl) (λ u h some. omega (arith, ap length h)))
      (λ _.
      then at_many (length w.targets ≤ 1024) from_lengths
      (made (λ (n : ℕ). TooMany n) (λ n. (n ≡ length w.targets) × (1024 < n)) (length w.targets ≤ 1024) (λ n k h g. h.0 ∙ sym g.0) (λ n h le. omega (arith, h.0, h.1)))
      (λ _.
      then at_lengths (length w.accepting ≡ length w.targets) from_ragged
      (made (λ (u : Unit {0}). Lengths) (λ u. length w.accepting ≢ length w.targets) (length w.accepting ≡ length w.targets) (λ u v h k. refl) (λ u h e. h e))
      (λ _.
      then at_ragged squared from_target
      (made (λ (q : ℕ). Ragged q) (FailsFirst (λ r. length r ≡ length w.inputs) w.targets) squared (λ q r h k. first_one [] (λ r. length r ≡ length w.inputs) w.targets q r h k) (λ q h all. h.fails [] (all q [] h.within)))
      (λ _.
      then at_target (All (λ r. All (λ t. t < length w.targets) r) w.targets) (λ f. f ≡ NoMemory)
      (made (λ (k : ℕ × ℕ). Target k.0 k.1 (target w.targets k.0 k.1)) (λ k. TargetFailsFirst w.targets k.0 k.1) (All (λ r. All (λ t. t < length w.targets) r) w.targets) one_target
      (λ k h all. h.0.fails [] (all k.0 [] h.0.within)))
      (λ _ f g h k. h ∙ sym k)))))))

  -- at which stage a fault stands
  stage_of : (f : AcceptorFault) → SaysAcceptorFault w f → (f ≡ NoMemory) ⊎ from_names f
  stage_of NotJson h = absurd h
  stage_of (Shape field) h = absurd h
  stage_of (Inputs fault) h = inr (inl (fault, refl, h))
  stage_of (Reserved place) h = inr (inr (h.0, inl (place, refl, h.1)))
  stage_of NoState h = inr (inr (h.0.0, inr (h.0.1, inl (tt, refl, h.1))))
  stage_of (TooMany count) h = inr (inr (h.0.0, inr (h.0.1, inr (omega (arith, h.1, h.2), inl (count, refl, (h.1, h.2))))))
  stage_of Lengths h = inr (inr (h.0.0, inr (h.0.1, inr (h.1.0, inr (h.1.1, inl (tt, refl, h.2))))))
  stage_of (Ragged q) h = inr (inr (h.0.0.0, inr (h.0.0.1, inr (h.0.1.0, inr (h.0.1.1, inr (h.0.2, inl (q, refl, h.1)))))))
  stage_of (Target q x t) h = inr (inr (h.0.0.0, inr (h.0.0.1, inr (h.0.1.0, inr (h.0.1.1, inr (h.0.2, inr (h.1, inl ((q, x), ap (λ (i : ℕ). Target q x i) h.3, h.2))))))))
  stage_of NoMemory h = inl refl

-- what is spelled passes all stages
passes : (w : WrittenAcceptor) (m : NamedAcceptor) → SpellsAcceptor w m → from_names w NoMemory
passes w m s =
    let n = s.named in
    let some = n.acceptor.some_state in
    let bits = n.acceptor.bits in
    let states = n.few in
    let rows = ap length s.targets in
    let marks = ap length s.accepting in
    let complete = subst (λ (l : List (List ℕ)). All (λ r. (length r ≡ length m.inputs) × All (λ t. t < length l) r) l) (sym s.targets) n.acceptor.complete in
    inr (
      subst (λ (l : List (List ℕ)). AreFewInputs l) (sym s.inputs) n.inputs,
      inr (
        subst (λ (l : List (List ℕ)). ¬ Contains l question) (sym s.inputs) n.free,
        inr (omega arith, inr (omega arith, inr (omega arith, inr (λ q r lt. (complete q r lt).0 ∙ sym (ap length s.inputs), inr (λ q r lt. (complete q r lt).1, refl))))),
      ),
    )

-- Bytes say one thing at the most.
abbrev says_as : List Bool → List (List ℕ) → List (List ℕ) → WrittenAcceptor
says_as b i t = record { accepting = b; inputs = i; targets = t }

says_same : (d : Data) (v w : WrittenAcceptor) → SaysAcceptor d v → SaysAcceptor d w → v ≡ w
says_same d v w s t =
    ap (λ (b : List Bool). says_as b v.inputs v.targets) (Some_inj v.accepting w.accepting (sym s.accepting ∙ t.accepting))
    ∙ (ap (λ (i : List (List ℕ)). says_as w.accepting i v.targets) (Some_inj v.inputs w.inputs (sym s.inputs ∙ t.inputs))
    ∙ ap (λ (l : List (List ℕ)). says_as w.accepting w.inputs l) (Some_inj v.targets w.targets (sym s.targets ∙ t.targets)))

one_written : (bytes : List ℕ) (d e : Data) (v w : WrittenAcceptor) → IsJson bytes d → IsJson bytes e → SaysAcceptor d v → SaysAcceptor e w → v ≡ w
one_written bytes d e v w j i s t = says_same e v w (subst (λ (x : Data). SaysAcceptor x v) (Some_inj d e (sym j.1 ∙ i.1)) s) t

-- members that say something have their shapes
shapes_pass : (d : Data) (w : WrittenAcceptor) → SaysAcceptor d w → first_failing (acceptor_tests d) ≡ None
shapes_pass d w s = grind arith

-- The bytes, stage by stage.
module _ (bytes : List ℕ) where
  abbrev Read : Type 0
  Read = (d : Data) × IsJson bytes d

  abbrev Says : Type 0
  Says = (d : Data) × (w : WrittenAcceptor) × IsJson bytes d × SaysAcceptor d w

  abbrev at_text : AcceptorFault → Type 0
  at_text = Made (λ (u : Unit {0}). NotJson) (λ u. (d : Data) → ¬ IsJson bytes d)

  abbrev HasFailing : AcceptorField → Type 0
  HasFailing field = (d : Data) × IsJson bytes d × (first_failing (acceptor_tests d) ≡ Some field)

  abbrev at_shape : AcceptorFault → Type 0
  at_shape = Made (λ (x : AcceptorField). Shape x) HasFailing

  abbrev from_said : AcceptorFault → Type 0
  from_said f = (d : Data) × (w : WrittenAcceptor) × IsJson bytes d × SaysAcceptor d w × from_names w f

  abbrev from_shape : AcceptorFault → Type 0
  from_shape = Staged at_shape Says from_said

  abbrev from_text : AcceptorFault → Type 0
  from_text = Staged at_text Read from_shape

  one_failing : (x y : AcceptorField) → HasFailing x → HasFailing y → x ≡ y
  one_failing x y h k = Some_inj x y (sym h.2 ∙ (ap (λ (d : Data). first_failing (acceptor_tests d)) (Some_inj h.0 k.0 (sym h.1.1 ∙ k.1.1)) ∙ k.2))

  no_failing : (x : AcceptorField) → HasFailing x → ¬ Says
  no_failing x h s = none-some x (sym (shapes_pass s.0 s.1 s.3) ∙ (ap (λ (d : Data). first_failing (acceptor_tests d)) (Some_inj s.0 h.0 (sym s.2.1 ∙ h.1.1)) ∙ h.2))

  one_of_bytes : AreOne from_text
  one_of_bytes =
      then at_text Read from_shape (made (λ (u : Unit {0}). NotJson) (λ u. (d : Data) → ¬ IsJson bytes d) Read (λ u v h k. refl) (λ u h read. h read.0 read.1))
      (λ _.
      then at_shape Says from_said (made (λ (x : AcceptorField). Shape x) HasFailing Says one_failing no_failing)
      (λ _ f g h k. one_said k.1 f g (subst (λ (w : WrittenAcceptor). from_names w f) (one_written bytes h.0 k.0 h.1 k.1 h.2 k.2 h.3 k.3) h.4) k.4))

  said_fault : (f : AcceptorFault) → (d : Data) × IsJson bytes d × ((w : WrittenAcceptor) × SaysAcceptor d w × SaysAcceptorFault w f) → (f ≡ NoMemory) ⊎ from_text f
  said_fault f h = ⊎_elim inl (λ s. inr (inr ((h.0, h.1), inr ((h.0, h.2.0, h.1, h.2.1), (h.0, h.2.0, h.1, h.2.1, s))))) (stage_of h.2.0 f h.2.2)

  byte_stage : (f : AcceptorFault) → HasAcceptorFault bytes f → (f ≡ NoMemory) ⊎ from_text f
  byte_stage NotJson h = inr (inl (tt, refl, h))
  byte_stage (Shape field) h = inr (inr ((h.0, h.1), inl (field, refl, h)))
  byte_stage (Inputs fault) h = said_fault (Inputs fault) h
  byte_stage (Reserved place) h = said_fault (Reserved place) h
  byte_stage NoState h = said_fault NoState h
  byte_stage (TooMany count) h = said_fault (TooMany count) h
  byte_stage Lengths h = said_fault Lengths h
  byte_stage (Ragged state) h = said_fault (Ragged state) h
  byte_stage (Target state letter t) h = said_fault (Target state letter t) h
  byte_stage NoMemory h = inl refl

pub no_fault : AcceptorFilesHaveNoFault
no_fault bytes m fault file h =
    let said : from_said bytes NoMemory = (file.0, file.2.0, file.1, file.2.1, passes file.2.0 m file.2.2) in
    ⊎_elim (λ e. e) (λ s. one_of_bytes bytes fault NoMemory s (inr ((file.0, file.1), inr ((file.0, file.2.0, file.1, file.2.1), said)))) (byte_stage bytes fault h)

pub one_fault : HaveOneAcceptorFault
one_fault bytes f g h k n n' =
    ⊎_elim (λ e. absurd (n e)) (λ s. ⊎_elim (λ e. absurd (n' e)) (λ t. one_of_bytes bytes f g s t) (byte_stage bytes g k)) (byte_stage bytes f h)
