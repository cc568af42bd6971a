-- A machine that answers one word after another.
use Rattle.std.proofs.Common.{◌≡◌, ℕ, ◌+◌, ◌<◌, inr, ⊎_elim, List, [], ◌∷◌, ◌++◌, length, take, get_or, Contains, ap, sym, ◌∙◌, subst, append-nil, append_assoc, arith}
use Rattle.std.specs.List.{All}
use Rattle.std.proofs.Math.Seq.{drop-append_seam}
use Rattle.std.proofs.lemmas.List.{get_or-map, length-map}
use Rattle.std.proofs.lemmas.List.Elements.{All-nil, All-cons, All-head, All-tail, All-push, All-more, All-weaker, All-drop}
use Rattle.lw_words.specs.Word.{Answer, answer_at, answer_of, answers_of, IsAnswer, IsWord}
use Rattle.lw_words.specs.declared.kept.KeptAnswer.{KeptAnswer}
use Rattle.lw_mealy.specs.Machine.{MealyMachine, IsWithinLimits, out, output, next, answer}
use Rattle.lw_mealy.proofs.RowLemmas.{target_below, output_below}
use Rattle.lw_mealy.proofs.WordLemmas.{length-out}
use Rattle.lw_cache.specs.Caching.{kept_answer}
use Rattle.lw_cache.specs.Clash.{ClashAt}
use Rattle.lw_cache.specs.FirstClash.{ClashesFirst}
use Rattle.lw_cache.specs.Known.{IsKnown}
use Rattle.lw_cache.specs.Settling.{OracleState, IsOf, IsSettleCause, told_machine, GainsAnswers}
use Rattle.lw_cache.specs.declared.stops.AskStop.{AskStop}
use Rattle.lw_cache.specs.declared.stops.AskStop.TheVariants.{NoMemory}
use Rattle.test_oracle.specs.Recording.{oracle_origins, KeepsOf, HasAskedOracle}
use Rattle.lw_cache.specs.declared.stops.Clash.{Clash}
use Rattle.lw_cache.proofs.ClashLemmas.{machine_never_clashes}
use Rattle.lw_cache.proofs.GainLemmas.{known_stays}

outs_below : (t : MealyMachine) → IsWithinLimits t → (w : List ℕ) (q : ℕ) → q < length t.rows → IsWord t.inputs w → IsWord t.outputs (out t.rows q w)
outs_below t is [] q lt letters = All-nil (λ y. y < t.outputs)
outs_below t is (x ∷ w) q lt letters =
    let first : x < t.inputs = All-head (λ y. y < t.inputs) x w letters in
    All-cons (λ y. y < t.outputs) (output t.rows q x) (out t.rows (next t.rows q x) w) (output_below t q x is lt first)
    (outs_below t is w (next t.rows q x) (target_below t.inputs t.rows q x is.machine lt first) (All-tail (λ y. y < t.inputs) x w letters))

pub answers_more : (t : MealyMachine) (kept : List KeptAnswer) (run : ℕ) (w outs : List ℕ) → IsWithinLimits t → KeepsOf t kept → IsWord t.inputs w → outs ≡ answer t.rows w → KeepsOf t (kept ++ kept_answer 0 run w outs ∷ [])
answers_more t kept run w outs is was letters given =
    let k : KeptAnswer = kept_answer 0 run w outs in
    record {
      answers = record {
        answers = All-push (λ (k : KeptAnswer). IsAnswer t.inputs (answer_of k)) kept k was.answers.answers (letters, ap (λ (o : List ℕ). length o) given ∙ length-out t.rows 0 w);
        outputs_below = All-push (λ (k : KeptAnswer). IsWord t.outputs k.outs) kept k was.answers.outputs_below (subst (IsWord t.outputs) (sym given) (outs_below t is w 0 is.machine.some_state letters));
        told = All-push (λ (k : KeptAnswer). IsOf (told_machine (oracle_origins t) k.instance) (answer_of k)) kept k was.answers.told (sym given);
      };
      own = All-push (λ (k : KeptAnswer). k.instance < 1) kept k was.own (omega arith);
    }

-- each kept answer is the machine's
told_gives : (t : MealyMachine) (kept : List KeptAnswer) → KeepsOf t kept → (i : ℕ) (d : KeptAnswer) → i < length kept → answer t.rows (get_or kept i d).word ≡ (get_or kept i d).outs
told_gives t kept keeps i d lt =
    let first : (get_or kept i d).instance ≡ 0 = omega (arith, keeps.own i d lt) in
    subst (λ (n : ℕ). IsOf (told_machine (oracle_origins t) n) (answer_of (get_or kept i d))) first (keeps.answers.told i d lt)

-- so those that came are of that instance too
pub gained_own : (t : MealyMachine) (before gained now : List KeptAnswer) → now ≡ before ++ gained → KeepsOf t now → All (λ k. k.instance < 1) gained
gained_own t before gained now grown keeps =
    subst (All (λ (k : KeptAnswer). k.instance < 1)) (drop-append_seam before gained)
    (All-drop (λ (k : KeptAnswer). k.instance < 1) (length before) (before ++ gained) (subst (All (λ (k : KeptAnswer). k.instance < 1)) grown keeps.own))

-- the words that were known stay known
pub asked_known : (t : MealyMachine) (w : List ℕ) (before now : List KeptAnswer) (v : List ℕ) → HasAskedOracle t w before now → IsKnown (answers_of before) v → IsKnown (answers_of now) v
asked_known t w before now v a known =
    ⊎_elim
    (λ (same : now ≡ before). subst (λ (l : List KeptAnswer). IsKnown (answers_of l) v) (sym same) known)
    (λ (r : (k : KeptAnswer) × (now ≡ before ++ k ∷ []) × (k.word ≡ w)). subst (λ (l : List KeptAnswer). IsKnown (answers_of l) v) (sym r.1) (known_stays before r.0 v known))
    a.gains

pub gains_none : (batch : List (List ℕ)) (kept : List KeptAnswer) → GainsAnswers batch kept kept
gains_none batch kept = record { gained = []; at_end = sym (append-nil kept); of_batch = All-nil (λ k. Contains batch k.word) }

pub gains_more : (batch : List (List ℕ)) (t : MealyMachine) (w : List ℕ) (first before now : List KeptAnswer) → Contains batch w → GainsAnswers batch first before → HasAskedOracle t w before now → GainsAnswers batch first now
gains_more batch t w first before now has was a =
    ⊎_elim
    (λ (same : now ≡ before). subst (GainsAnswers batch first) (sym same) was)
    (λ (r : (k : KeptAnswer) × (now ≡ before ++ k ∷ []) × (k.word ≡ w)).
    record {
      gained = was.gained ++ r.0 ∷ [];
      at_end = r.1 ∙ (ap (λ (l : List KeptAnswer). l ++ r.0 ∷ []) was.at_end ∙ append_assoc first was.gained (r.0 ∷ []));
      of_batch = All-push (λ k. Contains batch k.word) was.gained r.0 was.of_batch (subst (Contains batch) (sym r.2) has);
    })
    a.gains

-- the machine's answer is kept, whether it clashes or not
pub asked_new : (t : MealyMachine) (before now : List KeptAnswer) (run : ℕ) (w word outs : List ℕ) → IsWithinLimits t → KeepsOf t before → IsWord t.inputs w → word ≡ w → outs ≡ answer t.rows w → now ≡ before ++ kept_answer 0 run word outs ∷ [] → HasAskedOracle t w before now
asked_new t before now run w word outs is was letters same given grown =
    record {
      gains = inr (kept_answer 0 run word outs, grown, same);
      keeps = subst (KeepsOf t) (sym grown) (answers_more t before run word outs is was (subst (IsWord t.inputs) (sym same) letters) (given ∙ ap (answer t.rows) (sym same)));
    }

-- all words so far are known
pub known_more : (t : MealyMachine) (w : List ℕ) (before now : List KeptAnswer) (batch : List (List ℕ)) (i : ℕ) → i < length batch → get_or batch i [] ≡ w → HasAskedOracle t w before now → All (IsKnown (answers_of before)) (take i batch) → IsKnown (answers_of now) w → All (IsKnown (answers_of now)) (take (i + 1) batch)
known_more t w before now batch i lt is a was known =
    All-more (IsKnown (answers_of now)) batch i [] lt (All-weaker (IsKnown (answers_of before)) (IsKnown (answers_of now)) (λ v k. asked_known t w before now v a k) (take i batch) was) (subst (IsKnown (answers_of now)) (sym is) known)

-- an answer of the machine clashes with none of the machine's
pub never_clashes : (t : MealyMachine) (kept : List KeptAnswer) (k : KeptAnswer) (clash : Clash) → KeepsOf t kept → k.outs ≡ answer t.rows k.word → ¬ ClashesFirst (answers_of kept) (answer_of k) clash
never_clashes t kept k clash keeps given is =
    let i : ℕ = clash.first in
    let lt : i < length kept = omega (arith, is.clear.0, length-map kept answer_of) in
    let at : answer_at (answers_of kept) i ≡ answer_of (get_or kept i k) = get_or-map answer_of kept i k (record { word = []; outs = [] }) lt in
    let own : answer t.rows (get_or kept i k).word ≡ (get_or kept i k).outs = told_gives t kept keeps i k lt in
    machine_never_clashes t.rows (answer_of (get_or kept i k)) (answer_of k) own (sym given)
    (clash.place, subst (λ (l : Answer). ClashAt l (answer_of k) clash.place) at is.here)

-- out of memory needs no cause
pub short_cause : (before now : OracleState) (stop : AskStop) → stop ≡ NoMemory → IsSettleCause before now stop
short_cause before now stop short = subst (IsSettleCause before now) (sym short) tt
