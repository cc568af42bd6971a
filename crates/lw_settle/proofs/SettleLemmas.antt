-- What settling a block leaves of a tree.
use Rattle.std.proofs.Common.{◌≡◌, ◌⊎◌, inl, inr, ⊎_elim, ℕ, ◌^◌, ◌<◌, ◌≤◌, List, ◌++◌, length, Contains, Result, Ok, Err, IsErrAnd, refl, ap, sym, ◌∙◌, subst, arith}
use Rattle.std.specs.Bool.{⊤}
use Rattle.std.specs.List.{All}
use Rattle.std.proofs.lemmas.Bool.{cases_lt}
use Rattle.std.proofs.lemmas.List.Elements.{All-contains, All-weaker}
use Rattle.lw_words.specs.Word.{Answer}
use Rattle.lw_words.specs.declared.kept.KeptAnswer.{KeptAnswer}
use Rattle.lw_words.specs.declared.memory.NoMemory.{NoMemory}
use Rattle.lw_mealy.specs.Machine.{Gives, Rows}
use Rattle.lw_cache.specs.Cut.{word_at}
use Rattle.lw_cache.specs.Known.{IsKnown}
use Rattle.lw_cache.specs.Settling.{GainsAnswers, GainsOnly}
use Rattle.lw_cache.specs.declared.stops.GrowStop.{GrowStop}
use Rattle.lw_cache.proofs.SettlingLemmas.{gains_then, gains_of_batch}
use Rattle.lw_tree.specs.Blocks.{IsBlock, IsMember, MayReplace, HasReplaced}
use Rattle.lw_tree.specs.Grown.{HasGrown, IsSifted, KeepsTree, TellsCrowd, HasClosed}
use Rattle.lw_tree.specs.Tree.{TreeState, discriminators, final_discriminators, temporaries, IsLive, IsTree, BranchesAreRead, IsClosed, IsMachineOf}
use Rattle.lw_tree.specs.declared.nodes.Node.{Node}
use Rattle.lw_tree.proofs.AskedLemmas.{final_is_told, final_stays, tail_sifted}
use Rattle.lw_tree.proofs.CloseLemmas.{handed_stop, crowd_too, outside_then, inside_then, outputs_then}
use Rattle.lw_tree.proofs.GrownLemmas.{not_grown, grown_then, places_longer}
use Rattle.lw_settle.specs.Settling.{IsReplaced, HasSettledBlock}
use Rattle.lw_settle.specs.bodies.Parting.{AreMembers, IsChosen, IsReplacement, AreWordsOf, NothingIsParted}
use Rattle.lw_settle.specs.declared.settling.Replacement.{Replacement}
use Rattle.lw_settle.specs.declared.settling.Settled.{Settled}
use Rattle.lw_settle.specs.declared.settling.Settled.TheVariants.{NoBlock, Replaced}
use Rattle.lw_settle.proofs.PartingLemmas.{some_block_is_parted, temporary_counts}

-- no node is temporary, and nothing was done
pub nothing_settled : (ks : List Answer) (t : TreeState) (m : Rows) → IsTree t → BranchesAreRead ks t → IsClosed t → IsMachineOf t m → Gives m ks → NothingIsParted t → HasSettledBlock ks t t (Ok NoBlock)
nothing_settled ks t m g read closed is gives nothing =
    record {
      grown = not_grown ks t g read;
      closed = closed;
      settled = (
        ⊎_elim
            (λ (some : 0 < temporaries t.nodes). let p = some_block_is_parted ks t m g read closed is gives some in absurd (nothing m is p.0 p.1 p.2))
            (λ (none : temporaries t.nodes ≤ 0). omega (arith, none))
            (cases_lt 0 (temporaries t.nodes)),
        refl,
      );
      left = tt;
      refinements = refl;
      crowd = λ words told. cc;
    }

-- where the settling was refused
pub not_settled : (ks : List Answer) (t now : TreeState) (stop : GrowStop) (result : Result Settled GrowStop) → HasGrown ks t now → now.refinements ≡ t.refinements → (now ≡ t) ⊎ IsReplaced t now → TellsCrowd {X = ⊤} ks now (Err stop) → IsErrAnd result (λ e. e ≡ stop) → HasSettledBlock ks t now result
not_settled ks t now stop result grown same left crowd is =
    subst (HasSettledBlock ks t now) (sym (handed_stop stop result is))
    (record { grown = grown; closed = tt; settled = tt; left = left; refinements = same; crowd = crowd_too {X = ⊤} {Y = Settled} ks now stop crowd })

pub untouched : (ks : List Answer) (t now : TreeState) (stop : GrowStop) (result : Result Settled GrowStop) → now ≡ t → IsTree t → BranchesAreRead ks t → TellsCrowd {X = ⊤} ks t (Err stop) → IsErrAnd result (λ e. e ≡ stop) → HasSettledBlock ks t now result
untouched ks t now stop result same g read crowd is = subst (λ (u : TreeState). HasSettledBlock ks t u result) (sym same) (not_settled ks t t stop result (not_grown ks t g read) refl (inl refl) crowd is)

-- a closed tree in which the root of a block was replaced
pub record HasBlock (first : List Answer) (word : List ℕ) (r : ℕ) (t middle : TreeState) : Type 0 where
  pub tree : IsTree t
  pub closed : IsClosed t
  pub block : IsBlock t r
  pub replaced : HasReplaced {E = NoMemory} first r word t middle (Ok tt)

-- a replaced node stays while the tree is closed again
final_then : (first ks : List Answer) (word : List ℕ) (r : ℕ) (t middle now : TreeState) → HasBlock first word r t middle → HasGrown ks middle now → KeepsTree middle now → IsReplaced t now
final_then first ks word r t middle now has grown keeps =
    let root = has.replaced.root in
    let final = has.replaced.replaced in
    let half = has.replaced.grown in
    record {
      root = r;
      word = word;
      block = has.block;
      final = record { front = final.front; back = final.back; were = final.were; are = keeps.finals ∙ final.are };
      content = ap (λ (n : Node). n.content) (keeps.nodes r (subst IsLive (sym root) tt)) ∙ root;
      outside = outside_then r word t middle now has.tree has.closed has.block.temporary root has.replaced.outside keeps;
      inside = inside_then r t middle now has.tree half.tree grown.tree has.replaced.access (places_longer first t middle has.tree half) has.replaced.inside keeps;
      outputs = outputs_then t middle now has.replaced.outputs keeps.outputs;
    }

-- where the closing was refused
pub not_closed_then : (first ks : List Answer) (word : List ℕ) (r : ℕ) (t middle now : TreeState) (stop : GrowStop) (result : Result Settled GrowStop) → HasBlock first word r t middle → HasClosed ks middle now (Err stop) → IsErrAnd result (λ e. e ≡ stop) → HasSettledBlock ks t now result
not_closed_then first ks word r t middle now stop result has done is =
    not_settled ks t now stop result (grown_then first ks t middle now has.replaced.grown done.grown) (done.keeps.refinements ∙ has.replaced.refinements) (inr (final_then first ks word r t middle now has done.grown done.keeps)) done.crowd is

pub all_settled : (first ks : List Answer) (word : List ℕ) (r : ℕ) (t middle now : TreeState) → HasBlock first word r t middle → HasClosed ks middle now (Ok tt) → HasSettledBlock ks t now (Ok Replaced)
all_settled first ks word r t middle now has done =
    record {
      grown = grown_then first ks t middle now has.replaced.grown done.grown;
      closed = done.closed;
      settled = (temporary_counts t.nodes r has.block.temporary, final_then first ks word r t middle now has done.grown done.keeps);
      left = tt;
      refinements = done.keeps.refinements ∙ has.replaced.refinements;
      crowd = λ words told. cc;
    }

-- once the words of all members are known, the word may replace the root
pub may_replace : (ks : List Answer) (t : TreeState) (replacement : Replacement) (words : List (List ℕ)) → BranchesAreRead ks t → IsReplacement t replacement → AreWordsOf t replacement.members.items replacement.word words → All (IsKnown ks) words → MayReplace ks t replacement.root replacement.word
may_replace ks t replacement words read is are known =
    record {
      block = is.block;
      letters = is.chosen.letters;
      tail = is.chosen.tail;
      known = λ q member. All-contains (IsKnown ks) words (word_at t.access q ++ replacement.word) known
          (All-contains (λ p. Contains words (word_at t.access p ++ replacement.word)) replacement.members.items q are.asked (is.members.each q member));
      told = is.chosen.told ks read;
    }

-- the words of the members are those by which a tree is sifted that has each final discriminator still
members_sifted : (ks : List Answer) (t now : TreeState) (r : ℕ) (members suffix : List ℕ) (words : List (List ℕ)) → HasGrown ks t now → ((s : List ℕ) → Contains (final_discriminators t.nodes) s → Contains (discriminators now.nodes) s) → AreMembers t r members → IsChosen t r suffix → AreWordsOf t members suffix words → All (IsSifted now) words
members_sifted ks t now r members suffix words grown stays are chosen of =
    All-weaker (λ (w : List ℕ). (q : ℕ) × Contains members q × (w ≡ word_at t.access q ++ suffix)) (IsSifted now)
    (λ (w : List ℕ) (is : (q : ℕ) × Contains members q × (w ≡ word_at t.access q ++ suffix)).
    let member = All-contains (IsMember t r) members is.0 are.all is.1 in
    subst (IsSifted now) (sym is.2) (tail_sifted ks t now grown stays is.0 suffix member.0 chosen.letters chosen.tail))
    words of.only

-- what was asked before a node was replaced
replaced_sifted : (ks : List Answer) (t now : TreeState) (replacement : Replacement) (words : List (List ℕ)) → HasGrown ks t now → IsReplaced t now → IsReplacement t replacement → AreWordsOf t replacement.members.items replacement.word words → All (IsSifted now) words
replaced_sifted ks t now replacement words grown replaced is are = members_sifted ks t now replacement.root replacement.members.items replacement.word words grown (final_stays replaced.word t now replaced.final) is.members is.chosen are

-- and where none was
unreplaced_sifted : (ks : List Answer) (t : TreeState) (replacement : Replacement) (words : List (List ℕ)) → IsTree t → BranchesAreRead ks t → IsReplacement t replacement → AreWordsOf t replacement.members.items replacement.word words → All (IsSifted t) words
unreplaced_sifted ks t replacement words g read is are = members_sifted ks t t replacement.root replacement.members.items replacement.word words (not_grown ks t g read) (final_is_told t.nodes) is.members is.chosen are

-- what was asked where the tree is as before
pub asked_before : (ks : List Answer) (t : TreeState) (replacement : Replacement) (words seen : List (List ℕ)) (a b : List KeptAnswer) → IsTree t → BranchesAreRead ks t → IsReplacement t replacement → AreWordsOf t replacement.members.items replacement.word words → seen ≡ words → GainsAnswers seen a b → GainsOnly (IsSifted t) a b
asked_before ks t replacement words seen a b g read is are same gains = gains_of_batch (IsSifted t) seen a b (subst (All (IsSifted t)) (sym same) (unreplaced_sifted ks t replacement words g read is are)) gains

-- and where a node was replaced, and the tree was to be closed
pub asked_all : (first ks : List Answer) (t middle now : TreeState) (replacement : Replacement) (words seen : List (List ℕ)) (a b c : List KeptAnswer) → HasBlock first replacement.word replacement.root t middle → HasGrown ks middle now → KeepsTree middle now → IsReplacement t replacement → AreWordsOf t replacement.members.items replacement.word words → seen ≡ words → GainsAnswers seen a b
    → GainsOnly (IsSifted now) b c → GainsOnly (IsSifted now) a c
asked_all first ks t middle now replacement words seen a b c has grown keeps is are same gains more =
    let sifted = replaced_sifted ks t now replacement words (grown_then first ks t middle now has.replaced.grown grown) (final_then first ks replacement.word replacement.root t middle now has grown keeps) is are in
    gains_then (IsSifted now) a b c (gains_of_batch (IsSifted now) seen a b (subst (All (IsSifted now)) (sym same) sifted) gains) more

-- the words are few
pub few_words : (t : TreeState) (r : ℕ) (members suffix : List ℕ) (words : List (List ℕ)) → IsTree t → AreMembers t r members → AreWordsOf t members suffix words → length words < 2 ^ 32
few_words t r members suffix words g are of =
    let count = of.count in
    let few = are.few in
    let states = g.few in
    let most = g.most in
    omega (arith, count, few, states, most.1)
