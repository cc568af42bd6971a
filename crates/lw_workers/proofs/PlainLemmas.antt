-- A learning by workers as the plain learner's.
use Rattle.std.proofs.Common.{◌≡◌, ◌≢◌, ℕ, List, [], ◌∷◌, ◌++◌, map, Result, Ok, Err, IfOk, refl, ap, sym, ◌∙◌, subst}
use Rattle.lw_words.specs.Word.{answers_of}
use Rattle.lw_words.specs.declared.kept.KeptAnswer.{KeptAnswer}
use Rattle.lw_mealy.specs.Machine.{Rows}
use Rattle.lw_cache.specs.Settling.{OracleState}
use Rattle.lw_rounds.specs.declared.settings.Testing.{Testing}
use Rattle.lw_plain.specs.Ends.{Learned as PlainLearned}
use Rattle.lw_plain.specs.Known.{KnowsWords}
use Rattle.lw_plain.specs.Table.{unless_empty}
use Rattle.lw_plain.specs.Taken.{AreTakenInTurn}
use Rattle.lw_plain.specs.Turns.{AsksInTurn, AsksBatch}
use Rattle.lw_plain.proofs.KnownLemmas.{nothing_known}
use Rattle.lw_plain.proofs.OneLemmas.{one_plain_end}
use Rattle.lw_plain.proofs.OrderLemmas.{taken_is_one}
use Rattle.lw_plain.proofs.TurnLemmas.{asks_on, asks_nothing, plain_first, plain_next}
use Rattle.lw_pool.specs.Pool.{PoolState}
use Rattle.lw_pool.specs.Sharing.{oracle_of}
use Rattle.lw_rounds.specs.Learner.{refinements_of}
use Rattle.lw_rounds.specs.Plain.{LearnsAsPlain}
use Rattle.lw_rounds.specs.declared.learned.Learned.{Learned}
use Rattle.lw_rounds.specs.declared.learner.Kind.{Kind}
use Rattle.lw_rounds.specs.declared.stops.LearnStop.{LearnStop}
use Rattle.lw_workers.specs.Plain.{RunsAsPlain, RunsAreOne}
use Rattle.lw_workers.specs.bodies.Plain.{AsksGiven, LearnsGiven}

-- no words are no batch
pub none_given : (words : List (List ℕ)) (o : OracleState) → words ≡ [] → AsksGiven words o o
none_given words o none m plain = subst (λ (ws : List (List ℕ)). AsksInTurn m [] (unless_empty ws) o.kept o.kept) (sym none) (asks_nothing m [] o.kept plain.knows)

pub some_given : (words : List (List ℕ)) (o n : OracleState) → words ≢ [] → AsksBatch words o n → AsksGiven words o n
some_given [] o n some asks m plain = absurd (some refl)
some_given (w ∷ ws) o n some asks m plain = asks m [] plain

-- a learning behind them
pub learns_given : (of_kind : Kind) (testing : Testing) (a c k most : ℕ) (given : List (List ℕ)) (o b n : OracleState) (gained : List KeptAnswer) → c ≡ a → AsksGiven given o b → b.exact ≡ o.exact → n.kept ≡ b.kept ++ gained
    → (r : Result Learned LearnStop) → IfOk r (λ l. LearnsAsPlain of_kind testing c k most l.model.rows (refinements_of l.learner) b n) → IfOk r (λ l. LearnsGiven of_kind testing a k most given l.model.rows (refinements_of l.learner) o n)
learns_given of_kind testing a c k most given o b n gained same asks exact came (Err stop) learns = tt
learns_given of_kind testing a c k most given o b n gained same asks exact came (Ok l) learns = λ is_table by_w m plain.
    let first = asks m (plain_first m [] o b n gained came plain) in
    let then = subst (λ (x : ℕ). LearnsAsPlain of_kind testing x k most l.model.rows (refinements_of l.learner) b n) same learns is_table by_w m given (plain_next m [] (unless_empty given) o b n exact first plain) in
    record {
      batches = then.batches;
      learns = then.learns;
      asks = asks_on m [] (unless_empty given) then.batches o.kept b.kept n.kept first then.asks;
    }

-- what was asked of an oracle that kept no answer
taken_all : (m : Rows) (batches : List (List (List ℕ))) (was is : List KeptAnswer) → was ≡ [] → AsksInTurn m [] batches was is → AreTakenInTurn [] batches (map (λ k. k.word) is)
taken_all m batches was is none asks =
    let kept : is ≡ asks.gained = asks.at_end ∙ ap (λ (ks : List KeptAnswer). ks ++ asks.gained) none in
    subst (λ (bs : List (List (List ℕ))). AreTakenInTurn [] bs (map (λ (k : KeptAnswer). k.word) is)) (sym asks.behind)
    (subst (λ (ks : List KeptAnswer). AreTakenInTurn [] asks.more (map (λ (k : KeptAnswer). k.word) ks)) (sym kept) asks.taken)

-- of a pool
pub runs_as_plain : {S : Type 0} (of_kind : Kind) (testing : Testing) (a k most : ℕ) (given : List (List ℕ)) (before now : PoolState S) (r : Result Learned LearnStop)
    → IfOk r (λ l. LearnsGiven of_kind testing a k most given l.model.rows (refinements_of l.learner) (oracle_of before) (oracle_of now)) → RunsAsPlain of_kind testing a k most given r before.kept now.kept
runs_as_plain of_kind testing a k most given before now (Err stop) learns is_table by_w none m machine gives = tt
runs_as_plain of_kind testing a k most given before now (Ok l) learns is_table by_w none m machine gives =
    let knows : KnowsWords m [] (answers_of before.kept) = subst (λ (ks : List KeptAnswer). KnowsWords m [] (answers_of ks)) (sym none) (nothing_known m) in
    let learned = learns is_table by_w m (record { exact = refl; knows = knows; gives = gives }) in
    record { batches = learned.batches; learns = learned.learns; taken = taken_all m learned.batches before.kept now.kept none learned.asks }

-- nothing was learned
pub none_learned : (of_kind : Kind) (testing : Testing) (a k most : ℕ) (given : List (List ℕ)) (stop : LearnStop) (prior kept : List KeptAnswer) → RunsAsPlain of_kind testing a k most given (Err stop) prior kept
none_learned of_kind testing a k most given stop prior kept is_table by_w none m machine gives = tt

pub plain_never : (of_kind : Kind) (testing : Testing) (a k most : ℕ) (given : List (List ℕ)) (r : Result Learned LearnStop) (stop : LearnStop) (prior kept : List KeptAnswer) → r ≡ Err stop → RunsAsPlain of_kind testing a k most given r prior kept
plain_never of_kind testing a k most given r stop prior kept is = subst (λ (x : Result Learned LearnStop). RunsAsPlain of_kind testing a k most given x prior kept) (sym is) (none_learned of_kind testing a k most given stop prior kept)

-- under other names for the letters, the words and what is kept
pub runs_as : (of_kind : Kind) (testing : Testing) (a b k most : ℕ) (given words : List (List ℕ)) (r : Result Learned LearnStop) (prior was kept is : List KeptAnswer) → a ≡ b → given ≡ words → prior ≡ was → kept ≡ is
    → RunsAsPlain of_kind testing a k most given r prior kept → RunsAsPlain of_kind testing b k most words r was is
runs_as of_kind testing a b k most given words r prior was kept is letters asked before now runs =
    subst (λ (n : ℕ). RunsAsPlain of_kind testing n k most words r was is) letters
    (subst (λ (ws : List (List ℕ)). RunsAsPlain of_kind testing a k most ws r was is) asked
    (subst (λ (ks : List KeptAnswer). RunsAsPlain of_kind testing a k most given r ks is) before
    (subst (λ (ks : List KeptAnswer). RunsAsPlain of_kind testing a k most given r prior ks) now runs)))

-- two runs of one machine
same_learned : (c d : Rows) (i j : ℕ) (p q : List (List (List ℕ))) → PlainLearned c i p ≡ PlainLearned d j q → (c ≡ d) × (i ≡ j) × (p ≡ q)
same_learned c d i j p q e = (cc, cc, cc)

pub runs_are_one : RunsAreOne
runs_are_one task given one other refined again kept more first next =
    let same = same_learned one other refined again first.batches next.batches (one_plain_end task given (PlainLearned one refined first.batches) (PlainLearned other again next.batches) first.learns next.learns) in
    record {
      model = same.0;
      refinements = same.1;
      words = taken_is_one [] next.batches (map (λ (k : KeptAnswer). k.word) kept) (map (λ (k : KeptAnswer). k.word) more)
          (subst (λ (bs : List (List (List ℕ))). AreTakenInTurn [] bs (map (λ (k : KeptAnswer). k.word) kept)) same.2 first.taken) next.taken;
    }
