-- The rounds as the plain learner makes them.
use Rattle.std.proofs.Common.{◌≡◌, ◌≢◌, ◌↔◌, Bool, true, false, map, ℕ, suc, ◌+◌, ◌-◌, ◌<◌, ◌≤◌, List, [], ◌∷◌, ◌++◌, length, take, drop, get_or, Some, None, Result, Ok, Err, OnOk, IfOk, refl, ap, ap₂, sym, ◌∙◌, subst, arith}
use Rattle.std.specs.List.{All}
use Rattle.std.specs.Prelude.{⊤}
use Rattle.std.proofs.lemmas.List.{get_or_default, take_more}
use Rattle.lw_words.specs.Word.{Answer, answers_of}
use Rattle.lw_words.specs.declared.kept.KeptAnswer.{KeptAnswer}
use Rattle.lw_mealy.specs.Machine.{Gives, MealyMachine, Rows, answer}
use Rattle.lw_mealy.proofs.WordLemmas.{length-out, out-take}
use Rattle.lw_cache.specs.Against.{DiffersFirst}
use Rattle.lw_cache.specs.Cut.{word_at}
use Rattle.lw_cache.specs.Settling.{OracleState}
use Rattle.lw_separate.specs.Canonical.{IsCanonical}
use Rattle.lw_chunks.specs.Size.{suite_size, greatest_suite}
use Rattle.lw_chunks.specs.declared.method.Method.{Method}
use Rattle.lw_chunks.specs.declared.method.Method.TheVariants as method
use Rattle.lw_certify.specs.Verdict.{IsSuiteBy}
use Rattle.lw_suite.specs.Suite.{IsSuite}
use Rattle.lw_cex.specs.Plain.{SplitsPlainly}
use Rattle.lw_plain.specs.Known.{KnowsWords}
use Rattle.lw_plain.specs.Rounds.{Task, IsTableAfter, IsUnrefuted, IsSuiteFor, IsRefined, Reveals, asked_words, closed_by, hypothesis_of, new_row_of}
use Rattle.lw_plain.specs.Rounds as plainly
use Rattle.lw_plain.specs.Table.{PlainTable, Search, close, first_new, first_table, machine_of, probe_batch, search_word, split_by, unless_empty, with_batches}
use Rattle.lw_plain.specs.Table as of_plain
use Rattle.lw_plain.specs.Tested.{TestsWords, FailsAt}
use Rattle.lw_plain.specs.Turns.{AsksInTurn, IsPlainOracle, AsksBatch}
use Rattle.lw_plain.proofs.KnownLemmas.{reads_answer, known_outputs, first_is_revealed}
use Rattle.lw_plain.proofs.RoundLemmas.{known_refines, suite_refines}
use Rattle.lw_plain.proofs.TestedLemmas.{tested_none, tested_more, tested_all, tested_fails}
use Rattle.lw_plain.proofs.TurnLemmas.{asks_on, asks_as, asks_nothing, plain_first, plain_next}
use Rattle.lw_table.specs.Plain.{ClosesPlainly, RefinesPlainly, plain_of, closed_plainly}
use Rattle.lw_table.specs.Table.{TableState, new_table}
use Rattle.lw_table.proofs.OpenLemmas.{new_is_first}
use Rattle.lw_table.proofs.PlainLemmas.{machine_is_plain}
use Rattle.lw_rounds.specs.Learner.{inputs_of, access_of, refinements_of, IsMachineOf}
use Rattle.lw_rounds.specs.Plain.{IsLearnedPlainly, LearnsAsPlain, plain_task}
use Rattle.lw_rounds.specs.declared.hypothesis.Tested.{Tested}
use Rattle.lw_rounds.specs.declared.hypothesis.Tested.TheVariants as told
use Rattle.lw_rounds.specs.declared.settings.Testing.{Testing}
use Rattle.lw_rounds.specs.declared.learner.Kind.{Kind}
use Rattle.lw_rounds.specs.declared.learner.Kind.TheVariants as kind
use Rattle.lw_rounds.specs.declared.learner.Learner.{Learner}
use Rattle.lw_rounds.specs.declared.learner.Learner.TheVariants.{Table, Tree}
use Rattle.lw_rounds.specs.bodies.Conformance.{FindsFirst, IsFirstShortest, IsShortest}
use Rattle.lw_rounds.specs.bodies.Plain.{IsNewTable, ClosesAsPlain, RefinesAsPlain, IsAt, IsTaskOf, RefinesByWord, TestsPlainly, AreTestedPlainly, TestsOn, TellsPlainly, TellsBySuite, TellsByForm, GoesAsPlain, EndsAsPlain, LearnsFromNew}
use Rattle.lw_rounds.specs.bodies.Rounds.{IsAlike, IsReady, finals_of}

-- What is found by what is read is what is found by the machine.
module _ (m h : Rows) (ks : List Answer) (gives : Gives m ks) where
  shortest : (word front : List ℕ) → IsShortest h ks word front → plainly.IsShortest m h word front
  shortest word front s =
      let place = s.place in
      let inside : place < length (answer h word) = (let lt = s.within in let long = length-out h 0 word in omega arith) in
      let within : place < length (answer m word) = (let lt = s.within in let long = length-out m 0 word in omega arith) in
      let fronts : take place (answer h word) ≡ take place (answer m word) = sym (out-take h 0 place word) ∙ (reads_answer m ks (take place word) (answer h (take place word)) gives s.before ∙ out-take m 0 place word) in
      let differs = s.differs in
      let outs : differs.0 ≡ answer m front = reads_answer m ks front differs.0 gives differs.1 in
      record {
        place = place;
        first = record {
          within = inside;
          before = fronts;
          here = λ same.
              let whole : take (place + 1) (answer h word) ≡ take (place + 1) (answer m word) = take_more (answer h word) place 0 inside ∙ (ap₂ (λ (xs : List ℕ) (x : ℕ). xs ++ x ∷ []) fronts same ∙ sym (take_more (answer m word) place 0 within)) in
              differs.2 (ap (answer h) s.is ∙ (out-take h 0 (place + 1) word ∙ (whole ∙ (sym (out-take m 0 (place + 1) word) ∙ (ap (answer m) (sym s.is) ∙ sym outs)))));
        };
        is = s.is;
      }

  fails : (words : List (List ℕ)) (front : List ℕ) → IsFirstShortest h ks words front → FailsAt m h words front
  fails words front f =
      let here = shortest (word_at words f.number) front f.here in
      record {
        number = f.number;
        first = record {
          within = f.within;
          fails = λ d agrees.
              let same : get_or words f.number d ≡ word_at words f.number = get_or_default words f.number d [] f.within in
              let at : answer h (word_at words f.number) ≡ answer m (word_at words f.number) = subst (plainly.AgreesOn m h) same agrees in
              here.first.here (ap (λ (o : List ℕ). get_or o here.place 0) at);
          before = λ j d ge lt. reads_answer m ks (get_or words j d) (answer h (get_or words j d)) gives (f.before j d ge lt);
        };
        here = here;
      }

  agrees_all : (words : List (List ℕ)) → FindsFirst h ks words None → All (plainly.AgreesOn m h) words
  agrees_all words all k d lt = reads_answer m ks (get_or words k d) (answer h (get_or words k d)) gives (all k d lt)

-- Words are tested chunk by chunk.
module _ (h : Rows) (words : List (List ℕ)) where
  pub tests_begin : (o : OracleState) → TestsOn h words words o o
  tests_begin o m p plain = record { table = p; tested = tested_none m h words p; asks = asks_nothing m p.batches o.kept plain.knows }

  module _ (left chunk : List (List ℕ)) (o b n : OracleState) (gained : List KeptAnswer) (part : chunk ≡ take 512 left) (asks : AsksBatch chunk b n) (exact : b.exact ≡ o.exact) (came : n.kept ≡ b.kept ++ gained) (on : TestsOn h words left o b) where
    module _ (m : Rows) (p : PlainTable) (plain : IsPlainOracle m p.batches o n) where
      was : AreTestedPlainly m h words left p o.kept b.kept
      was = on m p (plain_first m p.batches o b n gained came plain)

      after : PlainTable → PlainTable
      after table = with_batches table (chunk ∷ [])

      asked : (w : AreTestedPlainly m h words left p o.kept b.kept) → AsksInTurn m p.batches (w.table.batches ++ chunk ∷ []) o.kept n.kept
      asked w = asks_on m p.batches w.table.batches (w.table.batches ++ chunk ∷ []) o.kept b.kept n.kept w.asks (asks m w.table.batches (plain_next m p.batches w.table.batches o b n exact w.asks plain))

    pub tests_go_on : (rest : List (List ℕ)) → left ≢ [] → rest ≡ drop 512 left → FindsFirst h (answers_of n.kept) chunk None → TestsOn h words rest o n
    tests_go_on rest some behind first m p plain =
        let w = on m p (plain_first m p.batches o b n gained came plain) in
        record {
          table = with_batches w.table (chunk ∷ []);
          tested = tested_more m h words left chunk rest p w.table (with_batches w.table (chunk ∷ [])) w.tested some part behind (agrees_all m h (answers_of n.kept) plain.gives chunk first) refl;
          asks = asked m p plain w;
        }

    pub tests_find : (word : List ℕ) → FindsFirst h (answers_of n.kept) chunk (Some word) → TestsPlainly h words (Some word) o n
    tests_find word first m p plain =
        let w = on m p (plain_first m p.batches o b n gained came plain) in
        record {
          table = with_batches w.table (chunk ∷ []);
          tests = tested_fails m h words left chunk word p w.table (with_batches w.table (chunk ∷ [])) w.tested part refl (fails m h (answers_of n.kept) plain.gives chunk word first);
          asks = asked m p plain w;
        }

  pub tests_end : (left : List (List ℕ)) (o b : OracleState) → left ≡ [] → TestsOn h words left o b → TestsPlainly h words None o b
  tests_end left o b none on m p plain =
      let w = on m p plain in
      record { table = w.table; tests = tested_all m h words left p w.table w.tested none; asks = w.asks }

pub none_left : (more : Bool) (xs : List (List ℕ)) → ((more ≡ true) ↔ (xs ≢ [])) → more ≡ false → xs ≡ []
none_left more [] tells is = refl
none_left more (x ∷ xs) tells is = let yes : more ≡ true = tells.1 (λ e. (cc)) in absurd (let e : true ≡ false = sym yes ∙ is in cc)

-- A learner at a plain table.

pub other_batches : (l : Learner) (p q : PlainTable) → q.access ≡ p.access → q.suffixes ≡ p.suffixes → IsAt l p → IsAt l q
other_batches (Table t) p q access suffixes at = (at.0 ∙ sym access, at.1 ∙ sym suffixes)
other_batches (Tree t) p q access suffixes at = elim at [ ]

pub access_at : (l : Learner) (p : PlainTable) → IsAt l p → access_of l ≡ p.access
access_at (Table t) p at = at.0
access_at (Tree t) p at = elim at [ ]

plain_at : (t : TableState) (p : PlainTable) → t.access ≡ p.access → t.suffixes ≡ p.suffixes → plain_of t p.batches ≡ p
plain_at t p access suffixes = ap₂ (λ (us es : List (List ℕ)). let q : PlainTable = record { access = us; suffixes = es; batches = p.batches } in q) access suffixes

-- a table is refined by a word on which its machine differs
pub refined_by_word : (h : Rows) (w suffix : List ℕ) (l now : Learner) (access : List (List ℕ)) (o b n : OracleState) (gained : List KeptAnswer) → access ≡ access_of l → SplitsPlainly h access w suffix o b → RefinesAsPlain suffix l now b n → b.exact ≡ o.exact → n.kept ≡ b.kept ++ gained → RefinesByWord h w l now o n
refined_by_word h w suffix (Tree t) now access o b n gained same splits refines exact came k task p of at plain = elim at [ ]
refined_by_word h w suffix (Table t) (Tree u) access o b n gained same splits refines exact came k task p of at plain = elim refines [ ]
refined_by_word h w suffix (Table t) (Table u) access o b n gained same splits refines exact came k task p of at plain =
    let m = task.machine in
    let s : Search = search_word m h p.access (length w) w in
    let splits_at : SplitsPlainly h p.access w suffix o b = subst (λ (us : List (List ℕ)). SplitsPlainly h us w suffix o b) (same ∙ at.0) splits in
    let cut = splits_at m p.batches (plain_first m p.batches o b n gained came plain) in
    let asked : List (List (List ℕ)) = p.batches ++ map (probe_batch h p.access w) s.tried in
    let comes = refines.0 m asked (plain_next m p.batches asked o b n exact cut.asks plain) in
    let split : PlainTable = closed_by task (split_by task.letters h p w s) in
    let is : of_plain.close t.inputs m (t.most - length t.access) (of_plain.with_suffix t.inputs (plain_of t asked) suffix) ≡ split =
    ap₂ (λ (a most : ℕ). of_plain.close a m (most - length t.access) (of_plain.with_suffix a (plain_of t asked) suffix)) (sym of.letters) (sym of.most)
    ∙ (ap₂ (λ (us es : List (List ℕ)). let q : PlainTable = record { access = us; suffixes = es; batches = asked } in of_plain.close task.letters m (task.most - length us) (of_plain.with_suffix task.letters q suffix)) at.0 at.1
    ∙ ap (λ (e : List ℕ). of_plain.close task.letters m (task.most - length p.access) (of_plain.with_suffix task.letters (with_batches p (map (probe_batch h p.access w) s.tried)) e)) cut.behind) in
    record {
      at = (comes.access ∙ ap (λ (q : PlainTable). q.access) is, comes.suffixes ∙ ap (λ (q : PlainTable). q.suffixes) is);
      once = refines.1;
      asks = asks_on m p.batches asked split.batches o.kept b.kept n.kept cut.asks (asks_as m asked _ split.batches b.kept n.kept (ap (λ (q : PlainTable). q.batches) is) comes.asks);
    }

-- the machine of a table is the plain one's, and no row is new
is_hypothesis : (k : ℕ) (o : OracleState) (l : Learner) (h : Rows) (task : Task) (p : PlainTable) → IsReady o l → IsMachineOf l h → IsTaskOf l k task → IsAt l p → Gives task.machine (answers_of o.kept) → (h ≡ hypothesis_of task p) × (new_row_of task p ≡ None)
is_hypothesis k o (Tree t) h task p ready is of at gives = elim at [ ]
is_hypothesis k o (Table t) h task p ready is of at gives =
    let m = task.machine in
    let plain = machine_is_plain m h (answers_of o.kept) t p.batches ready.learner gives ready.read ready.closed is in
    let same = plain_at t p at.0 at.1 in (
      plain.is ∙ ap₂ (λ (a : ℕ) (q : PlainTable). machine_of a m q) (sym of.letters) same,
      subst (λ (a : ℕ). first_new a m p ≡ None) (sym of.letters) (subst (λ (q : PlainTable). first_new t.inputs m q ≡ None) same plain.closed),
    )

-- nothing that was asked refutes a machine that gives all answers
not_revealed : (m h : Rows) (words : List (List ℕ)) (ks : List Answer) → KnowsWords m words ks → Gives h ks → (w : List ℕ) → ¬ Reveals m h words w
not_revealed m h words ks knows gives w r =
    r.differ (sym (reads_answer h ks w (answer m w) gives ((known_outputs m words ks w (answer m w) knows (r.whole, r.asked, r.front)).1 refl)))

-- a refinement more
once_more : (task : Task) (given : List (List ℕ)) (l now : Learner) (p q : PlainTable) → IsTableAfter task given (refinements_of l) p → IsRefined task p q → refinements_of now ≡ refinements_of l + 1 → IsTableAfter task given (refinements_of now) q
once_more task given l now p q after refined once =
    let next : refinements_of now ≡ suc (refinements_of l) = omega (arith, once) in
    subst (λ (n : ℕ). IsTableAfter task given n q) (sym next) (p, after, refined)

-- the least known word on which the machine differs
pub goes_by_known : (h : Rows) (w : List ℕ) (l now : Learner) (testing : Testing) (k : ℕ) (o n : OracleState) (gained : List KeptAnswer) → IsReady o l → IsMachineOf l h → DiffersFirst h (answers_of o.kept) (Some w) → n.kept ≡ o.kept ++ gained → RefinesByWord h w l now o n → GoesAsPlain l now testing k o n
goes_by_known h w l now testing k o n gained ready of differs came refines by_w task given p of_task at plain =
    let m = task.machine in
    let here = is_hypothesis k o l h task p ready of of_task at.at plain.knows.gives in
    let least = first_is_revealed m h (asked_words p.batches) (answers_of o.kept) (Some w) plain.knows differs in
    let split : PlainTable = closed_by task (split_by task.letters h p w (search_word m h p.access (length w) w)) in
    let done = refines k task p of_task at.at plain in
    let refined : IsRefined task p split = known_refines task h p here.0 here.1 w least split refl in
    record {
      table = split;
      at = record { at = done.at; after = once_more task given l now p split at.after refined done.once };
      asks = done.asks;
    }

-- a suite of the canonical form of the machine
made_for : (task : Task) (l : Learner) (k : ℕ) (h model : MealyMachine) (suites : Method) (suite : List (List ℕ)) → suites ≡ method.W → IsTaskOf l k task → h.inputs ≡ inputs_of l → model.inputs ≡ h.inputs → IsCanonical h.inputs h.rows model.rows
    → IsSuiteBy suites model.inputs model.rows k suite → suite_size (length model.rows) model.inputs k ≤ greatest_suite → IsSuiteFor task h.rows model.rows suite
made_for task l k h model suites suite by_w of inputs same canonical made few =
    let letters : h.inputs ≡ task.letters = inputs ∙ sym of.letters in
    let whole : IsSuite model.inputs model.rows k suite = subst (λ (s : Method). IsSuiteBy s model.inputs model.rows k suite) by_w made in
    record {
      canonical = subst (λ (a : ℕ). IsCanonical a h.rows model.rows) letters canonical;
      of_model = subst (λ (e : ℕ). IsSuite task.letters model.rows e suite) (sym of.extra) (subst (λ (a : ℕ). IsSuite a model.rows k suite) (same ∙ letters) whole);
      few = subst (λ (e : ℕ). suite_size (length model.rows) task.letters e ≤ greatest_suite) (sym of.extra) (subst (λ (a : ℕ). suite_size (length model.rows) a k ≤ greatest_suite) (same ∙ letters) few);
    }

module _ (h : MealyMachine) (l : Learner) (testing : Testing) (k : ℕ) (o b : OracleState) (ready : IsReady o l) (of : IsMachineOf l h.rows) (inputs : h.inputs ≡ inputs_of l) (gives : Gives h.rows (answers_of o.kept)) where
  unrefuted : (task : Task) (p : PlainTable) → IsTaskOf l k task → IsAt l p → KnowsWords task.machine (asked_words p.batches) (answers_of o.kept) → (h.rows ≡ hypothesis_of task p) × IsUnrefuted task p
  unrefuted task p of_task at knows =
      let here = is_hypothesis k o l h.rows task p ready of of_task at knows.gives in (
        here.0,
        record {
          closed = here.1;
          gives = subst (λ (g : Rows). (w : List ℕ) → ¬ Reveals task.machine g (asked_words p.batches) w) here.0 (not_revealed task.machine h.rows (asked_words p.batches) (answers_of o.kept) knows gives);
        },
      )

  -- a word of the suite
  pub goes_by_suite : (word : List ℕ) (now : Learner) (n : OracleState) (gained : List KeptAnswer) → TellsByForm h testing k (told.Differs word) o b → b.exact ≡ o.exact → n.kept ≡ b.kept ++ gained → RefinesByWord h.rows word l now b n → GoesAsPlain l now testing k o n
  goes_by_suite word now n gained form exact came refines by_w task given p of_task at plain =
      let m = task.machine in
      let first : IsPlainOracle m p.batches o b = plain_first m p.batches o b n gained came plain in
      let tested = form.by_suite.tells (ap (λ (t : Testing). t.walks) by_w) m p first in
      let q : PlainTable = tested.table in
      let ready_for = unrefuted task p of_task at.at plain.knows in
      let made = made_for task l k h form.model testing.suite form.by_suite.suite (ap (λ (t : Testing). t.suite) by_w) of_task inputs form.inputs form.canonical form.by_suite.made form.by_suite.few in
      let next : IsPlainOracle m q.batches b n = plain_next m p.batches q.batches o b n exact tested.asks plain in
      let at_q : IsAt l q = other_batches l p q (ap (λ (t : PlainTable). t.access) tested.tests.is) (ap (λ (t : PlainTable). t.suffixes) tested.tests.is) at.at in
      let split : PlainTable = closed_by task (split_by task.letters h.rows q word (search_word m h.rows q.access (length word) word)) in
      let done = refines k task q of_task at_q next in
      let refined : IsRefined task p split = suite_refines task h.rows p ready_for.0 ready_for.1 form.model.rows form.by_suite.suite made word q tested.tests split refl in
      record {
        table = split;
        at = record { at = done.at; after = once_more task given l now p split at.after refined done.once };
        asks = asks_on m p.batches q.batches split.batches o.kept b.kept n.kept tested.asks done.asks;
      }

  -- the suite finds none
  pub ends_by_suite : (model : MealyMachine) → TellsByForm h testing k (told.Sure model) o b → EndsAsPlain l l testing k model.rows o b
  ends_by_suite model form by_w task given p of_task at plain =
      let m = task.machine in
      let tells = form.by_suite.tells (ap (λ (t : Testing). t.walks) by_w) in
      let tested = tells.1 m p plain in
      let ready_for = unrefuted task p of_task at.at plain.knows in
      let made = made_for task l k h form.model testing.suite form.by_suite.suite (ap (λ (t : Testing). t.suite) by_w) of_task inputs form.inputs form.canonical form.by_suite.made form.by_suite.few in
      let made_now : IsSuiteFor task h.rows model.rows form.by_suite.suite = subst (λ (x : MealyMachine). IsSuiteFor task h.rows x.rows form.by_suite.suite) (sym tells.0) made in
      let tests_now : TestsWords m (hypothesis_of task p) form.by_suite.suite p tested.table None = subst (λ (g : Rows). TestsWords m g form.by_suite.suite p tested.table None) ready_for.0 tested.tests in
      record {
        batches = tested.table.batches;
        learns = record {
          table = p;
          after = at.after;
          ready = ready_for.1;
          suite = form.by_suite.suite;
          made = subst (λ (g : Rows). IsSuiteFor task g model.rows form.by_suite.suite) ready_for.0 made_now;
          asked = tests_now.asked;
          passes = tests_now.comes;
          all = ap (λ (t : PlainTable). t.batches) tests_now.is;
        };
        asks = tested.asks;
      }

-- no block of a table is settled
pub no_block : (l now : Learner) (p : PlainTable) → IsAt l p → IsAlike l now → finals_of l < finals_of now → ⊥
no_block (Tree t) now p at alike more = elim at [ ]
no_block (Table t) (Table u) p at alike more = omega (arith, more)
no_block (Table t) (Tree u) p at alike more = let same : kind.Ttt ≡ kind.Table = alike.kind in cc

pub replaced_goes : (l now : Learner) (testing : Testing) (k : ℕ) (o n : OracleState) → IsAlike l now → finals_of l < finals_of now → GoesAsPlain l now testing k o n
replaced_goes l now testing k o n alike more by_w task given p of_task at plain = absurd (no_block l now p at.at alike more)

-- Rounds one after the other.
pub goes_nowhere : (l : Learner) (testing : Testing) (k : ℕ) (o : OracleState) → GoesAsPlain l l testing k o o
goes_nowhere l testing k o by_w task given p of_task at plain = record { table = p; at = at; asks = asks_nothing task.machine p.batches o.kept plain.knows }

task_alike : (l now : Learner) (k : ℕ) (task : Task) → IsAlike l now → IsTaskOf l k task → IsTaskOf now k task
task_alike l now k task alike of = record { letters = of.letters ∙ sym alike.inputs; extra = of.extra; most = of.most ∙ sym alike.most }

module _ (l between now : Learner) (testing : Testing) (k : ℕ) (o b n : OracleState) (gained : List KeptAnswer) (alike : IsAlike l between) (exact : b.exact ≡ o.exact) (came : n.kept ≡ b.kept ++ gained) (first : GoesAsPlain l between testing k o b) where
  pub goes_then : GoesAsPlain between now testing k b n → GoesAsPlain l now testing k o n
  goes_then next by_w task given p of_task at plain =
      let m = task.machine in
      let one = first by_w task given p of_task at (plain_first m p.batches o b n gained came plain) in
      let two = next by_w task given one.table (task_alike l between k task alike of_task) one.at (plain_next m p.batches one.table.batches o b n exact one.asks plain) in
      record { table = two.table; at = two.at; asks = asks_on m p.batches one.table.batches two.table.batches o.kept b.kept n.kept one.asks two.asks }

  pub ends_then : (model : Rows) → EndsAsPlain between now testing k model b n → EndsAsPlain l now testing k model o n
  ends_then model next by_w task given p of_task at plain =
      let m = task.machine in
      let one = first by_w task given p of_task at (plain_first m p.batches o b n gained came plain) in
      let two = next by_w task given one.table (task_alike l between k task alike of_task) one.at (plain_next m p.batches one.table.batches o b n exact one.asks plain) in
      record { batches = two.batches; learns = two.learns; asks = asks_on m p.batches one.table.batches two.batches o.kept b.kept n.kept one.asks two.asks }

-- A learning from a new table.
pub learns_from_new : (l closed now : Learner) (testing : Testing) (k : ℕ) (model : Rows) (o b n : OracleState) (gained : List KeptAnswer) → IsAlike l closed → ClosesAsPlain l closed o b → b.exact ≡ o.exact → n.kept ≡ b.kept ++ gained → EndsAsPlain closed now testing k model b n
    → LearnsFromNew l now testing k model o n
learns_from_new l closed now testing k model o b n gained alike closes exact came ends a outs most new is_table by_w m given plain =
    from closed (subst (λ (x : Learner). IsAlike x closed) new alike) (subst (λ (x : Learner). ClosesAsPlain x closed o b) new closes) ends
  where
    task : Task
    task = plain_task a m k most

    asked : List (List (List ℕ))
    asked = unless_empty given

    from : (u : Learner) → IsAlike (Table (new_table a outs most)) u → ClosesAsPlain (Table (new_table a outs most)) u o b → EndsAsPlain u now testing k model b n → IsLearnedPlainly (plain_task a m k most) given model (refinements_of now) (unless_empty given) o.kept n.kept
    from (Tree u) alike closes ends = elim closes [ ]
    from (Table u) alike closes ends =
        let comes = closes.0 m (unless_empty given) (plain_first m (unless_empty given) o b n gained came plain) in
        let p : PlainTable = closed_plainly m (new_table a outs most) (unless_empty given) in
        let start : p ≡ closed_by (plain_task a m k most) (first_table a given) = ap (λ (t : PlainTable). close a m (most - 1) t) (new_is_first a outs most given) in
        let of_task : IsTaskOf (Table u) k (plain_task a m k most) = record { letters = sym alike.inputs; extra = refl; most = sym alike.most } in
        let after : IsTableAfter (plain_task a m k most) given u.refinements p = subst (λ (i : ℕ). IsTableAfter (plain_task a m k most) given i p) (sym closes.1) start in
        let two = ends by_w (plain_task a m k most) given p of_task (record { at = (comes.access, comes.suffixes); after = after }) (plain_next m (unless_empty given) p.batches o b n exact comes.asks plain) in
        record { batches = two.batches; learns = two.learns; asks = asks_on m (unless_empty given) p.batches two.batches o.kept b.kept n.kept comes.asks two.asks }

-- what is said of a call where it answers Ok, for a learner that is given
pub any_ok : {X E : Type 0} (r : Result X E) → OnOk r (Unit {0})
any_ok (Ok x) = tt
any_ok (Err e) = tt

pub table_made : (of_kind : Kind) (a b most : ℕ) (l : Learner) (t : TableState) → t ≡ new_table a b most → l ≡ Table t → IsNewTable of_kind a b most l
table_made of_kind a b most l t made is same = is ∙ ap Table made

pub no_table : (of_kind : Kind) (a b most : ℕ) (l : Learner) → of_kind ≡ kind.Ttt → IsNewTable of_kind a b most l
no_table of_kind a b most l is same = absurd (let both : kind.Ttt ≡ kind.Table = sym is ∙ same in cc)

pub closes_table : {E : Type 0} (t u : TableState) (o n : OracleState) (r : Result ⊤ E) → OnOk r (ClosesPlainly t u o n) → u.refinements ≡ t.refinements → OnOk r (ClosesAsPlain (Table t) (Table u) o n)
closes_table t u o n (Ok x) closes same = (closes, same)
closes_table t u o n (Err e) closes same = tt

pub refines_table : {E : Type 0} (suffix : List ℕ) (t u : TableState) (o n : OracleState) (r : Result ⊤ E) → OnOk r (RefinesPlainly suffix t u o n) → OnOk r (u.refinements ≡ t.refinements + 1) → OnOk r (RefinesAsPlain suffix (Table t) (Table u) o n)
refines_table suffix t u o n (Ok x) refines once = (refines, once)
refines_table suffix t u o n (Err e) refines once = tt

-- what a test tells, by its result
module _ {E : Type 0} (h : MealyMachine) (testing : Testing) (k : ℕ) (model : MealyMachine) (o n : OracleState) where
  pub told_by_form : model.inputs ≡ h.inputs → IsCanonical h.inputs h.rows model.rows → (r : Result Tested E) → IfOk r (λ told. TellsBySuite h.rows testing k model told o n) → IfOk r (λ told. TellsByForm h testing k told o n)
  told_by_form inputs canonical (Ok t) tells = record { model = model; inputs = inputs; canonical = canonical; by_suite = tells }
  told_by_form inputs canonical (Err e) tells = tt

pub told_by_suite : {E : Type 0} (h : Rows) (testing : Testing) (k : ℕ) (model : MealyMachine) (suite : List (List ℕ)) (o n : OracleState) → IsSuiteBy testing.suite model.inputs model.rows k suite → suite_size (length model.rows) model.inputs k ≤ greatest_suite
    → (r : Result Tested E) → (testing.walks ≡ None → IfOk r (λ told. TellsPlainly h suite model told o n)) → IfOk r (λ told. TellsBySuite h testing k model told o n)
told_by_suite h testing k model suite o n made few (Ok t) tells = record { suite = suite; made = made; few = few; tells = tells }
told_by_suite h testing k model suite o n made few (Err e) tells = tt

pub learned_from_new : {E : Type 0} (l closed now : Learner) (testing : Testing) (k : ℕ) (o b n : OracleState) (gained : List KeptAnswer) → IsAlike l closed → ClosesAsPlain l closed o b → b.exact ≡ o.exact → n.kept ≡ b.kept ++ gained
    → (r : Result MealyMachine E) → IfOk r (λ model. EndsAsPlain closed now testing k model.rows b n) → IfOk r (λ model. LearnsFromNew l now testing k model.rows o n)
learned_from_new l closed now testing k o b n gained alike closes exact came (Ok model) ends = learns_from_new l closed now testing k model.rows o b n gained alike closes exact came ends
learned_from_new l closed now testing k o b n gained alike closes exact came (Err e) ends = tt

pub learned_of_kind : (of_kind : Kind) (testing : Testing) (a b inputs k most : ℕ) (l now : Learner) (model : Rows) (o n : OracleState) → a ≡ inputs → IsNewTable of_kind a b most l → LearnsFromNew l now testing k model o n → LearnsAsPlain of_kind testing inputs k most model (refinements_of now) o n
learned_of_kind of_kind testing a b inputs k most l now model o n same new learns is_table by_w =
    subst (λ (x : ℕ). LearnsAsPlain kind.Table testing x k most model (refinements_of now) o n) same (learns a b most (new is_table)) refl by_w
