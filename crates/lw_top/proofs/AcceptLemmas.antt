-- An acceptor that is told is right, and so is that there is none, from what a learning did.
use Rattle.std.proofs.Common.{◌≡◌, ◌∙◌, ⊎_elim, inl, inr, ℕ, ◌+◌, ◌<◌, ◌≤◌, List, [], ◌∷◌, length, Option, Some, None, IfSome, Result, Ok, Err, refl, sym, ap, subst, arith, get_or}
use Rattle.std.proofs.lemmas.Bool.{cases_lt}
use Rattle.lw_words.specs.Word.{Answer, AreAnswers, IsWord, answers_of}
use Rattle.lw_words.specs.declared.kept.KeptAnswer.{KeptAnswer}
use Rattle.lw_mealy.specs.Machine.{Gives, IsMachine, IsMinimal, MealyMachine, Rows, Sure}
use Rattle.lw_accept.specs.Acceptor.{Automaton, IsAcceptor, NamedAcceptor}
use Rattle.lw_accept.specs.Laws.{AreOver, NoAcceptorGives}
use Rattle.lw_accept.specs.View.{IsFirstUnviewed, asked_names, viewed, viewed_machine}
use Rattle.lw_accept.proofs.TellLemmas.{others_give_none}
use Rattle.lw_accept.proofs.ViewLemmas.{states}
use Rattle.lw_outside.specs.Links.{SpawnerState}
use Rattle.lw_rounds.specs.Learner.{refinements_of}
use Rattle.lw_rounds.specs.declared.learned.Learned.{Learned as Found}
use Rattle.lw_rounds.specs.declared.stops.LearnStop.{LearnStop}
use Rattle.lw_rounds.specs.declared.learner.Kind.{Kind}
use Rattle.lw_children.specs.Children.{IsOfCommand}
use Rattle.lw_json.specs.declared.files.Machine.{Machine}
use Rattle.lw_system.specs.AcceptorSystems.{IsAskedFor, IsViewOf}
use Rattle.lw_system.specs.Goals.{ReadsSystemFor}
use Rattle.lw_system.specs.Systems.{letters_of}
use Rattle.lw_system.specs.declared.goal.Goal.{Goal}
use Rattle.lw_system.specs.declared.goal.Goal.TheVariants as aim
use Rattle.lw_system.specs.declared.system.System.{System}
use Rattle.lw_system.specs.declared.system.System.TheVariants as system
use Rattle.lw_system.proofs.AcceptorLemmas.{asked}
use Rattle.lw_report.specs.Learnings.{HasModel, learn_outcome}
use Rattle.lw_report.specs.declared.«end».End.{End}
use Rattle.lw_report.specs.declared.outcome.Outcome.{Outcome}
use Rattle.lw_report.specs.declared.outcome.Outcome.TheVariants.{Learned, NoMemory, Nondeterministic, SulFailed, Gone, BadLine, TooManyStates, SuiteTooLarge, Accepted, NotAcceptor}
use Rattle.lw_learn.specs.Arguments.{LearnValues}
use Rattle.lw_learn.specs.Ending.{Carries, EndsRead, EndsUnread}
use Rattle.lw_learn.specs.Findings.{IsOfSystem}
use Rattle.lw_learn.specs.LearnRun.{IsLearnRun}
use Rattle.lw_learn.specs.Outcomes.{HasModelFile, IsBehindOut, ModelIsTold}
use Rattle.lw_learn.specs.Writing.{IsModelText, PutsAll, StandsInFile, WritesModel}
use Rattle.lw_learn.proofs.RunLemmas.{by_stop, stands_as}
use Rattle.lw_learn.proofs.ToldLemmas.{prior_letters}
use Rattle.lw_top.specs.Promises.{AcceptorIsRight, IsBeforeAsking, TellsAcceptor, TellsNoAcceptor}
use Rattle.lw_top.specs.World.{WorldState}
use Rattle.lw_top.proofs.FixLemmas.{fix_acceptor}
use Rattle.lw_top.proofs.PromiseLemmas.{right, task_of, why}

-- what is told of an acceptor says what was to be learned
accepted_goal : (k : Goal) (model : MealyMachine) (count states refinements : ℕ) → ModelIsTold k model count (Accepted states refinements) → (k ≡ aim.Acceptor) × (states ≡ length model.rows)
accepted_goal aim.Machine model count states refinements (inl told) = let wrong : Learned model count ≡ Accepted states refinements = told in absurd (cc)
accepted_goal aim.Acceptor model count states refinements (inl told) = let same : Accepted (length model.rows) count ≡ Accepted states refinements = told in (refl, cc)
accepted_goal k model count states refinements (inr none) = let wrong : Accepted states refinements ≡ NotAcceptor none.1.0 none.1.1 = none.1.2 in absurd (cc)

unviewed_at : (rows : Rows) (q x p y : ℕ) → NotAcceptor q x ≡ NotAcceptor p y → IsFirstUnviewed rows p y → IsFirstUnviewed rows q x
unviewed_at rows q x p y same first =
    let one : p ≡ q = cc in
    let two : y ≡ x = cc in
    subst (λ (n : ℕ). IsFirstUnviewed rows n x) one (subst (λ (n : ℕ). IsFirstUnviewed rows p n) two first)

none_goal : (k : Goal) (model : MealyMachine) (count state letter : ℕ) → ModelIsTold k model count (NotAcceptor state letter) → (k ≡ aim.Acceptor) × IsFirstUnviewed model.rows state letter
none_goal k model count state letter (inl told) = absurd told
none_goal k model count state letter (inr none) = (none.0, unviewed_at model.rows state letter none.1.0 none.1.1 none.1.2 none.1.3)

-- neither is told of a learning that stopped
stop_not : (x : Outcome) (stop : LearnStop) (end : End) (k : Goal) → (NoMemory ≡ x → ⊥) → ((c : _) → Nondeterministic c ≡ x → ⊥) → ((i : ℕ) → SulFailed i ≡ x → ⊥) → ((i : ℕ) → Gone i ≡ x → ⊥) → ((i : ℕ) (line : List ℕ) → BadLine i line ≡ x → ⊥) → ((words : List (List ℕ)) → TooManyStates words ≡ x → ⊥) → ((s n : ℕ) → SuiteTooLarge s n ≡ x → ⊥) → Carries k (Err stop) end → end.outcome ≡ x → ⊥
stop_not x stop end k memory clash failed gone bad many large c is = stands_as (λ o. o ≡ x → ⊥) (learn_outcome stop) end.outcome c.2 (by_stop (λ o. o ≡ x → ⊥) memory clash failed gone bad many large stop) memory is

-- the words of a system's answers are over its letters
words_of : (a : LearnValues) (s : System) (prior : List KeptAnswer) (b z : SpawnerState) (learned : Result Found LearnStop) (kept : List KeptAnswer) (names : List (List ℕ)) → IsOfSystem a s prior b z learned kept names → AreAnswers (length (letters_of s)) (answers_of kept)
words_of a (system.Table m) prior b z learned kept names is = subst (λ (n : ℕ). AreAnswers n (answers_of kept)) m.named.0 is.1.keeps.words
words_of a (system.Children c) prior b z learned kept names is = by c.outputs is
  where
    by : (outputs : Option (List (List ℕ))) → IsOfCommand a.learner c.words c.inputs outputs a.workers a.extra a.max_states prior b z learned kept names → AreAnswers (length c.inputs) (answers_of kept)
    by None of = of.1.keeps.words
    by (Some outputs) of = of.1.keeps.words

-- where none of at most so many states has a machine that gives the answers, each that has one is larger
larger : (letters most : ℕ) (ks : List Answer) → NoAcceptorGives letters most ks → (m : Automaton) → IsAcceptor letters m → Gives (viewed m) ks → most < length m.targets
larger letters most ks none m is gives =
    ⊎_elim (λ (lt : most < length m.targets). lt) (λ (le : length m.targets ≤ most). absurd (none m is le gives)) (cases_lt most (length m.targets))

some_is : {X : Type 0} (P : X → Type 0) (o : Option X) (x : X) → o ≡ Some x → IfSome o P → P x
some_is P o x is holds = subst (λ (y : Option _). IfSome y P) is holds

-- the letters behind `?`, of what was read for an acceptor
letters_asked : (k : Goal) (a : LearnValues) (f : _) (before now : _) (s : System) → k ≡ aim.Acceptor → ReadsSystemFor k a.source a.system f before now s → (letters : List (List ℕ)) × IsAskedFor letters s
letters_asked aim.Machine a f before now s is reads = let wrong : aim.Machine ≡ aim.Acceptor = is in absurd (cc)
letters_asked aim.Acceptor a f before now s is reads = asked a.source a.system f before now s reads

module _ (a : LearnValues) (before now : WorldState) (end : End) (run : IsLearnRun a before.files now.files before.spawner now.spawner before.out now.out before.err now.err now.log end) where
  abbrev Unread : Type 0
  Unread = EndsUnread a before.files now.files before.spawner now.spawner before.out now.out before.err run.told end

  abbrev Read : Type 0
  Read = EndsRead a before.files now.files before.spawner now.spawner before.out now.out before.err run.told end

  module _ (r : Read) (l : Found) (c : Carries a.goal (Ok l) end) where
    has : HasModel a.learner a.testing (length (letters_of r.system)) (length r.ended.learned.naming.names) a.extra a.max_states end l.model
    has = some_is (HasModel a.learner a.testing (length (letters_of r.system)) (length r.ended.learned.naming.names) a.extra a.max_states end) end.model l.model c.0 r.ended.learned.model

    over : AreOver l.model.inputs (answers_of end.kept.answers)
    over =
        let are = words_of a r.system r.prior before.spawner now.spawner r.ended.learned.learned end.kept.answers r.ended.learned.naming.names r.ended.learned.found in
        λ i d lt. subst (λ (n : ℕ). IsWord n (get_or (answers_of end.kept.answers) i d).word) (sym has.certified.inputs) (are i d lt).0

    tells : (states : ℕ) (refinements : ℕ) → end.outcome ≡ Accepted states refinements → (a.goal ≡ aim.Acceptor) × TellsAcceptor a before now end states
    tells count refinements is =
        let told = r.ended.learned.told.told in
        let aimed = accepted_goal a.goal l.model (refinements_of l.learner) count refinements (subst (ModelIsTold a.goal l.model (refinements_of l.learner)) is c.3) in
        let w : WritesModel a end.kept.answers end.outcome now.files.holds (before.out.taken, now.out.taken) (before.out.faults, now.out.faults) (letters_of r.system) r.ended.learned.naming.names l.model =
        some_is (WritesModel a end.kept.answers end.outcome now.files.holds (before.out.taken, now.out.taken) (before.out.faults, now.out.faults) (letters_of r.system) r.ended.learned.naming.names) end.model l.model c.0 told.written in
        let text = subst (λ (k : Goal). IsModelText k w.model w.text) aimed.0
        (w.text_is (λ e. let wrong : Accepted count refinements ≡ NoMemory = sym is ∙ e in cc) (λ q x e. let wrong : Accepted count refinements ≡ NotAcceptor q x = sym is ∙ e in cc)) in
        let acceptor : NamedAcceptor = text.0 in
        let same : l.model ≡ viewed_machine (length acceptor.inputs) acceptor.automaton = sym w.mealy ∙ text.2.mealy in
        let model = right a.learner a.testing (length (letters_of r.system)) (length r.ended.learned.naming.names) a.extra a.max_states end l.model has in (
          aimed.0,
          record {
            acceptor = acceptor;
            named = text.1;
            system = r.system;
            prior = r.prior;
            task = task_of a before now end run.told r;
            letters = sym w.inputs_are ∙ text.2.inputs;
            model = c.0 ∙ ap (λ (h : MealyMachine). Some h) same;
            states_are = aimed.1 ∙ (ap (λ (h : MealyMachine). length h.rows) same ∙ states (length acceptor.inputs) acceptor.automaton text.1.acceptor);
            fixed = fix_acceptor acceptor l.model (answers_of end.kept.answers) a.extra text.1 same over model.gives model.sure;
            put = subst (λ (t : List ℕ). PutsAll a.model t before.out.taken now.out.taken) text.3 (w.out.told (subst IsBehindOut (sym is) tt));
            stands = λ differ. subst (λ (t : List ℕ). StandsInFile a.model now.files.holds t) text.3 (w.file (subst HasModelFile (sym is) tt) differ);
          },
        )

    denies : (state letter : ℕ) → end.outcome ≡ NotAcceptor state letter → (a.goal ≡ aim.Acceptor) × TellsNoAcceptor a end state letter
    denies state letter is =
        let aimed = none_goal a.goal l.model (refinements_of l.learner) state letter (subst (ModelIsTold a.goal l.model (refinements_of l.learner)) is c.3) in
        let letters = letters_asked a.goal a before.files.holds before.files.reads r.task.between r.task.read aimed.0 r.task.system in
        let inputs : l.model.inputs ≡ length letters.0 + 1 =
        has.certified.inputs
        ∙ (ap (λ (n : List (List ℕ)). length n) (prior_letters a.prior before.files.holds r.task.between r.between r.task.read r.system r.prior r.task.answers ∙ letters.1.inputs)
        ∙ more letters.0) in
        let model = right a.learner a.testing (length (letters_of r.system)) (length r.ended.learned.naming.names) a.extra a.max_states end l.model has in (
          aimed.0,
          record {
            model = l.model;
            model_is = c.0;
            letters = length letters.0;
            inputs = inputs;
            first = aimed.1;
            larger = larger (length letters.0) (length l.model.rows + a.extra) (answers_of end.kept.answers) (others_give_none (length letters.0) a.extra state letter l.model.rows (answers_of end.kept.answers) (subst (λ (n : ℕ). IsMachine n l.model.rows) inputs model.complete.machine)
                (subst (λ (n : ℕ). IsMinimal n l.model.rows) inputs model.minimal) (subst (λ (n : ℕ). Sure n l.model.rows (answers_of end.kept.answers) a.extra) inputs model.sure) aimed.1);
          },
        )
      where
        more : (names : List (List ℕ)) → length (asked_names names) ≡ length names + 1
        more names = omega arith

  of_unread : Unread → AcceptorIsRight a before now end
  of_unread u = record {
    told = λ states refinements is. absurd (subst IsBeforeAsking is (why a before now end run u).0);
    none = λ state letter is. absurd (subst IsBeforeAsking is (why a before now end run u).0);
  }

  of_read : Read → AcceptorIsRight a before now end
  of_read r = by r.ended.learned.learned r.ended.learned.told.told.carries
    where
      by : (learned : Result Found LearnStop) → Carries a.goal learned end → AcceptorIsRight a before now end
      by (Ok l) c = record { told = tells r l c; none = denies r l c }
      by (Err stop) c = record {
        told = λ s n is. absurd (stop_not (Accepted s n) stop end a.goal (λ e. cc) (λ x e. cc) (λ i e. cc) (λ i e. cc) (λ i x e. cc) (λ w e. cc) (λ p q e. cc) c is);
        none = λ s n is. absurd (stop_not (NotAcceptor s n) stop end a.goal (λ e. cc) (λ x e. cc) (λ i e. cc) (λ i e. cc) (λ i x e. cc) (λ w e. cc) (λ p q e. cc) c is);
      }

  pub acceptor_is_right : AcceptorIsRight a before now end
  acceptor_is_right = ⊎_elim of_unread of_read run.ends
