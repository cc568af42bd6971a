-- The words that are asked first, and a task with them.
use Rattle.std.proofs.Common.{◌≡◌, ◌∙◌, ℕ, ◌<◌, ◌^◌, List, [], ◌++◌, length, true, false, Option, Some, None, Result, Ok, Err, IfOk, IfErr, ◌≤◌, arith, inl, inr, refl, ap, sym, subst}
use Rattle.std.specs.Prelude.{option_map}
use Rattle.std.specs.List.{All}
use Rattle.std.proofs.lemmas.List.Elements.{All-append, All-nil}
use Rattle.lw_draw.proofs.DrawLemmas.{drawn_are_words}
use Rattle.lw_words.specs.Cause.{CountedFault}
use Rattle.lw_words.specs.Word.{IsWord}
use Rattle.lw_words.specs.declared.kept.KeptAnswer.{KeptAnswer}
use Rattle.lw_outside.specs.Files.{File, HoldsLong, noted, read_call, FilesState, WasRead}
use Rattle.lw_outside.specs.declared.files.FilesStop.{FilesStop}
use Rattle.lw_outside.specs.declared.files.FilesStop.TheVariants as files
use Rattle.lw_cache.specs.Caching.{Caching}
use Rattle.lw_children.specs.Crews.{first_naming}
use Rattle.lw_names.specs.Naming.{Naming}
use Rattle.lw_report.specs.Stops.{read_outcome}
use Rattle.lw_system.specs.Stops.{unread}
use Rattle.lw_report.specs.declared.outcome.Outcome.{Outcome}
use Rattle.lw_report.specs.declared.outcome.Outcome.TheVariants.{Learned, Trial, Yes, Served, No, Usage, BadFile, Alphabets, FileTooLong, Nondeterministic, NoMemory, SulFailed, Gone, BadLine, BadAsk, TooManyStates, SuiteTooLarge, FileFault, SourceFault, SinkFault, Compared, Asked, Helped, Rechecked, UnknownLetter, Unstarted, Accepted, BadAcceptor, NotAcceptor}
use Rattle.lw_report.specs.declared.role.Role.TheVariants.{Words}
use Rattle.lw_learn.specs.Arguments.{LearnValues}
use Rattle.lw_learn.specs.Asking.{AreDrawn, IsWordless, IsWordsFile, SaysWords}
use Rattle.lw_learn.specs.Tasks.{ReadsTask}
use Rattle.lw_system.specs.Systems.{declared_of, letters_of}
use Rattle.lw_learn.specs.Unread.{names_read}
use Rattle.lw_system.specs.Reads.{MadeReads}
use Rattle.lw_learn.specs.bodies.Stages.{HasNamedWords, HasWorded, IsStage, IsWordedStage, SaysNoWords, SaysReady}
use Rattle.lw_learn.specs.bodies.Ready.{IsReady}
use Rattle.lw_learn.specs.bodies.UnreadState.{UnreadState}
use Rattle.lw_system.specs.declared.system.System.{System}
use Rattle.lw_draw.specs.declared.drawing.Drawn.{Drawn}
use Rattle.lw_learn.specs.declared.task.Task.{Task}
use Rattle.lw_system.proofs.ReadsLemmas.{made_call, made_none, made_one, made_then, some_made}

-- why the file of words was not read
not_read : (name : List ℕ) (letters : List (List ℕ)) (f g : FilesState) (stop : FilesStop) → (stop ≡ files.Failed → CountedFault f.faults g.faults) → (stop ≡ files.Failed → g.calls ≡ noted (read_call name true) f.calls) → (stop ≡ files.TooLong → HoldsLong f.holds name) → (stop ≡ files.TooLong → g.calls ≡ noted (read_call name false) f.calls)
    → (stop ≡ files.NoMemory → g.calls ≡ f.calls) → g.reads ≡ f.reads → IsWordless (Some name) letters f g (read_outcome Words (unread stop))
not_read name letters f g files.Failed failed failed_call long long_call memory reads = (refl, (name, refl, failed refl, reads, made_call f g (read_call name true) reads (failed_call refl)))
not_read name letters f g files.TooLong failed failed_call long long_call memory reads = (refl, (name, refl, long refl, reads, made_call f g (read_call name false) reads (long_call refl)))
not_read name letters f g files.NoMemory failed failed_call long long_call memory reads = some_made f g (made_same (memory refl))
  where
    made_same : g.calls ≡ f.calls → MadeReads f g []
    made_same same = let none = made_none f in (none.0, reads ∙ none.1, same ∙ none.2)

pub not_read_at : (name : List ℕ) (letters : List (List ℕ)) (f g : FilesState) (stop : FilesStop) (why : Outcome) → why ≡ read_outcome Words (unread stop) → (stop ≡ files.Failed → CountedFault f.faults g.faults) → (stop ≡ files.Failed → g.calls ≡ noted (read_call name true) f.calls) → (stop ≡ files.TooLong → HoldsLong f.holds name)
    → (stop ≡ files.TooLong → g.calls ≡ noted (read_call name false) f.calls) → (stop ≡ files.NoMemory → g.calls ≡ f.calls) → g.reads ≡ f.reads → IsWordless (Some name) letters f g why
not_read_at name letters f g stop why is failed failed_call long long_call memory reads = subst (λ (x : Outcome). IsWordless (Some name) letters f g x) (sym is) (not_read name letters f g stop failed failed_call long long_call memory reads)

-- what was read of it says no words
said_wordless : (name : List ℕ) (letters : List (List ℕ)) (f g : FilesState) (bytes : List ℕ) → WasRead f.holds f.reads g.reads name bytes → MadeReads f g [] → (why : Outcome) → SaysNoWords letters bytes why → IsWordless (Some name) letters f g why
said_wordless name letters f g bytes read made (UnknownLetter line place) first = (name, refl, record { bytes = bytes; read = read; first = first }, made)
said_wordless name letters f g bytes read made NoMemory says = some_made f g made
said_wordless name letters f g bytes read made (BadFile r fault) says = absurd says
said_wordless name letters f g bytes read made (FileTooLong r) says = absurd says
said_wordless name letters f g bytes read made (FileFault r) says = absurd says
said_wordless name letters f g bytes read made (Alphabets r) says = absurd says
said_wordless name letters f g bytes read made (Nondeterministic clash) says = absurd says
said_wordless name letters f g bytes read made (Learned h r) says = absurd says
said_wordless name letters f g bytes read made (Trial t) says = absurd says
said_wordless name letters f g bytes read made (Yes states) says = absurd says
said_wordless name letters f g bytes read made (Served served) says = absurd says
said_wordless name letters f g bytes read made (No verdict) says = absurd says
said_wordless name letters f g bytes read made Usage says = absurd says
said_wordless name letters f g bytes read made (SulFailed i) says = absurd says
said_wordless name letters f g bytes read made (Gone i) says = absurd says
said_wordless name letters f g bytes read made (BadLine i line) says = absurd says
said_wordless name letters f g bytes read made (BadAsk number) says = absurd says
said_wordless name letters f g bytes read made (TooManyStates words) says = absurd says
said_wordless name letters f g bytes read made (SuiteTooLarge states number) says = absurd says
said_wordless name letters f g bytes read made SourceFault says = absurd says
said_wordless name letters f g bytes read made (Compared comparison) says = absurd says
said_wordless name letters f g bytes read made Asked says = absurd says
said_wordless name letters f g bytes read made Helped says = absurd says
said_wordless name letters f g bytes read made (Rechecked answers) says = absurd says
said_wordless name letters f g bytes read made (Accepted states refinements) says = absurd says
said_wordless name letters f g bytes read made (BadAcceptor bad) says = absurd says
said_wordless name letters f g bytes read made (NotAcceptor state letter) says = absurd says
said_wordless name letters f g bytes read made (Unstarted cause) says = absurd says
said_wordless name letters f g bytes read made SinkFault says = absurd says

-- the words that were read of it, or why there are none
pub named_read : (name : List ℕ) (letters : List (List ℕ)) (f g : FilesState) (bytes : List ℕ) (result : Result (List (List ℕ)) Outcome) → WasRead f.holds f.reads g.reads name bytes → g.calls ≡ noted (read_call name false) f.calls → g.faults ≡ f.faults → g.holds ≡ f.holds → f.faults ≤ g.faults
    → IfOk result (IsWordsFile letters bytes) → IfOk result (All (IsWord (length letters))) → IfErr result (SaysNoWords letters bytes) → HasNamedWords (Some name) letters f g result
named_read name letters f g bytes (Ok words) read calls quiet same counts file over err = record { ok = record { bytes = bytes; read = read; file = file }; words = over; made = made_one f g name bytes read.given calls; quiet = quiet; err = tt; same = same; counts = counts }
named_read name letters f g bytes (Err why) read calls quiet same counts file over err = record { ok = tt; words = tt; made = tt; quiet = tt; err = said_wordless name letters f g bytes read (made_one f g name bytes read.given calls) why err; same = same; counts = counts }

-- nothing was read of it
pub named_unread : (name : List ℕ) (letters : List (List ℕ)) (f g : FilesState) (why : Outcome) → IsWordless (Some name) letters f g why → g.holds ≡ f.holds → f.faults ≤ g.faults → HasNamedWords (Some name) letters f g (Err why)
named_unread name letters f g why is same counts = record { ok = tt; words = tt; made = tt; quiet = tt; err = is; same = same; counts = counts }

-- a task with prior answers has its names of outputs declared
pub names_declared : (s : System) (naming : Naming) (cache : Caching) → IsReady s naming cache → (cache.kept ≡ [] → ⊥) → names_read (Some s) ≡ Some naming
names_declared s naming cache ready some = by (declared_of s) refl
  where
    by : (d : Option (List (List ℕ))) → d ≡ declared_of s → names_read (Some s) ≡ Some naming
    by None is = absurd (some (ready.free (sym is)))
    by (Some names) is =
        ap (λ (o : Option (List (List ℕ))). option_map (λ (l : List (List ℕ)). record { names = l; brought = None }) o) (sym is)
        ∙ ap (λ (n : Naming). Some n) (ap first_naming is ∙ sym ready.named)

-- no file of words is named
pub none_named : (letters : List (List ℕ)) (f : FilesState) → HasNamedWords None letters f f (Ok [])
none_named letters f = record { ok = (refl, refl); words = All-nil (IsWord (length letters)); made = made_none f; quiet = refl; err = tt; same = refl; counts = omega arith }

-- words that are drawn are over the letters
words_drawn : (d : Option Drawn) (n : ℕ) (words : List (List ℕ)) → 1 ≤ n → AreDrawn d n words → All (IsWord n) words
words_drawn None n words some is = subst (λ (ws : List (List ℕ)). All (IsWord n) ws) (sym is) (All-nil (IsWord n))
words_drawn (Some d) n words some is = subst (λ (ws : List (List ℕ)). All (IsWord n) ws) (sym is) (drawn_are_words n d.count d.length d.seed some)

-- the words of a file, and drawn ones behind them
pub both_worded : (a : LearnValues) (letters : List (List ℕ)) (f g : FilesState) (r : Result (List (List ℕ)) Outcome) (named words : List (List ℕ)) → r ≡ Ok named → HasNamedWords a.words letters f g r → 1 ≤ length letters → (drawn : List (List ℕ)) × (words ≡ named ++ drawn) × AreDrawn a.drawn (length letters) drawn → length words < 2 ^ 32 → HasWorded a letters f g (Ok words)
both_worded a letters f g r named words is was some all few = by (subst (λ (x : Result (List (List ℕ)) Outcome). HasNamedWords a.words letters f g x) is was)
  where
    by : HasNamedWords a.words letters f g (Ok named) → HasWorded a letters f g (Ok words)
    by has = record {
      ok = record { named = named; drawn = all.0; whole = all.1; read = has.ok; made = all.2 };
      words = subst (λ (ws : List (List ℕ)). All (IsWord (length letters)) ws) (sym all.1) (All-append (IsWord (length letters)) named all.0 has.words (words_drawn a.drawn (length letters) all.0 some all.2));
      few = few;
      made = has.made;
      quiet = has.quiet;
      err = tt;
      same = has.same;
      counts = has.counts;
    }

-- memory ran out behind the file
pub none_worded : (a : LearnValues) (letters : List (List ℕ)) (f g : FilesState) (r : Result (List (List ℕ)) Outcome) (named : List (List ℕ)) → r ≡ Ok named → HasNamedWords a.words letters f g r → HasWorded a letters f g (Err NoMemory)
none_worded a letters f g r named is was = by (subst (λ (x : Result (List (List ℕ)) Outcome). HasNamedWords a.words letters f g x) is was)
  where
    by : HasNamedWords a.words letters f g (Ok named) → HasWorded a letters f g (Err NoMemory)
    by has = record { ok = tt; words = tt; few = tt; made = tt; quiet = tt; err = some_made f g has.made; same = has.same; counts = has.counts }

-- a task that was read, and then the words
module _ (a : LearnValues) (f m g : FilesState) (t : Task) (stage : IsStage a f m (SaysReady a f m) (Ok t)) where
  pub with_words : (words : List (List ℕ)) → HasWorded a (letters_of t.system) m g (Ok words) → IsWordedStage a f g (Ok (record { task = t; words = words }))
  with_words words has = record {
    ok = record {
      between = m.reads;
      task = stage.ok.says;
      says = subst (λ (h : Option (List File)). SaysWords a (letters_of t.system) h m.reads g.reads words) stage.same has.ok;
      ready = stage.ok.ready;
      fits = stage.ok.fits;
      letters = has.words;
      few = has.few;
    };
    made = made_then f m g [] stage.made has.made;
    quiet = has.quiet ∙ stage.quiet;
    err = tt;
    same = has.same ∙ stage.same;
    counts = omega (arith, stage.quiet, has.counts);
  }

  pub without_words : (why : Outcome) (u : UnreadState) → HasWorded a (letters_of t.system) m g (Err why) → u.outcome ≡ why → u.system ≡ Some t.system → u.kept ≡ t.cache.kept → IsWordedStage a f g (Err u)
  without_words why u has outcome system kept = record {
    ok = tt;
    made = tt;
    quiet = tt;
    err = inr (record {
      system = t.system;
      between = m;
      read_is = system;
      task = subst (λ (ks : List KeptAnswer). ReadsTask a f.holds f.reads m.reads t.system ks) (sym kept) stage.ok.says;
      made = stage.made;
      quiet = stage.quiet;
      same = stage.same;
      why = why;
      because = has.err;
      told = inl outcome;
    });
    same = has.same ∙ stage.same;
    counts = omega (arith, stage.quiet, has.counts);
  }

-- nothing was read
pub unread_stage : (a : LearnValues) (f g : FilesState) (u : UnreadState) → IsStage a f g (SaysReady a f g) (Err u) → IsWordedStage a f g (Err u)
unread_stage a f g u stage = record { ok = tt; made = tt; quiet = tt; err = inl stage.err; same = stage.same; counts = stage.counts }
