-- What is told of files is what was read of them.
use Rattle.std.proofs.Common.{◌≡◌, ◌∙◌, ⊎_elim, ℕ, ◌<◌, List, [], length, Option, Some, None, IsSome, codes, slice_index_or, true≢false, refl, ap, sym, subst, arith}
use Rattle.std.specs.List.{All}
use Rattle.std.specs.Str.Lossy.{utf8_lossy}
use Rattle.lw_words.specs.Cause.{CountedFault}
use Rattle.lw_words.specs.Word.{number_of}
use Rattle.lw_words.specs.declared.kept.KeptAnswer.{KeptAnswer}
use Rattle.lw_wordlist.specs.Lines.{lines_in}
use Rattle.lw_wordlist.specs.Words.{HasLetters, IsFirstUnknown, names_in, word_of_names, words_of_texts}
use Rattle.lw_wordlist.proofs.WordLemmas.{known_by}
use Rattle.std.proofs.lemmas.Option.{slice_get_within, get_or_from_slice_get}
use Rattle.lw_accept.specs.Acceptor.{NamedAcceptor, question}
use Rattle.lw_accept.specs.AcceptorFile.{AreAcceptorLetters, IsAcceptorFault, IsAcceptorFile}
use Rattle.lw_accept.specs.AskedNames.{HaveNoRoom}
use Rattle.lw_accept.specs.View.{asked_names}
use Rattle.lw_accept.specs.declared.fault.AcceptorFault.{AcceptorFault}
use Rattle.lw_accept.specs.declared.fault.AcceptorFault.TheVariants.{NotJson, Shape, Inputs, Reserved, NoState, TooMany, Lengths, Ragged, Target, NoMemory as NoMemoryToAccept}
use Rattle.lw_json.proofs.NoFault.{each_some, names_none}
use Rattle.lw_json.proofs.OneAnswers.{one_answers}
use Rattle.lw_json.proofs.OneValue.{one_value}
use Rattle.lw_json.specs.AnswersFault.{IsAnswersFault}
use Rattle.lw_json.specs.Formats.{IsAnswersFile, IsMachineFile, texts_at}
use Rattle.lw_json.specs.MachineFault.{IsMachineFault}
use Rattle.lw_json.specs.SetupFile.{IsSetupFault, IsSetupFile, SpellsSetup, WrittenSetup, setup_said, table, command}
use Rattle.lw_json.specs.declared.files.Answers.{Answers}
use Rattle.lw_json.specs.declared.fault.JsonFault.{JsonFault}
use Rattle.lw_json.specs.declared.files.Machine.{Machine}
use Rattle.lw_json.specs.declared.setup.Setup.{Setup}
use Rattle.lw_json.specs.declared.setup.Setup.TheVariants as setup
use Rattle.lw_outside.specs.Files.{File, HoldsLong, file_at, longest_of, FilesState, ReadsFile}
use Rattle.lw_json.specs.FitNames.{FitNames}
use Rattle.lw_system.specs.Reading.{ReadsBadFile, TellsBad, TellsFile}
use Rattle.lw_report.specs.declared.outcome.Outcome.{Outcome}
use Rattle.lw_report.specs.declared.outcome.Outcome.TheVariants.{Learned, Trial, Yes, Served, No, Usage, BadFile, Alphabets, FileTooLong, Nondeterministic, NoMemory, SulFailed, Gone, BadLine, BadAsk, TooManyStates, SuiteTooLarge, FileFault, SourceFault, SinkFault, Compared, Asked, Helped, Rechecked, UnknownLetter, Unstarted, Accepted, BadAcceptor, NotAcceptor}
use Rattle.lw_report.specs.declared.role.Role.{Role}
use Rattle.lw_report.specs.declared.role.Role.TheVariants as role
use Rattle.lw_learn.specs.Arguments.{LearnValues}
use Rattle.lw_learn.specs.Probes.{FailsProbe, IsUnwritable, WantsProbe, written_files}
use Rattle.lw_learn.specs.Asking.{IsWordless, IsWordlessTask, IsWordsFile, ReadsUnknown}
use Rattle.lw_learn.specs.Tasks.{ReadsPrior, with_outputs}
use Rattle.lw_system.specs.AcceptorFinding.{HasNoRoomFor}
use Rattle.lw_system.specs.AcceptorSystems.{IsViewFile, IsViewOf, ReadsAcceptorSystem, SaysAcceptorSystem}
use Rattle.lw_system.specs.Goals.{IsModelFile, ReadsSystemFor}
use Rattle.lw_system.specs.Systems.{FitsSystem, ReadsSystem, SaysSystem, declared_of, letters_of, or_these}
use Rattle.lw_system.specs.declared.goal.Goal.{Goal}
use Rattle.lw_system.specs.declared.goal.Goal.TheVariants as aim
use Rattle.lw_learn.specs.Told.{BadIsRefused, IsNoRefusal, TellsAsked, TellsAskedSystem, TellsNoSystem, TellsPrior, TellsSetup, TellsSystem, TellsSystemFor, TellsTask, TellsWords, ToldIsLearned}
use Rattle.lw_learn.specs.Unread.{IsBadAcceptor, IsNext, IsTableNext, IsUnreadAs, IsUnreadBy, ReadsBad, ReadsBadAcceptor}
use Rattle.lw_learn.proofs.RunLemmas.{counted_to}
use Rattle.lw_system.specs.declared.source.Source.{Source}
use Rattle.lw_system.specs.declared.source.Source.TheVariants as source
use Rattle.lw_system.specs.declared.system.System.{System}
use Rattle.lw_system.specs.declared.system.System.TheVariants.{Table, Children}

module _ {A : Type 0} where
  some_same : (a b : A) → Some a ≡ Some b → a ≡ b
  some_same a b same = ap by same
    where
      by : Option A → A
      by None = a
      by (Some x) = x

-- a setup file has one value
spells_one : (x : WrittenSetup) (v w : Setup) → SpellsSetup x v → SpellsSetup x w → v ≡ w
spells_one (table name) (setup.Table t) (setup.Table u) one two = ap (λ (n : List ℕ). setup.Table n) (one ∙ sym two)
spells_one (table name) (setup.Table t) (setup.Command c) one two = absurd two
spells_one (table name) (setup.Command c) v one two = absurd one
spells_one (command words inputs outputs) (setup.Table t) v one two = absurd one
spells_one (command words inputs outputs) (setup.Command c) (setup.Table t) one two = absurd two
spells_one (command words inputs outputs) (setup.Command c) (setup.Command d) one two =
    ap (λ (x : List (List ℕ)). setup.Command (record { words = x; inputs = c.inputs; outputs = c.outputs })) (one.0 ∙ sym two.0)
    ∙ (ap (λ (x : List (List ℕ)). setup.Command (record { words = d.words; inputs = x; outputs = c.outputs })) (one.1 ∙ sym two.1)
    ∙ ap (λ (x : Option (List (List ℕ))). setup.Command (record { words = d.words; inputs = d.inputs; outputs = x })) (one.2 ∙ sym two.2))

one_setup : (bytes : List ℕ) (v w : Setup) → IsSetupFile bytes v → IsSetupFile bytes w → v ≡ w
one_setup bytes v w f g =
    let value : f.0 ≡ g.0 = some_same f.0 g.0 (sym f.1.1 ∙ g.1.1) in
    let said : f.2.0 ≡ g.2.0 = some_same f.2.0 g.2.0 (sym f.2.1 ∙ (ap setup_said value ∙ g.2.1)) in
    spells_one g.2.0 v w (subst (λ (x : WrittenSetup). SpellsSetup x v) said f.2.2) g.2.2

same_bytes : (held : Option (List ℕ)) (b c : List ℕ) → held ≡ Some b → held ≡ Some c → b ≡ c
same_bytes held b c one two = some_same b c (sym one ∙ two)

module _ {V F : Type 0} (IsFile : List ℕ → V → Type 0) (HasFirst : List ℕ → F → Type 0) (name : List ℕ) where
  told_not_bad : (holds : Option (List File)) (before after : List File) (fault : F) (v : V) → TellsFile IsFile holds name v → ReadsBadFile IsFile HasFirst name holds before after fault → ⊥
  told_not_bad None before after fault v told read = absurd told
  told_not_bad (Some fs) before after fault v told read = read.bad v (subst (λ (b : List ℕ). IsFile b v) (same_bytes (file_at name fs) told.0 read.bytes told.1 read.read.held) told.3)

  told_not_long : (holds : Option (List File)) (v : V) → TellsFile IsFile holds name v → HoldsLong holds name → ⊥
  told_not_long None v told long = absurd told
  told_not_long (Some fs) v told long =
      let same : told.0 ≡ long.0 = same_bytes (file_at name fs) told.0 long.0 told.1 long.1 in
      omega (arith, told.2, long.2, ap (λ (l : List ℕ). length l) same, ap longest_of same)

  told_same : (holds : Option (List File)) (before after : List File) (v w : V) → TellsFile IsFile holds name v → ReadsFile IsFile name holds before after w → (bytes : List ℕ) × IsFile bytes v × IsFile bytes w
  told_same None before after v w told read = absurd told
  told_same (Some fs) before after v w told read = (read.bytes, subst (λ (b : List ℕ). IsFile b v) (same_bytes (file_at name fs) told.0 read.bytes told.1 read.read.held) told.3, read.file)

  bad_not_read : (holds : Option (List File)) (before after : List File) (w : V) → TellsBad IsFile holds name → ReadsFile IsFile name holds before after w → ⊥
  bad_not_read None before after w told read = told
  bad_not_read (Some fs) before after w told read =
      let same : told.0 ≡ read.bytes = same_bytes (file_at name fs) told.0 read.bytes told.1 read.read.held in
      ⊎_elim
      (λ (long : longest_of told.0 < length told.0). omega (arith, long, read.read.short, ap (λ (l : List ℕ). length l) same, ap longest_of same))
      (λ (none : (v : V) → ¬ IsFile told.0 v). none w (subst (λ (b : List ℕ). IsFile b w) (sym same) read.file))
      told.2

-- why there may be none
abbrev AnyFault : List ℕ → JsonFault → Type 0
AnyFault bytes fault = ⊥

-- a file in this role is told under the name, by what is to be learned
abbrev TellsRole : Role → Goal → Option (List File) → List ℕ → Type 0
TellsRole role.Setup k holds name = (v : Setup) × TellsFile IsSetupFile holds name v
TellsRole role.Table k holds name = (m : Machine) × TellsFile (IsModelFile k) holds name m
TellsRole role.Prior k holds name = (p : Answers) × TellsFile IsAnswersFile holds name p
TellsRole role.Model k holds name = ⊥
TellsRole role.Answers k holds name = ⊥
TellsRole role.Second k holds name = ⊥
TellsRole role.Words k holds name = ⊥
TellsRole role.Kept k holds name = ⊥
TellsRole role.Last k holds name = ⊥

table_told : (kind : Source) (system : List ℕ) (holds : Option (List File)) (before now : List File) (name : List ℕ) (s : System) → IsTableNext kind system holds before now name → TellsSystem kind system holds s → (m : Machine) × TellsFile IsMachineFile holds name m
table_told source.Table system holds before now name s next told = (told.0, subst (λ (n : List ℕ). TellsFile IsMachineFile holds n told.0) (sym next.0) told.1)
table_told source.Setup system holds before now name s next told =
    let both = told_same IsSetupFile IsSetupFault system holds before now told.0 (setup.Table name) told.1 next in
    let said = subst (λ (v : Setup). TellsSetup v holds s) (one_setup both.0 told.0 (setup.Table name) both.1 both.2) told.2 in
    (said.0, said.1)

asked_told : (kind : Source) (system : List ℕ) (holds : Option (List File)) (before now : List File) (name : List ℕ) (s : System) → IsTableNext kind system holds before now name → TellsAskedSystem kind system holds s → (m : Machine) × TellsFile IsViewFile holds name m
asked_told source.Table system holds before now name s next told = (told.0, subst (λ (n : List ℕ). TellsFile IsViewFile holds n told.0) (sym next.0) told.1)
asked_told source.Setup system holds before now name s next told =
    let both = told_same IsSetupFile IsSetupFault system holds before now told.0 (setup.Table name) told.1 next in
    let said = subst (λ (v : Setup). TellsAsked v holds s) (one_setup both.0 told.0 (setup.Table name) both.1 both.2) told.2 in
    (said.0, said.1)

table_told_for : (k : Goal) (kind : Source) (system : List ℕ) (holds : Option (List File)) (before now : List File) (name : List ℕ) (s : System) → IsTableNext kind system holds before now name → TellsSystemFor k kind system holds s → (m : Machine) × TellsFile (IsModelFile k) holds name m
table_told_for aim.Machine kind system holds before now name s next told = table_told kind system holds before now name s next told
table_told_for aim.Acceptor kind system holds before now name s next told = asked_told kind system holds before now name s next told

setup_told : (k : Goal) (system : List ℕ) (holds : Option (List File)) (s : System) → TellsSystemFor k source.Setup system holds s → (v : Setup) × TellsFile IsSetupFile holds system v
setup_told aim.Machine system holds s told = (told.0, told.1)
setup_told aim.Acceptor system holds s told = (told.0, told.1)

role_told : (a : LearnValues) (holds : Option (List File)) (before now : List File) (r : Role) (name : List ℕ) (read : Option System) (s : System) → TellsTask a holds s → IsNext a holds before now r name read → TellsRole r a.goal holds name
role_told a holds before now role.Setup name read s told next =
    let said = setup_told a.goal a.system holds s (subst (λ (kind : Source). TellsSystemFor a.goal kind a.system holds s) next.0 told.system) in
    (said.0, subst (λ (n : List ℕ). TellsFile IsSetupFile holds n said.0) (sym next.1) said.1)
role_told a holds before now role.Table name read s told next = table_told_for a.goal a.source a.system holds before now name s next.0 told.system
role_told a holds before now role.Prior name read s told next =
    let said = subst (λ (o : Option (List ℕ)). TellsPrior o holds s) next.0 told.prior in
    (said.0, said.1)
role_told a holds before now role.Model name read s told next = absurd next
role_told a holds before now role.Answers name read s told next = absurd next
role_told a holds before now role.Second name read s told next = absurd next
role_told a holds before now role.Words name read s told next = absurd next
role_told a holds before now role.Kept name read s told next = absurd next
role_told a holds before now role.Last name read s told next = absurd next

role_not_bad : (r : Role) (k : Goal) (name : List ℕ) (holds : Option (List File)) (now after : List File) (fault : JsonFault) → TellsRole r k holds name → ReadsBad r k name holds now after fault → ⊥
role_not_bad role.Setup k name holds now after fault told bad = told_not_bad IsSetupFile IsSetupFault name holds now after fault told.0 told.1 bad
role_not_bad role.Table aim.Machine name holds now after fault told bad = told_not_bad IsMachineFile IsMachineFault name holds now after fault told.0 told.1 bad
role_not_bad role.Table aim.Acceptor name holds now after fault told bad = bad
role_not_bad role.Prior k name holds now after fault told bad = told_not_bad IsAnswersFile IsAnswersFault name holds now after fault told.0 told.1 bad
role_not_bad role.Model k name holds now after fault told bad = told
role_not_bad role.Answers k name holds now after fault told bad = told
role_not_bad role.Second k name holds now after fault told bad = told
role_not_bad role.Words k name holds now after fault told bad = told
role_not_bad role.Kept k name holds now after fault told bad = told
role_not_bad role.Last k name holds now after fault told bad = told

role_not_long : (r : Role) (k : Goal) (name : List ℕ) (holds : Option (List File)) → TellsRole r k holds name → HoldsLong holds name → ⊥
role_not_long role.Setup k name holds told long = told_not_long IsSetupFile IsSetupFault name holds told.0 told.1 long
role_not_long role.Table k name holds told long = told_not_long (IsModelFile k) AnyFault name holds told.0 told.1 long
role_not_long role.Prior k name holds told long = told_not_long IsAnswersFile IsAnswersFault name holds told.0 told.1 long
role_not_long role.Model k name holds told long = told
role_not_long role.Answers k name holds told long = told
role_not_long role.Second k name holds told long = told
role_not_long role.Words k name holds told long = told
role_not_long role.Kept k name holds told long = told
role_not_long role.Last k name holds told long = told

-- an acceptor's file that is told isn't bad
view_not_bad : (name : List ℕ) (holds : Option (List File)) (now after : List File) (fault : AcceptorFault) (m : Machine) → TellsFile IsViewFile holds name m → ReadsBadFile IsAcceptorFile IsAcceptorFault name holds now after fault → ⊥
view_not_bad name holds now after fault m told bad = told_not_bad IsViewFile IsAcceptorFault name holds now after fault m told (record { bytes = bad.bytes; read = bad.read; first = bad.first; bad = λ machine file. bad.bad file.0 file.1 })

-- names of an acceptor's letters leave room for `?`
room_is_there : (names : List (List ℕ)) (fault : AcceptorFault) → AreAcceptorLetters names → HaveNoRoom names fault → fault ≡ NoMemoryToAccept
room_is_there names NotJson letters none = absurd none
room_is_there names (Shape field) letters none = absurd none
room_is_there names (Inputs fault) letters none = absurd (names_none 63 names fault letters.0.0 letters.0.1 none)
room_is_there names (Reserved place) letters none = absurd (letters.1 (place, slice_get_within names place question none.1, get_or_from_slice_get names place question question none.1))
room_is_there names NoState letters none = absurd none
room_is_there names (TooMany count) letters none = absurd none
room_is_there names Lengths letters none = absurd none
room_is_there names (Ragged state) letters none = absurd none
room_is_there names (Target state letter next) letters none = absurd none
room_is_there names NoMemoryToAccept letters none = refl

-- nor are the letters of a setup that is told
asked_not_bad : (a : LearnValues) (f g : FilesState) (fault : AcceptorFault) (s : System) → TellsTask a f.holds s → IsBadAcceptor a f g fault → ⊥
asked_not_bad a f g fault s told bad = ⊎_elim file letters bad.cause
  where
    file : ReadsBadAcceptor a f g fault → ⊥
    file b =
        let found = asked_told a.source a.system f.holds f.reads b.before b.name s b.next (subst (λ (k : Goal). TellsSystemFor k a.source a.system f.holds s) bad.goal told.system) in
        view_not_bad b.name f.holds b.before g.reads fault found.0 found.1 b.bad

    letters : (a.source ≡ source.Setup) × HasNoRoomFor a.system f g fault → ⊥
    letters both =
        let none = both.1 in
        let said : TellsAskedSystem source.Setup a.system f.holds s =
        subst (λ (kind : Source). TellsAskedSystem kind a.system f.holds s) both.0 (subst (λ (k : Goal). TellsSystemFor k a.source a.system f.holds s) bad.goal told.system) in
        let same = told_same IsSetupFile IsSetupFault a.system f.holds f.reads g.reads said.0 (setup.Command none.command) said.1 none.said.file in
        let command = subst (λ (v : Setup). TellsAsked v f.holds s) (one_setup same.0 said.0 (setup.Command none.command) same.1 same.2) said.2 in
        none.told (room_is_there none.command.inputs fault command.0 none.fault_is)

-- the names of a system that is told are those of the one that was read
abbrev SameNames : System → System → Type 0
SameNames s t = (letters_of s ≡ letters_of t) × (declared_of s ≡ declared_of t)

machines_same : (name : List ℕ) (holds : Option (List File)) (before now : List File) (m n : Machine) (s t : System) → TellsFile IsMachineFile holds name m → s ≡ Table m → ReadsFile IsMachineFile name holds before now n → t ≡ Table n → SameNames s t
machines_same name holds before now m n s t told s_is read t_is =
    let both = told_same IsMachineFile IsMachineFault name holds before now m n told read in
    let same = one_value both.0 m n both.1 both.2 in (
      ap (λ (x : System). letters_of x) s_is ∙ (same.inputs ∙ ap (λ (x : System). letters_of x) (sym t_is)),
      ap (λ (x : System). declared_of x) s_is ∙ (ap (λ (x : List (List ℕ)). Some x) same.outputs ∙ ap (λ (x : System). declared_of x) (sym t_is)),
    )

said_same : (v : Setup) (holds : Option (List File)) (before now : List File) (s t : System) → TellsSetup v holds s → SaysSystem v holds before now t → SameNames s t
said_same (setup.Table name) holds before now s t told read = machines_same name holds before now told.0 read.0 s t told.1 told.2 read.1 read.2
said_same (setup.Command c) holds before now s t told read = let same : s ≡ t = told ∙ sym read.1 in (ap (λ (x : System). letters_of x) same, ap (λ (x : System). declared_of x) same)

systems_same : (k : Source) (system : List ℕ) (holds : Option (List File)) (before now : List File) (s t : System) → TellsSystem k system holds s → ReadsSystem k system holds before now t → SameNames s t
systems_same source.Table system holds before now s t told read = machines_same system holds before now told.0 read.0 s t told.1 told.2 read.1 read.2
systems_same source.Setup system holds before now s t told read =
    let both = told_same IsSetupFile IsSetupFault system holds before read.0 told.0 read.1 told.1 read.2 in
    said_same read.1 holds read.0 now s t (subst (λ (v : Setup). TellsSetup v holds s) (one_setup both.0 told.0 read.1 both.1 both.2) told.2) read.3

-- an acceptor file has one list of letters
one_list : (bytes : List ℕ) (m n : NamedAcceptor) → IsAcceptorFile bytes m → IsAcceptorFile bytes n → m.inputs ≡ n.inputs
one_list bytes m n f g =
    let value : f.0 ≡ g.0 = some_same f.0 g.0 (sym f.1.1 ∙ g.1.1) in
    sym f.2.2.inputs ∙ (some_same f.2.0.inputs g.2.0.inputs (sym f.2.1.inputs ∙ (ap (texts_at (codes "inputs")) value ∙ g.2.1.inputs)) ∙ g.2.2.inputs)

-- and of one that is asked for an acceptor
views_same : (name : List ℕ) (holds : Option (List File)) (before now : List File) (machine other : Machine) (m : NamedAcceptor) (s t : System) → TellsFile IsViewFile holds name machine → s ≡ Table machine → ReadsFile IsAcceptorFile name holds before now m → IsViewOf m other → t ≡ Table other → SameNames s t
views_same name holds before now machine other m s t told s_is read viewed t_is =
    let file : ReadsFile IsViewFile name holds before now other = record { bytes = read.bytes; read = read.read; file = (m, read.file, viewed) } in
    let both = told_same IsViewFile IsAcceptorFault name holds before now machine other told file in
    let same : both.1.0.inputs ≡ both.2.0.inputs = one_list both.0 both.1.0 both.2.0 both.1.1 both.2.1 in (
      ap (λ (x : System). letters_of x) s_is
          ∙ (both.1.2.inputs ∙ (ap asked_names same ∙ (sym both.2.2.inputs ∙ ap (λ (x : System). letters_of x) (sym t_is)))),
      ap (λ (x : System). declared_of x) s_is
          ∙ (ap (λ (x : List (List ℕ)). Some x) (both.1.2.outputs ∙ sym both.2.2.outputs) ∙ ap (λ (x : System). declared_of x) (sym t_is)),
    )

asked_said_same : (v : Setup) (holds : Option (List File)) (before now : List File) (s t : System) → TellsAsked v holds s → SaysAcceptorSystem v holds before now t → SameNames s t
asked_said_same (setup.Table name) holds before now s t told read = views_same name holds before now told.0 read.2.0 read.0 s t told.1 told.2 read.1 read.2.1 read.2.2
asked_said_same (setup.Command c) holds before now s t told read = let same : s ≡ t = told.1 ∙ sym read.2 in (ap (λ (x : System). letters_of x) same, ap (λ (x : System). declared_of x) same)

asked_same : (kind : Source) (system : List ℕ) (holds : Option (List File)) (before now : List File) (s t : System) → TellsAskedSystem kind system holds s → ReadsAcceptorSystem kind system holds before now t → SameNames s t
asked_same source.Table system holds before now s t told read = asked_said_same (setup.Table system) holds before now s t told read
asked_same source.Setup system holds before now s t told read =
    let both = told_same IsSetupFile IsSetupFault system holds before read.0 told.0 read.1 told.1 read.2 in
    asked_said_same read.1 holds read.0 now s t (subst (λ (v : Setup). TellsAsked v holds s) (one_setup both.0 told.0 read.1 both.1 both.2) told.2) read.3

same_for : (k : Goal) (kind : Source) (system : List ℕ) (holds : Option (List File)) (before now : List File) (s t : System) → TellsSystemFor k kind system holds s → ReadsSystemFor k kind system holds before now t → SameNames s t
same_for aim.Machine kind system holds before now s t told read = systems_same kind system holds before now s t told read
same_for aim.Acceptor kind system holds before now s t told read = asked_same kind system holds before now s t told read

fits_same : (p q : Answers) (s t : System) → p.inputs ≡ q.inputs → p.outputs ≡ q.outputs → SameNames s t → FitsSystem p s → FitsSystem q t
fits_same p q s t inputs outputs same fits =
    subst (λ (l : List (List ℕ)). FitNames q.inputs q.outputs l (or_these q.outputs (declared_of t))) same.0
    (subst (λ (d : Option (List (List ℕ))). FitNames q.inputs q.outputs (letters_of s) (or_these q.outputs d)) same.1
    (subst (λ (i : List (List ℕ)). FitNames i q.outputs (letters_of s) (or_these q.outputs (declared_of s))) inputs
    (subst (λ (o : List (List ℕ)). FitNames p.inputs o (letters_of s) (or_these o (declared_of s))) outputs fits)))

-- by the outcome, why no learning began
taken_by : (a : LearnValues) (f g : FilesState) (read : Option System) (kept : List KeptAnswer) (s : System) → TellsTask a f.holds s → (¬ CountedFault f.faults g.faults) → (outcome : Outcome) → IsUnreadBy a f g read kept outcome → IsNoRefusal outcome
taken_by a f g read kept s told quiet NoMemory is = tt
taken_by a f g read kept s told quiet (Nondeterministic clash) is = tt
taken_by a f g read kept s told quiet (BadFile r fault) is = absurd (role_not_bad r a.goal is.1 f.holds is.0 g.reads fault (role_told a f.holds f.reads is.0 r is.1 read s told is.2) is.3)
taken_by a f g read kept s told quiet (FileTooLong r) is = absurd (role_not_long r a.goal is.0 f.holds (role_told a f.holds f.reads g.reads r is.0 read s told is.1) is.2)
taken_by a f g read kept s told quiet (FileFault r) is = absurd (quiet is.2)
taken_by a f g read kept s told quiet (Alphabets r) is =
    let why = is.1 in
    let said = subst (λ (o : Option (List ℕ)). TellsPrior o f.holds s) why.4.0 told.prior in
    let both = told_same IsAnswersFile IsAnswersFault why.1 f.holds why.0 g.reads said.0 why.3 said.1 why.6 in
    let same = one_answers both.0 said.0 why.3 both.1 both.2 in
    let here : why.4.1.0 ≡ why.2 = some_same why.4.1.0 why.2 (sym why.4.1.1 ∙ why.5) in
    let was = subst (λ (t : System). ReadsSystemFor a.goal a.source a.system f.holds f.reads why.0 t) here why.4.1.2 in
    absurd (why.7 (fits_same said.0 why.3 s why.2 same.inputs same.outputs (same_for a.goal a.source a.system f.holds f.reads why.0 s why.2 told.system was) said.2))
taken_by a f g read kept s told quiet (Learned h r) is = is
taken_by a f g read kept s told quiet (Trial t) is = is
taken_by a f g read kept s told quiet (Accepted states r) is = is
taken_by a f g read kept s told quiet (BadAcceptor fault) is = absurd (asked_not_bad a f g fault s told is.0)
taken_by a f g read kept s told quiet (NotAcceptor q x) is = is
taken_by a f g read kept s told quiet (Yes states) is = is
taken_by a f g read kept s told quiet (Served served) is = is
taken_by a f g read kept s told quiet (No verdict) is = is
taken_by a f g read kept s told quiet Usage is = is
taken_by a f g read kept s told quiet (SulFailed i) is = is
taken_by a f g read kept s told quiet (Gone i) is = is
taken_by a f g read kept s told quiet (BadLine i line) is = is
taken_by a f g read kept s told quiet (BadAsk number) is = is
taken_by a f g read kept s told quiet (TooManyStates words) is = is
taken_by a f g read kept s told quiet (SuiteTooLarge states number) is = is
taken_by a f g read kept s told quiet SourceFault is = is
taken_by a f g read kept s told quiet (Compared comparison) is = is
taken_by a f g read kept s told quiet Asked is = is
taken_by a f g read kept s told quiet Helped is = is
taken_by a f g read kept s told quiet (Rechecked answers) is = is
taken_by a f g read kept s told quiet (UnknownLetter word place) is = is
taken_by a f g read kept s told quiet (Unstarted cause) is = is
taken_by a f g read kept s told quiet SinkFault is = is

-- prior answers change no letters
letters_kept : (names : List (List ℕ)) (s : System) → letters_of (with_outputs names s) ≡ letters_of s
letters_kept names (Table m) = refl
letters_kept names (Children c) = refl

pub prior_letters : (file : Option (List ℕ)) (holds : Option (List File)) (before after : List File) (read s : System) (kept : List KeptAnswer) → ReadsPrior file holds before after read s kept → letters_of s ≡ letters_of read
prior_letters None holds before after read s kept is = ap (λ (x : System). letters_of x) is.1
prior_letters (Some name) holds before after read s kept is = ap (λ (x : System). letters_of x) is.3 ∙ letters_kept is.0.outputs read

some_value : {X : Type 0} (x : Option X) → IsSome x → (v : X) × (x ≡ Some v)
some_value None is = absurd (true≢false (sym is))
some_value (Some v) is = (v, refl)

-- texts that all have words have letters alone
letters_in : (letters texts words : List (List ℕ)) → words_of_texts letters texts ≡ Some words → All (HasLetters letters) texts
letters_in letters texts words is i d lt name e within =
    let text = each_some (λ t. word_of_names letters (names_in t)) texts (rw is refl) i d lt in
    let found = some_value (number_of (slice_index_or (names_in (slice_index_or texts i d)) name e) letters) (each_some (λ n. number_of n letters) (names_in (slice_index_or texts i d)) text name e within) in
    known_by letters (slice_index_or (names_in (slice_index_or texts i d)) name e) found.0 found.1

-- so none of them is the first that has none
none_unknown : (letters texts words : List (List ℕ)) (word place : ℕ) → words_of_texts letters texts ≡ Some words → IsFirstUnknown letters texts word place → ⊥
none_unknown letters texts words word place is first = first.2.fails [] (letters_in letters texts words is first.0 [] first.2.within)

told_not_unknown : (name : List ℕ) (letters : List (List ℕ)) (holds : Option (List File)) (before after : List File) (word place : ℕ) (words : List (List ℕ)) → TellsFile (IsWordsFile letters) holds name words → ReadsUnknown name letters holds before after word place → ⊥
told_not_unknown name letters None before after word place words told read = absurd told
told_not_unknown name letters (Some fs) before after word place words told read =
    let same = same_bytes (file_at name fs) told.0 read.bytes told.1 read.read.held in
    none_unknown letters (lines_in (utf8_lossy read.bytes)) words word place (subst (λ (b : List ℕ). IsWordsFile letters b words) same told.3) read.first

-- the words of a file that is named, by its name
named_words : (file : Option (List ℕ)) (name : List ℕ) (letters : List (List ℕ)) (holds : Option (List File)) → TellsWords file holds letters → file ≡ Some name → (words : List (List ℕ)) × TellsFile (IsWordsFile letters) holds name words
named_words file name letters holds told is = subst (λ (f : Option (List ℕ)). TellsWords f holds letters) is told

-- where the words are told there are some to ask, but that memory may run out
memory_alone : (file : Option (List ℕ)) (letters : List (List ℕ)) (f g : FilesState) → TellsWords file f.holds letters → (¬ CountedFault f.faults g.faults) → (why : Outcome) → IsWordless file letters f g why → why ≡ NoMemory
memory_alone file letters f g told quiet NoMemory is = refl
memory_alone file letters f g told quiet (FileFault r) is = absurd (quiet is.1.2)
memory_alone file letters f g told quiet (FileTooLong r) is =
    let words = named_words file is.1.0 letters f.holds told is.1.1 in
    absurd (told_not_long (IsWordsFile letters) AnyFault is.1.0 f.holds words.0 words.1 is.1.2)
memory_alone file letters f g told quiet (UnknownLetter word place) is =
    let words = named_words file is.0 letters f.holds told is.1 in
    absurd (told_not_unknown is.0 letters f.holds f.reads g.reads word place words.0 words.1 is.2)
memory_alone file letters f g told quiet (BadFile r fault) is = absurd is
memory_alone file letters f g told quiet (Alphabets r) is = absurd is
memory_alone file letters f g told quiet (Nondeterministic clash) is = absurd is
memory_alone file letters f g told quiet (Learned h r) is = absurd is
memory_alone file letters f g told quiet (Trial t) is = absurd is
memory_alone file letters f g told quiet (Yes states) is = absurd is
memory_alone file letters f g told quiet (Served served) is = absurd is
memory_alone file letters f g told quiet (No verdict) is = absurd is
memory_alone file letters f g told quiet Usage is = absurd is
memory_alone file letters f g told quiet (SulFailed i) is = absurd is
memory_alone file letters f g told quiet (Gone i) is = absurd is
memory_alone file letters f g told quiet (BadLine i line) is = absurd is
memory_alone file letters f g told quiet (BadAsk number) is = absurd is
memory_alone file letters f g told quiet (TooManyStates words) is = absurd is
memory_alone file letters f g told quiet (SuiteTooLarge states number) is = absurd is
memory_alone file letters f g told quiet SourceFault is = absurd is
memory_alone file letters f g told quiet (Compared comparison) is = absurd is
memory_alone file letters f g told quiet Asked is = absurd is
memory_alone file letters f g told quiet Helped is = absurd is
memory_alone file letters f g told quiet (Rechecked answers) is = absurd is
memory_alone file letters f g told quiet (Accepted states refinements) is = absurd is
memory_alone file letters f g told quiet (BadAcceptor bad) is = absurd is
memory_alone file letters f g told quiet (NotAcceptor state letter) is = absurd is
memory_alone file letters f g told quiet (Unstarted cause) is = absurd is
memory_alone file letters f g told quiet SinkFault is = absurd is

pub told_is_learned : ToldIsLearned
told_is_learned a f g b z o p e d end s told quiet ended = ⊎_elim unread (⊎_elim wordless unwritable) ended.cause
  where
    memory : end.outcome ≡ NoMemory → IsNoRefusal end.outcome
    memory is = subst (λ (x : Outcome). IsNoRefusal x) (sym is) tt

    between_quiet : ¬ CountedFault f.faults ended.between.faults
    between_quiet h = quiet (counted_to f.faults ended.between.faults g.faults h ended.saved.saved.counts)

    unread : IsUnreadAs a f ended.between ended.read end.kept.answers end.outcome → IsNoRefusal end.outcome
    unread by = ⊎_elim
        (λ (is : IsUnreadBy a f ended.between ended.read end.kept.answers end.outcome). taken_by a f ended.between ended.read end.kept.answers s told between_quiet end.outcome is)
        (λ (wants : (end.outcome ≡ NoMemory) × ((why : Outcome) × IsUnreadBy a f ended.between ended.read end.kept.answers why)). memory wants.0)
        by

    wordless : IsWordlessTask a f ended.between ended.read end.kept.answers end.outcome → IsNoRefusal end.outcome
    wordless by =
        let same : letters_of s ≡ letters_of by.task.read = (same_for a.goal a.source a.system f.holds f.reads by.task.between s by.task.read told.system by.task.system).0 in
        let letters : letters_of s ≡ letters_of by.system = same ∙ sym (prior_letters a.prior f.holds by.task.between by.between.reads by.task.read by.system end.kept.answers by.task.answers) in
        let words : TellsWords a.words by.between.holds (letters_of by.system) =
        subst (λ (h : Option (List File)). TellsWords a.words h (letters_of by.system)) (sym by.same) (subst (λ (l : List (List ℕ)). TellsWords a.words f.holds l) letters told.words) in
        let still : ¬ CountedFault by.between.faults ended.between.faults = subst (λ (n : ℕ). ¬ CountedFault n ended.between.faults) (sym by.quiet) between_quiet in
        ⊎_elim
        (λ (is : end.outcome ≡ by.why). memory (is ∙ memory_alone a.words (letters_of by.system) by.between ended.between words still by.why by.because))
        memory
        by.told

    unwritable : IsUnwritable a f ended.between ended.read end.kept.answers end.outcome → IsNoRefusal end.outcome
    unwritable by =
        let still : ¬ CountedFault by.middle.faults ended.between.faults = subst (λ (n : ℕ). ¬ CountedFault n ended.between.faults) (sym by.quiet) between_quiet in
        ⊎_elim
        (λ (is : end.outcome ≡ by.why).
        ⊎_elim
        (λ (fails : (role : Role) × (by.why ≡ FileFault role) × FailsProbe (written_files a) by.middle ended.between role). absurd (still fails.2.counted))
        (λ (wants : (by.why ≡ NoMemory) × WantsProbe (written_files a) by.middle ended.between). memory (is ∙ wants.0))
        by.because)
        memory
        by.told

system_not_bad : (kind : Source) (name : List ℕ) (holds : Option (List File)) (before now : List File) (t : System) → TellsNoSystem kind aim.Machine name holds → ReadsSystem kind name holds before now t → ⊥
system_not_bad source.Table name holds before now t told read = bad_not_read IsMachineFile IsMachineFault name holds before now read.0 told read.1
system_not_bad source.Setup name holds before now t told read = bad_not_read IsSetupFile IsSetupFault name holds before read.0 read.1 told read.2

asked_not_read : (kind : Source) (name : List ℕ) (holds : Option (List File)) (before now : List File) (t : System) → TellsNoSystem kind aim.Acceptor name holds → ReadsAcceptorSystem kind name holds before now t → ⊥
asked_not_read source.Table name holds before now t told read =
    bad_not_read IsViewFile IsAcceptorFault name holds before now read.2.0 told (record { bytes = read.1.bytes; read = read.1.read; file = (read.0, read.1.file, read.2.1) })
asked_not_read source.Setup name holds before now t told read = bad_not_read IsSetupFile IsSetupFault name holds before read.0 read.1 told read.2

bad_for : (k : Goal) (kind : Source) (name : List ℕ) (holds : Option (List File)) (before now : List File) (t : System) → TellsNoSystem kind k name holds → ReadsSystemFor k kind name holds before now t → ⊥
bad_for aim.Machine kind name holds before now t told read = system_not_bad kind name holds before now t told read
bad_for aim.Acceptor kind name holds before now t told read = asked_not_read kind name holds before now t told read

pub bad_is_refused : BadIsRefused
bad_is_refused a f g b z o p e d end told ended = bad_for a.goal a.source a.system f.holds f.reads ended.task.between ended.task.read told ended.task.system
