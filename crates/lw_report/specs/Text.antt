-- The text of each outcome, which ends in a line feed: a function of the outcome, of the names of the inputs and outputs, of
-- the recorded answers and of the number of extra states.
use Rattle.std.specs.Prelude.{ℕ, Bool, List, [], ◌++◌, length, codes, slice_get, if◌then◌else◌, Option, Some, None}
use Rattle.std.specs.Fmt.{decimal}
use Rattle.std.specs.List.{flat_map, join_by}
use Rattle.hex.specs.Hex.{encode_lower}
use Rattle.lw_words.specs.Word.{word_text}
use Rattle.lw_words.specs.declared.kept.KeptAnswer.{KeptAnswer}
use Rattle.lw_cache.specs.declared.stops.Clash.{Clash}
use Rattle.lw_certify.specs.declared.verdict.Verdict.{Verdict}
use Rattle.lw_certify.specs.declared.verdict.Verdict.TheVariants as verdict
use Rattle.lw_report.specs.Reasons.{acceptor_reason, reason_of, role_name}
use Rattle.lw_report.specs.declared.role.Role.{Role}
use Rattle.lw_report.specs.declared.role.Role.TheVariants.{Prior}
use Rattle.lw_outside.specs.declared.links.StartFailure.{StartFailure}
use Rattle.lw_outside.specs.declared.links.StartFailure.TheVariants.{NotFound, NotExecutable, Folder, System, Unknown}
use Rattle.lw_report.specs.declared.comparison.Comparison.{Comparison}
use Rattle.lw_report.specs.declared.comparison.Comparison.TheVariants.{Equal, Differ, OtherInputs}
use Rattle.lw_report.specs.declared.outcome.Outcome.{Outcome}
use Rattle.lw_report.specs.declared.outcome.Tried.{Tried}
use Rattle.lw_report.specs.declared.outcome.Outcome.TheVariants.{Learned, Trial, Yes, Served, No, Usage, BadFile, Alphabets, FileTooLong, Nondeterministic, NoMemory, SulFailed, Gone, BadLine, BadAsk, TooManyStates, SuiteTooLarge, FileFault, SourceFault, SinkFault, Compared, Asked, Helped, Rechecked, UnknownLetter, Unstarted, Accepted, BadAcceptor, NotAcceptor}

-- a word in quotes, its names joined by one blank, on a line of its own
abbrev pub word_line : List (List ℕ) → List ℕ → List ℕ
word_line names w = codes "\"" ++ (word_text names w ++ codes "\"\n")

-- a model's number of states, how often its learner was refined, the extra states, and the number of recorded answers
abbrev pub learned_line : (states refinements extra answers : ℕ) → List ℕ
learned_line states refinements extra answers =
    codes "learned: states " ++ (decimal states ++ (codes ", refinements " ++ (decimal refinements ++ (codes ", extra " ++ (decimal extra ++ (codes ", answers " ++ (decimal answers ++ codes "\n")))))))

-- an acceptor's number of states, how often the learner was refined, the extra states, and the number of recorded
-- answers
abbrev pub accepted_line : (states refinements extra answers : ℕ) → List ℕ
accepted_line states refinements extra answers =
    codes "accepted: states " ++ (decimal states ++ (codes ", refinements " ++ (decimal refinements ++ (codes ", extra " ++ (decimal extra ++ (codes ", answers " ++ (decimal answers ++ codes "\n")))))))

-- the first pair of a model that is none of an acceptor's machine
abbrev pub not_acceptor_line : (state letter : ℕ) → List ℕ
not_acceptor_line state letter = codes "not an acceptor: state " ++ (decimal state ++ (codes ", letter " ++ (decimal letter ++ codes "\n")))

-- the machine that was drawn, what was learned, and whether that is the machine
abbrev pub drawn_line : (states inputs seed : ℕ) → List ℕ
drawn_line states inputs seed = codes "trial: states " ++ (decimal states ++ (codes ", inputs " ++ (decimal inputs ++ (codes ", seed " ++ (decimal seed ++ codes "\n")))))

abbrev pub found_line : (states refinements answers : ℕ) → List ℕ
found_line states refinements answers =
    codes "learned: states " ++ (decimal states ++ (codes ", refinements " ++ (decimal refinements ++ (codes ", answers " ++ (decimal answers ++ codes "\n")))))

abbrev pub equal_line : Bool → List ℕ
equal_line equal = if equal then codes "equal: yes\n" else codes "equal: no\n"

abbrev pub trial_lines : Tried → List ℕ
trial_lines t = drawn_line t.states t.inputs t.seed ++ (found_line t.learned t.refinements t.answers ++ equal_line t.equal)

-- how many words are pairwise apart
abbrev pub crowd_line : ℕ → List ℕ
crowd_line count = codes "too many states: " ++ (decimal count ++ codes " words are pairwise apart\n")

-- and each of them
abbrev pub crowd_lines : List (List ℕ) → List (List ℕ) → List ℕ
crowd_lines names words = crowd_line (length words) ++ flat_map (word_line names) words

-- the arguments of each command: those of the first five lines, and what was added to these
abbrev pub usage_lines : List ℕ
usage_lines =
    codes "usage: learn (SETUP | --table FILE) [--workers N] [--extra K] [--learner table|ttt] [--max-states N] [--model FILE] [--answers FILE] [--prior FILE] [--suite w|wp]\n"
    ++ (codes "       accept (SETUP | --table FILE) [--workers N] [--extra K] [--learner table|ttt] [--max-states N] [--model FILE]\n"
    ++ (codes "       check MODEL ANSWERS [--extra K] [--suite w|wp]\n"
    ++ (codes "       serve MODEL\n"
    ++ (codes "       trial --states N --inputs A --seed S [--workers N] [--learner table|ttt]\n"
    ++ (codes "added: learn .. [--kept FILE] [--words FILE] [[--random R] [--walks N] --length L --seed S] [--log FILE] [--suite w|wp|h] [--last FILE] [--journal FILE] [--verbose]\n"
    ++ (codes "       accept .. [--kept FILE] [--words FILE] [[--random R] [--walks N] --length L --seed S] [--log FILE] [--last FILE] [--journal FILE] [--verbose]\n"
    ++ (codes "       check (MODEL | --acceptor FILE) ANSWERS [--extra K] [--suite w|wp|h]\n"
    ++ (codes "       ask (SETUP | --table FILE | --accept SETUP | --acceptor FILE) WORD...\n"
    ++ (codes "       recheck SETUP ANSWERS\n"
    ++ (codes "       compare MODEL MODEL\n"
    ++ (codes "       trial .. [--suite w|wp|h]\n"
    ++ codes "       help [COMMAND]\n")))))))))))

abbrev pub differs_line : ℕ → ℕ → List ℕ
differs_line answer place = codes "no: answer " ++ (decimal answer ++ (codes " differs at place " ++ (decimal place ++ codes "\n")))

abbrev pub unreached_line : ℕ → List ℕ
unreached_line state = codes "no: state " ++ (decimal state ++ codes " is unreached\n")

abbrev pub alike_line : (p q : ℕ) → List ℕ
alike_line p q = codes "no: states " ++ (decimal p ++ (codes " and " ++ (decimal q ++ codes " are alike\n")))

-- why answers don't fix a model
abbrev pub no_line : List (List ℕ) → Verdict → List ℕ
no_line inputs (verdict.Unreached state) = unreached_line state
no_line inputs (verdict.Alike p q) = alike_line p q
no_line inputs (verdict.Differs answer place) = differs_line answer place
no_line inputs (verdict.Missing word) = codes "no: word \"" ++ (word_text inputs word ++ codes "\" is missing\n")
no_line inputs (verdict.TooLarge size) = codes "no\n"
no_line inputs verdict.Sure = codes "no\n"

-- a run by its instance and number, with its word and its outputs by their names
abbrev pub run_line : List (List ℕ) → List (List ℕ) → Option KeptAnswer → List ℕ
run_line inputs outputs None = []
run_line inputs outputs (Some k) =
    codes "instance "
    ++ (decimal k.instance
    ++ (codes " run "
    ++ (decimal k.run
    ++ (codes ": " ++ (word_text inputs k.word ++ (codes " / " ++ (word_text outputs k.outs ++ codes "\n")))))))

-- the place at which two recorded answers differ, and both
abbrev pub clash_lines : List (List ℕ) → List (List ℕ) → List KeptAnswer → Clash → List ℕ
clash_lines inputs outputs kept clash =
    codes "nondeterministic at place "
    ++ (decimal clash.place
    ++ (codes "\n" ++ (run_line inputs outputs (slice_get kept clash.first) ++ run_line inputs outputs (slice_get kept clash.second))))

abbrev pub yes_line : ℕ → ℕ → ℕ → List ℕ
yes_line states extra answers = codes "yes: states " ++ (decimal states ++ (codes ", extra " ++ (decimal extra ++ (codes ", answers " ++ (decimal answers ++ codes "\n")))))

abbrev pub suite_line : ℕ → ℕ → ℕ → List ℕ
suite_line states extra number = codes "suite too large: states " ++ (decimal states ++ (codes ", extra " ++ (decimal extra ++ (codes ", number " ++ (decimal number ++ codes "\n")))))

-- names of earlier answers that aren't the setup's, or of answers that aren't the model's
abbrev pub names_line : Role → List ℕ
names_line Prior = codes "bad file prior: names differ from the setup\n"
names_line _ = codes "bad file answers: names differ from the model\n"

-- a system that failed, or ended, by its instance
abbrev pub failed_line : ℕ → List ℕ
failed_line instance = codes "system failed: instance " ++ (decimal instance ++ codes "\n")

abbrev pub gone_line : ℕ → List ℕ
gone_line instance = codes "system ended: instance " ++ (decimal instance ++ codes "\n")

-- a line of a system, in two lower case digits for each byte
abbrev pub bad_line : ℕ → List ℕ → List ℕ
bad_line instance line = codes "bad line: instance " ++ (decimal instance ++ (codes ": " ++ (encode_lower line ++ codes "\n")))

-- a line that was asked of a child, by its number
abbrev pub bad_ask_line : ℕ → List ℕ
bad_ask_line number = codes "bad line: " ++ (decimal number ++ codes "\n")

-- names, joined by one blank
abbrev pub joined_names : List (List ℕ) → List ℕ
joined_names names = join_by (λ n. n) (codes " ") names

-- what one of two models gives for a word
abbrev pub given_line : (which : List ℕ) (word outs : List (List ℕ)) → List ℕ
given_line which word outs = which ++ (codes ": " ++ (joined_names word ++ (codes " / " ++ (joined_names outs ++ codes "\n"))))

-- the inputs of one of two models alone
abbrev pub only_line : (which : List ℕ) (names : List (List ℕ)) → List ℕ
only_line which names = which ++ (codes " only: " ++ (joined_names names ++ codes "\n"))

-- how two models compare
abbrev pub comparison_lines : Comparison → List ℕ
comparison_lines Equal = codes "equal\n"
comparison_lines (Differ d) = codes "differ\n" ++ (given_line (codes "first") d.word d.first ++ given_line (codes "second") d.word d.second)
comparison_lines (OtherInputs first second) = codes "inputs differ\n" ++ (only_line (codes "first") first ++ only_line (codes "second") second)

-- how many answers were given again
abbrev pub rechecked_line : ℕ → List ℕ
rechecked_line answers = codes "same: answers " ++ (decimal answers ++ codes "\n")

-- a letter that is no input, by the numbers of its word and of its place
abbrev pub letter_line : (word place : ℕ) → List ℕ
letter_line word place = codes "bad word " ++ (decimal word ++ (codes ": letter " ++ (decimal place ++ codes " is no input\n")))

-- why no child was started
abbrev pub cause_text : StartFailure → List ℕ
cause_text NotFound = codes "no such program"
cause_text NotExecutable = codes "the program may not be run"
cause_text Folder = codes "the program is a folder"
cause_text (System code) = codes "error " ++ (decimal code ++ codes " of the system")
cause_text Unknown = codes "unknown cause"

abbrev pub unstarted_line : StartFailure → List ℕ
unstarted_line cause = codes "system not started: " ++ (cause_text cause ++ codes "\n")

-- the text of the outcome; nothing is said of a child that was served, of words that were all answered, or of help
abbrev pub text_of : List (List ℕ) → List (List ℕ) → List KeptAnswer → ℕ → Outcome → List ℕ
text_of inputs outputs kept extra (Learned model refinements) = learned_line (length model.rows) refinements extra (length kept)
text_of inputs outputs kept extra (Accepted states refinements) = accepted_line states refinements extra (length kept)
text_of inputs outputs kept extra (BadAcceptor fault) = codes "bad acceptor: " ++ (acceptor_reason fault ++ codes "\n")
text_of inputs outputs kept extra (NotAcceptor state letter) = not_acceptor_line state letter
text_of inputs outputs kept extra (Trial tried) = trial_lines tried
text_of inputs outputs kept extra (Yes states) = yes_line states extra (length kept)
text_of inputs outputs kept extra (Served served) = []
text_of inputs outputs kept extra (Compared comparison) = comparison_lines comparison
text_of inputs outputs kept extra Asked = []
text_of inputs outputs kept extra Helped = []
text_of inputs outputs kept extra (Rechecked answers) = rechecked_line answers
text_of inputs outputs kept extra (No v) = no_line inputs v
text_of inputs outputs kept extra Usage = usage_lines
text_of inputs outputs kept extra (BadFile role fault) = codes "bad file " ++ (role_name role ++ (codes ": " ++ (reason_of fault ++ codes "\n")))
text_of inputs outputs kept extra (Alphabets role) = names_line role
text_of inputs outputs kept extra (Nondeterministic clash) = clash_lines inputs outputs kept clash
text_of inputs outputs kept extra (FileTooLong role) = codes "file too long: " ++ (role_name role ++ codes "\n")
text_of inputs outputs kept extra NoMemory = codes "no memory\n"
text_of inputs outputs kept extra (UnknownLetter word place) = letter_line word place
text_of inputs outputs kept extra (Unstarted cause) = unstarted_line cause
text_of inputs outputs kept extra (SulFailed instance) = failed_line instance
text_of inputs outputs kept extra (Gone instance) = gone_line instance
text_of inputs outputs kept extra (BadLine instance line) = bad_line instance line
text_of inputs outputs kept extra (BadAsk number) = bad_ask_line number
text_of inputs outputs kept extra (TooManyStates words) = crowd_lines inputs words
text_of inputs outputs kept extra (SuiteTooLarge states number) = suite_line states extra number
text_of inputs outputs kept extra (FileFault role) = codes "file fault: " ++ (role_name role ++ codes "\n")
text_of inputs outputs kept extra SourceFault = codes "source fault\n"
text_of inputs outputs kept extra SinkFault = codes "sink fault\n"

-- the names, or none where no file has said any
abbrev pub names_of : Option (List (List ℕ)) → List (List ℕ)
names_of None = []
names_of (Some names) = names
