-- Why a file is none of its kind, in words.
use Rattle.std.specs.Prelude.{ℕ, List, ◌++◌, codes}
use Rattle.std.specs.Fmt.{decimal}
use Rattle.lw_accept.specs.declared.fault.AcceptorFault.{AcceptorFault}
use Rattle.lw_accept.specs.declared.fault.AcceptorFault.TheVariants as acceptor
use Rattle.lw_accept.specs.declared.fault.AcceptorField.{AcceptorField}
use Rattle.lw_accept.specs.declared.fault.AcceptorField.TheVariants as part
use Rattle.lw_words.specs.declared.names.NamesFault.{NamesFault}
use Rattle.lw_words.specs.declared.names.NamesFault.TheVariants as names
use Rattle.lw_mealy.specs.declared.fault.MealyFault.{MealyFault}
use Rattle.lw_mealy.specs.declared.fault.MealyFault.TheVariants as mealy
use Rattle.lw_json.specs.declared.fault.Field.{Field}
use Rattle.lw_json.specs.declared.fault.Field.TheVariants as field
use Rattle.lw_json.specs.declared.fault.JsonFault.{JsonFault}
use Rattle.lw_json.specs.declared.fault.JsonFault.TheVariants.{NotJson, Shape, Inputs, Outputs, UnknownOutput, Mealy, BadWord, Lengths, NoMemory}
use Rattle.lw_report.specs.declared.role.Role.{Role}
use Rattle.lw_report.specs.declared.role.Role.TheVariants.{Setup, Table, Model, Answers, Prior, Second, Words, Kept, Last}

abbrev pub role_name : Role → List ℕ
role_name Setup = codes "setup"
role_name Table = codes "table"
role_name Model = codes "model"
role_name Answers = codes "answers"
role_name Prior = codes "prior"
role_name Second = codes "second model"
role_name Words = codes "words"
role_name Kept = codes "kept"
role_name Last = codes "last"

abbrev pub field_name : Field → List ℕ
field_name field.Root = codes "root"
field_name field.Format = codes "format"
field_name field.Inputs = codes "inputs"
field_name field.Outputs = codes "outputs"
field_name field.States = codes "states"
field_name field.Answers = codes "answers"
field_name field.Both = codes "both"
field_name field.Neither = codes "neither"
field_name field.Command = codes "command"

-- why the list of this name is no list of names
abbrev pub names_reason : List ℕ → NamesFault → List ℕ
names_reason list names.Empty = list ++ codes ": empty list"
names_reason list (names.TooMany count) = list ++ (codes ": too many names: " ++ decimal count)
names_reason list (names.BadName place) = list ++ (codes ": bad name at " ++ decimal place)
names_reason list (names.Repeated first second) = list ++ (codes ": repeated name at " ++ (decimal first ++ (codes " and " ++ decimal second)))
names_reason list names.NoMemory = list ++ codes ": no memory"

-- why rows are no machine
abbrev pub mealy_reason : MealyFault → List ℕ
mealy_reason mealy.NoState = codes "no state"
mealy_reason (mealy.TooMany count) = codes "too many states: " ++ decimal count
mealy_reason (mealy.Ragged state) = codes "wrong number of cells at state " ++ decimal state
mealy_reason (mealy.Target state letter target) = codes "no such target at state " ++ (decimal state ++ (codes ", letter " ++ (decimal letter ++ (codes ": " ++ decimal target))))
mealy_reason (mealy.Output state letter output) = codes "no such output at state " ++ (decimal state ++ (codes ", letter " ++ (decimal letter ++ (codes ": " ++ decimal output))))
mealy_reason mealy.NoMemory = codes "no memory"

-- why a file is none of its kind; `NoMemory` is never reported so
abbrev pub reason_of : JsonFault → List ℕ
reason_of NotJson = codes "not JSON"
reason_of (Shape field) = codes "shape of " ++ field_name field
reason_of (Inputs fault) = names_reason (codes "inputs") fault
reason_of (Outputs fault) = names_reason (codes "outputs") fault
reason_of (UnknownOutput state letter) = codes "unknown output at state " ++ (decimal state ++ (codes ", letter " ++ decimal letter))
reason_of (Mealy fault) = mealy_reason fault
reason_of (BadWord place) = codes "bad word at answer " ++ decimal place
reason_of (Lengths place) = codes "lengths differ at answer " ++ decimal place
reason_of NoMemory = codes "no memory"

abbrev pub part_name : AcceptorField → List ℕ
part_name part.Root = codes "root"
part_name part.Accepting = codes "accepting"
part_name part.Inputs = codes "inputs"
part_name part.Targets = codes "targets"

-- why a file is no acceptor's; `NoMemory` is never reported so
abbrev pub acceptor_reason : AcceptorFault → List ℕ
acceptor_reason acceptor.NotJson = codes "not JSON"
acceptor_reason (acceptor.Shape field) = codes "shape of " ++ part_name field
acceptor_reason (acceptor.Inputs fault) = names_reason (codes "inputs") fault
acceptor_reason (acceptor.Reserved place) = codes "reserved name at " ++ decimal place
acceptor_reason acceptor.NoState = codes "no state"
acceptor_reason (acceptor.TooMany count) = codes "too many states: " ++ decimal count
acceptor_reason acceptor.Lengths = codes "lengths differ"
acceptor_reason (acceptor.Ragged state) = codes "wrong number of targets at state " ++ decimal state
acceptor_reason (acceptor.Target state letter target) = codes "no such target at state " ++ (decimal state ++ (codes ", letter " ++ (decimal letter ++ (codes ": " ++ decimal target))))
acceptor_reason acceptor.NoMemory = codes "no memory"
