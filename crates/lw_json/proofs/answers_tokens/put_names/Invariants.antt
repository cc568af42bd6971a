use Rattle.std.proofs.Common.{◌≡◌, List, drop, map}
use Rattle.json.specs.Token.{Token}
use Rattle.serde_json.specs.Data.{string}
use Rattle.serde_json.specs.View.{items_of}
use Rattle.serde_json.specs.Written.{WritesItems, WritesValue}
use Rattle.lw_json.specs.MachineText.{texts_data}
use Rattle.lw_json.proofs.answers_tokens.put_names.Given as goal

abbrev pub invariant-loop-n : goal.invariant-loop-n
invariant-loop-n l =
    (l.out.before ≡ l.fn.out.before)
    × ((end : List Token) → WritesItems (items_of (map string (drop l.n l.names))) l.out.tokens end → WritesValue (texts_data l.names) l.fn.out.tokens end)
