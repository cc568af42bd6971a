-- What the parts of the reader of setup files find.
use Rattle.std.specs.Prelude.{ℕ, List, Option, map, option_map, Vec, String, string_bytes}
use Rattle.std.specs.declared.alloc.Global.{Global}
use Rattle.lw_json.specs.SetupFile.{WrittenSetup, table, command}
use Rattle.lw_json.specs.declared.setup_reader.Said.{Said}
use Rattle.lw_json.specs.declared.setup_reader.Said.TheVariants.{Table, Command}

-- texts, where they aren't left out
abbrev pub said_texts : Option (Vec (String Global) Global) → Option (List (List ℕ))
said_texts texts = option_map (λ v. map (λ t. string_bytes t) v.items) texts

abbrev pub said_command : Vec (String Global) Global → Vec (String Global) Global → Option (Vec (String Global) Global) → WrittenSetup
said_command words inputs outputs = command (map (λ t. string_bytes t) words.items) (map (λ t. string_bytes t) inputs.items) (said_texts outputs)

abbrev pub said_setup : Said → WrittenSetup
said_setup (Table name) = table (string_bytes name)
said_setup (Command words inputs outputs) = said_command words inputs outputs
