-- The command of a setup that was read has words.
use Rattle.std.proofs.Common.{◌≡◌, ℕ, ◌<◌, List, [], ◌∷◌, length, Bool, true, false, Option, Some, None, option_and_then, option_map, if◌then◌else◌, nat_lt, codes, ap, subst, sym, arith}
use Rattle.lw_json.specs.Formats.{texts_at}
use Rattle.lw_json.specs.SetupFile.{IsSetupFile, SpellsSetup, WrittenSetup, command, has_member, is_child_command, outputs_at, table, text_at}
use Rattle.lw_json.specs.declared.setup.Command.{Command}
use Rattle.lw_json.specs.declared.setup.Setup.TheVariants as setup

-- the command that three members say
abbrev command_of : (t i : Option (List (List ℕ))) → Option (Option (List (List ℕ))) → Option WrittenSetup
command_of t i o = option_and_then (λ inputs. option_and_then (λ outputs. option_map (λ words. command words inputs outputs) (option_and_then (λ words. if is_child_command words then Some words else None) t)) o) i

command_words : (t i : Option (List (List ℕ))) (o : Option (Option (List (List ℕ)))) (ws us : List (List ℕ)) (os : Option (List (List ℕ))) → command_of t i o ≡ Some (command ws us os) → 0 < length ws
command_words t None o ws us os e = let wrong : None ≡ Some (command ws us os) = e in absurd (cc)
command_words t (Some i) None ws us os e = let wrong : None ≡ Some (command ws us os) = e in absurd (cc)
command_words None (Some i) (Some o) ws us os e = let wrong : None ≡ Some (command ws us os) = e in absurd (cc)
command_words (Some []) (Some i) (Some o) ws us os e = let wrong : None ≡ Some (command ws us os) = e in absurd (cc)
command_words (Some ([] ∷ l)) (Some i) (Some o) ws us os e = let wrong : None ≡ Some (command ws us os) = e in absurd (cc)
command_words (Some ((b ∷ first) ∷ l)) (Some i) (Some o) ws us os e = by (nat_lt (length l) 64) e
  where
    by : (x : Bool) → option_map (λ words. command words i o) (if x then Some ((b ∷ first) ∷ l) else None) ≡ Some (command ws us os) → 0 < length ws
    by true is =
        let said : Some (command ((b ∷ first) ∷ l) i o) ≡ Some (command ws us os) = is in
        let same : ws ≡ (b ∷ first) ∷ l = cc in
        omega (arith, ap (λ (x : List (List ℕ)). length x) same)
    by false is = let wrong : None ≡ Some (command ws us os) = is in absurd (cc)

setup_words : (x y : Bool) (c : Option WrittenSetup) (t : Option (List ℕ)) (ws us : List (List ℕ)) (os : Option (List (List ℕ))) → (c ≡ Some (command ws us os) → 0 < length ws) → (if x then (if y then None else c) else option_map table t) ≡ Some (command ws us os) → 0 < length ws
setup_words true true c t ws us os some e = let wrong : None ≡ Some (command ws us os) = e in absurd (cc)
setup_words true false c t ws us os some e = some e
setup_words false y c None ws us os some e = let wrong : None ≡ Some (command ws us os) = e in absurd (cc)
setup_words false y c (Some name) ws us os some e = let wrong : Some (table name) ≡ Some (command ws us os) = e in absurd (cc)

said_words : (x y : Bool) (t i : Option (List (List ℕ))) (o : Option (Option (List (List ℕ)))) (n : Option (List ℕ)) (c : Command) (w : WrittenSetup) → (if x then (if y then None else command_of t i o) else option_map table n) ≡ Some w → SpellsSetup w (setup.Command c) → 0 < length c.words
said_words x y t i o n c (table name) says spells = absurd spells
said_words x y t i o n c (command ws us os) says spells = subst (λ (l : List (List ℕ)). 0 < length l) (sym spells.0) (setup_words x y (command_of t i o) n ws us os (command_words t i o ws us os) says)

pub has_words : (bytes : List ℕ) (c : Command) → IsSetupFile bytes (setup.Command c) → 0 < length c.words
has_words bytes c file =
    said_words (has_member (codes "command") file.0) (has_member (codes "table") file.0) (texts_at (codes "command") file.0) (texts_at (codes "inputs") file.0) (outputs_at file.0) (text_at (codes "table") file.0) c file.2.0 file.2.1 file.2.2
