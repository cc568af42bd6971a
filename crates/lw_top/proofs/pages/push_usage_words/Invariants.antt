use Rattle.std.proofs.Common.{◌≡◌, ◌++◌, map, take, string_bytes}
use Rattle.std.specs.List.{flat_map}
use Rattle.lw_top.specs.HelpTexts.{usage_word}
use Rattle.lw_top.specs.Syntaxes.{entry_values}
use Rattle.lw_top.proofs.pages.push_usage_words.Given as goal

abbrev pub invariant-loop-entry : goal.invariant-loop-entry
invariant-loop-entry l = string_bytes l.text ≡ string_bytes l.initial.text ++ flat_map (λ e. usage_word (map (λ n. n.now) l.in_place) (entry_values e)) (take l.entry-index l.entries)
