use Rattle.std.proofs.Common.{◌∙◌, Bor, List, ℕ, ap}
use Rattle.std.proofs.lemmas.Str.Pattern.{strip_suffix_char}
use Rattle.lw_wordlist.proofs.LineLemmas.{strips}
use Rattle.lw_wordlist.proofs.lines.without_last.Goals as goal

pub returns : goal.returns
returns c =
    ap (λ (t : Bor (List ℕ)). t.now) c.unwrap_or.ensures
    ∙ strips c.args.last c.args.text c.strip_suffix.result (strip_suffix_char c.args.last c.args.text.now c.strip_suffix.result c.strip_suffix.ensures.cases c.requires)
