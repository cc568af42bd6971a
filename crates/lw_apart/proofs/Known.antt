-- What machines that give the same answers answer to known words.
use Rattle.std.proofs.Common.{◌≡◌, ℕ, List, sym, ◌∙◌}
use Rattle.lw_words.specs.Word.{Answer}
use Rattle.lw_mealy.specs.Machine.{Rows, answer, Gives}
use Rattle.lw_cache.specs.Known.{IsKnown, Reads}
use Rattle.lw_cache.proofs.KnownLemmas.{known_is_read}
use Rattle.lw_cache.proofs.CrowdLemmas.{reads_given}

pub same_on_known : (m h : Rows) (ks : List Answer) (w : List ℕ) → Gives m ks → Gives h ks → IsKnown ks w → answer m w ≡ answer h w
same_on_known m h ks w given_m given_h known =
    let r : (o : List ℕ) × Reads ks w o = (known_is_read ks w).0 known in
    sym (reads_given m ks w r.0 given_m r.1) ∙ reads_given h ks w r.0 given_h r.1
