use Rattle.std.proofs.Common.{◌≡◌, ℕ, List, [], ◌∷◌, ◌++◌, length, subst, ap, sym, ◌∙◌}
use Rattle.lw_words.specs.Word.{answers_of}
use Rattle.lw_words.specs.declared.kept.KeptAnswer.{KeptAnswer}
use Rattle.lw_mealy.specs.Machine.{answer}
use Rattle.lw_mealy.proofs.WordLemmas.{length-out}
use Rattle.lw_cache.specs.Caching.{kept_answer}
use Rattle.lw_cache.specs.Clash.{NothingClashes}
use Rattle.lw_cache.specs.FirstClash.{StopsKeeping}
use Rattle.lw_cache.specs.Known.{IsKnown}
use Rattle.lw_cache.specs.declared.stops.KeepStop.{KeepStop}
use Rattle.lw_cache.specs.declared.stops.KeepStop.TheVariants.{Clash}
use Rattle.lw_cache.proofs.GainLemmas.{known_new, nothing_more}
use Rattle.test_oracle.proofs.RecordingLemmas.{asked_new, never_clashes}
use Rattle.lw_cache.proofs.PlainLemmas.{kept_count}
use Rattle.test_oracle.proofs.recording.answer_one.Goals as goal

pub keep-requires : goal.keep-requires
keep-requires c = record {
  lengths = ap (λ (o : List ℕ). length o) c.in_ok-outs.ensures ∙ (length-out c.args.m.now.rows 0 c.args.w.now ∙ ap (λ (w : List ℕ). length w) (sym c.in_ok-word.ensures));
  unclaimed = c.requires.unclaimed;
}

pub returns-in-Ok : goal.returns-in-Ok
returns-in-Ok c =
    let new : KeptAnswer = kept_answer 0 c.len-run.result c.in_ok-word.word c.in_ok-outs.outs in
    let grown : c.keep.new.self.kept ≡ c.args.cache.now.kept ++ new ∷ [] = c.in-Ok.ensures.kept in
    record {
      known = subst (λ (l : List KeptAnswer). IsKnown (answers_of l) c.args.w.now) (sym grown) (subst (IsKnown (answers_of (c.args.cache.now.kept ++ new ∷ []))) c.in_ok-word.ensures (known_new c.args.cache.now.kept new c.in-Ok.ensures.ok (kept_count c.args.cache.now.kept)));
      asked = asked_new c.args.m.now c.args.cache.now.kept c.keep.new.self.kept c.len-run.result c.args.w.now c.in_ok-word.word c.in_ok-outs.outs c.inputs.ensures.complete c.requires.keeps c.requires.letters c.in_ok-word.ensures c.in_ok-outs.ensures grown;
      unclashed = λ nothing. subst (λ (l : List KeptAnswer). NothingClashes (answers_of l)) (sym grown) (nothing_more c.args.cache.now.kept new c.in-Ok.ensures.ok (kept_count c.args.cache.now.kept) nothing);
      claims = c.keep.ensures.claims;
      short = tt;
    }

pub returns-in-Err-Clash : goal.returns-in-Err-Clash
returns-in-Err-Clash c =
    let new : KeptAnswer = kept_answer 0 c.len-run.result c.in_ok-word.word c.in_ok-outs.outs in
    let stops : StopsKeeping c.args.cache.now c.keep.new.self new (Clash c.in-Err-Clash.clash) = subst (λ (e : KeepStop). StopsKeeping c.args.cache.now c.keep.new.self new e) c.in-Err-Clash.field-0-is c.in-Err-Clash.ensures.err in
    absurd (never_clashes c.args.m.now c.args.cache.now.kept new c.in-Err-Clash.clash c.requires.keeps (c.in_ok-outs.ensures ∙ ap (answer c.args.m.now.rows) (sym c.in_ok-word.ensures)) stops.1)
