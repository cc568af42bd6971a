use Rattle.std.proofs.Common.{◌≡◌, [], take}
use Rattle.std.specs.List.{All}
use Rattle.lw_words.specs.Word.{answers_of}
use Rattle.lw_cache.specs.Clash.{NothingClashes}
use Rattle.lw_cache.specs.Known.{IsKnown}
use Rattle.lw_cache.specs.Settling.{GainsAnswers}
use Rattle.test_oracle.specs.Recording.{KeepsOf}
use Rattle.test_oracle.proofs.recording.answer_all.Given as goal

abbrev pub invariant-loop-w : goal.invariant-loop-w
invariant-loop-w l = record {
  known : All (IsKnown (answers_of l.cache.kept)) (take l.w-index l.batch);
  gains : GainsAnswers l.batch l.initial.cache.kept l.cache.kept;
  keeps : KeepsOf l.m l.cache.kept;
  unclashed : NothingClashes (answers_of l.initial.cache.kept) → NothingClashes (answers_of l.cache.kept);
  claims : l.cache.claims ≡ [];
}
