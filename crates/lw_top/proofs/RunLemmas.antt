-- Calls for whose arguments there was no memory.
use Rattle.std.proofs.Common.{◌≡◌, ◌⊎◌, ⊎_elim, List, ℕ, [], ◌∷◌, Bool, true, false, codes, Option, Some, None, option_map, inl, inr, refl, sym, ap, ap₂, ◌∙◌, subst}
use Rattle.std.specs.Prelude.{◌||◌, if◌then◌else◌}
use Rattle.std.specs.Str.{bytes_eq}
use Rattle.std.proofs.lemmas.Bool.{true≢false}
use Rattle.lw_outside.specs.declared.links.StartFailure.{StartFailure}
use Rattle.lw_outside.specs.Links.{SpawnerState}
use Rattle.lw_outside.specs.Files.{FilesState}
use Rattle.lw_outside.specs.Streams.{SinkState, SourceState}
use Rattle.lw_log.specs.declared.log.LogState.{LogState}
use Rattle.lw_report.specs.Writing.{TakesAll, TakesSome, said_text}
use Rattle.lw_report.specs.declared.«end».End.{End}
use Rattle.lw_report.specs.declared.outcome.Outcome.{Outcome}
use Rattle.lw_report.specs.declared.outcome.Outcome.TheVariants.{NoMemory, Unstarted, Usage}
use Rattle.lw_learn.specs.Arguments.{LearnValues, with_earlier}
use Rattle.lw_learn.specs.LearnRun.{IsLearnRun}
use Rattle.lw_learn.specs.Unread.{IsUnreadBy}
use Rattle.lw_system.proofs.ReadsLemmas.{made_none, some_made}
use Rattle.lw_learn.proofs.RunLemmas.{none_saved}
use Rattle.lw_report.specs.Text.{names_of}
use Rattle.lw_top.specs.Call.{CallValues, Learn, Check, Trial, Serve, Ask, Compare, Recheck, Help, call_of}
use Rattle.lw_top.specs.AcceptCommand.{accept_values}
use Rattle.lw_top.specs.AskCommand.{ask_values}
use Rattle.lw_top.specs.CheckCommand.{check_values}
use Rattle.lw_top.specs.CommandLine.{may_log}
use Rattle.lw_top.specs.CompareCommand.{compare_values}
use Rattle.lw_top.specs.HelpCommand.{help_values}
use Rattle.lw_top.specs.LearnCommand.{learn_values}
use Rattle.lw_top.specs.RecheckCommand.{recheck_values}
use Rattle.lw_top.specs.ServeCommand.{serve_values}
use Rattle.lw_top.specs.TrialCommand.{trial_values}
use Rattle.lw_top.specs.Run.{Runs, TellsNoMemory, TellsOutcome, TellsReason}
use Rattle.lw_top.specs.World.{states}
use Rattle.lw_top.proofs.AskLemmas.{wanted_ask}
use Rattle.lw_top.proofs.CheckLemmas.{wanted_check}
use Rattle.lw_top.proofs.CompareLemmas.{wanted_compare}
use Rattle.lw_top.proofs.HelpLemmas.{wanted_help}
use Rattle.lw_top.proofs.RecheckLemmas.{wanted_recheck}
use Rattle.lw_top.proofs.ServeLemmas.{wanted_serve}
use Rattle.lw_top.proofs.TrialLemmas.{wanted_trial}

-- the end of a call that touched nothing, which is out of memory, is one that `learn` may come to
pub wanted_run : (a : LearnValues) (f : FilesState) (b : SpawnerState) (o e d : SinkState) (s : LogState) (end : End) → end.outcome ≡ NoMemory → TellsOutcome e d end → IsLearnRun a f f b b o o e d s end
wanted_run a f b o e d s end out r =
    let said : (oc : Outcome) → oc ≡ NoMemory → TakesAll (said_text None None [] 0 oc) e.taken d.taken → TakesAll (said_text None None end.kept.answers a.extra oc) e.taken d.taken = λ oc is t.
    subst (λ (x : Outcome). TakesAll (said_text None None end.kept.answers a.extra x) e.taken d.taken) (sym is) (subst (λ (x : Outcome). TakesAll (said_text None None [] 0 x) e.taken d.taken) is t) in
    let part : (oc : Outcome) → oc ≡ NoMemory → TakesSome (said_text None None [] 0 oc) e.taken d.taken → TakesSome (said_text None None end.kept.answers a.extra oc) e.taken d.taken = λ oc is t.
    subst (λ (x : Outcome). TakesSome (said_text None None end.kept.answers a.extra x) e.taken d.taken) (sym is) (subst (λ (x : Outcome). TakesSome (said_text None None [] 0 x) e.taken d.taken) is t) in
    record {
      told = d;
      ends = inl (record {
        read = None;
        cause = inl (inl (subst (λ (x : Outcome). IsUnreadBy a f f None end.kept.answers x) (sym out) (some_made f f (made_none f), r.kept, refl)));
        model = r.model;
        learner = r.learner;
        outputs = inl r.outputs;
        between = f;
        same = refl;
        saved = none_saved a.kept (names_of None) (names_of None) end.kept.answers f end.outcome r.kept;
        unstarted = refl;
        unwritten = refl;
        said = λ quiet. said end.outcome out (r.said quiet);
        part = part end.outcome out r.part;
      });
      log = inr (out, refl);
    }

no_cause : (spawner : SpawnerState) (outcome : Outcome) (cause : StartFailure) → outcome ≡ NoMemory → outcome ≡ Unstarted cause → cause ≡ spawner.cause
no_cause spawner outcome cause out came = let wrong : NoMemory ≡ Unstarted cause = sym out ∙ came in absurd (cc)

same_call : (a b : CallValues) → ◌≡◌ {A = Option CallValues} (Some a) (Some b) → a ≡ b
same_call a b e = cc

-- of another command than `learn` and `accept`
abbrev pub IsOther : CallValues → Type 0
IsOther (Learn a) = ⊥
IsOther _ = Unit {0}

-- what two tests choose
chosen : (b : Bool) (one rest call : Option CallValues) → b ≡ true → (if b then one else rest) ≡ call → one ≡ call
chosen true one rest call is same = same
chosen false one rest call is same = absurd (true≢false (sym is))

not_first : (b : Bool) (one rest call : Option CallValues) → b ≡ false → (if b then one else rest) ≡ call → rest ≡ call
not_first true one rest call not_one is = absurd (true≢false not_one)
not_first false one rest call not_one is = is

-- then the first argument names neither `learn` nor `accept`
pub names_other : (words : List (List ℕ)) (call : CallValues) → call_of words ≡ Some call → IsOther call → may_log words ≡ false
names_other [] call is other = refl
names_other (w ∷ ws) call is other = by (bytes_eq w (codes "learn")) (bytes_eq w (codes "accept")) refl refl
  where
    not_learn : (v : Option LearnValues) → option_map Learn v ≡ Some call → ⊥
    not_learn None e = let wrong : ◌≡◌ {A = Option CallValues} None (Some call) = e in absurd (cc)
    not_learn (Some a) e = let same : Learn a ≡ call = same_call (Learn a) call e in subst IsOther (sym same) other

    by : (b c : Bool) → bytes_eq w (codes "learn") ≡ b → bytes_eq w (codes "accept") ≡ c → (bytes_eq w (codes "learn") || bytes_eq w (codes "accept")) ≡ false
    by false false e f = ap₂ (λ (x y : Bool). x || y) e f
    by true c e f = absurd (not_learn (learn_values (w ∷ ws)) (chosen (bytes_eq w (codes "learn")) (option_map Learn (learn_values (w ∷ ws))) _ (Some call) e is))
    by false true e f =
        absurd (not_learn (accept_values (w ∷ ws)) (chosen (bytes_eq w (codes "accept")) (option_map Learn (accept_values (w ∷ ws))) _ (Some call) f (not_first (bytes_eq w (codes "learn")) (option_map Learn (learn_values (w ∷ ws))) _ (Some call) e is)))

other_call : {X : Type 0} (b : Bool) (make : X → CallValues) (v : Option X) (rest : Option CallValues) (a : LearnValues) → ((x : X) → IsOther (make x)) → (rest ≡ Some (Learn a) → ⊥) → (if b then option_map make v else rest) ≡ Some (Learn a) → ⊥
other_call true make None rest a other later is = let wrong : ◌≡◌ {A = Option CallValues} None (Some (Learn a)) = is in absurd (cc)
other_call true make (Some x) rest a other later is = subst IsOther (same_call (make x) (Learn a) is) (other x)
other_call false make v rest a other later is = later is

neither : (b c : Bool) → (b || c) ≡ false → (b ≡ false) × (c ≡ false)
neither false c is = (refl, is)
neither true c is = absurd (true≢false is)

-- the first argument of a call of `learn` or `accept` names it
pub names_learn : (words : List (List ℕ)) (a : LearnValues) → call_of words ≡ Some (Learn a) → may_log words ≡ false → ⊥
names_learn [] a is unnamed = let wrong : ◌≡◌ {A = Option CallValues} None (Some (Learn a)) = is in absurd (cc)
names_learn (w ∷ ws) a is unnamed =
    let words : List (List ℕ) = w ∷ ws in
    let none = neither (bytes_eq w (codes "learn")) (bytes_eq w (codes "accept")) unnamed in
    other_call (bytes_eq w (codes "check")) Check (check_values words) _ a (λ x. tt)
    (other_call (bytes_eq w (codes "trial")) Trial (trial_values words) _ a (λ x. tt)
    (other_call (bytes_eq w (codes "serve")) Serve (serve_values words) _ a (λ x. tt)
    (other_call (bytes_eq w (codes "ask")) Ask (ask_values words) _ a (λ x. tt)
    (other_call (bytes_eq w (codes "compare")) Compare (compare_values words) _ a (λ x. tt)
    (other_call (bytes_eq w (codes "recheck")) Recheck (recheck_values words) _ a (λ x. tt)
    (other_call (bytes_eq w (codes "help")) Help (help_values words) None a (λ x. tt) (λ e. let wrong : ◌≡◌ {A = Option CallValues} None (Some (Learn a)) = e in absurd (cc))))))))
    (not_first (bytes_eq w (codes "accept")) (option_map Learn (accept_values words)) _ (Some (Learn a)) none.1 (not_first (bytes_eq w (codes "learn")) (option_map Learn (learn_values words)) _ (Some (Learn a)) none.0 is))

-- where memory ran out while the arguments were read, the call came to an end that each command may come to
module _ (f : FilesState) (b : SpawnerState) (i : SourceState) (o e d : SinkState) (l s : LogState) (end : End) (words : List (List ℕ)) where
  pub wanted : (call : Option CallValues) → TellsOutcome e d end → end.outcome ≡ NoMemory → ((c : CallValues) → call ≡ Some c → IsOther c → s ≡ l) → Runs words call (states f b i o e l) (states f b i o d s) end
  wanted None ended out same = record { outcome = inr out; files = refl; spawner = refl; input = refl; out = refl; ended = inr (record { outcome = out; tells = ended }) }
  wanted (Some (Learn v)) ended out same = record { ran = (v.prior, inl refl, wanted_run (with_earlier v.prior v) f b o e d s end out ended); input = refl }
  wanted (Some (Check a)) ended out same = record { ran = wanted_check a.goal a.suite a.model a.answers a.extra f o e d end out ended; spawner = refl; input = refl; log = same (Check a) refl tt }
  wanted (Some (Trial a)) ended out same = record { ran = wanted_trial a f o e d end out ended; files = refl; spawner = refl; input = refl; log = same (Trial a) refl tt }
  wanted (Some (Serve m)) ended out same = record { ran = wanted_serve m f i o e d end out ended; spawner = refl; log = same (Serve m) refl tt }
  wanted (Some (Ask a)) ended out same = record { ran = wanted_ask a f b o e d end out ended; cause = λ cause came. no_cause b end.outcome cause out came; input = refl; log = same (Ask a) refl tt }
  wanted (Some (Compare p)) ended out same = record { ran = wanted_compare p.first p.second f o e d end out ended; spawner = refl; input = refl; log = same (Compare p) refl tt }
  wanted (Some (Recheck a)) ended out same = record { ran = wanted_recheck a f b o e d end out ended; cause = λ cause came. no_cause b end.outcome cause out came; input = refl; log = same (Recheck a) refl tt }
  wanted (Some (Help text)) ended out same = record { ran = wanted_help text o e d end out ended; files = refl; spawner = refl; input = refl; log = same (Help text) refl tt }

  -- by what was said
  pub refused : (call : Option CallValues) → TellsReason words e d end ⊎ TellsNoMemory e d end → (end.outcome ≡ Usage → call ≡ None) → ((c : CallValues) → call ≡ Some c → IsOther c → s ≡ l) → Runs words call (states f b i o e l) (states f b i o d s) end
  refused call ended none same =
      ⊎_elim
      (λ (t : TellsReason words e d end). subst (λ (c : Option CallValues). Runs words c (states f b i o e l) (states f b i o d s) end) (sym (none t.outcome)) (record { outcome = inl t.outcome; files = refl; spawner = refl; input = refl; out = refl; ended = inl t }))
      (λ (t : TellsNoMemory e d end). wanted call t.tells t.outcome same)
      ended
