-- A system under learning as contracts see it, and what its calls do.
use Rattle.std.specs.Prelude.{◌≡◌, ℕ, ◌<◌, ◌≤◌, List, Bool, true, false, Option, Some, None, Result, Err, IfErr, IfOk, OnErr, OnOk, option_map, ⊤}
use Rattle.lw_mealy.specs.Origin.{Origin}
use Rattle.lw_words.specs.Cause.{CountedFault}
use Rattle.lw_words.specs.declared.stop.SulStop.{SulStop}
use Rattle.lw_words.specs.declared.stop.SulStop.TheVariants.{Failed}
use Rattle.lw_names.specs.Names.{Brings}
use Rattle.lw_sul.specs.Runs.{after_reset, after_step}
use Rattle.lw_sul.specs.Told.{Starts, Steps}
use Rattle.lw_sul.specs.declared.runs.Run.{Run}

-- the numbers of inputs and of outputs; where its runs come from; the state of an observed machine that it is in;
-- whether a reset was answered Ok; how often it failed; the refusal of its last call, or None where that was answered
-- Ok or there was none; whether that refusal cut a run off, as that of a step does and that of a reset doesn't; its
-- runs, where they are observed; the names of its outputs so far, by number, and how many there can be
pub record SulState : Type 0 where
  pub inputs : ℕ
  pub outputs : ℕ
  pub origin : Origin
  pub place : ℕ
  pub started : Bool
  pub faults : ℕ
  pub stop : Option SulStop
  pub cut : Bool
  pub runs : Option (List Run)
  pub names : List (List ℕ)
  pub most : ℕ

-- what no call changes of a system
pub record IsSameSul (before now : SulState) : Type 0 where
  pub origin : now.origin ≡ before.origin
  pub inputs : now.inputs ≡ before.inputs
  pub outputs : now.outputs ≡ before.outputs
  pub most : now.most ≡ before.most

-- what a reset does
pub record SulReset (before now : SulState) (result : Result ⊤ SulStop) : Type 0 where
  pub ok : OnOk result ((now.stop ≡ None) × (now.started ≡ true))
  pub begins : OnOk result (now.runs ≡ option_map after_reset before.runs)
  pub names : now.names ≡ before.names
  pub starts : OnOk result (Starts before.origin.machine now.place)
  pub err : IfErr result (λ e. now.stop ≡ Some e)
  pub left : OnErr result (now.runs ≡ before.runs)
  pub whole : OnErr result (now.cut ≡ false)
  pub failed : result ≡ Err Failed → CountedFault before.faults now.faults
  pub counts : before.faults ≤ now.faults
  pub same : IsSameSul before now

-- what the step of a letter does
pub record SulStep (x : ℕ) (before now : SulState) (result : Result ℕ SulStop) : Type 0 where
  pub ok : OnOk result ((now.stop ≡ None) × (now.started ≡ true))
  pub output : IfOk result (λ y. y < before.outputs)
  pub brings : IfOk result (λ y. Brings before.names now.names y)
  pub adds : IfOk result (λ y. now.runs ≡ option_map (after_step x y) before.runs)
  pub steps : IfOk result (λ y. Steps before.origin.machine before.place x y now.place)
  pub err : IfErr result (λ e. now.stop ≡ Some e)
  pub left : OnErr result (now.runs ≡ before.runs)
  pub lacks : OnErr result (now.names ≡ before.names)
  pub cut : OnErr result (now.cut ≡ true)
  pub failed : result ≡ Err Failed → CountedFault before.faults now.faults
  pub counts : before.faults ≤ now.faults
  pub same : IsSameSul before now
