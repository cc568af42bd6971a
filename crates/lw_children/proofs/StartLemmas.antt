-- Starts of children, as what a spawner tells.
use Rattle.std.proofs.Common.{◌≡◌, ℕ, ◌+◌, ◌≤◌, List, ◌++◌, Option, Some, None, inl, inr, refl, ap, sym, ◌∙◌, subst, append-nil, ⊎_elim, replicate, arith}
use Rattle.std.proofs.lemmas.List.{append_assoc, replicate-append-replicate}
use Rattle.lw_words.specs.Cause.{CountedFault}
use Rattle.lw_outside.specs.Links.{with_start, SpawnerState}
use Rattle.lw_outside.specs.declared.links.StartStop.{StartStop}
use Rattle.lw_outside.specs.declared.links.StartStop.TheVariants as start
use Rattle.lw_children.specs.Crews.{count_link}
use Rattle.lw_system.specs.Spawners.{StartsLinks, StartsSome, with_starts}

no_more : (words : List (List ℕ)) (commands : Option (List (List (List ℕ)))) → commands ≡ with_starts 0 words commands
no_more words None = refl
no_more words (Some cs) = ap (λ (l : List (List (List ℕ))). Some l) (sym (append-nil cs))

-- a start that was answered with a link
pub one_started : (words given : List (List ℕ)) (before now : SpawnerState) → given ≡ words → now.started ≡ before.started + 1 → now.retired ≡ before.retired → now.faults ≡ before.faults → now.commands ≡ with_start given before.commands → StartsLinks words before now 1
one_started words given before now same started retired faults commands = record {
  started = started;
  retired = retired;
  faults = faults;
  commands = commands ∙ ap (λ (w : List (List ℕ)). with_start w before.commands) same;
}

pub quietly_some : (words : List (List ℕ)) (before now : SpawnerState) (n : ℕ) → StartsLinks words before now n → StartsSome words before now n
quietly_some words before now n s = record {
  started = s.started;
  retired = s.retired;
  counts = omega (arith, s.faults);
  starts = n;
  commands = s.commands;
  each = inl refl;
}

-- one that failed
pub one_failed : (words given : List (List ℕ)) (before now : SpawnerState) → given ≡ words → now.started ≡ before.started → now.retired ≡ before.retired → CountedFault before.faults now.faults → before.faults ≤ now.faults → now.commands ≡ with_start given before.commands → StartsSome words before now 0
one_failed words given before now same started retired failed counts commands = record {
  started = omega (arith, started);
  retired = retired;
  counts = counts;
  starts = 1;
  commands = commands ∙ ap (λ (w : List (List ℕ)). with_start w before.commands) same;
  each = inr (refl, failed);
}

-- and none at all
pub none_started : (words : List (List ℕ)) (before now : SpawnerState) → now.started ≡ before.started → now.retired ≡ before.retired → before.faults ≤ now.faults → now.commands ≡ before.commands → StartsSome words before now 0
none_started words before now started retired counts commands = record {
  started = omega (arith, started);
  retired = retired;
  counts = counts;
  starts = 0;
  commands = commands ∙ no_more words before.commands;
  each = inl refl;
}

-- a start that was answered without a link
pub not_started : (words given : List (List ℕ)) (before now : SpawnerState) (stop : StartStop) → given ≡ words → now.started ≡ before.started → now.retired ≡ before.retired → before.faults ≤ now.faults
    → (stop ≡ start.Failed → CountedFault before.faults now.faults) → (stop ≡ start.Failed → now.commands ≡ with_start given before.commands) → (stop ≡ start.NoMemory → now.commands ≡ before.commands)
    → StartsSome words before now 0
not_started words given before now start.Failed same started retired counts failed noted none = one_failed words given before now same started retired (failed refl) counts (noted refl)
not_started words given before now start.NoMemory same started retired counts failed noted none = none_started words before now started retired counts (none refl)

more_commands : (m n : ℕ) (words : List (List ℕ)) (commands : Option (List (List (List ℕ)))) → with_starts n words (with_starts m words commands) ≡ with_starts (m + n) words commands
more_commands m n words None = refl
more_commands m n words (Some cs) = ap (λ (l : List (List (List ℕ))). Some l) (append_assoc cs (replicate m words) (replicate n words) ∙ ap (λ (l : List (List (List ℕ))). cs ++ l) (replicate-append-replicate m n words))

-- starts after starts of which none failed
pub then_starts : (words : List (List ℕ)) (before between now : SpawnerState) (m n : ℕ) → StartsLinks words before between m → StartsLinks words between now n → StartsLinks words before now (m + n)
then_starts words before between now m n some more = record {
  started = omega (arith, some.started, more.started);
  retired = more.retired ∙ some.retired;
  faults = more.faults ∙ some.faults;
  commands = more.commands ∙ (ap (with_starts n words) some.commands ∙ more_commands m n words before.commands);
}

pub then_some : (words : List (List ℕ)) (before between now : SpawnerState) (m n : ℕ) → StartsLinks words before between m → StartsSome words between now n → StartsSome words before now (m + n)
then_some words before between now m n some more = record {
  started = omega (arith, some.started, more.started);
  retired = more.retired ∙ some.retired;
  counts = omega (arith, more.counts, some.faults);
  starts = m + more.starts;
  commands = more.commands ∙ (ap (with_starts more.starts words) some.commands ∙ more_commands m more.starts words before.commands);
  each = ⊎_elim (λ (e : more.starts ≡ n). inl (ap (λ (k : ℕ). m + k) e)) (λ (e : (more.starts ≡ n + 1) × CountedFault between.faults now.faults). inr (omega (arith, e.0), subst (λ (k : ℕ). CountedFault k now.faults) some.faults e.1)) more.each;
}

pub none_starts : (words : List (List ℕ)) (before : SpawnerState) → StartsLinks words before before 0
none_starts words before = record { started = omega arith; retired = refl; faults = refl; commands = no_more words before.commands }

-- a link that there may be is one at most
pub one_link : {L : Type 0} (loose : Option L) → count_link loose ≤ 1
one_link None = omega arith
one_link (Some l) = omega arith
