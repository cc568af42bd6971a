-- A child that was started by itself, and a start that gave no child.
use Rattle.std.proofs.Common.{◌≡◌, ◌∙◌, ℕ, ◌+◌, ◌<◌, ◌≤◌, List, [], ◌∷◌, ◌++◌, map, Contains, get_or, Option, Some, None, inl, inr, refl, ap, sym, subst, arith, append-nil}
use Rattle.std.specs.List.{All}
use Rattle.std.proofs.lemmas.List.Elements.{All-from_recursion, All-map, All-nil}
use Rattle.lw_words.specs.Cause.{CountedFault}
use Rattle.lw_outside.specs.Links.{IsUntouched, LinkState, with_start, SpawnerState}
use Rattle.lw_outside.specs.declared.links.StartStop.{StartStop}
use Rattle.lw_outside.specs.declared.links.StartStop.TheVariants as start
use Rattle.lw_system.specs.Spawners.{HasNotStarted, StartsLinks, StartsAndRetires, with_starts}

-- a child that was started by itself, and retired
pub started_one : (words : List (List ℕ)) (b m z : SpawnerState) (link : LinkState) → StartsLinks words b m 1 → link.number ≡ b.started → z.started ≡ m.started → z.retired ≡ m.retired ++ link ∷ [] → z.faults ≡ m.faults → z.commands ≡ m.commands → StartsAndRetires words b z (link ∷ [])
started_one words b m z link starts number started retired faults commands = record {
  started = started ∙ starts.started;
  retired = retired ∙ ap (λ (l : List LinkState). l ++ link ∷ []) starts.retired;
  numbers = numbers;
  counts = omega (arith, faults, starts.faults);
  starts = 1;
  commands = commands ∙ starts.commands;
  each = inl refl;
}
  where
    numbers : (i : ℕ) (d : LinkState) → i < 1 → (get_or (link ∷ []) i d).number ≡ b.started + i
    numbers i d lt = let first : i ≡ 0 = omega (arith, lt) in subst (λ (k : ℕ). (get_or (link ∷ []) k d).number ≡ b.started + k) (sym first) (number ∙ omega arith)

-- a start that gave no child
no_more_commands : (words : List (List ℕ)) (before now : Option (List (List (List ℕ)))) → now ≡ before → now ≡ with_starts 0 words before
no_more_commands words None now same = same
no_more_commands words (Some cs) now same = same ∙ ap (λ (l : List (List (List ℕ))). Some l) (sym (append-nil cs))

pub not_started : (words : List (List ℕ)) (b z : SpawnerState) (stop : StartStop) → z.started ≡ b.started → z.retired ≡ b.retired → b.faults ≤ z.faults → (stop ≡ start.Failed → CountedFault b.faults z.faults × (z.commands ≡ with_start words b.commands)) → (stop ≡ start.NoMemory → z.commands ≡ b.commands) → HasNotStarted words b z stop
not_started words b z start.Failed started retired counts failed memory =
    let why = failed refl in
    record {
      links = [];
      spawner = record {
        started = started ∙ omega arith;
        retired = retired ∙ sym (append-nil b.retired);
        numbers = λ i d lt. absurd (omega (arith, lt));
        counts = counts;
        starts = 1;
        commands = why.1;
        each = inr (omega arith, why.0);
      };
      few = omega arith;
      untouched = All-nil (λ r. IsUntouched r.transcript);
      failed = λ _. (refl, why.0);
    }
not_started words b z start.NoMemory started retired counts failed memory = record {
  links = [];
  spawner = record {
    started = started ∙ omega arith;
    retired = retired ∙ sym (append-nil b.retired);
    numbers = λ i d lt. absurd (omega (arith, lt));
    counts = counts;
    starts = 0;
    commands = no_more_commands words b.commands z.commands (memory refl);
    each = inl refl;
  };
  few = omega arith;
  untouched = All-nil (λ r. IsUntouched r.transcript);
  failed = λ e. let wrong : start.NoMemory ≡ start.Failed = e in absurd (cc);
}

-- nothing was done
pub nothing_started : (words : List (List ℕ)) (b : SpawnerState) → HasNotStarted words b b start.NoMemory
nothing_started words b = not_started words b b start.NoMemory refl refl (omega arith) (λ e. let wrong : start.NoMemory ≡ start.Failed = e in absurd (cc)) (λ _. refl)

-- a link for whose system there was no memory, over which nothing went
pub link_given_up : (words : List (List ℕ)) (b m z : SpawnerState) (link : LinkState) → IsUntouched link.transcript → StartsLinks words b m 1 → link.number ≡ b.started → z.started ≡ m.started → z.retired ≡ m.retired ++ link ∷ [] → z.faults ≡ m.faults → z.commands ≡ m.commands → HasNotStarted words b z start.NoMemory
link_given_up words b m z link fresh starts number started retired faults commands = record {
  links = link ∷ [];
  spawner = started_one words b m z link starts number started retired faults commands;
  few = omega arith;
  untouched = All-from_recursion (λ r. IsUntouched r.transcript) (link ∷ []) (fresh, tt);
  failed = λ e. let wrong : start.NoMemory ≡ start.Failed = e in absurd (cc);
}

-- a link that was started after all that are retired is none of these
pub is_unretired : (retired : List LinkState) (base n : ℕ) → n ≡ base → All (λ r. r.number < base) retired → ¬ Contains (map (λ r. r.number) retired) n
is_unretired retired base n same earlier c =
    let all : All (λ k. k < base) (map (λ (r : LinkState). r.number) retired) = All-map (λ k. k < base) (λ (r : LinkState). r.number) retired earlier in
    absurd (omega (arith, all c.0 n c.1, c.2, same))
