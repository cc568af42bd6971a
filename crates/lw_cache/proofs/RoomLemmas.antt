-- The room of a cache.
use Rattle.std.proofs.Common.{◌≡◌, ℕ, ◌+◌, ◌-◌, ◌<◌, ◌≤◌, ◌⊎◌, inl, inr, ⊎_elim, max, arith}
use Rattle.std.proofs.lemmas.Bool.{cases_lt}
use Rattle.lw_cache.specs.bodies.Trie.{no_answer}
use Rattle.lw_cache.specs.bodies.Room.{HasRoom}

-- an answer is kept, to a word of so many letters that was not claimed
pub room_kept : (words letters nodes most held most_held kept room len nodes' most' kept' room' : ℕ) → HasRoom words letters nodes most held most_held kept room
    → 1 ≤ words → len ≤ letters → nodes ≤ nodes' → nodes' ≤ nodes + len → most' ≡ most → kept' ≡ kept + 1 → room ≤ room' + 1
    → HasRoom (words - 1) (letters - len) nodes' most' held most_held kept' room'
room_kept words letters nodes most held most_held kept room len nodes' most' kept' room' r some short more few same one less =
    let rooted : 0 < nodes = r.rooted (omega arith) in
    record {
      rooted = λ any. omega arith;
      nodes_fit = omega (arith, r.nodes_fit);
      nodes_few = omega (arith, r.nodes_few);
      held_fit = omega (arith, r.held_fit);
      kept_fit = omega (arith, r.kept_fit);
      kept_few = omega (arith, r.kept_few);
    }

-- more room was made, and a root where there was no node
pub room_made : (words letters nodes most held most_held kept room more_words more_letters nodes' most' held' most_held' kept' room' : ℕ) → HasRoom words letters nodes most held most_held kept room
    → more_words ≤ no_answer - (kept + held) → more_letters < no_answer - nodes → held + more_words ≤ room' → room ≤ room' → held + more_words ≤ most_held' → most_held ≤ most_held'
    → nodes + (more_letters + 1) ≤ most' → most ≤ most' → 0 < nodes' → nodes' ≤ nodes + 1 → (0 < nodes → nodes' ≡ nodes) → held' ≡ held → kept' ≡ kept
    → HasRoom (max words more_words) (max letters more_letters) nodes' most' held' most_held' kept' room'
room_made words letters nodes most held most_held kept room more_words more_letters nodes' most' held' most_held' kept' room' r few_words few_letters fit_kept more_kept fit_held more_held fit_nodes more_nodes some one same is_held is_kept =
    record {
      rooted = λ any. some;
      nodes_fit = fit (cases_lt 0 nodes);
      nodes_few = few (cases_lt 0 nodes);
      held_fit = omega (arith, r.held_fit);
      kept_fit = omega (arith, r.kept_fit);
      kept_few = omega (arith, r.kept_few);
    }
  where
    none : nodes ≤ 0 → letters ≡ 0
    none empty = ⊎_elim (λ (any : 0 < letters). let rooted : 0 < nodes = r.rooted (omega arith) in absurd (omega arith)) (λ (le : letters ≤ 0). omega arith) (cases_lt 0 letters)

    fit : (0 < nodes) ⊎ (nodes ≤ 0) → nodes' + max letters more_letters ≤ most'
    fit (inl any) = omega (arith, same any, r.nodes_fit)
    fit (inr empty) = omega (arith, none empty)

    few : (0 < nodes) ⊎ (nodes ≤ 0) → nodes' + max letters more_letters ≤ no_answer
    few (inl any) = omega (arith, same any, r.nodes_few)
    few (inr empty) = omega (arith, none empty)

-- a word is claimed
pub room_claimed : (words letters nodes most held most_held kept room len nodes' most' held' most_held' : ℕ) → HasRoom words letters nodes most held most_held kept room
    → 1 ≤ words → len ≤ letters → nodes ≤ nodes' → nodes' ≤ nodes + len → most' ≡ most → held' ≡ held + 1 → most_held' ≡ most_held
    → HasRoom (words - 1) (letters - len) nodes' most' held' most_held' kept room
room_claimed words letters nodes most held most_held kept room len nodes' most' held' most_held' r some short more few same one same_held =
    let rooted : 0 < nodes = r.rooted (omega arith) in
    record {
      rooted = λ any. omega arith;
      nodes_fit = omega (arith, r.nodes_fit);
      nodes_few = omega (arith, r.nodes_few);
      held_fit = omega (arith, r.held_fit);
      kept_fit = omega (arith, r.kept_fit);
      kept_few = omega (arith, r.kept_few);
    }

-- a claim is answered
pub room_filled : (words letters nodes most held most_held kept room nodes' most' held' most_held' kept' room' : ℕ) → HasRoom words letters nodes most held most_held kept room
    → nodes' ≡ nodes → most' ≡ most → held' + 1 ≤ held → most_held' ≡ most_held → kept' ≡ kept + 1 → room ≤ room' + 1
    → HasRoom words letters nodes' most' held' most_held' kept' room'
room_filled words letters nodes most held most_held kept room nodes' most' held' most_held' kept' room' r same same_most less same_held one room_less =
    record {
      rooted = λ any. let rooted : 0 < nodes = r.rooted any in omega arith;
      nodes_fit = omega (arith, r.nodes_fit);
      nodes_few = omega (arith, r.nodes_few);
      held_fit = omega (arith, r.held_fit);
      kept_fit = omega (arith, r.kept_fit);
      kept_few = omega (arith, r.kept_few);
    }

-- a claim is given up
pub room_released : (words letters nodes most held most_held kept room nodes' most' held' most_held' : ℕ) → HasRoom words letters nodes most held most_held kept room
    → nodes' ≡ nodes → most' ≡ most → held' ≤ held → most_held' ≡ most_held
    → HasRoom words letters nodes' most' held' most_held' kept room
room_released words letters nodes most held most_held kept room nodes' most' held' most_held' r same same_most less same_held =
    record {
      rooted = λ any. let rooted : 0 < nodes = r.rooted any in omega arith;
      nodes_fit = omega (arith, r.nodes_fit);
      nodes_few = omega (arith, r.nodes_few);
      held_fit = omega (arith, r.held_fit);
      kept_fit = omega (arith, r.kept_fit);
      kept_few = omega (arith, r.kept_few);
    }
