use Rattle.std.proofs.Common.{◌≤◌, List, length, Option, Result, Ok, Err, IfOk, subst, sym, ap, arith, ℕ}
use Rattle.std.specs.List.{All}
use Rattle.lw_words.specs.Word.{answers_of, IsWord}
use Rattle.lw_words.specs.declared.kept.KeptAnswer.{KeptAnswer}
use Rattle.lw_words.specs.declared.memory.NoMemory.{NoMemory}
use Rattle.lw_mealy.specs.Machine.{Rows}
use Rattle.lw_cache.specs.Against.{DiffersFirst}
use Rattle.lw_cache.specs.Caching.{Caching}
use Rattle.lw_cache.specs.bodies.Trie.{node_at, IsStored, no_answer}
use Rattle.lw_cache.specs.bodies.Scanning.{AreLetters, IsFirstTo}
use Rattle.lw_cache.specs.declared.node.Node.{Node}
use Rattle.lw_cache.specs.declared.node.Held.{Held}
use Rattle.lw_cache.proofs.SeenLemmas.{letters_of, differs_first}
use Rattle.lw_cache.proofs.cache.Cache.against.Goals as goal

pub first_difference-requires-clause-letters : goal.first_difference-requires-clause-letters
first_difference-requires-clause-letters c =
    subst (λ (l : List Node). AreLetters (node_at l) (length l) c.args.m.now.inputs) (sym c.deref.ensures.value)
    (letters_of (node_at c.self.inside.nodes.items) (length c.self.inside.nodes.items) c.self.inside.held.items c.self.inside.kept.answers c.self.invariant.0 (omega arith) c.args.m.now.inputs
    (subst (λ (k : List KeptAnswer). All (λ k. IsWord c.args.m.now.inputs k.word) (answers_of k)) (ap (λ (v : Caching). v.kept) (sym c.self.view_is)) c.requires))

seen : (nodes : List Node) (held : List Held) (kept : List KeptAnswer) (m : Rows) → IsStored (node_at nodes) (length nodes) held kept → length kept ≤ no_answer
    → (result : Result (Option (List ℕ)) NoMemory) → IfOk result (IsFirstTo (node_at nodes) (length nodes) m (length nodes)) → IfOk result (DiffersFirst m (answers_of kept))
seen nodes held kept m s few (Ok best) first = differs_first (node_at nodes) (length nodes) held kept s few m best first
seen nodes held kept m s few (Err e) first = tt

pub returns : goal.returns
returns c =
    subst (λ (k : List KeptAnswer). IfOk c.first_difference.result (DiffersFirst c.args.m.now.rows (answers_of k))) (ap (λ (v : Caching). v.kept) c.self.view_is)
    (seen c.self.inside.nodes.items c.self.inside.held.items c.self.inside.kept.answers c.args.m.now.rows c.self.invariant.0 (omega arith) c.first_difference.result
    (subst (λ (l : List Node). IfOk c.first_difference.result (IsFirstTo (node_at l) (length l) c.args.m.now.rows (length l))) c.deref.ensures.value c.first_difference.ensures))
