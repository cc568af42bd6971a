-- An oracle and a closed tree, from one call to the next.
use Rattle.std.proofs.Common.{◌≡◌, ℕ, true, List, None, Result, Ok, Err, is_ok, sym, ◌∙◌, subst}
use Rattle.std.specs.List.{All}
use Rattle.std.proofs.lemmas.Bool.{false≢true}
use Rattle.lw_words.specs.Word.{answers_of, IsWord}
use Rattle.lw_words.specs.declared.kept.KeptAnswer.{KeptAnswer}
use Rattle.lw_mealy.specs.Machine.{Rows}
use Rattle.lw_cache.specs.Cut.{StepsAreRead}
use Rattle.lw_cache.specs.declared.stops.AskStop.{AskStop}
use Rattle.lw_cache.specs.Settling.{OracleState, Keeps, Leaves, asked_stop}
use Rattle.lw_cache.proofs.SettlingLemmas.{kept_are_answers}
use Rattle.lw_tree.specs.Grown.{HasGrown}
use Rattle.lw_tree.specs.Laws.{MachineGivesSteps}
use Rattle.lw_tree.specs.Tree.{TreeState, IsTree, IsClosed, IsMachineOf}
use Rattle.test_tree.specs.Trials.{IsReady}
use Rattle.lw_tree.proofs.BranchLemmas.{branches_more}

-- after a call that closed the tree
pub ready_closed : (o n : OracleState) (t now : TreeState) → t.inputs ≡ o.inputs → t.outputs ≡ o.outputs → Leaves o n None → HasGrown (answers_of n.kept) t now → IsClosed now → IsReady n now
ready_closed o n t now inputs outputs leaves grown closed =
    record {
      inputs = grown.inputs ∙ (inputs ∙ sym leaves.same.inputs);
      outputs = grown.outputs ∙ (outputs ∙ sym leaves.same.outputs);
      may = leaves.told;
      read = grown.read;
      closed = closed;
    }

-- after a call that only asked
pub ready_more : (o n : OracleState) (t : TreeState) → Leaves o n None → IsReady o t → IsReady n t
ready_more o n t leaves ready =
    record {
      inputs = ready.inputs ∙ sym leaves.same.inputs;
      outputs = ready.outputs ∙ sym leaves.same.outputs;
      may = leaves.told;
      read = branches_more o.kept leaves.gained n.kept t leaves.at_end ready.read;
      closed = ready.closed;
    }

-- after a call that only asked, and was answered
pub ready_asked : {X : Type 0} (result : Result X AskStop) (o n : OracleState) (t : TreeState) → Leaves o n (asked_stop result) → is_ok result ≡ true → IsReady o t → IsReady n t
ready_asked (Ok x) o n t leaves ok ready = ready_more o n t leaves ready
ready_asked (Err stop) o n t leaves ok ready = absurd (false≢true ok)

-- what is kept is of words over the letters of a machine that has as many
pub kept_words : (o : OracleState) (a : ℕ) {kept : List KeptAnswer} → a ≡ o.inputs → Keeps o → kept ≡ o.kept → All (λ w. IsWord a w.word) (answers_of kept)
kept_words o a same keeps is =
    let are = kept_are_answers o a same keeps in
    subst (λ (k : List KeptAnswer). All (λ w. IsWord a w.word) (answers_of k)) (sym is) (λ k d lt. (are k d lt).0)

-- the steps of a closed tree's machine are read of what is kept
pub steps_kept : (o : OracleState) (t : TreeState) (a : ℕ) (m : Rows) {access : List (List ℕ)} → MachineGivesSteps → IsTree t → IsReady o t → Keeps o → a ≡ t.inputs → IsMachineOf t m → access ≡ t.access → StepsAreRead (answers_of o.kept) a m access
steps_kept o t a m law g ready keeps same machine is =
    subst (λ (access : List (List ℕ)). StepsAreRead (answers_of o.kept) a m access) (sym is)
    (subst (λ (n : ℕ). StepsAreRead (answers_of o.kept) n m t.access) (sym same) (law (answers_of o.kept) t m g (kept_are_answers o t.inputs ready.inputs keeps) ready.read machine))
