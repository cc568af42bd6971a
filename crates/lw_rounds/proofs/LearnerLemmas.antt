-- What a table and a tree have in common.
use Rattle.std.proofs.Common.{◌≡◌, ◌⊎◌, inl, inr, ℕ, suc, ◌+◌, ◌<◌, ◌≤◌, List, ◌∷◌, ◌++◌, length, Result, Ok, Err, OnOk, OnErr, IfOk, IfErr, refl, ap, sym, ◌∙◌, subst, arith}
use Rattle.std.specs.Prelude.{⊤}
use Rattle.std.proofs.lemmas.List.{length-append}
use Rattle.lw_words.specs.Word.{Answer, AreAnswers, answers_of}
use Rattle.lw_words.specs.declared.kept.KeptAnswer.{KeptAnswer}
use Rattle.lw_mealy.specs.Machine.{Rows}
use Rattle.lw_cache.specs.Crowd.{IsCrowd}
use Rattle.lw_cache.specs.Cut.{AreAccess, StepsAreRead}
use Rattle.lw_cache.specs.declared.stops.GrowStop.{GrowStop}
use Rattle.lw_cache.specs.declared.stops.GrowStop.TheVariants as grow
use Rattle.lw_table.specs.Table.{TableState, new_table}
use Rattle.lw_table.specs.Table as table_state
use Rattle.lw_table.specs.Grown as table
use Rattle.lw_table.proofs.CellLemmas.{cells_more}
use Rattle.lw_table.proofs.CellLemmas as cells
use Rattle.lw_table.proofs.NewLemmas as new_cells
use Rattle.lw_table.proofs.MachineLemmas as of_table
use Rattle.lw_tree.specs.Tree.{TreeState, final_discriminators, temporaries, new_tree}
use Rattle.lw_tree.specs.Tree as tree_state
use Rattle.lw_tree.specs.Grown as tree
use Rattle.lw_tree.proofs.BranchLemmas.{branches_more}
use Rattle.lw_tree.proofs.BranchLemmas as branches
use Rattle.lw_tree.proofs.MachineLemmas as of_tree
use Rattle.lw_tree.proofs.FewLemmas.{finals_are_few}
use Rattle.lw_settle.specs.Settling.{IsReplaced, IsSettled}
use Rattle.lw_settle.specs.declared.settling.Settled.{Settled}
use Rattle.lw_settle.specs.declared.settling.Settled.TheVariants.{NoBlock, Replaced}
use Rattle.lw_rounds.specs.Learner.{inputs_of, most_of, access_of, refinements_of, IsLearner, IsRead, IsClosedLearner, IsMachineOf}
use Rattle.lw_rounds.specs.declared.learner.Learner.{Learner}
use Rattle.lw_rounds.specs.declared.learner.Learner.TheVariants.{Table, Tree}
use Rattle.lw_rounds.specs.declared.learner.Kind.TheVariants as kind
use Rattle.lw_rounds.specs.bodies.Rounds.{HasCrowd, IsNew, Grows, SettlesBlock, StopsGrowth, finals_of}

pub read_more : (before gained now : List KeptAnswer) (l : Learner) → now ≡ before ++ gained → IsRead (answers_of before) l → IsRead (answers_of now) l
read_more before gained now (Table t) grown read = cells_more before gained now t grown read
read_more before gained now (Tree t) grown read = branches_more before gained now t grown read

pub access_is_crowd : (ks : List Answer) (l : Learner) → IsLearner l → IsRead ks l → IsCrowd ks (access_of l)
access_is_crowd ks (Table t) is read = cells.access_is_crowd ks t is read
access_is_crowd ks (Tree t) is read = branches.access_is_crowd ks t is read

pub access_leads : (l : Learner) (m : Rows) → IsLearner l → IsMachineOf l m → AreAccess (inputs_of l) m (access_of l)
access_leads (Table t) m is of = of_table.access_leads t m is of
access_leads (Tree t) m is of = of_tree.access_leads t m is of

pub steps_are_read : (ks : List Answer) (l : Learner) (m : Rows) → IsLearner l → AreAnswers (inputs_of l) ks → IsRead ks l → IsClosedLearner l → IsMachineOf l m → StepsAreRead ks (inputs_of l) m (access_of l)
steps_are_read ks (Table t) m is are read closed of = of_table.machine_gives_cells ks t m is are read closed of
steps_are_read ks (Tree t) m is are read closed of = of_tree.machine_gives_steps ks t m is are read of

pub states_are : (l : Learner) (m : Rows) → IsMachineOf l m → length m ≡ length (access_of l)
states_are (Table t) m of = of.states
states_are (Tree t) m of = of.states

pub few_states : (l : Learner) → IsLearner l → length (access_of l) ≤ most_of l
few_states (Table t) is = is.few
few_states (Tree t) is = is.few

pub few_refinements : (l : Learner) → IsLearner l → refinements_of l < length (access_of l)
few_refinements (Table t) is = is.refined
few_refinements (Tree t) is = is.refined

-- the access words are a crowd of as many words as the machine has states
pub has_crowd : (ks : List Answer) (l : Learner) (m : Rows) → IsLearner l → IsRead ks l → IsMachineOf l m → HasCrowd ks (length m)
has_crowd ks l m is read of = record { words = access_of l; crowd = access_is_crowd ks l is read; each = sym (states_are l m of) }

longer : (words more now : List (List ℕ)) → now ≡ words ++ more → length words ≤ length now
longer words more now is = let e : length now ≡ length words + length more = ap length is ∙ length-append words more in omega (arith, e)

table_stops : (ks : List Answer) (t u : TableState) (result : Result ⊤ GrowStop) → u.most ≡ t.most → table.TellsCrowd ks u result → IfErr result (StopsGrowth t.most ks)
table_stops ks t u (Ok _) most tells = tt
table_stops ks t u (Err (grow.Ask stop)) most tells = tt
table_stops ks t u (Err (grow.Crowd words)) most tells =
    let crowd = tells words refl in
    record { count = crowd.count ∙ ap (λ (n : ℕ). n + 1) most; crowd = crowd.apart }

tree_stops : (X : Type 0) (ks : List Answer) (t u : TreeState) (result : Result X GrowStop) → u.most ≡ t.most → tree.TellsCrowd ks u result → IfErr result (StopsGrowth t.most ks)
tree_stops X ks t u (Ok _) most tells = tt
tree_stops X ks t u (Err (grow.Ask stop)) most tells = tt
tree_stops X ks t u (Err (grow.Crowd words)) most tells =
    let crowd = tells words refl in
    record { count = crowd.count ∙ ap (λ (n : ℕ). n + 1) most; crowd = crowd.apart }

pub table_grows : (ks : List Answer) (t u : TableState) (result : Result ⊤ GrowStop) → table.HasGrown ks t u → OnOk result (table_state.IsClosedTable u) → table.TellsCrowd ks u result → Grows ks (Table t) (Table u) result
table_grows ks t u result grown closed tells =
    record {
      alike = record { kind = refl; inputs = grown.inputs; outputs = grown.outputs; most = grown.most };
      learner = grown.table;
      read = grown.read;
      finals = omega arith;
      longer = longer t.access grown.more u.access grown.access;
      closed = closed;
      stops = table_stops ks t u result grown.most tells;
    }

pub tree_grows : (X : Type 0) (ks : List Answer) (t u : TreeState) (result : Result X GrowStop) → tree.HasGrown ks t u → finals_of (Tree t) ≤ finals_of (Tree u) → OnOk result (tree_state.IsClosed u) → tree.TellsCrowd ks u result → Grows ks (Tree t) (Tree u) result
tree_grows X ks t u result grown finals closed tells =
    record {
      alike = record { kind = refl; inputs = grown.inputs; outputs = grown.outputs; most = grown.most };
      learner = grown.tree;
      read = grown.read;
      finals = finals;
      longer = longer t.access grown.more u.access grown.access;
      closed = closed;
      stops = tree_stops X ks t u result grown.most tells;
    }

pub new_table_is : (a b most : ℕ) (l : Learner) (t : TableState) → t ≡ new_table a b most → l ≡ Table t → IsNew kind.Table a b most l
new_table_is a b most l t fresh is =
    subst (IsNew kind.Table a b most) (ap Table (sym fresh) ∙ sym is)
    (record { of_kind = refl; inputs = refl; outputs = refl; limit = refl; read = λ ks. new_cells.new_is_read ks a b most })

pub new_tree_is : (a b most : ℕ) (l : Learner) (t : TreeState) → t ≡ new_tree a b most → l ≡ Tree t → IsNew kind.Ttt a b most l
new_tree_is a b most l t fresh is =
    subst (IsNew kind.Ttt a b most) (ap Tree (sym fresh) ∙ sym is)
    (record { of_kind = refl; inputs = refl; outputs = refl; limit = refl; read = λ ks. branches.new_is_read ks a b most })

pub table_stays : (ks : List Answer) (t : TableState) (s : Settled) → table_state.IsTable t → table_state.CellsAreRead ks t → table_state.IsClosedTable t → Grows ks (Table t) (Table t) (Ok s)
table_stays ks t s is read closed =
    record {
      alike = record { kind = refl; inputs = refl; outputs = refl; most = refl };
      learner = is;
      read = read;
      finals = omega arith;
      longer = omega arith;
      closed = closed;
      stops = tt;
    }

-- a closing leaves the final nodes
pub as_many_finals : (t u : TreeState) → final_discriminators u.nodes ≡ final_discriminators t.nodes → finals_of (Tree t) ≤ finals_of (Tree u)
as_many_finals t u is = let e : length (final_discriminators u.nodes) ≡ length (final_discriminators t.nodes) = ap length is in omega (arith, e)

-- a settling adds one
one_more : (t u : TreeState) → IsReplaced t u → finals_of (Tree t) < finals_of (Tree u)
one_more t u is =
    let has = is.final in
    let were : length (final_discriminators t.nodes) ≡ length has.front + length has.back = ap length has.were ∙ length-append has.front has.back in
    let are : length (final_discriminators u.nodes) ≡ length has.front + suc (length has.back) = ap length has.are ∙ length-append has.front (is.word ∷ has.back) in
    omega (arith, were, are)

pub settled_finals : (ks : List Answer) (t u : TreeState) (result : Result Settled GrowStop) → IfOk result (IsSettled t u) → OnErr result ((u ≡ t) ⊎ IsReplaced t u) → finals_of (Tree t) ≤ finals_of (Tree u)
settled_finals ks t u (Ok NoBlock) settled left = as_many_finals t u (ap (λ (s : TreeState). final_discriminators s.nodes) settled.1)
settled_finals ks t u (Ok Replaced) settled left = let more = one_more t u settled.1 in omega (arith, more)
settled_finals ks t u (Err stop) settled (inl same) = as_many_finals t u (ap (λ (s : TreeState). final_discriminators s.nodes) same)
settled_finals ks t u (Err stop) settled (inr replaced) = let more = one_more t u replaced in omega (arith, more)

pub tree_settles : (t u : TreeState) (result : Result Settled GrowStop) → IfOk result (IsSettled t u) → IfOk result (SettlesBlock (Tree t) (Tree u))
tree_settles t u (Ok NoBlock) settled = (subst (λ (s : TreeState). temporaries s.nodes ≡ 0) (sym settled.1) settled.0, ap Tree settled.1)
tree_settles t u (Ok Replaced) settled = one_more t u settled.1
tree_settles t u (Err stop) settled = tt

-- a split leaves them
pub split_finals : (word suffix : List ℕ) (leaf : ℕ) (t u : TreeState) (result : Result ⊤ GrowStop) → OnOk result (tree.IsSplit word suffix leaf t u) → OnErr result ((u ≡ t) ⊎ tree.IsSplit word suffix leaf t u) → finals_of (Tree t) ≤ finals_of (Tree u)
split_finals word suffix leaf t u (Ok _) split left = as_many_finals t u split.finals
split_finals word suffix leaf t u (Err stop) split (inl same) = as_many_finals t u (ap (λ (s : TreeState). final_discriminators s.nodes) same)
split_finals word suffix leaf t u (Err stop) split (inr is) = as_many_finals t u is.finals

pub few_finals : (l : Learner) → IsLearner l → finals_of l < most_of l
few_finals (Table t) is = is.most.0
few_finals (Tree t) is = let few = is.few in let less = finals_are_few t is in omega (arith, few, less)
