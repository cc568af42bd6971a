-- Instances of a machine, one after the other, and the pool of them.
use Rattle.std.proofs.Common.{◌≡◌, ⊎_elim, ℕ, ◌+◌, ◌<◌, ◌≤◌, List, [], ◌∷◌, ◌++◌, length, map, All, get_or, Some, None, refl, ap, sym, ◌∙◌, subst, arith}
use Rattle.std.proofs.lemmas.Bool.{cases_lt}
use Rattle.std.proofs.lemmas.List.{get_or_append_left, length_push, get_or_push, length-map}
use Rattle.std.proofs.lemmas.List.Elements.{All-map}
use Rattle.lw_words.specs.declared.kept.KeptAnswer.{KeptAnswer}
use Rattle.lw_mealy.specs.Machine.{MealyMachine}
use Rattle.lw_mealy.specs.Origin.{Origin}
use Rattle.lw_sul.specs.SessionState.{SessionState}
use Rattle.lw_sul.specs.TableSulState.{TableSulState}
use Rattle.lw_names.specs.Naming.{Naming}
use Rattle.lw_pool.specs.Pool.{Seen, Member, PoolState, origins_of}
use Rattle.lw_pool.specs.Opening.{MayJoin, AllMayJoin}
use Rattle.lw_workers.specs.bodies.Instances.{AreInstances, IsPoolOf, instance_of}

-- a session of a table, and what the table tells
abbrev pub member : SessionState TableSulState → Member TableSulState
member s = record { session = s; seen = record { instance = s.instance; journal = s.journal; names = s.sul.names; most = length s.sul.names; stop = None; origin = record { machine = Some s.sul.machine.rows; link = None; letters = None }; inputs = s.sul.machine.inputs; outputs = s.sul.machine.outputs } }

-- a session that was made of a table in its first state
made : (t : MealyMachine) (names : List (List ℕ)) (number : ℕ) (s : SessionState TableSulState) (table : TableSulState) (n : ℕ) → s ≡ record { instance = n; sul = table; journal = [] } → n ≡ number → table.machine ≡ t → table.state ≡ 0 → table.names ≡ names → s ≡ instance_of t names number
made t names number s table n same n_is table_is state_is names_is =
    same
    ∙ (ap (λ (k : ℕ). let x : SessionState TableSulState = record { instance = k; sul = table; journal = [] } in x) n_is
    ∙ ap (λ (u : TableSulState). let x : SessionState TableSulState = record { instance = number; sul = u; journal = [] } in x) begun)
  where
    begun : table ≡ record { machine = t; state = 0; names = names }
    begun =
        ap (λ (m : MealyMachine). let u : TableSulState = record { machine = m; state = table.state; names = table.names } in u) table_is
        ∙ (ap (λ (q : ℕ). let u : TableSulState = record { machine = t; state = q; names = table.names } in u) state_is
        ∙ ap (λ (l : List (List ℕ)). let u : TableSulState = record { machine = t; state = 0; names = l } in u) names_is)

pub one_more_instance : (t : MealyMachine) (names : List (List ℕ)) (number : ℕ) (sessions now : List (SessionState TableSulState)) (s : SessionState TableSulState) (table : TableSulState) (n : ℕ) → AreInstances t names sessions → length sessions ≡ number → now ≡ sessions ++ s ∷ [] → s ≡ record { instance = n; sul = table; journal = [] } → n ≡ number → table.machine ≡ t → table.state ≡ 0 → table.names ≡ names → AreInstances t names now × (length now ≡ number + 1)
one_more_instance t names number sessions now s table n are count pushed same n_is table_is state_is names_is =
    (subst (AreInstances t names) (sym pushed) more, omega (arith, count, ap (λ (l : List (SessionState TableSulState)). length l) pushed, length_push sessions s))
  where
    more : AreInstances t names (sessions ++ s ∷ [])
    more i d lt =
        ⊎_elim
        (λ (before : i < length sessions). get_or_append_left sessions (s ∷ []) d i before ∙ are i d before)
        (λ (le : length sessions ≤ i).
        let here : number ≡ i = omega (arith, le, lt, count, length_push sessions s) in
        subst (λ (k : ℕ). get_or (sessions ++ s ∷ []) k d ≡ instance_of t names k) here (get_or_push sessions s d number count ∙ made t names number s table n same n_is table_is state_is names_is))
        (cases_lt i (length sessions))

-- instances of a machine may make a pool over the names of its outputs
pub instances_join : (t : MealyMachine) (names : List (List ℕ)) (naming : Naming) (inputs outputs : ℕ) (sessions : List (SessionState TableSulState)) → length names ≡ t.outputs → naming ≡ record { names = names; brought = None } → inputs ≡ t.inputs → outputs ≡ t.outputs → AreInstances t names sessions → AllMayJoin member naming inputs outputs sessions
instances_join t names naming inputs outputs sessions named same inputs_is outputs_is are i d lt =
    subst (λ (n : Naming). MayJoin n inputs outputs i (member (get_or sessions i d)).seen) (sym same)
    (subst (λ (s : SessionState TableSulState). MayJoin (record { names = names; brought = None }) inputs outputs i (member s).seen) (sym (are i d lt)) (record {
      instance = refl;
      inputs_is = sym inputs_is;
      outputs_is = sym outputs_is;
      journal = refl;
      live = refl;
      fits = (refl, refl, sym named);
      names = refl;
    }))

-- and that pool is one of the machine's instances
pub pool_begun : (t : MealyMachine) (names : List (List ℕ)) (workers : ℕ) (naming : Naming) (prior : List KeptAnswer) (sessions : List (SessionState TableSulState)) (p : PoolState TableSulState) → AreInstances t names sessions → length sessions ≡ workers → p.members ≡ map member sessions → p.inputs ≡ t.inputs → p.outputs ≡ t.outputs → p.naming ≡ naming → p.prior ≡ prior → p.kept ≡ prior → p.stop ≡ None → IsPoolOf t workers naming prior p
pool_begun t names workers naming prior sessions p are count members inputs outputs naming_is prior_is kept stop = record {
  inputs = inputs;
  outputs = outputs;
  naming = naming_is;
  prior_is = prior_is;
  kept = kept;
  stop = stop;
  sessions = ap (λ (ms : List (Member TableSulState)). length (seens ms)) members ∙ (length-map (map member sessions) (λ (m : Member TableSulState). m.seen) ∙ (length-map sessions member ∙ count));
  machines = subst (λ (ms : List (Member TableSulState)). All (λ o. o.machine ≡ Some t.rows) (origins_of (seens ms))) (sym members)
      (All-map (λ (o : Origin). o.machine ≡ Some t.rows) (λ (s : Seen). s.origin) (seens (map member sessions))
      (All-map (λ (s : Seen). s.origin.machine ≡ Some t.rows) (λ (m : Member TableSulState). m.seen) (map member sessions)
      (All-map (λ (m : Member TableSulState). m.seen.origin.machine ≡ Some t.rows) member sessions
      (λ i d lt. ap (λ (s : SessionState TableSulState). Some s.sul.machine.rows) (are i d lt)))));
}
  where
    seens : List (Member TableSulState) → List Seen
    seens ms = map (λ m. m.seen) ms
