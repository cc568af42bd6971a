-- The names of each instance as names are brought.
use Rattle.std.proofs.Common.{◌≡◌, ◌≢◌, ℕ, ◌<◌, List, [], ◌∷◌, ◌++◌, get_or, Bool, false, Option, Some, None, is_some, refl, ap, sym, ◌∙◌, subst, arith, append_assoc, append-nil, length-set, get_or-set_same, get_or-set_other}
use Rattle.lw_names.specs.Names.{with_names}
use Rattle.lw_names.specs.Naming.{Naming, own_by, own_names, brought_more, bring, HasLists}
use Rattle.lw_desk.specs.Step.{DeskState, GivesAll}
use Rattle.lw_desk.specs.History.{MayGiveAll, names_given}
use Rattle.lw_desk.specs.declared.ask.Give.{Give}

-- declared names are not brought
abbrev pub NoneDeclared : Option (List (List (List ℕ))) → List (List ℕ) → Type 0
NoneDeclared brought ns = is_some brought ≡ false → ns ≡ []

own_more_by : (names : List (List ℕ)) (b : Option (List (List (List ℕ)))) (actor n : ℕ) (ns : List (List ℕ)) → HasLists b n → actor < n → NoneDeclared b ns → own_by (with_names names ns) (brought_more b actor ns) actor ≡ own_by names b actor ++ ns
own_more_by names None actor n ns lists lt none = subst (λ (l : List (List ℕ)). with_names names l ≡ names ++ l) (sym (none refl)) (sym (append-nil names))
own_more_by names (Some b) actor n ns lists lt none = get_or-set_same b actor (get_or b actor [] ++ ns) [] (omega (arith, lists, lt))

own_other_by : (names : List (List ℕ)) (b : Option (List (List (List ℕ)))) (actor other : ℕ) (ns : List (List ℕ)) → other ≢ actor → NoneDeclared b ns → own_by (with_names names ns) (brought_more b actor ns) other ≡ own_by names b other
own_other_by names None actor other ns differ none = ap (with_names names) (none refl)
own_other_by names (Some b) actor other ns differ none = get_or-set_other b actor other (get_or b actor [] ++ ns) [] differ

lists_by : (b : Option (List (List (List ℕ)))) (actor n : ℕ) (ns : List (List ℕ)) → HasLists b n → HasLists (brought_more b actor ns) n
lists_by None actor n ns lists = tt
lists_by (Some b) actor n ns lists = omega (arith, lists, length-set b actor (get_or b actor [] ++ ns))

kind_by : (b : Option (List (List (List ℕ)))) (actor : ℕ) (ns : List (List ℕ)) → is_some (brought_more b actor ns) ≡ is_some b
kind_by None actor ns = refl
kind_by (Some b) actor ns = refl

-- from names to names, as an actor brings these
pub record OwnMore (n actor : ℕ) (ns : List (List ℕ)) (was now : Naming) : Type 0 where
  pub own : own_names now actor ≡ own_names was actor ++ ns
  pub others : (other : ℕ) → other ≢ actor → own_names now other ≡ own_names was other
  pub lists : HasLists now.brought n
  pub kind : is_some now.brought ≡ is_some was.brought

pub own_more : (naming : Naming) (actor n : ℕ) (ns : List (List ℕ)) → HasLists naming.brought n → actor < n → NoneDeclared naming.brought ns → OwnMore n actor ns naming (bring naming actor ns)
own_more naming actor n ns lists lt none = record {
  own = own_more_by naming.names naming.brought actor n ns lists lt none;
  others = λ other differ. own_other_by naming.names naming.brought actor other ns differ none;
  lists = lists_by naming.brought actor n ns lists;
  kind = kind_by naming.brought actor ns;
}

pub gives_names : (batch : List (List ℕ)) (actor n : ℕ) (gs : List Give) (s t : DeskState) (free : Bool) (own : List (List ℕ)) → HasLists s.naming.brought n → actor < n → is_some s.naming.brought ≡ free → MayGiveAll batch free own gs → GivesAll batch actor gs s t → OwnMore n actor (names_given gs) s.naming t.naming
gives_names batch actor n [] s t free own lists lt kind may same =
    subst (λ (x : DeskState). OwnMore n actor [] s.naming x.naming) (sym same) (record { own = sym (append-nil (own_names s.naming actor)); others = λ other differ. refl; lists = lists; kind = refl })
gives_names batch actor n (g ∷ gs) s t free own lists lt kind may gives =
    let first : OwnMore n actor g.names s.naming (bring s.naming actor g.names) = own_more s.naming actor n g.names lists lt (λ declared. may.0.declared (sym kind ∙ declared)) in
    let here : gives.0.naming ≡ bring s.naming actor g.names = ap (λ (x : DeskState). x.naming) gives.1.after in
    let one : OwnMore n actor g.names s.naming gives.0.naming = subst (OwnMore n actor g.names s.naming) (sym here) first in
    let rest : OwnMore n actor (names_given gs) gives.0.naming t.naming = gives_names batch actor n gs gives.0 t free (own ++ g.names) one.lists lt (one.kind ∙ kind) may.2 gives.2 in
    record {
      own = rest.own ∙ (ap (λ (l : List (List ℕ)). l ++ names_given gs) one.own ∙ append_assoc (own_names s.naming actor) g.names (names_given gs));
      others = λ other differ. rest.others other differ ∙ one.others other differ;
      lists = rest.lists;
      kind = rest.kind ∙ one.kind;
    }
