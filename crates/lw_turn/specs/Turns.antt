-- A turn that is under way.
use Rattle.std.specs.Prelude.{◌≡◌, ℕ, List, [], ◌∷◌, ◌++◌, Option, Some}
use Rattle.atomic_table.specs.Table.{Me}
use Rattle.lw_turn.specs.declared.shared.Entry.{Entry}
use Rattle.lw_turn.specs.declared.view.View.{View}
use Rattle.lw_turn.specs.declared.view.Doing.{Doing}

-- the history so far, and this entry
abbrev pub with_entry : {O A B : Type 0} → View O A B → ℕ → A → B → List (Entry A B)
with_entry v n ask reply = v.seen ++ record { actor = n; ask = ask; reply = reply } ∷ []

module _ {C O A B : Type 0} (opening : C → O) (entries : C → List (Entry A B)) where
  -- the core, whose list is this history, is out with the caller
  pub record Carries (core : C) (history : List (Entry A B)) (me : Me (Option C) (Doing O A B)) : Type 0 where
    pub slot : me.1 ≡ (0, Some core) ∷ []
    pub opened : opening core ≡ me.0.view.opening
    pub list : entries core ≡ history

  -- it was asked once since the caller saw the history, and the history is lawful still
  pub record WasAsked (legal : O → List (Entry A B) → Type 0) (core : C) (v : View O A B) (n : ℕ) (ask : A) (reply : B) (me : Me (Option C) (Doing O A B)) : Type 0 where
    pub carries : Carries core (with_entry v n ask reply) me
    pub lawful : legal v.opening (with_entry v n ask reply)
