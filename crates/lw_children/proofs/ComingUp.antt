-- Names of outputs that weren't declared: each came up in a kept answer.
use Rattle.std.proofs.Common.{◌≡◌, ℕ, List, Option, Some, None, is_some, ap, sym, ◌∙◌, subst₂}
use Rattle.std.proofs.lemmas.Bool.{true≢false}
use Rattle.lw_words.specs.declared.kept.KeptAnswer.{KeptAnswer}
use Rattle.lw_desk.specs.Ending.{ComeUp, FreeComeUp}
use Rattle.lw_names.specs.Naming.{IsFree, Naming}
use Rattle.lw_pool.proofs.JoinLemmas.{declared_come_up, none_come_up}
use Rattle.lw_pool.specs.Sharing.{declared_by}
use Rattle.lw_children.specs.Crews.{first_naming}

-- at first there is none that is free
pub first_come_up : (outputs : Option (List (List ℕ))) (kept : List KeptAnswer) (naming : Naming) → naming ≡ first_naming outputs → FreeComeUp kept naming
first_come_up None kept naming is = none_come_up kept naming (ap (λ (n : Naming). n.names) is)
first_come_up (Some names) kept naming is = declared_come_up kept naming (ap (λ (n : Naming). n.brought) is)

pub came_up_as : (kept left : List KeptAnswer) (naming names : Naming) → kept ≡ left → naming ≡ names → FreeComeUp left names → FreeComeUp kept naming
came_up_as kept left naming names kept_is naming_is is = subst₂ (λ (ks : List KeptAnswer) (n : Naming). FreeComeUp ks n) (sym kept_is) (sym naming_is) is

free_by : (names : List (List ℕ)) (brought : Option (List (List (List ℕ)))) → declared_by names brought ≡ None → IsFree brought
free_by names None none = absurd (true≢false (ap is_some none))
free_by names (Some b) none = tt

-- where no names were declared at first, none are
pub came_up_undeclared : (kept : List KeptAnswer) (naming first : Naming) → first ≡ first_naming None → declared_by naming.names naming.brought ≡ declared_by first.names first.brought → FreeComeUp kept naming → ComeUp kept naming.names
came_up_undeclared kept naming first is sharing come_up = come_up (free_by naming.names naming.brought (sharing ∙ ap (λ (n : Naming). declared_by n.names n.brought) is))
