-- What the machine of a closed tree is.
use Rattle.std.specs.Prelude.{◌≡◌, ℕ, ◌<◌, List, ◌++◌, length}
use Rattle.std.specs.List.{All}
use Rattle.lw_words.specs.Word.{Answer, AreAnswers}
use Rattle.lw_mealy.specs.Machine.{Rows}
use Rattle.lw_cache.specs.Crowd.{IsCrowd}
use Rattle.lw_cache.specs.Cut.{AreAccess, StepsAreRead}
use Rattle.lw_tree.specs.Tree.{TreeState, discriminators, final_discriminators, temporaries, IsTree, BranchesAreRead, IsClosed, IsMachineOf, new_tree}

-- a new tree has no branch and no output that could be read otherwise
abbrev pub NewIsRead : Type 0
NewIsRead = (ks : List Answer) (a b most : ℕ) → BranchesAreRead ks (new_tree a b most)

-- answers that come leave what the branches are
abbrev pub BranchesStay : Type 0
BranchesStay = (ks more : List Answer) (t : TreeState) → BranchesAreRead ks t → BranchesAreRead (ks ++ more) t

-- a closed tree has a machine
abbrev pub HasMachine : Type 0
HasMachine = (t : TreeState) → IsTree t → IsClosed t → (m : Rows) × IsMachineOf t m

-- a tree has one machine at most
abbrev pub OneMachine : Type 0
OneMachine = (t : TreeState) (m n : Rows) → IsTree t → IsMachineOf t m → IsMachineOf t n → m ≡ n

-- each access word leads to its state
abbrev pub AccessLeads : Type 0
AccessLeads = (t : TreeState) (m : Rows) → IsTree t → IsMachineOf t m → AreAccess t.inputs m t.access

-- each access word followed by each letter is known, with the machine's outputs
abbrev pub MachineGivesSteps : Type 0
MachineGivesSteps = (ks : List Answer) (t : TreeState) (m : Rows) → IsTree t → AreAnswers t.inputs ks → BranchesAreRead ks t → IsMachineOf t m → StepsAreRead ks t.inputs m t.access

-- any two access words are apart
abbrev pub AccessIsCrowd : Type 0
AccessIsCrowd = (ks : List Answer) (t : TreeState) → IsTree t → BranchesAreRead ks t → IsCrowd ks t.access

-- there are fewer inner nodes than states, and so fewer final ones
abbrev pub InnersAreFew : Type 0
InnersAreFew = (t : TreeState) → IsTree t → length (discriminators t.nodes) < length t.access

abbrev pub FinalsAreFew : Type 0
FinalsAreFew = (t : TreeState) → IsTree t → length (final_discriminators t.nodes) < length t.access

-- where no node is temporary, each discriminator has fewer letters than there are states
abbrev pub DiscriminatorsAreShort : Type 0
DiscriminatorsAreShort = (t : TreeState) → IsTree t → temporaries t.nodes ≡ 0 → All (λ w. length w < length t.access) (discriminators t.nodes)
