-- How far a child has come that plays a machine.
use Rattle.std.specs.Prelude.{◌≡◌, ◌≢◌, ◌⊎◌, ℕ, ◌+◌, ◌<◌, List, [], ◌∷◌, ◌++◌, length, Option, Some, None, Result, Ok, Err}
use Rattle.std.specs.List.{All}
use Rattle.lw_json.specs.declared.files.Machine.{Machine}
use Rattle.lw_outside.specs.Played.{Answer, Quit as Quits, Refuse, move_of, greatest_lines, ended_lines}
use Rattle.lw_outside.specs.Streams.{Gave, IsSpent, TakesAll, TakesSome}
use Rattle.lw_line.specs.declared.serving.Turn.{Turn}
use Rattle.lw_line.specs.declared.serving.Turn.TheVariants.{Answered, Quit, Ended}
use Rattle.lw_line.specs.declared.serving.Next.{Next}
use Rattle.lw_line.specs.declared.serving.Next.TheVariants.{Whole, End, Open}
use Rattle.lw_line.specs.declared.serving.ServeFault.{ServeFault}
use Rattle.lw_line.specs.declared.serving.ServeFault.TheVariants.{SourceFault, SinkFault, BadLine}
use Rattle.lw_line.specs.bodies.Exchanges.{ended}
use Rattle.lw_line.specs.bodies.Pieces.{NoFeed}

-- these lines are answered from a state and a number of lines on, and lead to these
abbrev pub Walks : Machine → ℕ → ℕ → List (List ℕ) → ℕ → ℕ → List (List ℕ) → Type 0
Walks m q n [] r k answers = (q ≡ r) × (n ≡ k) × (answers ≡ [])
Walks m q n (l ∷ ls) r k answers =
    (n ≢ greatest_lines) × ((text : List ℕ) × (s : ℕ) × (more : List (List ℕ)) × (move_of m q l ≡ Answer text s) × (answers ≡ text ∷ more) × Walks m s (n + 1) ls r k more)

-- bytes were read, and with those that were held they are all of these
pub record HasRead (held bytes : List ℕ) (before after : Option (List ℕ)) : Type 0 where
  pub more : List ℕ
  pub gave : Gave more before after
  pub whole : held ++ more ≡ bytes

-- a line was read, and behind it these bytes
pub record HasReadLine (held now raw : List ℕ) (before after : Option (List ℕ)) : Type 0 where
  pub read : HasRead held (raw ++ 10 ∷ now) before after
  pub plain : NoFeed raw

-- no line was read, but these bytes of one
pub record IsOpenRead (held bytes : List ℕ) (before after : Option (List ℕ)) : Type 0 where
  pub read : HasRead held bytes before after
  pub plain : NoFeed bytes

-- no line will come: the input ended within it, or it is too long
pub record IsUnended (held bytes : List ℕ) (before after : Option (List ℕ)) : Type 0 where
  pub open_read : IsOpenRead held bytes before after
  pub some : 0 < length bytes
  pub why : IsSpent after ⊎ (length bytes ≡ 256)

-- what was read up to the next line
abbrev pub Comes : List ℕ → List ℕ → Next → Option (List ℕ) → Option (List ℕ) → Type 0
Comes held now (Whole raw) before after = HasReadLine held now raw before after
Comes held now End before after = HasRead held [] before after × IsSpent after
Comes held now Open before after = (bytes : List ℕ) × IsUnended held bytes before after

-- a line was answered so, as the machine does
abbrev pub Answers : Machine → ℕ → List ℕ → ℕ → List ℕ → Type 0
Answers m q raw r text = move_of m q raw ≡ Answer text r

-- what became of a line that was read
abbrev pub Replies : Machine → ℕ → ℕ → List ℕ → ℕ → Option (List ℕ) → Option (List ℕ) → Result Turn ServeFault → Type 0
Replies m number q raw r taken taken' (Ok Answered) = (text : List ℕ) × Answers m q raw r text × TakesAll (ended text) taken taken'
Replies m number q raw r taken taken' (Ok Quit) = (move_of m q raw ≡ Quits) × (taken' ≡ taken)
Replies m number q raw r taken taken' (Ok Ended) = ⊥
Replies m number q raw r taken taken' (Err SourceFault) = ⊥
Replies m number q raw r taken taken' (Err SinkFault) = (text : List ℕ) × (s : ℕ) × Answers m q raw s text × TakesSome (ended text) taken taken'
Replies m number q raw r taken taken' (Err (BadLine n)) = (n ≡ number) × (move_of m q raw ≡ Refuse) × (taken' ≡ taken)

-- what became of the next line: from a state and held bytes to others, over the input left and the bytes taken, before and after
abbrev pub Turns : Machine → ℕ → ℕ → List ℕ → ℕ → List ℕ → Option (List ℕ) → Option (List ℕ) → Option (List ℕ) → Option (List ℕ) → Result Turn ServeFault → Type 0
Turns m number q held r now left left' taken taken' (Ok Answered) = (raw text : List ℕ) × HasReadLine held now raw left left' × Answers m q raw r text × TakesAll (ended text) taken taken'
Turns m number q held r now left left' taken taken' (Ok Quit) = (raw : List ℕ) × HasReadLine held now raw left left' × (move_of m q raw ≡ Quits) × (taken' ≡ taken)
Turns m number q held r now left left' taken taken' (Ok Ended) = HasRead held [] left left' × IsSpent left' × (taken' ≡ taken)
Turns m number q held r now left left' taken taken' (Err SourceFault) = (bytes : List ℕ) × IsOpenRead held bytes left left' × (taken' ≡ taken)
Turns m number q held r now left left' taken taken' (Err SinkFault) = (raw text : List ℕ) × (s : ℕ) × HasReadLine held now raw left left' × Answers m q raw s text × TakesSome (ended text) taken taken'
Turns m number q held r now left left' taken taken' (Err (BadLine n)) =
    (n ≡ number) × (taken' ≡ taken) × (((raw : List ℕ) × HasReadLine held now raw left left' × (move_of m q raw ≡ Refuse)) ⊎ ((bytes : List ℕ) × IsUnended held bytes left left'))

-- how far the child has come with the input: the lines that it read are answered, and more bytes are held
pub record IsServing (m : Machine) (bytes : List ℕ) (left : Option (List ℕ)) (held : List ℕ) (q n : ℕ) (before now : Option (List ℕ)) : Type 0 where
  pub lines : List (List ℕ)
  pub answers : List (List ℕ)
  pub rest : List ℕ
  pub left_is : left ≡ Some rest
  pub read : bytes ≡ ended_lines lines ++ (held ++ rest)
  pub plain : All NoFeed lines
  pub walks : Walks m 0 0 lines q n answers
  pub taken : TakesAll (ended_lines answers) before now

abbrev pub Serves : Machine → Option (List ℕ) → Option (List ℕ) → List ℕ → ℕ → ℕ → Option (List ℕ) → Option (List ℕ) → Type 0
Serves m None left held q n before now = Unit {0}
Serves m (Some bytes) left held q n before now = IsServing m bytes left held q n before now
