-- That bytes were appended or consumed has at most one proof, so that a struct can hold it.
use Rattle.std.proofs.Common.{ℕ, List, None, Some, Option}
use Rattle.std.proofs.Props.{props}
use Rattle.std.specs.Io.KnownBytes.{Appends, Consumes}

pub Appends-prop : (a b : Option (List ℕ)) (bs : List ℕ) → IsProp (Appends a b bs)
Appends-prop None b bs = Prim.hlevel props
Appends-prop (Some x) None bs = Prim.hlevel props
Appends-prop (Some x) (Some y) bs = Prim.hlevel props

pub Consumes-prop : (a b : Option (List ℕ)) (bs : List ℕ) → IsProp (Consumes a b bs)
Consumes-prop None b bs = Prim.hlevel props
Consumes-prop (Some x) None bs = Prim.hlevel props
Consumes-prop (Some x) (Some y) bs = Prim.hlevel props
