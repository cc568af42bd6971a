-- Bytes that a stream has or takes, over several calls.
use Rattle.std.proofs.Common.{ℕ, List, ◌++◌, None, Some, Option, Result, Ok, Err, ◌∙◌, ap, sym, take}
use Rattle.std.proofs.KnownBytes.{Appends-nil, Appends-trans, Consumes-nil, Consumes-trans, Keeps-refl, Keeps-trans}
use Rattle.std.specs.Io.KnownBytes.{Appends, Consumes, Keeps, ReadConsumes, WriteAppends}

appends_behind : (a b c : Option (List ℕ)) (bs : List ℕ) → Keeps a b → Appends b c bs → Appends a c bs
appends_behind None b c bs p q = tt
appends_behind (Some x) None c bs p q = absurd p
appends_behind (Some x) (Some y) None bs p q = absurd q
appends_behind (Some x) (Some y) (Some z) bs p q = q ∙ ap (λ l. l ++ bs) p

consumes_behind : (a b c : Option (List ℕ)) (bs : List ℕ) → Keeps a b → Consumes b c bs → Consumes a c bs
consumes_behind None b c bs p q = tt
consumes_behind (Some x) None c bs p q = absurd p
consumes_behind (Some x) (Some y) None bs p q = absurd q
consumes_behind (Some x) (Some y) (Some z) bs p q = sym p ∙ q

-- a call behind others that changed nothing does what it would have done before them
pub write_behind : {E : Type 0} (a b c : Option (List ℕ)) (r : Result ℕ E) (buf : List ℕ) → Keeps a b → WriteAppends b c r buf → WriteAppends a c r buf
write_behind a b c (Ok n) buf p q = appends_behind a b c (take n buf) p q
write_behind a b c (Err e) buf p q = Keeps-trans a b c p q

pub read_behind : {E : Type 0} (a b c : Option (List ℕ)) (r : Result ℕ E) (buf : List ℕ) → Keeps a b → ReadConsumes b c r buf → ReadConsumes a c r buf
read_behind a b c (Ok n) buf p q = (consumes_behind a b c (take n buf) p q.0, q.1)
read_behind a b c (Err e) buf p q = Keeps-trans a b c p q

pub ruleset repeats = (write_behind, read_behind, Keeps-refl, Keeps-trans)

pub ruleset records = (Appends-nil, Appends-trans, Consumes-nil, Consumes-trans)
