-- Files that are looked through from the front.
use Rattle.std.proofs.Common.{◌≡◌, ◌≢◌, ℕ, List, [], ◌∷◌, ◌++◌, Bool, true, false, Option, Some, None, if◌then◌else◌, refl, ap, ◌∙◌}
use Rattle.std.proofs.lemmas.Bool.{false_from_ne_true}
use Rattle.std.proofs.lemmas.Slice.Eq.{bytes_eq-Decides}
use Rattle.std.specs.Str.{bytes_eq}
use Rattle.lw_outside.specs.Files.{File, first_present, file_at}

later : (b : Bool) (x : List ℕ) (o other : Option (List ℕ)) → first_present (if b then Some x else o) other ≡ (if b then Some x else first_present o other)
later true x o other = refl
later false x o other = refl

-- one file more
pub file_at_push : (name : List ℕ) (fs : List File) (f : File) → file_at name (fs ++ f ∷ []) ≡ (if bytes_eq name f.0 then Some f.1 else file_at name fs)
file_at_push name [] f = refl
file_at_push name (g ∷ fs) f =
    ap (λ (o : Option (List ℕ)). first_present o (if bytes_eq name g.0 then Some g.1 else None)) (file_at_push name fs f)
    ∙ later (bytes_eq name f.0) f.1 (file_at name fs) (if bytes_eq name g.0 then Some g.1 else None)

pub same_file : (name : List ℕ) (fs : List File) (f : File) (b : Bool) → bytes_eq name f.0 ≡ b → file_at name (fs ++ f ∷ []) ≡ (if b then Some f.1 else file_at name fs)
same_file name fs f b is = file_at_push name fs f ∙ ap (λ (b : Bool). if b then Some f.1 else file_at name fs) is

-- after a write the bytes stand under the name, and other names are as before
pub written_at : (name bytes : List ℕ) (fs : List File) → file_at name (fs ++ (name, bytes) ∷ []) ≡ Some bytes
written_at name bytes fs = same_file name fs (name, bytes) true ((bytes_eq-Decides name name).1 refl)

pub written_beside : (name bytes other : List ℕ) (fs : List File) → other ≢ name → file_at other (fs ++ (name, bytes) ∷ []) ≡ file_at other fs
written_beside name bytes other fs differ = same_file other fs (name, bytes) false (false_from_ne_true (bytes_eq other name) (λ e. differ ((bytes_eq-Decides other name).0 e)))
