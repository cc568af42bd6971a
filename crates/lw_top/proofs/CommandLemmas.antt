-- Arguments whose first names no command.
use Rattle.std.proofs.Common.{◌≡◌, ◌∙◌, List, ℕ, [], ◌∷◌, Bool, true, false, codes, Option, Some, None, option_map, refl, sym, ap, string_bytes}
use Rattle.std.specs.Str.{bytes_eq}
use Rattle.std.specs.Prelude.{String, slice_get}
use Rattle.std.specs.declared.alloc.Global.{Global}
use Rattle.std.proofs.lemmas.Slice.Eq.{bytes_eq-Decides}
use Rattle.lw_top.specs.Call.{CallValues, call_named, call_of}
use Rattle.lw_top.specs.CommandLine.{texts}

is_other : (w name : List ℕ) → (w ≡ name → ⊥) → bytes_eq w name ≡ false
is_other w name differs = go (bytes_eq w name) refl
  where
    go : (b : Bool) → bytes_eq w name ≡ b → bytes_eq w name ≡ false
    go true e = absurd (differs ((bytes_eq-Decides w name).0 e))
    go false e = e

same_text : (s a : String Global) → ◌≡◌ {A = Option (String Global)} (Some s) (Some a) → s ≡ a
same_text s a e = cc

-- the call is that of the command which the first argument names
pub named_call : (args : List (String Global)) (s : String Global) (w : List ℕ) → Some s ≡ slice_get args 0 → w ≡ string_bytes s → call_of (texts args) ≡ call_named w (texts args)
named_call [] s w first is = let wrong : ◌≡◌ {A = Option (String Global)} (Some s) None = first in absurd (cc)
named_call (a ∷ more) s w first is = ap (λ (name : List ℕ). call_named name (texts (a ∷ more))) (sym (is ∙ ap string_bytes (same_text s a first)))

-- where it names this command, the call is made of the values that the command takes
pub call_is : {V : Type 0} (name : List ℕ) (make : V → CallValues) (args : List (String Global)) (s : String Global) (w : List ℕ) (values was : Option V) → Some s ≡ slice_get args 0 → w ≡ string_bytes s → w ≡ name → call_named name (texts args) ≡ option_map make values → values ≡ was
    → call_of (texts args) ≡ option_map make was
call_is name make args s w values was first is named made same = named_call args s w first is ∙ (ap (λ (n : List ℕ). call_named n (texts args)) named ∙ (made ∙ ap (option_map make) same))

-- no command takes arguments whose first one has another name than each of them
pub no_call : (args : List (String Global)) (s : String Global) (w : List ℕ) → Some s ≡ slice_get args 0 → w ≡ string_bytes s
    → (w ≡ codes "learn" → ⊥) → (w ≡ codes "accept" → ⊥) → (w ≡ codes "check" → ⊥) → (w ≡ codes "trial" → ⊥) → (w ≡ codes "serve" → ⊥) → (w ≡ codes "ask" → ⊥) → (w ≡ codes "compare" → ⊥) → (w ≡ codes "recheck" → ⊥) → (w ≡ codes "help" → ⊥) → call_of (texts args) ≡ None
no_call args s w first is learn accept check trial serve ask compare recheck help =
    named_call args s w first is
    ∙ rw (is_other w (codes "learn") learn, is_other w (codes "accept") accept, is_other w (codes "check") check, is_other w (codes "trial") trial, is_other w (codes "serve") serve, is_other w (codes "ask") ask, is_other w (codes "compare") compare, is_other w (codes "recheck") recheck, is_other w (codes "help") help) refl
