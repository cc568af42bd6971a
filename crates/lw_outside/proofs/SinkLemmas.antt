-- Bytes that a sink takes piece by piece.
use Rattle.std.proofs.Common.{◌≡◌, ℕ, ◌+◌, ◌≤◌, List, ◌++◌, Option, Some, None, option_map, take, drop, length, refl, ap, sym, ◌∙◌, append_assoc, append-nil, arith, length-take}
use Rattle.std.proofs.Math.Seq.{take-append-add}
use Rattle.std.proofs.lemmas.List.{take-append-drop}

take_in_two : (d n : ℕ) (bytes : List ℕ) → d ≤ length bytes → take d bytes ++ take n (drop d bytes) ≡ take (d + n) bytes
take_in_two d n bytes le =
    let long = length-take d bytes in
    let size : length (take d bytes) ≡ d = omega arith in
    sym (ap (take (d + n)) (sym (take-append-drop d bytes)) ∙ (ap (λ (k : ℕ). take (k + n) (take d bytes ++ drop d bytes)) (sym size) ∙ take-append-add (take d bytes) (drop d bytes) n))

pub sink_more : (o mid new : Option (List ℕ)) (bytes : List ℕ) (d n : ℕ) → d ≤ length bytes → mid ≡ option_map (λ t. t ++ take d bytes) o → new ≡ option_map (λ t. t ++ take n (drop d bytes)) mid → new ≡ option_map (λ t. t ++ take (d + n) bytes) o
sink_more None mid new bytes d n le was is = is ∙ ap (option_map (λ t. t ++ take n (drop d bytes))) was
sink_more (Some t) mid new bytes d n le was is =
    is ∙ (ap (option_map (λ t. t ++ take n (drop d bytes))) was ∙ ap (λ (l : List ℕ). Some l) (append_assoc t (take d bytes) (take n (drop d bytes)) ∙ ap (λ (l : List ℕ). t ++ l) (take_in_two d n bytes le)))

pub sink_none : (o : Option (List ℕ)) (bytes : List ℕ) → o ≡ option_map (λ t. t ++ take 0 bytes) o
sink_none None bytes = refl
sink_none (Some t) bytes = ap (λ (l : List ℕ). Some l) (sym (append-nil t))

pub ruleset sink_steps = (sink_more, sink_none)
