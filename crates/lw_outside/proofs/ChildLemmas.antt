-- What a child in memory has still to say.
use Rattle.std.proofs.Common.{◌≡◌, ℕ, ◌+◌, ◌==◌, List, [], ◌∷◌, ◌++◌, drop, Bool, true, false, refl, ap, ◌∙◌, if◌then◌else◌}
use Rattle.lw_json.specs.declared.files.Machine.{Machine}
use Rattle.lw_outside.specs.Lines.{lines_of, rest_of}
use Rattle.lw_outside.specs.Played.{AtLimit, play_ended_at, ended_lines, greatest_lines, move_of, play_of_move, played_from, rest_end}
use Rattle.lw_outside.specs.declared.served.Served.{Served}
use Rattle.lw_outside.specs.bodies.Child.{answers_from, yet}

limit_no_answers : (m : Machine) (q n : ℕ) (ls : List (List ℕ)) (rest : List ℕ) → (n == greatest_lines) ≡ true → ended_lines (played_from m q n ls rest).answers ≡ []
limit_no_answers m q n [] rest is = ap (λ (t : Bool). ended_lines (if t then play_ended_at n AtLimit else rest_end n rest).answers) is
limit_no_answers m q n (l ∷ ls) rest is = ap (λ (t : Bool). ended_lines (if t then play_ended_at n AtLimit else play_of_move n (move_of m q l) (λ r. played_from m r (n + 1) ls rest)).answers) is

by_ended : (m : Machine) (e : Bool) (q n : ℕ) (bytes : List ℕ) → (n == greatest_lines) ≡ true → answers_from m e q n bytes ≡ []
by_ended m true q n bytes is = refl
by_ended m false q n bytes is = limit_no_answers m q n (lines_of bytes) (rest_of bytes) is

-- a child that is silent and has read all lines that it may has nothing to say
pub silent_limit : (s : Served) (bytes : List ℕ) → drop s.given s.answer ≡ [] → (s.lines == greatest_lines) ≡ true → yet s bytes ≡ []
silent_limit s bytes silent is =
    ap (λ (l : List ℕ). l ++ answers_from s.machine s.ended s.player s.lines bytes) silent
    ∙ by_ended s.machine s.ended s.player s.lines bytes is
