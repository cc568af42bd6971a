-- Steps of children in memory.
use Rattle.std.proofs.Common.{◌≡◌, ℕ, ◌+◌, ◌<◌, List, [], ◌∷◌, ◌++◌, length, take, drop, ap, sym, ◌∙◌, subst, append_assoc, append-nil}
use Rattle.std.proofs.Math.ListN.{set}
use Rattle.std.proofs.Math.Seq.{drop-append_seam}
use Rattle.std.proofs.lemmas.List.{take_more_set}
use Rattle.lw_outside.specs.Memory.{Speaker, said}
use Rattle.lw_outside.specs.declared.child.Child.{Child}
use Rattle.lw_outside.specs.bodies.Child.{HasSaid, Says, speaker_of, to_say}

pub says_both : (xs ys sent : List ℕ) (a b c : Child) → Says xs sent a b → Says ys sent b c → Says (xs ++ ys) sent a c
says_both xs ys sent a b c first then = record {
  stands = then.stands;
  speaker = then.speaker ∙ first.speaker;
  says = λ more. first.says more ∙ (ap (λ (l : List ℕ). xs ++ l) (then.says more) ∙ sym (append_assoc xs ys (to_say c sent more)));
}

pub says_one_more : (sent : List ℕ) (a b c : Child) (buffer : List ℕ) (i y : ℕ) → i < length buffer → Says (take i buffer) sent a b → Says (y ∷ []) sent b c → Says (take (i + 1) (set buffer i y)) sent a c
says_one_more sent a b c buffer i y lt first then =
    let at : take i buffer ++ y ∷ [] ≡ take (i + 1) (set buffer i y) = sym (take_more_set buffer i y lt) in
    subst (λ (l : List ℕ). Says l sent a c) at (says_both (take i buffer) (y ∷ []) sent a b c first then)

pub said_on : (xs sent received : List ℕ) (a b : Child) → HasSaid a sent received → Says xs sent a b → HasSaid b sent (received ++ xs)
said_on xs sent received a b has step = record {
  stands = step.stands;
  all = λ more.
      ap (λ (s : Speaker). said s (sent ++ more)) step.speaker
      ∙ (has.all more ∙ (ap (λ (l : List ℕ). received ++ l) (step.says more) ∙ sym (append_assoc received xs (to_say b sent more))));
}

a_front : (all front rest : List ℕ) → all ≡ front ++ rest → all ≡ front ++ drop (length front) all
a_front all front rest is = is ∙ ap (λ (l : List ℕ). front ++ l) (sym (ap (λ (l : List ℕ). drop (length front) l) is ∙ drop-append_seam front rest))

-- what was received is a front of what was said
pub heard : (child : Child) (sent received : List ℕ) → HasSaid child sent received → said (speaker_of child) sent ≡ received ++ drop (length received) (said (speaker_of child) sent)
heard child sent received has =
    let now : said (speaker_of child) sent ≡ received ++ to_say child sent [] = ap (λ (l : List ℕ). said (speaker_of child) l) (sym (append-nil sent)) ∙ has.all [] in
    a_front (said (speaker_of child) sent) received (to_say child sent []) now

-- a child that was asked whether it is ready, and then said some bytes, which were received
pub said_then : (xs sent asked filled received now : List ℕ) (a b c : Child) → HasSaid a sent received → asked ≡ sent → Says [] asked a b → filled ≡ sent → Says xs filled b c → now ≡ received ++ xs → HasSaid c sent now
said_then xs sent asked filled received now a b c has asks ready fills says is =
    let ready : Says [] sent a b = subst (λ (s : List ℕ). Says [] s a b) asks ready in
    let says : Says xs sent b c = subst (λ (s : List ℕ). Says xs s b c) fills says in
    let both : Says xs sent a c = says_both [] xs sent a b c ready says in
    subst (λ (r : List ℕ). HasSaid c sent r) (sym is) (said_on xs sent received a c has both)
