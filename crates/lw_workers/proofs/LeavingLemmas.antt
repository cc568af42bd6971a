-- What a learning leaves of its pool: the prior answers are as they were.
use Rattle.std.proofs.Common.{◌≡◌, ℕ, ◌<◌, ◌≤◌, List, [], ◌∷◌, ◌++◌, length, All, Option, refl, ap, sym, ◌∙◌, subst, arith}
use Rattle.std.proofs.lemmas.List.{append_assoc, length-map}
use Rattle.std.proofs.lemmas.List.Elements.{All-head, All-tail, All-append}
use Rattle.lw_words.specs.declared.kept.KeptAnswer.{KeptAnswer}
use Rattle.lw_cache.specs.Settling.{Leaves}
use Rattle.lw_cache.specs.declared.stops.AskStop.{AskStop}
use Rattle.lw_mealy.specs.Origin.{Origin}
use Rattle.lw_pool.specs.Pool.{PoolState, Seen, seen_of, origins_of}
use Rattle.lw_pool.specs.Sharing.{oracle_of}
use Rattle.lw_pool.specs.Standing.{PoolStands}
use Rattle.lw_workers.specs.Leaving.{HasLearned}

abbrev IsPrior : KeptAnswer → Type 0
IsPrior k = k.instance ≡ 16

abbrev IsRun : KeptAnswer → Type 0
IsRun k = k.instance < 16

abbrev first : KeptAnswer → List KeptAnswer → KeptAnswer
first d [] = d
first d (k ∷ ks) = k

abbrev rest : List KeptAnswer → List KeptAnswer
rest [] = []
rest (k ∷ ks) = ks

-- runs of the instance 16 and then runs of instances below it part in one way
one_front : (ps xs qs ys : List KeptAnswer) → All IsPrior ps → All IsRun xs → All IsPrior qs → All IsRun ys → ps ++ xs ≡ qs ++ ys → ps ≡ qs
one_front [] xs [] ys are after too then same = refl
one_front [] xs (q ∷ qs) ys are after too then same = absurd (omega (arith, All-head IsPrior q qs too, All-head IsRun q (qs ++ ys) (subst (All IsRun) same after)))
one_front (p ∷ ps) xs [] ys are after too then same = absurd (omega (arith, All-head IsPrior p ps are, All-head IsRun p (ps ++ xs) (subst (All IsRun) (sym same) then)))
one_front (p ∷ ps) xs (q ∷ qs) ys are after too then same =
    ap (λ (k : KeptAnswer). k ∷ ps) (ap (first p) same)
    ∙ ap (λ (l : List KeptAnswer). q ∷ l) (one_front ps xs qs ys (All-tail IsPrior p ps are) after (All-tail IsPrior q qs too) then (ap rest same))

below : (n : ℕ) (ks : List KeptAnswer) → n ≤ 16 → All (λ k. k.instance < n) ks → All IsRun ks
below n ks few all k d lt = omega (arith, few, all k d lt)

as_many : (ss : List Seen) → length (origins_of ss) ≡ length ss
as_many ss = length-map ss (λ (s : Seen). s.origin)

pub has_learned : {S : Type 0} (before now : PoolState S) (stop : Option AskStop) → PoolStands before → PoolStands now → Leaves (oracle_of before) (oracle_of now) stop → HasLearned before now stop
has_learned before now stop was stands leaves = record {
  leaves = leaves;
  stands = stands;
  sessions = sym (as_many (seen_of now)) ∙ (ap (λ (os : List Origin). length os) leaves.same.origins ∙ as_many (seen_of before));
  prior = sym (one_front before.prior (was.stands.since ++ leaves.gained) now.prior stands.stands.since
      (λ i d lt. (was.prior_is i d lt).0)
      (All-append IsRun was.stands.since leaves.gained
      (below (length (seen_of before)) was.stands.since was.few was.stands.instances)
      (below (length (origins_of (seen_of before))) leaves.gained (subst (λ n. n ≤ 16) (sym (as_many (seen_of before))) was.few) leaves.instances))
      (λ i d lt. (stands.prior_is i d lt).0)
      (below (length (seen_of now)) stands.stands.since stands.few stands.stands.instances)
      (sym (append_assoc before.prior was.stands.since leaves.gained)
      ∙ (ap (λ (l : List KeptAnswer). l ++ leaves.gained) (sym was.stands.first)
      ∙ (sym leaves.at_end ∙ stands.stands.first))));
}
