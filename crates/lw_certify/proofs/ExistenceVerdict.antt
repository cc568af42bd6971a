-- The steps of a verdict: each applies, or what the next ones ask for holds.
use Rattle.std.proofs.Common.{◌≡◌, ◌≢◌, ℕ, ◌<◌, ◌⊎◌, inl, inr, ⊎_elim, List, [], length, take, min, get_or, refl, sym, ◌∙◌, arith}
use Rattle.std.specs.List.{All}
use Rattle.std.proofs.lemmas.Bool.{cases_eq}
use Rattle.std.proofs.lemmas.List.{ext_get_or, get_or-take, length-take}
use Rattle.lw_words.specs.First.{FailsFirst}
use Rattle.lw_words.specs.Word.{Answer, answer_at, IsWhole}
use Rattle.lw_mealy.specs.Difference.{DifferFirst}
use Rattle.lw_mealy.specs.Machine.{Rows, IsMachine, IsMinimal, answer, Reached, Gives}
use Rattle.lw_mealy.proofs.WordLemmas.{length-out}
use Rattle.lw_cache.specs.Known.{IsKnown}
use Rattle.lw_separate.specs.Canonical.{IsLeastAccess}
use Rattle.lw_separate.proofs.CrowdLemmas.{same_or_not}
use Rattle.lw_separate.proofs.Decided.{first_below, turned, all_or_first}
use Rattle.lw_separate.proofs.ExistenceAccess.{least_or_unreached}
use Rattle.lw_suite.specs.Suite.{SomeSuite}
use Rattle.lw_wp.specs.WpSuite.{SomeWpSuite}
use Rattle.lw_apart.specs.Missing.{CoveredOrMissing}
use Rattle.lw_chunks.specs.declared.method.Method.{Method}
use Rattle.lw_chunks.specs.declared.method.Method.TheVariants.{W, Wp, H}
use Rattle.lw_certify.specs.Verdict.{IsFirstUnreached, AllReached, DiffersAt, IsSuiteBy, IsFirstMissing, SuiteIsKnown, IsMissingBy, AreEnoughBy}
use Rattle.lw_apart.proofs.Decides.{decides_known}

module _ (a : ℕ) (h : Rows) (machine : IsMachine a h) where
  unreached_or_reached : (q : ℕ) → (¬ Reached a h q) ⊎ Reached a h q
  unreached_or_reached q =
      ⊎_elim
      (λ (l : (w : List ℕ) × IsLeastAccess a h q w). inr (l.0, l.1.does.0, l.1.does.1))
      (λ (no : ¬ Reached a h q). inl no)
      (least_or_unreached a h machine q)

  pub unreached_or_all_reached : ((q : ℕ) × IsFirstUnreached a h q) ⊎ AllReached a h
  unreached_or_all_reached =
      ⊎_elim
      (λ (f : (q : ℕ) × (q < length h) × (¬ Reached a h q) × ((p : ℕ) → p < q → Reached a h p)). inl (f.0, record { state = f.1; unreached = f.2; before = f.3 }))
      (λ (all : (q : ℕ) → q < length h → Reached a h q). inr all)
      (first_below (λ q. ¬ Reached a h q) (λ q. Reached a h q) (length h) (λ q lq. unreached_or_reached q))

-- the first place at which two lists of one length differ
differ_first : (u v : List ℕ) → length u ≡ length v → u ≢ v → (place : ℕ) × DifferFirst u v place
differ_first u v long other =
    ⊎_elim
    (λ (f : (n : ℕ) × (n < length u) × (get_or u n 0 ≢ get_or v n 0) × ((i : ℕ) → i < n → get_or u i 0 ≡ get_or v i 0)).
    let lu : length (take f.0 u) ≡ min f.0 (length u) = length-take f.0 u in
    let lv : length (take f.0 v) ≡ min f.0 (length v) = length-take f.0 v in
    let within : f.0 < length u = f.1 in (
      f.0,
      record {
        within = f.1;
        before = ext_get_or 0 (take f.0 u) (take f.0 v) (omega arith) (λ i lt. let il : i < f.0 = omega arith in get_or-take f.0 u i 0 il ∙ (f.3 i il ∙ sym (get_or-take f.0 v i 0 il)));
        here = f.2;
      },
    ))
    (λ (same : (i : ℕ) → i < length u → get_or u i 0 ≡ get_or v i 0). absurd (other (ext_get_or 0 u v long same)))
    (first_below (λ i. get_or u i 0 ≢ get_or v i 0) (λ i. get_or u i 0 ≡ get_or v i 0) (length u) (λ i lt. turned (cases_eq (get_or u i 0) (get_or v i 0))))

pub differs_or_gives : (h : Rows) (ks : List Answer) → All IsWhole ks → ((number : ℕ) × (place : ℕ) × DiffersAt h ks number place) ⊎ Gives h ks
differs_or_gives h ks whole =
    let blank : Answer = record { word = []; outs = [] } in
    ⊎_elim
    (λ (given : Gives h ks). inr given)
    (λ (f : (number : ℕ) × FailsFirst (λ k. answer h k.word ≡ k.outs) ks number).
    let k : Answer = answer_at ks f.0 in
    let d = differ_first (answer h k.word) k.outs (length-out h 0 k.word ∙ sym (whole f.0 blank f.1.within)) (f.1.fails blank) in
    inl (f.0, d.0, record { first = f.1; here = d.1 }))
    (all_or_first (λ k. answer h k.word ≡ k.outs) ks blank (λ k. same_or_not (answer h k.word) k.outs))

known_or_missing : (ks : List Answer) (words : List (List ℕ)) → All (IsKnown ks) words ⊎ ((number : ℕ) × FailsFirst (IsKnown ks) words number)
known_or_missing ks words = all_or_first (IsKnown ks) words [] (λ w. decides_known ks w)

-- the answers make a suite known, or a word of it is the missing one
module _ (method : Method) (a : ℕ) (h : Rows) (ks : List Answer) (k : ℕ) where
  suite_known_or_missing : (suite : List (List ℕ)) → IsSuiteBy method a h k suite → SuiteIsKnown method a h ks k ⊎ ((word : List ℕ) × IsFirstMissing method a h ks k word)
  suite_known_or_missing suite is =
      ⊎_elim
      (λ (known : All (IsKnown ks) suite). inl (record { suite = suite; whole = is; known = known }))
      (λ (f : (number : ℕ) × FailsFirst (IsKnown ks) suite number). inr (get_or suite f.0 [], record { suite = suite; whole = is; number = f.0; first = f.1; here = refl }))
      (known_or_missing ks suite)

-- the answers are enough by a method, or a word is the missing one
pub enough_or_missing : (method : Method) (a : ℕ) (h : Rows) (ks : List Answer) (k : ℕ) → SomeSuite → SomeWpSuite → CoveredOrMissing → IsMachine a h → IsMinimal a h → Gives h ks
    → AreEnoughBy method a h ks k ⊎ ((word : List ℕ) × IsMissingBy method a h ks k word)
enough_or_missing W a h ks k some some_wp covered machine minimal given = let s = some a h k machine minimal in suite_known_or_missing W a h ks k s.0 s.1
enough_or_missing Wp a h ks k some some_wp covered machine minimal given = let s = some_wp a h k machine minimal in suite_known_or_missing Wp a h ks k s.0 s.1
enough_or_missing H a h ks k some some_wp covered machine minimal given = covered a h ks k machine minimal given
