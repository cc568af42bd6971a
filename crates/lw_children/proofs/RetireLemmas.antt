-- Links of sessions that are retired one after the other.
use Rattle.std.proofs.Common.{◌≡◌, ⊎_elim, ℕ, ◌+◌, ◌-◌, ◌<◌, ◌≤◌, List, [], ◌∷◌, ◌++◌, length, map, get_or, Contains, Option, Some, None, refl, ap, sym, ◌∙◌, subst, append_assoc, append-nil, arith}
use Rattle.std.specs.List.{All}
use Rattle.std.proofs.lemmas.Bool.{cases_lt}
use Rattle.std.proofs.lemmas.List.{get_or_append_left, get_or-append_right, length-append, length_push, get_or_push, nil_from_length}
use Rattle.std.proofs.lemmas.List.Elements.{All-append, All-contains, All-map}
use Rattle.lw_mealy.specs.Origin.{Origin}
use Rattle.lw_sul.specs.SessionState.{SessionState}
use Rattle.lw_outside.specs.Links.{LinkState, SpawnerState}
use Rattle.lw_line.specs.LineState.{LineState}
use Rattle.lw_system.specs.Ends.{IsBorneOut}
use Rattle.lw_children.specs.Crews.{AreLinked, AreLinkedWith, BearsOut, RetiresAll, count_link, has_number, line_seen}

pub some_number : (a b : ℕ) → Some a ≡ Some b → a ≡ b
some_number a b same = ap (λ (o : Option ℕ). by o) same
  where
    by : Option ℕ → ℕ
    by None = 0
    by (Some n) = n

-- the origin of a child's system
abbrev origin_of : ℕ → List (List ℕ) → Origin
origin_of number letters = record { machine = None; link = Some number; letters = Some letters }

-- an element of a list that has one
pub seat_of : {X : Type 0} (xs : List X) (i : ℕ) → i < length xs → X
seat_of [] i lt = absurd (omega (arith, lt))
seat_of (x ∷ xs) i lt = x

module _ {L : Type 0} (state : L → LinkState) where
  -- a record has the number of the session's link
  of_link : (s : SessionState (LineState L)) (r : LinkState) → BearsOut (line_seen state s) r → r.number ≡ (state s.sul.link).number
  of_link s r bears = sym (some_number (state s.sul.link).number r.number (ap (λ (o : Origin). o.link) bears.origin))

  -- what the record of a link bears out of its session is what is seen of that
  pub borne_seen : (s : SessionState (LineState L)) (r : LinkState) → r.number ≡ (state s.sul.link).number → IsBorneOut s.sul.letters s.sul.names s.sul.most s.sul.outputs s.sul.stop s.sul.cut s.journal r → BearsOut (line_seen state s) r
  borne_seen s r number bears = record {
    letters = s.sul.letters;
    origin = ap (λ (n : ℕ). origin_of n s.sul.letters) (sym number);
    counted = bears.counted;
    cut = s.sul.cut;
    told = bears.told;
    few = bears.named.few;
    naming = bears.naming;
    differ = λ _. bears.named.differ;
    told_names = bears.told_names;
    journal = bears.journal;
  }

  pub none_retired : (before : SpawnerState) → RetiresAll state [] before before
  none_retired before = record {
    records = [];
    retired = sym (append-nil before.retired);
    count = refl;
    each = λ i d e lt. absurd (omega (arith, lt));
    started = refl;
    faults = refl;
    commands = refl;
  }

  module _ (sessions done rest : List (SessionState (LineState L))) (s : SessionState (LineState L)) (before now : SpawnerState) (linked : AreLinked state sessions before) (retires : RetiresAll state done before now) (is : sessions ≡ done ++ s ∷ rest) where
    among : (i : ℕ) (d : SessionState (LineState L)) → i < length done → get_or sessions i d ≡ get_or done i d
    among i d lt = ap (λ (l : List (SessionState (LineState L))). get_or l i d) is ∙ get_or_append_left done (s ∷ rest) d i lt

    here : get_or sessions (length done) s ≡ s
    here =
        let none : length done - length done ≡ 0 = omega arith in
        ap (λ (l : List (SessionState (LineState L))). get_or l (length done) s) is
        ∙ (get_or-append_right done (s ∷ rest) (length done) (length done) s refl (omega arith) ∙ ap (λ (k : ℕ). get_or (s ∷ rest) k s) none)

    long : length sessions ≡ length done + (length rest + 1)
    long = ap (λ (l : List (SessionState (LineState L))). length l) is ∙ (length-append done (s ∷ rest) ∙ omega arith)

    its_number : (state s.sul.link).number ≡ linked.base + length done
    its_number = ap (λ (x : SessionState (LineState L)). (state x.sul.link).number) (sym here) ∙ linked.links (length done) s (omega (arith, long))

    pub was_started : (state s.sul.link).number < now.started
    was_started = omega (arith, its_number, long, linked.within, retires.started)

    below : All (λ r. r.number < (state s.sul.link).number) now.retired
    below =
        subst (All (λ r. r.number < (state s.sul.link).number)) (sym retires.retired)
        (All-append (λ r. r.number < (state s.sul.link).number) before.retired retires.records (λ i d lt. omega (arith, linked.earlier (omega (arith, long)) i d lt, its_number))
        (λ i d lt.
        let lt' : i < length done = omega (arith, lt, retires.count) in
        let e = of_link (get_or done i s) (get_or retires.records i d) (retires.each i s d lt') in
        let n = ap (λ (x : SessionState (LineState L)). (state x.sul.link).number) (among i s lt') in
        let k = linked.links i s (omega (arith, lt', long)) in
        omega (arith, e, n, k, its_number, lt')))

    pub not_retired : ¬ Contains (map (λ r. r.number) now.retired) (state s.sul.link).number
    not_retired there =
        let lt = All-contains (λ n. n < (state s.sul.link).number) (map (λ r. r.number) now.retired) (state s.sul.link).number (All-map (λ n. n < (state s.sul.link).number) (λ (r : LinkState). r.number) now.retired below) there in
        absurd (omega (arith, lt))

    pub one_more_retired : (r : LinkState) (later : SpawnerState) → BearsOut (line_seen state s) r → later.retired ≡ now.retired ++ r ∷ [] → later.started ≡ now.started → later.faults ≡ now.faults → later.commands ≡ now.commands → RetiresAll state (done ++ s ∷ []) before later
    one_more_retired r later bears retired started faults commands = record {
      records = retires.records ++ r ∷ [];
      retired = retired ∙ (ap (λ (l : List LinkState). l ++ r ∷ []) retires.retired ∙ append_assoc before.retired retires.records (r ∷ []));
      count = length_push retires.records r ∙ (omega (arith, retires.count) ∙ sym (length_push done s));
      each = λ i d e lt.
          ⊎_elim
          (λ (lt' : i < length done).
          let lt'' : i < length retires.records = omega (arith, lt', retires.count) in
          subst (λ (x : SessionState (LineState L)). BearsOut (line_seen state x) (get_or (retires.records ++ r ∷ []) i e)) (sym (get_or_append_left done (s ∷ []) d i lt'))
          (subst (BearsOut (line_seen state (get_or done i d))) (sym (get_or_append_left retires.records (r ∷ []) e i lt'')) (retires.each i d e lt')))
          (λ (le : length done ≤ i).
          let last : length done ≡ i = omega (arith, le, lt, length_push done s) in
          subst (λ (x : SessionState (LineState L)). BearsOut (line_seen state x) (get_or (retires.records ++ r ∷ []) i e)) (sym (ap (λ (k : ℕ). get_or (done ++ s ∷ []) k d) (sym last) ∙ get_or_push done s d (length done) refl))
          (subst (BearsOut (line_seen state s)) (sym (ap (λ (k : ℕ). get_or (retires.records ++ r ∷ []) k e) (sym last) ∙ get_or_push retires.records r e (length done) retires.count)) bears))
          (cases_lt i (length done));
      started = started ∙ retires.started;
      faults = faults ∙ retires.faults;
      commands = commands ∙ retires.commands;
    }

  -- the sessions' links, without the one behind them
  pub linked_first : (sessions : List (SessionState (LineState L))) (loose : Option L) (before : SpawnerState) → AreLinkedWith state sessions loose before → AreLinked state sessions before
  linked_first sessions loose before linked = record {
    base = linked.base;
    links = linked.links;
    earlier = λ lt. linked.earlier (omega (arith, lt));
    within = omega (arith, linked.within);
  }

  -- the link behind those of the sessions was not retired with them
  pub last_not_retired : (sessions : List (SessionState (LineState L))) (loose : Option L) (l : L) (before now : SpawnerState) → AreLinkedWith state sessions loose before → loose ≡ Some l → RetiresAll state sessions before now → ¬ Contains (map (λ r. r.number) now.retired) (state l).number
  last_not_retired sessions loose l before now linked is retires there =
      let its : (state l).number ≡ linked.base + length sessions = subst (has_number state (linked.base + length sessions)) is linked.last in
      let one : count_link loose ≡ 1 = ap (λ (o : Option L). count_link o) is in
      let all : All (λ r. r.number < (state l).number) now.retired =
      subst (All (λ r. r.number < (state l).number)) (sym retires.retired)
      (All-append (λ r. r.number < (state l).number) before.retired retires.records (λ i d lt. omega (arith, linked.earlier (omega (arith, one)) i d lt, its))
      (λ i d lt.
      let lt' : i < length sessions = omega (arith, lt, retires.count) in
      let s = seat_of sessions i lt' in
      omega (arith, of_link (get_or sessions i s) (get_or retires.records i d) (retires.each i s d lt'), linked.links i s lt', its, lt'))) in
      let lt = All-contains (λ n. n < (state l).number) (map (λ r. r.number) now.retired) (state l).number (All-map (λ n. n < (state l).number) (λ (r : LinkState). r.number) now.retired all) there in
      absurd (omega (arith, lt))

-- where nothing is left, all were done
pub all_done : {X : Type 0} (xs done rest : List X) → xs ≡ done ++ rest → length rest ≡ 0 → done ≡ xs
all_done xs done rest is none = sym (is ∙ (ap (λ (l : List _). done ++ l) (nil_from_length rest none) ∙ append-nil done))
