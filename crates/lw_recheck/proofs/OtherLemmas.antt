-- A run that came out otherwise, and what is kept of it.
use Rattle.std.proofs.Common.{◌≡◌, ◌∙◌, ℕ, ◌<◌, List, [], ◌∷◌, ◌++◌, length, take, get_or, Option, Some, None, Result, Ok, Err, IfErr, IfOk, OnErr, OnOk, refl, ap, sym, subst, arith, append-nil, length-append}
use Rattle.std.specs.List.{All}
use Rattle.std.proofs.lemmas.List.{get_or-map, take-map}
use Rattle.std.proofs.lemmas.List.Elements.{All-take}
use Rattle.lw_words.specs.Word.{Answer, answer_at, answer_of, answers_of, IsNames, name_at, named}
use Rattle.lw_words.specs.declared.kept.KeptAnswer.{KeptAnswer}
use Rattle.lw_words.specs.declared.stop.RunStop.{RunStop}
use Rattle.lw_words.specs.declared.stop.RunStop.TheVariants.{NoMemory, Sul}
use Rattle.lw_words.specs.declared.stop.SulStop.{SulStop}
use Rattle.lw_cache.specs.Clash.{ClashAt}
use Rattle.lw_cache.specs.declared.stops.Clash.{Clash}
use Rattle.lw_json.specs.KeptOver.{AreKeptOver}
use Rattle.lw_mealy.specs.Machine.{Rows}
use Rattle.lw_names.specs.Names.{IsGrown}
use Rattle.lw_sul.specs.SessionState.{run_of}
use Rattle.lw_sul.specs.declared.runs.Run.{Run}
use Rattle.lw_names.proofs.NameLemmas.{named-grown}
use Rattle.lw_recheck.specs.Again.{AreAgain, ComesOtherwise, HasRechecked, StopsAgain, NamesDifferAt, IsOtherwise}
use Rattle.lw_recheck.specs.bodies.Step.{FindsOther, HasGone, KeepsOther}
use Rattle.lw_recheck.specs.declared.asking.Other.{Other}
use Rattle.lw_recheck.proofs.AgainLemmas.{blank}
use Rattle.lw_recheck.proofs.NameLemmas.{named_length, one_naming}

abbrev stop_in : RunStop → Result (Option Clash) RunStop → RunStop
stop_in e (Ok found) = e
stop_in e (Err why) = why

abbrev some_of : Clash → Option Clash → Clash
some_of c None = c
some_of c (Some d) = d

-- an answer with a number is over the letters and outputs
record IsOver (b : ℕ) (k : Answer) : Type 0 where
  below : All (λ y. y < b) k.outs
  even : length k.outs ≡ length k.word

is_over : (a b : ℕ) (answers : List KeptAnswer) (n : ℕ) → n < length answers → AreKeptOver a b answers → IsOver b (answer_at (answers_of answers) n)
is_over a b answers n lt over =
    let one = over n blank lt in
    subst (λ (k : Answer). IsOver b k) (sym (get_or-map answer_of answers n blank (record { word = []; outs = [] }) lt)) (record { below = one.outs; even = one.even })

-- outputs whose names differ at a place differ there, where the names of both are in one list
module _ (outputs own shown : List (List ℕ)) (names : IsNames shown) (grown : IsGrown outputs shown) (known given outs : List ℕ) (below : All (λ y. y < length outputs) known) (within : All (λ y. y < length shown) outs) (shown_is : named shown outs ≡ named own given) (place : ℕ) (differs : NamesDifferAt (named outputs known) (named own given) place) where
  known_is : named shown known ≡ named outputs known
  known_is = ap (λ (n : List (List ℕ)). named n known) grown.1 ∙ named-grown outputs grown.0 known below

  known_below : All (λ y. y < length shown) known
  known_below = λ i d lt. let small = below i d lt in let long : length shown ≡ length (outputs ++ grown.0) = ap (λ (l : List (List ℕ)). length l) grown.1 in grown_below (get_or known i d) small long
    where
      grown_below : (y : ℕ) → y < length outputs → length shown ≡ length (outputs ++ grown.0) → y < length shown
      grown_below y lt long = omega (arith, lt, long, length-append outputs grown.0)

  pub outs_before : take place known ≡ take place outs
  outs_before =
      one_naming shown names.differ (take place known) (take place outs) (All-take (λ y. y < length shown) place known known_below) (All-take (λ y. y < length shown) place outs within)
      (sym (take-map (name_at shown) place known)
      ∙ (ap (λ (l : List (List ℕ)). take place l) known_is
      ∙ (differs.before ∙ (ap (λ (l : List (List ℕ)). take place l) (sym shown_is) ∙ take-map (name_at shown) place outs))))

  pub place_known : place < length known
  place_known = omega (arith, differs.within, named_length outputs known)

  place_outs : place < length outs
  place_outs = let long : length outs ≡ length (named own given) = sym (named_length shown outs) ∙ ap (λ (l : List (List ℕ)). length l) shown_is in omega (arith, differs.other, long)

  pub outs_here : ¬ (get_or known place 0 ≡ get_or outs place 0)
  outs_here same =
      let one : get_or (named shown known) place [] ≡ name_at shown (get_or known place 0) = get_or-map (name_at shown) known place 0 [] place_known in
      let two : get_or (named shown outs) place [] ≡ name_at shown (get_or outs place 0) = get_or-map (name_at shown) outs place 0 [] place_outs in
      differs.here (sym (ap (λ (l : List (List ℕ)). get_or l place []) known_is) ∙ (one ∙ (ap (name_at shown) same ∙ (sym two ∙ ap (λ (l : List (List ℕ)). get_or l place []) shown_is))))

module _ (machine : Option Rows) (outputs : List (List ℕ)) (answers : List KeptAnswer) (names : List (List ℕ)) (runs : List Run) (a : ℕ) (over : AreKeptOver a (length outputs) answers) (other : Other) (finds : FindsOther machine outputs answers names runs other) (shown : List (List ℕ)) (kept : List KeptAnswer) where
  -- the run of the word came out otherwise
  is_otherwise : IsOtherwise machine outputs (answer_at (answers_of answers) other.number) names (run_of (answer_at (answers_of answers) other.number).word other.outs) other.place
  is_otherwise = record { word = refl; below = finds.below; given = finds.given; differs = finds.differs }

  otherwise : (clash : Clash) → clash ≡ record { first = other.number; second = length answers; place = other.place } → IsNames shown → KeepsOther outputs names answers other shown kept → ComesOtherwise machine outputs answers names runs shown kept clash
  otherwise clash is lawful keeps =
      let k = answer_at (answers_of answers) other.number in
      let one = is_over a (length outputs) answers other.number finds.within over in
      let known = place_known outputs names shown lawful keeps.grown k.outs other.outs keeps.outs one.below keeps.below keeps.shown_is other.place finds.differs in
      let here : ClashAt k (record { word = k.word; outs = keeps.outs }) other.place = record {
        first = omega (arith, known, one.even);
        second = omega (arith, known, one.even);
        letters = refl;
        before = outs_before outputs names shown lawful keeps.grown k.outs other.outs keeps.outs one.below keeps.below keeps.shown_is other.place finds.differs;
        here = outs_here outputs names shown lawful keeps.grown k.outs other.outs keeps.outs one.below keeps.below keeps.shown_is other.place finds.differs;
      } in
      subst (λ (c : Clash). ComesOtherwise machine outputs answers names runs shown kept c) (sym is)
      (record {
        front = finds.front;
        last = run_of k.word other.outs;
        both = finds.journal;
        within = finds.within;
        count = finds.count;
        are = finds.are;
        otherwise = is_otherwise;
        grown = keeps.grown;
        distinct = lawful;
        outs = keeps.outs;
        below = keeps.below;
        shown_is = keeps.shown_is;
        kept_is = keeps.kept_is;
        second = refl;
        here = here;
      })

  forgotten : (why : RunStop) → why ≡ NoMemory → kept ≡ answers → StopsAgain machine outputs answers names runs kept why
  forgotten why none stay = record {
    front = finds.front;
    rest = run_of (answer_at (answers_of answers) other.number).word other.outs ∷ [];
    both = finds.journal;
    few = omega arith;
    none = λ stop is. let wrong : NoMemory ≡ Sul stop = sym none ∙ is in absurd (cc);
    unkept = λ run is. (other.place, subst (λ (n : ℕ). IsOtherwise machine outputs (answer_at (answers_of answers) n) names run other.place) finds.count (subst (λ (r : Run). IsOtherwise machine outputs (answer_at (answers_of answers) other.number) names r other.place) (ap (λ (l : List Run). get_or l 0 (run_of [] [])) is) is_otherwise));
    some = omega (arith, finds.within, finds.count);
    are = subst (λ (n : ℕ). AreAgain machine outputs (take n answers) names finds.front) finds.count finds.are;
    kept_is = stay;
  }

  -- what came of a run that came out otherwise
  pub comes : (came : Result (Option Clash) RunStop) → IfOk came (λ found. (found ≡ Some (record { first = other.number; second = length answers; place = other.place })) × IsNames shown × KeepsOther outputs names answers other shown kept) → OnErr came (kept ≡ answers) → IfErr came (λ why. why ≡ NoMemory) → HasRechecked machine outputs answers names runs shown kept came
  comes (Ok None) told stay memory = let wrong = told.0 in absurd (cc)
  comes (Ok (Some clash)) told stay memory = otherwise clash (ap (λ (o : Option Clash). some_of clash o) told.0) told.1 told.2
  comes (Err why) told stay memory = forgotten why memory stay

-- it stopped in a run, or before it
pub stops : (machine : Option Rows) (outputs : List (List ℕ)) (answers : List KeptAnswer) (names : List (List ℕ)) (runs : List Run) (why : RunStop) → HasGone machine outputs answers names runs → StopsAgain machine outputs answers names runs answers why
stops machine outputs answers names runs why gone = record {
  front = runs;
  rest = [];
  both = sym (append-nil runs);
  few = omega arith;
  none = λ stop is. refl;
  unkept = λ run is. absurd (cc);
  some = gone.some;
  are = gone.are;
  kept_is = refl;
}

-- what holds whatever came
pub on_ok : (came : Result (Option Clash) RunStop) (P : Type 0) → P → OnOk came P
on_ok (Ok found) P holds = holds
on_ok (Err why) P holds = tt

pub no_sul : (came : Result (Option Clash) RunStop) (P : Type 0) → IfErr came (λ why. why ≡ NoMemory) → (why : SulStop) → came ≡ Err (Sul why) → P
no_sul (Ok found) P memory why is = absurd (cc)
no_sul (Err e) P memory why is = let same : e ≡ Sul why = ap (λ (r : Result (Option Clash) RunStop). stop_in e r) is in let wrong : NoMemory ≡ Sul why = sym memory ∙ same in absurd (cc)
