use Rattle.std.proofs.Common.{◌≡◌, ◌∙◌, ◌+◌, ◌<◌, ◌++◌, ◌∷◌, [], Bor, Contains, List, Some, None, ℕ, get_or, length, map, arith, subst, sym}
use Rattle.std.proofs.lemmas.List.{length-map}
use Rattle.std.proofs.lemmas.List.Elements.{All-from_all_within, All-push, AllWithin-upto}
use Rattle.lw_words.specs.Word.{number_of, IsWord}
use Rattle.lw_words.proofs.Lists.{within-map_more}
use Rattle.lw_json.proofs.EachLemmas.{element, fails_here, going_more}
use Rattle.lw_wordlist.proofs.WordLemmas.{below_by, known_by, unknown_by}
use Rattle.lw_wordlist.proofs.words.word_from.Goals as goal

abbrev nothing : Bor (List ℕ)
nothing = record { ref_ptr = (0, 0); now = [] }

pub returns-in_default-clause-err : goal.returns-in_default-clause-err
returns-in_default-clause-err c place same =
    let xs = c.args.names.now in
    let i = c.loop-place.place in
    let name : List ℕ = (get_or xs i nothing).now in
    let none : number_of name c.args.letters.now ≡ None = sym c.number.ensures.value ∙ c.in_default.is in
    let is : place ≡ i + 1 = sym cc in
    (i, is, fails_here (λ (x : Bor (List ℕ)). x.now) (Contains c.args.letters.now) xs i (get_or xs i nothing) c.loop-place-test.true (element xs i nothing c.loop-place-test.true) (unknown_by c.args.letters.now name none) c.loop-place.invariant.known)

pub loop-place-preserved : goal.loop-place-preserved
loop-place-preserved c =
    let xs = c.args.names.now in
    let letters = c.args.letters.now in
    let i = c.loop-place.place in
    let x = c.in-Some.letter in
    let lt = c.loop-place-test.true in
    let name : List ℕ = (get_or xs i nothing).now in
    let found : number_of name letters ≡ Some x = sym c.number.ensures.value ∙ c.in-Some.is in
    let gains : c.push.new.self ≡ c.loop-place.word ++ x ∷ [] = c.in_ok-push.ensures.ok in
    record {
      going = going_more (λ (y : Bor (List ℕ)). y.now) (λ n. number_of n letters) c.loop-place.word c.push.new.self xs i (get_or xs i nothing) x lt (element xs i nothing lt) found gains c.loop-place.invariant.going;
      word = subst (λ (w : List ℕ). IsWord (length letters) w) (sym gains) (All-push (λ y. y < length letters) c.loop-place.word x c.loop-place.invariant.word (below_by letters name x found));
      known = within-map_more (λ (y : Bor (List ℕ)). y.now) (Contains letters) xs i (get_or xs i nothing) lt (element xs i nothing lt) (known_by letters name x found) c.loop-place.invariant.known;
    }

pub returns-clause-all : goal.returns-clause-all
returns-clause-all c =
    let names = map (λ (x : Bor (List ℕ)). x.now) c.args.names.now in
    All-from_all_within (Contains c.args.letters.now) names
    (AllWithin-upto (Contains c.args.letters.now) names 0 c.loop-place.place (length names) (omega (arith, length-map c.args.names.now (λ (x : Bor (List ℕ)). x.now), c.loop-place-test.false)) c.loop-place.invariant.known)
