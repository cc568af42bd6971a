use Rattle.std.proofs.Common.{◌≡◌, ◌∙◌, ◌++◌, ◌∷◌, [], Bor, List, ℕ, Err, get_or, length, subst, sym, ap}
use Rattle.std.specs.List.{All}
use Rattle.std.proofs.lemmas.List.Elements.{All-push}
use Rattle.lw_words.specs.Word.{IsWord}
use Rattle.lw_words.proofs.Lists.{within-map_more}
use Rattle.lw_json.proofs.EachLemmas.{element, going_more}
use Rattle.lw_wordlist.specs.Words.{names_in, word_of_names}
use Rattle.lw_wordlist.specs.Words.{HasLetters}
use Rattle.lw_wordlist.specs.declared.words.LetterStop.{LetterStop}
use Rattle.lw_wordlist.proofs.WordLemmas.{first_unknown}
use Rattle.lw_wordlist.proofs.words.words_from.Goals as goal

abbrev nothing : Bor (List ℕ)
nothing = record { ref_ptr = (0, 0); now = [] }

pub returns-in-Err-clause-err : goal.returns-in-Err-clause-err
returns-in-Err-clause-err c word place same =
    let letters = c.args.letters.now in
    let xs = c.args.texts.now in
    let i = c.loop-number.number in
    let lt = c.loop-number-test.true in
    let both = c.stop_in.ensures word place (cc) in
    first_unknown (λ (x : Bor (List ℕ)). x.now) letters xs i (get_or xs i nothing) lt (element xs i nothing lt) c.loop-number.invariant.known word place both.0
    (c.read_word.ensures.err place (c.in-Err.is ∙ ap (λ (s : LetterStop). Err s) both.1))

pub loop-number-preserved : goal.loop-number-preserved
loop-number-preserved c =
    let letters = c.args.letters.now in
    let xs = c.args.texts.now in
    let i = c.loop-number.number in
    let x = get_or xs i nothing in
    let lt = c.loop-number-test.true in
    let at : x ≡ get_or xs i x = element xs i nothing lt in
    let w : List ℕ = c.in-Ok.word in
    let gains : c.push_word.new.words ≡ c.loop-number.words ++ w ∷ [] = c.in_ok-push_word.ensures in
    record {
      going = going_more (λ (y : Bor (List ℕ)). y.now) (λ text. word_of_names letters (names_in text)) c.loop-number.words c.push_word.new.words xs i x w lt at c.in-Ok.ensures.ok gains c.loop-number.invariant.going;
      words = subst (λ (ws : List (List ℕ)). All (IsWord (length letters)) ws) (sym gains) (All-push (IsWord (length letters)) c.loop-number.words w c.loop-number.invariant.words c.in-Ok.ensures.word);
      known = within-map_more (λ (y : Bor (List ℕ)). y.now) (HasLetters letters) xs i x lt at c.in-Ok.ensures.all c.loop-number.invariant.known;
    }
