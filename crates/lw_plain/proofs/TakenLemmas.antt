-- The words that are taken from batches.
use Rattle.std.proofs.Common.{◌≡◌, ⊎_elim, inl, ℕ, List, [], ◌∷◌, ◌++◌, ap, sym, ◌∙◌, subst, append_assoc, append-nil}
use Rattle.lw_plain.specs.Known.{BeginsOne}
use Rattle.lw_plain.specs.Rounds.{asked_words}
use Rattle.lw_plain.specs.Taken.{AreTakenInTurn, AskedAreTaken, TakesOnAndOn}

pub asked_are_taken : AskedAreTaken
asked_are_taken m words batch ks asked knows are = record {
  exactly = λ w. (
    λ within. let is = (are.exactly w).0 within in record {
      within = is.within;
      some = λ e. is.unknown (inl e);
      new = λ begins. is.unknown (knows.all w begins);
      whole = is.whole;
    },
    λ is. (are.exactly w).1 (record {
      within = is.within;
      unknown = λ known. ⊎_elim (λ (e : w ≡ []). is.some e) (λ (b : BeginsOne words w). is.new b) (knows.only w known);
      whole = is.whole;
    }),
  );
  once = are.once;
}

pub takes_on : TakesOnAndOn
takes_on words [] more taken after none rest =
    let same : words ++ [] ≡ words = append-nil words in
    let there : AreTakenInTurn words more after = subst (λ (ws : List (List ℕ)). AreTakenInTurn ws more after) same rest in
    subst (λ (ws : List (List ℕ)). AreTakenInTurn words more (ws ++ after)) (sym none) there
takes_on words (b ∷ bs) more taken after (first, left, are, then, is) rest =
    let longer : words ++ (b ++ asked_words bs) ≡ (words ++ b) ++ asked_words bs = sym (append_assoc words b (asked_words bs)) in
    let there = subst (λ (ws : List (List ℕ)). AreTakenInTurn ws more after) longer rest in
    (first, left ++ after, are, takes_on (words ++ b) bs more left after then there, ap (λ (ws : List (List ℕ)). ws ++ after) is ∙ append_assoc first left after)
