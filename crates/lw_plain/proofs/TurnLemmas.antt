-- Batches that are asked in turn.
use Rattle.std.proofs.Common.{◌≡◌, ℕ, List, [], ◌∷◌, ◌++◌, map, Contains, refl, ap, sym, ◌∙◌, subst, subst₂, append_assoc, append-nil}
use Rattle.std.specs.List.{All}
use Rattle.std.proofs.lemmas.Grind.{flat_map-append}
use Rattle.std.proofs.lemmas.List.{map-append}
use Rattle.std.proofs.lemmas.List.Elements.{All-contains_itself, All-map}
use Rattle.lw_words.specs.Word.{Answer, answer_of, answers_of}
use Rattle.lw_words.specs.declared.kept.KeptAnswer.{KeptAnswer}
use Rattle.lw_mealy.specs.Machine.{Rows, Gives}
use Rattle.lw_cache.specs.Known.{IsKnown}
use Rattle.lw_cache.specs.Settling.{OracleState}
use Rattle.lw_plain.specs.Known.{KnowsWords}
use Rattle.lw_plain.specs.Rounds.{asked_words}
use Rattle.lw_plain.specs.Taken.{AreTakenInTurn}
use Rattle.lw_plain.specs.Turns.{AsksInTurn, IsPlainOracle, SettledIsAsked, AsksOnAndOn}
use Rattle.lw_plain.proofs.FilledLemmas.{weaker, each_value, batch_more}
use Rattle.lw_plain.proofs.KnownLemmas.{batch_is_known, gives_front}
use Rattle.lw_plain.proofs.TakenLemmas.{asked_are_taken, takes_on}

kept_more : (was gained is : List KeptAnswer) → is ≡ was ++ gained → answers_of is ≡ answers_of was ++ answers_of gained
kept_more was gained is grown = ap answers_of grown ∙ map-append answer_of was gained

pub settled_is_asked : SettledIsAsked
settled_is_asked batch before now s m asked plain =
    let e = s.exactly plain.exact in
    let words = asked_words asked in
    let ks = answers_of before.kept in
    let more = answers_of e.gained in
    let grown : answers_of now.kept ≡ ks ++ more = kept_more before.kept e.gained now.kept e.at_end in
    let came : List (List ℕ) = map (λ (k : KeptAnswer). k.word) e.gained in
    let within : All (Contains batch) came = weaker (Contains came) (Contains batch) came (λ w has. ((e.asked.exactly w).0 has).within) (All-contains_itself came) in
    let to_batch : All (λ k. Contains batch k.word) more = All-map (λ (k : Answer). Contains batch k.word) answer_of e.gained (each_value (Contains batch) (λ (k : KeptAnswer). k.word) e.gained [] within) in
    let gives : Gives m (ks ++ more) = subst (Gives m) grown plain.gives in
    let known : All (IsKnown (ks ++ more)) batch = subst (λ (l : List Answer). All (IsKnown l) batch) grown s.known in
    let all : KnowsWords m (words ++ batch) (ks ++ more) = batch_is_known m words batch ks more plain.knows gives to_batch known in
    record {
      more = batch ∷ [];
      behind = refl;
      gained = e.gained;
      at_end = e.at_end;
      knows = subst₂ (λ (ws : List (List ℕ)) (l : List Answer). KnowsWords m ws l) (batch_more asked batch) (sym grown) all;
      taken = (came, [], asked_are_taken m words batch ks came plain.knows e.asked, refl, sym (append-nil came));
    }

pub asks_on : AsksOnAndOn
asks_on m first next last was between is one two =
    let words : asked_words next ≡ asked_words first ++ asked_words one.more = ap asked_words one.behind ∙ flat_map-append (λ (b : List (List ℕ)). b) first one.more in
    let of_one : List (List ℕ) = map (λ (k : KeptAnswer). k.word) one.gained in
    let of_two : List (List ℕ) = map (λ (k : KeptAnswer). k.word) two.gained in
    let later : AreTakenInTurn (asked_words first ++ asked_words one.more) two.more of_two = subst (λ (ws : List (List ℕ)). AreTakenInTurn ws two.more of_two) words two.taken in
    record {
      more = one.more ++ two.more;
      behind = two.behind ∙ (ap (λ (bs : List (List (List ℕ))). bs ++ two.more) one.behind ∙ append_assoc first one.more two.more);
      gained = one.gained ++ two.gained;
      at_end = two.at_end ∙ (ap (λ (ks : List KeptAnswer). ks ++ two.gained) one.at_end ∙ append_assoc was one.gained two.gained);
      knows = two.knows;
      taken = subst (λ (ws : List (List ℕ)). AreTakenInTurn (asked_words first) (one.more ++ two.more) ws) (sym (map-append (λ (k : KeptAnswer). k.word) one.gained two.gained))
          (takes_on (asked_words first) one.more two.more of_one of_two one.taken later);
    }

-- the same where the last batches are spelled otherwise
pub asks_as : (m : Rows) (first next last : List (List (List ℕ))) (was is : List KeptAnswer) → next ≡ last → AsksInTurn m first next was is → AsksInTurn m first last was is
asks_as m first next last was is same asks = subst (λ (bs : List (List (List ℕ))). AsksInTurn m first bs was is) same asks

-- nothing was asked
pub asks_nothing : (m : Rows) (asked : List (List (List ℕ))) (kept : List KeptAnswer) → KnowsWords m (asked_words asked) (answers_of kept) → AsksInTurn m asked asked kept kept
asks_nothing m asked kept knows = record {
  more = [];
  behind = sym (append-nil asked);
  gained = [];
  at_end = sym (append-nil kept);
  knows = knows;
  taken = refl;
}

-- an oracle over two calls is such an oracle over the first, and over the second
pub plain_first : (m : Rows) (asked : List (List (List ℕ))) (a b c : OracleState) (gained : List KeptAnswer) → c.kept ≡ b.kept ++ gained → IsPlainOracle m asked a c → IsPlainOracle m asked a b
plain_first m asked a b c gained grown plain = record {
  exact = plain.exact;
  knows = plain.knows;
  gives = gives_front m (answers_of b.kept) (answers_of gained) (subst (Gives m) (kept_more b.kept gained c.kept grown) plain.gives);
}

pub plain_next : (m : Rows) (asked now : List (List (List ℕ))) (a b c : OracleState) → b.exact ≡ a.exact → AsksInTurn m asked now a.kept b.kept → IsPlainOracle m asked a c → IsPlainOracle m now b c
plain_next m asked now a b c same asks plain = record { exact = same ∙ plain.exact; knows = asks.knows; gives = plain.gives }
