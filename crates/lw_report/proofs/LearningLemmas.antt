-- What the end of a learning says, from what the learning answered, and what its own stops come to.
use Rattle.std.proofs.Common.{◌≡◌, ℕ, List, [], ◌∷◌, Some, Result, Ok, Err, IfOk, length, map, refl, ap, ap₂, subst, sym, ◌∙◌}
use Rattle.std.proofs.lemmas.List.{length-map}
use Rattle.lw_words.specs.Word.{Answer, AreAnswers, answers_of}
use Rattle.lw_mealy.specs.Machine.{Gives, MealyMachine, mealy_of, Row, Rows}
use Rattle.lw_cache.specs.declared.stops.AskStop.{AskStop}
use Rattle.lw_cache.specs.declared.stops.AskStop.TheVariants as ask
use Rattle.lw_rounds.specs.declared.settings.Testing.{Testing}
use Rattle.lw_rounds.specs.Learned.{IsCertified, IsEnoughFor, IsLearned, IsReadOff, IsTooLarge}
use Rattle.lw_rounds.specs.Learner.{refinements_of}
use Rattle.lw_rounds.specs.Stops.{IsOwnStop}
use Rattle.lw_rounds.specs.declared.learned.Learned.{Learned}
use Rattle.lw_rounds.specs.declared.learner.Kind.{Kind}
use Rattle.lw_rounds.specs.declared.learner.Learner.{Learner}
use Rattle.lw_rounds.specs.declared.stops.LearnStop.{LearnStop}
use Rattle.lw_rounds.specs.declared.stops.LearnStop.TheVariants as learn
use Rattle.lw_rounds.proofs.LawLemmas.{model_is_canonical, model_is_least, too_large_is_least}
use Rattle.lw_renumber.specs.Renaming.{renamed_answers, renamed_row, renamed_rows}
use Rattle.lw_renumber.specs.Sorting.{HasSorted, IsCertifiedLeast, StillStops, renamed_learned}
use Rattle.lw_report.specs.Learnings.{HasModel, HasLargeSuite, IsReadOffAs, ask_outcome, learn_outcome}
use Rattle.lw_report.specs.declared.«end».End.{End}
use Rattle.lw_report.specs.declared.outcome.Outcome.{Outcome}
use Rattle.lw_report.specs.declared.outcome.Outcome.TheVariants.{NoMemory, SuiteTooLarge, TooManyStates}

same_cells : (r : Row) → r ≡ renamed_row (λ y. y) r
same_cells [] = refl
same_cells (c ∷ r) = ap (λ (l : Row). c ∷ l) (same_cells r)

same_rows : (m : Rows) → m ≡ renamed_rows (λ y. y) m
same_rows [] = refl
same_rows (r ∷ m) = ap₂ (λ (l : Row) (ls : Rows). l ∷ ls) (same_cells r) (same_rows m)

same_outs : (ys : List ℕ) → ys ≡ map (λ y. y) ys
same_outs [] = refl
same_outs (y ∷ ys) = ap (λ (l : List ℕ). y ∷ l) (same_outs ys)

same_answers : (ks : List Answer) → ks ≡ renamed_answers (λ y. y) ks
same_answers [] = refl
same_answers (k ∷ ks) = ap₂ (λ (ys : List ℕ) (ls : List Answer). let l : Answer = record { word = k.word; outs = ys } in l ∷ ls) (same_outs k.outs) (same_answers ks)

-- where no output got another number
pub read_off_as : (kind : Kind) (a b most : ℕ) (ks : List Answer) (rows : Rows) (t : Learner) → IsReadOff kind a b most ks rows t → IsReadOffAs kind a most ks rows t
read_off_as kind a b most ks rows t is = record {
  own_rows = rows;
  own_answers = ks;
  count = b;
  f = λ y. y;
  g = λ y. y;
  renames = record { back = λ y. refl; forth = λ y. refl };
  rows_are = same_rows rows;
  answers_are = same_answers ks;
  read_off = is;
}

pub has_model : (kind : Kind) (testing : Testing) (a b k most : ℕ) (end : End) (h : MealyMachine) (t : Learner) → AreAnswers a (answers_of end.kept.answers) → IsLearned kind a b k most (answers_of end.kept.answers) h t → IsEnoughFor testing a k (answers_of end.kept.answers) h → end.learner ≡ Some t → end.refinements ≡ refinements_of t → HasModel kind testing a b k most end h
has_model kind testing a b k most end h t are is enough carried counted = record {
  certified = is.certified;
  enough = enough;
  canonical = λ m machine few gives. model_is_canonical a b k (answers_of end.kept.answers) h is.certified m machine few gives;
  least = λ m machine gives. model_is_least kind a b k most (answers_of end.kept.answers) h t are is m machine gives;
  learner = t;
  carried = carried;
  read_off = read_off_as kind a b most (answers_of end.kept.answers) h.rows t is.carried;
  counted = counted;
}

-- what was learned, once the names of the outputs are sorted
module _ (to : List ℕ) (before now : List (List ℕ)) (ks more : List Answer) (was is : Result Learned LearnStop) (l0 l : Learned) (sorted : HasSorted to before now ks more was is) (was_is : was ≡ Ok l0) (is_is : is ≡ Ok l) where
  abbrev model_of : Result Learned LearnStop → MealyMachine
  model_of (Ok x) = x.model
  model_of (Err stop) = l.model

  abbrev learner_of : Result Learned LearnStop → Learner
  learner_of (Ok x) = x.learner
  learner_of (Err stop) = l.learner

  renamed : Ok l ≡ renamed_learned (length now) sorted.f (Ok l0)
  renamed = sym is_is ∙ (sorted.renamed ∙ ap (renamed_learned (length now) sorted.f) was_is)

  sorted_rows : l.model.rows ≡ renamed_rows sorted.f l0.model.rows
  sorted_rows = ap (λ (r : Result Learned LearnStop). (model_of r).rows) renamed

  sorted_learner : l.learner ≡ l0.learner
  sorted_learner = ap learner_of renamed

  pub sorted_read_off : (kind : Kind) (a b most : ℕ) → IsReadOff kind a b most ks l0.model.rows l0.learner → IsReadOffAs kind a most more l.model.rows l.learner
  sorted_read_off kind a b most read = record {
    own_rows = l0.model.rows;
    own_answers = ks;
    count = b;
    f = sorted.f;
    g = sorted.g;
    renames = sorted.renumbering.renames;
    rows_are = sorted_rows;
    answers_are = sorted.answers;
    read_off = subst (IsReadOff kind a b most ks l0.model.rows) (sym sorted_learner) read;
  }

  pub sorted_settled : (kind : Kind) (a b k most : ℕ) → AreAnswers a ks → IsLearned kind a b k most ks l0.model l0.learner → IsCertifiedLeast a (length now) k more l.model
  sorted_settled kind a b k most are learned =
      subst (λ (r : Result Learned LearnStop). IfOk r (λ x. IsCertifiedLeast a (length now) k more x.model)) is_is
      (sorted.learned kind a b k most are (subst (λ (r : Result Learned LearnStop). IfOk r (λ x. IsLearned kind a b k most ks x.model x.learner)) (sym was_is) learned))

pub has_model_sorted : (kind : Kind) (testing : Testing) (a b k most : ℕ) (to : List ℕ) (before now : List (List ℕ)) (ks more : List Answer) (was is : Result Learned LearnStop) (l0 l : Learned) (end : End) → HasSorted to before now ks more was is → was ≡ Ok l0 → AreAnswers a ks → IsLearned kind a b k most ks l0.model l0.learner → is ≡ Ok l → IsEnoughFor testing a k more l.model
    → answers_of end.kept.answers ≡ more → end.learner ≡ Some l.learner → end.refinements ≡ refinements_of l.learner → HasModel kind testing a (length now) k most end l.model
has_model_sorted kind testing a b k most to before now ks more was is l0 l end sorted was_is are learned is_is enough kept carried counted =
    let settled = sorted_settled to before now ks more was is l0 l sorted was_is is_is kind a b k most are learned in
    let certified : IsCertified a (length now) k (answers_of end.kept.answers) l.model = subst (λ (xs : List Answer). IsCertified a (length now) k xs l.model) (sym kept) settled.certified in
    record {
      certified = certified;
      enough = subst (λ (xs : List Answer). IsEnoughFor testing a k xs l.model) (sym kept) enough;
      canonical = λ m machine few gives. model_is_canonical a (length now) k (answers_of end.kept.answers) l.model certified m machine few gives;
      least = λ m machine gives. settled.least m machine (subst (Gives m) kept gives);
      learner = l.learner;
      carried = carried;
      read_off = subst (λ (xs : List Answer). IsReadOffAs kind a most xs l.model.rows l.learner) (sym kept) (sorted_read_off to before now ks more was is l0 l sorted was_is is_is kind a b most learned.carried);
      counted = counted;
    }

pub has_large_suite : (a b k most : ℕ) (ks : List Answer) (h : MealyMachine) (number : ℕ) → AreAnswers a ks → IsTooLarge a b k most ks h number → HasLargeSuite a b k most ks (length h.rows) number
has_large_suite a b k most ks h number are is = record {
  model = h;
  large = is;
  states_are = refl;
  least = λ m machine gives. too_large_is_least a b k most ks h number are is m machine gives;
}

-- and where the names of the outputs were sorted since
pub has_large_sorted : (a k most : ℕ) (f : ℕ → ℕ) (more : List Answer) (model : MealyMachine) (number : ℕ) → AreAnswers a more → StillStops a k most f more (learn.TooLarge model number) → HasLargeSuite a 4096 k most more (length model.rows) number
has_large_sorted a k most f more model number are still =
    subst (λ (n : ℕ). HasLargeSuite a 4096 k most more n number) (length-map model.rows (renamed_row f)) (has_large_suite a 4096 k most more (mealy_of a 4096 (renamed_rows f model.rows)) number are still)

-- an ask that stopped out of memory comes to that
pub own_ask : (stop : AskStop) → stop ≡ ask.NoMemory → ask_outcome stop ≡ NoMemory
own_ask stop own = ap ask_outcome own

-- a learning that no system stopped and whose answers don't clash comes to one of three outcomes
pub own_has : (P : Outcome → Type 0) (stop : LearnStop) → IsOwnStop stop → P NoMemory → ((words : List (List ℕ)) → P (TooManyStates words)) → ((states number : ℕ) → P (SuiteTooLarge states number)) → P (learn_outcome stop)
own_has P (learn.Ask stop) own memory many large = subst P (sym (own_ask stop own)) memory
own_has P (learn.Crowd words) own memory many large = many words
own_has P (learn.TooLarge model number) own memory many large = large (length model.rows) number
