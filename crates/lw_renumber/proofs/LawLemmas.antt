-- What outputs under other names change of what was learned: nothing.
use Rattle.std.proofs.Common.{◌≡◌, ℕ, ◌≤◌, refl, ap, sym, ◌∙◌, subst}
use Rattle.lw_mealy.specs.Machine.{IsMachine, MealyMachine, mealy_of, IsWithinLimits, AnswersBelow}
use Rattle.lw_chunks.specs.Size.{suite_size}
use Rattle.lw_renumber.specs.Laws.{RenamedClashes, RenamedNeverClash, RenamedIsClear, RenamedIsCanonical, RenamedIsSuite, RenamedIsSure, RenamedAnswers, RenamedGives, RenamedIsKnown, RenamedIsRead, RenamedIsCrowd, RenamedIsCertified, RenamedIsEnough, RenamedIsLeast, RenamedIsTooMany, RenamedIsTooLarge}
use Rattle.lw_renumber.specs.Renaming.{renamed_rows}
use Rattle.lw_renumber.proofs.ClashLemmas.{never_clash, clash_too, clash_back, clear_stays, known_stays, read_renamed, crowd_stays}
use Rattle.lw_renumber.proofs.MachineLemmas.{answer_is, states_same, is_machine, gives_too}
use Rattle.lw_renumber.proofs.SuiteLemmas.{canonical_too, suite_too}
use Rattle.lw_renumber.proofs.SureLemmas.{gives_back, sure_too, tested_too}

within_too : (f : ℕ → ℕ) (a c : ℕ) (model : MealyMachine) → model.inputs ≡ a → IsWithinLimits model → (1 ≤ c) × (c ≤ 4096) → AnswersBelow c (renamed_rows f model.rows)
    → IsWithinLimits (mealy_of a c (renamed_rows f model.rows))
within_too f a c model same is small below =
    let n = states_same f model.rows in
    record {
      inputs = subst (λ (i : ℕ). (1 ≤ i) × (i ≤ 64)) same is.inputs;
      outputs = small;
      few = subst (λ (s : ℕ). s ≤ 1024) (sym n) is.few;
      machine = subst (λ (i : ℕ). IsMachine i (renamed_rows f model.rows)) same (is_machine f model.inputs model.rows is.machine);
      answers = below;
    }

pub renamed_is_certified : RenamedIsCertified
renamed_is_certified f g a b c k ks model r are is small below =
    let machine : IsMachine a model.rows = is.canonical.machine in
    record {
      inputs = refl;
      outputs = refl;
      complete = within_too f a c model is.inputs is.complete small below;
      canonical = canonical_too f g a model.rows model.rows r machine is.canonical;
      gives = gives_too f a model.rows ks machine are is.gives;
      sure = sure_too f g a model.rows ks k r machine are is.sure;
    }

pub renamed_is_enough : RenamedIsEnough
renamed_is_enough f g testing a c k ks model r are machine enough = tested_too f g testing a a c model ks k r machine are enough

pub renamed_is_least : RenamedIsLeast
renamed_is_least f g a n ks r are none m machine gives =
    subst (λ (s : ℕ). n ≤ s) (states_same g m) (none (renamed_rows g m) (is_machine g a m machine) (gives_back f g a m ks r are machine gives))

pub renamed_is_crowd : RenamedIsCrowd
renamed_is_crowd f g a ks words r are crowd = crowd_stays f g r a ks are words crowd

pub renamed_is_known : RenamedIsKnown
renamed_is_known f g a ks w r are = known_stays f g r a ks are w

pub renamed_is_read : RenamedIsRead
renamed_is_read f g a ks w o r are read = read_renamed f g r a ks are w o read

pub renamed_clashes : RenamedClashes
renamed_clashes f g k l r wk wl = (clash_back f g r k l wk wl, clash_too f g r k l wk wl)

pub renamed_never_clash : RenamedNeverClash
renamed_never_clash f g a ks r are nothing = never_clash f g r a ks are nothing

pub renamed_is_clear : RenamedIsClear
renamed_is_clear f g a ks i r are = clear_stays f g r a ks are i

pub renamed_is_canonical : RenamedIsCanonical
renamed_is_canonical f g a m c r machine is = canonical_too f g a m c r machine is

pub renamed_is_suite : RenamedIsSuite
renamed_is_suite f g a m k suite r machine is = suite_too f g r a m machine k suite is

pub renamed_is_sure : RenamedIsSure
renamed_is_sure f g a h ks k r machine are is = sure_too f g a h ks k r machine are is

pub renamed_answers_are : RenamedAnswers
renamed_answers_are f a m w machine word = answer_is f a m w machine word

pub renamed_gives : RenamedGives
renamed_gives f a m ks machine are gives = gives_too f a m ks machine are gives

pub renamed_is_too_many : RenamedIsTooMany
renamed_is_too_many f g a most ks words r are is = record {
  count = is.count;
  crowd = crowd_stays f g r a ks are words is.crowd;
}

pub renamed_is_too_large : RenamedIsTooLarge
renamed_is_too_large f g a b c k most ks model number r are is small below =
    let machine : IsMachine a model.rows = is.canonical.machine in
    let n = states_same f model.rows in
    record {
      inputs = refl;
      outputs = refl;
      complete = within_too f a c model is.inputs is.complete small below;
      few = subst (λ (s : ℕ). s ≤ most) (sym n) is.few;
      canonical = canonical_too f g a model.rows model.rows r machine is.canonical;
      gives = gives_too f a model.rows ks machine are is.gives;
      words = is.words;
      crowd = crowd_stays f g r a ks are is.words is.crowd;
      each = is.each ∙ sym n;
      size = is.size ∙ ap (λ (s : ℕ). suite_size s a k) (sym n);
      large = is.large;
    }
