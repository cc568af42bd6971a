use Rattle.std.proofs.Common.{◌≡◌, ℕ, List, IfSome, Option, subst}
use Rattle.lw_desk.specs.bodies.Board.{letters_of}
use Rattle.lw_desk.specs.bodies.Gathering.{AreByWords, AreWholeOf, ComeBefore}
use Rattle.lw_desk.proofs.GatherLemmas.{ready_is}
use Rattle.lw_desk.proofs.gathering.needs_of.Goals as goal

pub returns-clause-ready : goal.returns-clause-ready
returns-clause-ready c =
    let u = c.in_ok-words.field-0 in
    let words = u.words.items in
    let sorted = c.sort_by_words.new.places.items in
    let whole = c.in_ok-places.places.items in
    let ready = c.sort_places.new.places.items in
    let letters : ℕ = c.in_ok-letters.letters in
    let by_words : AreByWords words sorted = subst (λ (l : List (List ℕ)). AreByWords l sorted) c.deref.ensures.value c.sort_by_words.ensures.order in
    let are : AreWholeOf words sorted whole = subst (λ (l : List ℕ). AreWholeOf words l whole) c.deref-3.ensures.value (subst (λ (l : List (List ℕ)). AreWholeOf l c.deref-3.result.now whole) c.deref-2.ensures.value c.in_ok-places.ensures) in
    let order : ComeBefore words ready = subst (λ (l : List (List ℕ)). ComeBefore l ready) c.deref-4.ensures.value c.sort_places.ensures.order in
    let sum : letters ≡ letters_of c.deref-5.result.now c.deref-6.result.now = subst (λ (o : Option ℕ). IfSome o (λ n. n ≡ letters_of c.deref-5.result.now c.deref-6.result.now)) c.in_ok-letters.ensures.ok_part c.letters_in.ensures in
    ready_is c.args.cache.now.kept c.args.batch.now words u.places.items sorted whole ready letters c.in_ok-words.ensures.gathered c.sort_by_words.ensures.permutation by_words are c.sort_places.ensures.permutation order
    (subst (λ (l : List ℕ). letters ≡ letters_of words l) c.deref-6.ensures.value (subst (λ (l : List (List ℕ)). letters ≡ letters_of l c.deref-6.result.now) c.deref-5.ensures.value sum))
