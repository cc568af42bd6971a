use Rattle.std.proofs.Common.{◌≡◌, ℕ, List, length, refl, ap, sym, ◌∙◌, subst}
use Rattle.std.specs.List.{AllWithin}
use Rattle.lw_mealy.specs.Machine.{Gives, answer}
use Rattle.lw_words.specs.Word.{answers_of}
use Rattle.lw_words.specs.declared.kept.KeptAnswer.{KeptAnswer}
use Rattle.lw_cache.proofs.SettlingLemmas.{kept_are_answers}
use Rattle.lw_rounds.specs.bodies.Conformance.{FindsFirst}
use Rattle.lw_rounds.proofs.ConformanceLemmas.{agrees_on_known, comes, gives_later, gives_more}
use Rattle.lw_rounds.proofs.conformance.settle_words.Given.{Over}
use Rattle.lw_plain.proofs.TurnLemmas.{settled_is_asked}
use Rattle.lw_rounds.proofs.conformance.settle_words.Goals as goal

pub returns-clause-comes : goal.returns-clause-comes
returns-clause-comes g c =
    let before = g.O.Oracle.state c.args.oracle.now in
    let now = g.O.Oracle.state c.settle.new.self in
    let a = c.args.hypothesis.now.inputs in
    let h = c.args.hypothesis.now.rows in
    let s = c.in_ok-settle.ensures.settles in
    comes h (answers_of now.kept) c.args.words.now c.in_ok-first_difference.field-0
    (λ agrees. record {
      gives = gives_more a h c.args.words.now before.kept s.gains.gained now.kept s.gains.at_end (kept_are_answers now a (c.requires.inputs ∙ sym s.same.inputs) s.keeps)
          (s.unclashed c.requires.nothing) s.gains.of_batch c.requires.gives agrees;
      known = s.known;
    })
    (subst (λ (kept : List KeptAnswer). FindsFirst h (answers_of kept) c.args.words.now c.in_ok-first_difference.field-0) c.cache-cache.ensures.kept c.in_ok-first_difference.ensures)

-- the hypothesis gives all that is kept now, where it gives what was gained
gives_now : (g : Over) (c : goal.Then-gives_from g) → Gives c.args.hypothesis.now.rows (answers_of (g.O.Oracle.state c.settle.new.self).kept)
gives_now g c =
    let before = g.O.Oracle.state c.args.oracle.now in
    let now = g.O.Oracle.state c.settle.new.self in
    let h = c.args.hypothesis.now.rows in
    let s = c.in_ok-settle.ensures.settles in
    let Given : KeptAnswer → Type 0 = λ k. answer h k.word ≡ k.outs in
    let late = c.kept-2.result.now.answers in
    let within : AllWithin Given now.kept (length before.kept) (length now.kept) =
    subst (λ (l : List KeptAnswer). AllWithin Given l (length before.kept) (length l)) (c.kept-2.ensures.value ∙ c.cache-cache.ensures.kept)
    (subst (λ (n : ℕ). AllWithin Given late n (length late)) (c.len-before.ensures ∙ ap (λ (l : List KeptAnswer). length l) (c.kept.ensures.value ∙ c.cache.ensures.kept)) (c.if-gives_from.ensures refl)) in
    gives_later h before.kept s.gains.gained now.kept s.gains.at_end within c.requires.gives

pub returns-then-gives_from-clause-comes : goal.returns-then-gives_from-clause-comes
returns-then-gives_from-clause-comes g c = record { gives = gives_now g c; known = c.in_ok-settle.ensures.settles.known }

pub returns-then-gives_from-clause-first : goal.returns-then-gives_from-clause-first
returns-then-gives_from-clause-first g c =
    agrees_on_known c.args.hypothesis.now.rows (answers_of (g.O.Oracle.state c.settle.new.self).kept) c.args.words.now (gives_now g c) c.in_ok-settle.ensures.settles.known

pub returns-clause-plainly : goal.returns-clause-plainly
returns-clause-plainly g c = settled_is_asked c.args.words.now (g.O.Oracle.state c.args.oracle.now) (g.O.Oracle.state c.settle.new.self) c.in_ok-settle.ensures.settles

pub returns-then-gives_from-clause-plainly : goal.returns-then-gives_from-clause-plainly
returns-then-gives_from-clause-plainly g c = settled_is_asked c.args.words.now (g.O.Oracle.state c.args.oracle.now) (g.O.Oracle.state c.settle.new.self) c.in_ok-settle.ensures.settles
