-- Answers that fix an acceptor, from what they are worth for the machine in its place.
use Rattle.std.proofs.Common.{◌≡◌, ◌∙◌, ℕ, ◌<◌, ◌+◌, List, [], length, refl, sym, ap, subst}
use Rattle.std.specs.List.{All}
use Rattle.lw_words.specs.Word.{Answer, AreAnswers, IsWord, answers_of}
use Rattle.lw_words.specs.declared.kept.KeptAnswer.{KeptAnswer}
use Rattle.lw_mealy.specs.Machine.{Gives, MealyMachine, Sure}
use Rattle.lw_accept.specs.Acceptor.{IsNamedAcceptor, NamedAcceptor}
use Rattle.lw_accept.specs.Laws.{AreOver, FixAcceptor}
use Rattle.lw_accept.specs.View.{viewed, viewed_machine}
use Rattle.lw_accept.proofs.TellLemmas.{acceptors_are_sure}
use Rattle.lw_json.specs.declared.files.Answers.{Answers}
use Rattle.lw_json.specs.declared.files.Machine.{Machine}
use Rattle.lw_check.proofs.OverLemmas.{all_words}
use Rattle.lw_system.specs.AcceptorSystems.{IsViewOf}
use Rattle.lw_system.specs.Goals.{IsModelFile}
use Rattle.lw_system.specs.declared.goal.Goal.{Goal}
use Rattle.lw_system.specs.declared.goal.Goal.TheVariants as aim
use Rattle.lw_top.specs.Promises.{FixFile, FixModel}

-- answers that a machine gives, and are sure for it, fix the acceptor in whose place it stands
pub fix_acceptor : (m : NamedAcceptor) (h : MealyMachine) (ks : List Answer) (k : ℕ) → IsNamedAcceptor m → h ≡ viewed_machine (length m.inputs) m.automaton → AreOver h.inputs ks → Gives h.rows ks → Sure h.inputs h.rows ks k → FixAcceptor (length m.inputs) k m.automaton ks
fix_acceptor m h ks k named is over gives sure =
    acceptors_are_sure (length m.inputs) k m.automaton ks named.acceptor
    (subst (λ (x : MealyMachine). AreOver x.inputs ks) is over)
    (subst (λ (x : MealyMachine). Gives x.rows ks) is gives)
    (subst (λ (x : MealyMachine). Sure x.inputs x.rows ks k) is sure)

-- the words of answers of a file are over the letters of a model that has its names
pub over_model : (m : Machine) (p : Answers) → p.inputs ≡ m.inputs → AreOver m.mealy.inputs (answers_of p.kept.answers)
over_model m p same = all_words (length p.inputs) (length p.outputs) m.mealy.inputs p.kept.answers p.kept.answers p.over (ap (λ (l : List (List ℕ)). length l) same ∙ sym m.named.0) refl

pub fix_file : (k : Goal) (bytes : List ℕ) (m : Machine) (p : Answers) (extra : ℕ) → IsModelFile k bytes m → FixModel m p extra → FixFile k bytes m p extra
fix_file aim.Machine bytes m p extra file fixed = tt
fix_file aim.Acceptor bytes m p extra file fixed =
    let named = file.1.2.2.named in
    (file.0, file.1, file.2, fix_acceptor file.0 m.mealy (answers_of p.kept.answers) extra named file.2.mealy (over_model m p fixed.inputs) fixed.gives fixed.sure)
