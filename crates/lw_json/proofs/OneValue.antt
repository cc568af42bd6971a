-- A machine file has one value.
use Rattle.std.proofs.Common.{◌≡◌, ℕ, List, length, codes, sym, ap, ap₂, ◌∙◌}
use Rattle.json.proofs.Found.{Some_inj}
use Rattle.serde_json.specs.Data.{Data}
use Rattle.lw_mealy.specs.Machine.{Rows, MealyMachine, mealy_of}
use Rattle.lw_json.specs.Formats.{NamedRow, WrittenMachine, SaysMachine, SpellsMachine, IsMachineFile, SameMachine, numbered_rows, rows_at, texts_at}
use Rattle.lw_json.specs.declared.files.Machine.{Machine}

same_table : (s t : MealyMachine) → s.inputs ≡ t.inputs → s.outputs ≡ t.outputs → s.rows ≡ t.rows → s ≡ t
same_table s t i o r = ap (λ (a : ℕ). mealy_of a s.outputs s.rows) i ∙ (ap (λ (b : ℕ). mealy_of t.inputs b s.rows) o ∙ ap (λ (q : Rows). mealy_of t.inputs t.outputs q) r)

-- what two readings of one value say is the same
pub record SameSaid (v w : WrittenMachine) : Type 0 where
  pub inputs : v.inputs ≡ w.inputs
  pub outputs : v.outputs ≡ w.outputs
  pub states : v.states ≡ w.states

pub says_same : (d e : Data) (v w : WrittenMachine) → d ≡ e → SaysMachine d v → SaysMachine e w → SameSaid v w
says_same d e v w de s t = record {
  inputs = Some_inj v.inputs w.inputs (sym s.inputs ∙ (ap (λ (x : Data). texts_at (codes "inputs") x) de ∙ t.inputs));
  outputs = Some_inj v.outputs w.outputs (sym s.outputs ∙ (ap (λ (x : Data). texts_at (codes "outputs") x) de ∙ t.outputs));
  states = Some_inj v.states w.states (sym s.states ∙ (ap (λ (x : Data). rows_at (codes "states") x) de ∙ t.states));
}

spell_same : (v w : WrittenMachine) (m n : Machine) → SameSaid v w → SpellsMachine v m → SpellsMachine w n → SameMachine m n
spell_same v w m n same s t =
    let inputs : m.inputs ≡ n.inputs = sym s.inputs ∙ (same.inputs ∙ t.inputs) in
    let outputs : m.outputs ≡ n.outputs = sym s.outputs ∙ (same.outputs ∙ t.outputs) in
    let rows : m.mealy.rows ≡ n.mealy.rows = Some_inj m.mealy.rows n.mealy.rows (sym s.states ∙ (ap₂ (λ (o : List (List ℕ)) (r : List NamedRow). numbered_rows o r) outputs same.states ∙ t.states)) in
    record {
      inputs = inputs;
      outputs = outputs;
      mealy = same_table m.mealy n.mealy (s.named.letters ∙ (ap length inputs ∙ sym t.named.letters)) (s.named.answers ∙ (ap length outputs ∙ sym t.named.answers)) rows;
    }

pub one_value : (bytes : List ℕ) (m n : Machine) → IsMachineFile bytes m → IsMachineFile bytes n → SameMachine m n
one_value bytes m n f g = spell_same f.2.0 g.2.0 m n (says_same f.0 g.0 f.2.0 g.2.0 (Some_inj f.0 g.0 (sym f.1.1 ∙ g.1.1)) f.2.1 g.2.1) f.2.2 g.2.2
