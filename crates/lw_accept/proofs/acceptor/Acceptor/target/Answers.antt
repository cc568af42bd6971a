use Rattle.std.proofs.Common.{rules, ◌≡◌, ◌∙◌, ◌<◌, ℕ, List, length, map, ap, subst, arith, get_or, sym}
use Rattle.lw_accept.specs.Acceptor.{NamedAcceptor, IsNamedAcceptor, target}
use Rattle.lw_accept.proofs.TargetLemmas.{is_row, target_below, read_row, read_target}
use Rattle.lw_accept.proofs.acceptor.Acceptor.target.Goals as goal

pub index-requires-2 : goal.index-requires-2
index-requires-2 c =
    let m : NamedAcceptor = c.args.self.now in
    let named : IsNamedAcceptor m = subst (λ (s : NamedAcceptor). IsNamedAcceptor s) c.self.view_is c.self.invariant in
    let rows : map (λ r. r.items) c.self.inside.targets.items ≡ m.automaton.targets = ap (λ (s : NamedAcceptor). s.automaton.targets) c.self.view_is in
    let at : c.index.result.now ≡ get_or c.self.inside.targets.items c.args.q c.index.result.now = c.index.ensures ∙ ap (λ (i : ℕ). get_or c.self.inside.targets.items i c.index.result.now) c.from.ensures in
    let e : length c.index.result.now.items ≡ length m.inputs =
    ap (λ (r : List ℕ). length r) (read_row (λ r. r.items) m.automaton.targets c.self.inside.targets.items c.args.q c.index.result.now rows c.requires.state at) ∙ (is_row m c.args.q named c.requires.state).0 in
    grind (arith, rules)

pub returns : goal.returns
returns c =
    let m : NamedAcceptor = c.args.self.now in
    let named : IsNamedAcceptor m = subst (λ (s : NamedAcceptor). IsNamedAcceptor s) c.self.view_is c.self.invariant in
    let rows : map (λ r. r.items) c.self.inside.targets.items ≡ m.automaton.targets = ap (λ (s : NamedAcceptor). s.automaton.targets) c.self.view_is in
    let at : c.index.result.now ≡ get_or c.self.inside.targets.items c.args.q c.index.result.now = c.index.ensures ∙ ap (λ (i : ℕ). get_or c.self.inside.targets.items i c.index.result.now) c.from.ensures in
    let e : length c.index.result.now.items ≡ length m.inputs =
    ap (λ (r : List ℕ). length r) (read_row (λ r. r.items) m.automaton.targets c.self.inside.targets.items c.args.q c.index.result.now rows c.requires.state at) ∙ (is_row m c.args.q named c.requires.state).0 in
    let le : c.args.x < length c.index.result.now.items = rw e c.requires.letter in
    let then : c.index-2.result.now ≡ get_or c.index.result.now.items c.args.x c.index-2.result.now = c.index-2.ensures ∙ ap (λ (i : ℕ). get_or c.index.result.now.items i c.index-2.result.now) c.from-2.ensures in
    let value : c.index-2.result.now ≡ target m.automaton.targets c.args.q c.args.x =
    read_target (λ r. r.items) m.automaton.targets c.self.inside.targets.items c.args.q c.args.x c.index.result.now c.index-2.result.now rows c.requires.state le at then in
    record {
      value = value;
      state = subst (λ (t : ℕ). t < length m.automaton.targets) (sym value) (target_below m c.args.q c.args.x named c.requires.state c.requires.letter);
    }
