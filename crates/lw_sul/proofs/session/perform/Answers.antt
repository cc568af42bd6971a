use Rattle.std.proofs.Common.{rules, ◌≡◌, ◌∙◌, ℕ, ◌<◌, ◌≤◌, ◌+◌, ◌-◌, List, length, min, vec_capacity, length-append, ◌∷◌, [], ◌++◌, take, drop, option_map, get_or, sym, ap, subst, arith}
use Rattle.std.specs.List.{All}
use Rattle.std.proofs.lemmas.List.Elements.{All-push}
use Rattle.lw_mealy.specs.Origin.{Origin}
use Rattle.lw_sul.specs.SessionState.{run_of, CutOff}
use Rattle.lw_sul.specs.Runs.{after_step}
use Rattle.lw_sul.specs.Told.{Steps}
use Rattle.lw_names.proofs.NameLemmas.{IsNaming, brings_rest, naming_more, noted_few}
use Rattle.lw_sul.proofs.RunLemmas.{Rests, refused_at_step, rests_more, runs_more}
use Rattle.lw_sul.proofs.session.perform.Goals as goal

pub loop-x-preserved : goal.loop-x-preserved
loop-x-preserved g c =
    let S = g.S.Sul in
    let w : List ℕ = c.as_slice-x-items.result.now in
    let i : ℕ = c.loop-x.x-index in
    let y : ℕ = c.in_ok-y.y in
    let items = sym c.push_reserved.ensures.items in
    let was = c.loop-x.invariant in
    let below : All (λ y. y < (S.state c.args.sul.now).outputs) (c.loop-x.outs.items ++ y ∷ []) =
    All-push (λ y. y < (S.state c.args.sul.now).outputs) c.loop-x.outs.items y was.below (subst (λ (b : ℕ). y < b) was.outputs c.in_ok-y.ensures.output) in
    let rests : Rests (S.state c.args.sul.now).origin.machine (S.state c.step.new.self).place (c.loop-x.outs.items ++ y ∷ []) (drop (i + 1) w) w =
    rests_more (S.state c.args.sul.now).origin.machine (S.state c.loop-x.sul).place (S.state c.step.new.self).place i y c.loop-x.outs.items w c.loop-x-test.true
    (subst (λ (o : Origin). Steps o.machine (S.state c.loop-x.sul).place (get_or w i 0) y (S.state c.step.new.self).place) was.origin c.in_ok-y.ensures.steps) was.rests in
    let runs : (S.state c.step.new.self).runs ≡ option_map (λ rs. rs ++ run_of (take (i + 1) w) (c.loop-x.outs.items ++ y ∷ []) ∷ []) (S.state c.args.sul.now).runs =
    c.in_ok-y.ensures.adds ∙ (ap (option_map (after_step (get_or w i 0) y)) was.runs ∙ runs_more (S.state c.args.sul.now).runs w c.loop-x.outs.items i y c.loop-x-test.true) in
    let known : ℕ = c.named-known.result in
    let start : List (List ℕ) = (S.state c.args.sul.now).names in
    let now : List (List ℕ) = (S.state c.step.new.self).names in
    let rest : now ≡ (S.state c.loop-x.sul).names ++ drop known now = brings_rest (S.state c.loop-x.sul).names now y known c.named-known.ensures.count c.in_ok-y.ensures.brings in
    let noted : c.loop-x.names.items ++ drop known now ≡ c.note.new.names.items = sym c.note.ensures.names in
    let naming : IsNaming start now (c.loop-x.names.items ++ drop known now) (c.loop-x.outs.items ++ y ∷ []) =
    naming_more start (S.state c.loop-x.sul).names now c.loop-x.names.items (drop known now) c.loop-x.outs.items y was.naming c.in_ok-y.ensures.brings c.note.ensures.lawful.differ rest in
    let came : IsNaming start now c.note.new.names.items (c.loop-x.outs.items ++ y ∷ []) =
    subst (λ (l : List (List ℕ)). IsNaming start now l (c.loop-x.outs.items ++ y ∷ [])) noted naming in
    record {
      live = c.in_ok-y.ensures.ok.0;
      started = c.in_ok-y.ensures.ok.1;
      inputs = c.step.ensures.same.inputs ∙ was.inputs;
      outputs = c.step.ensures.same.outputs ∙ was.outputs;
      most = c.step.ensures.same.most ∙ was.most;
      names_room = subst (λ (n : ℕ). min (length w) ((S.state c.args.sul.now).most - length start) ≤ n) (sym c.note.ensures.room) was.names_room;
      few = noted_few c.note.new.names.items c.loop-x.names.items (S.state c.loop-x.sul).names now y known i c.note.ensures.names c.named-known.ensures.count c.in_ok-y.ensures.brings was.few;
      naming = subst (λ (o : List ℕ). IsNaming start now c.note.new.names.items o) items came;
      origin = c.step.ensures.same.origin ∙ was.origin;
      faults = omega arith;
      count = search rules;
      room = search rules;
      below = subst (λ (o : List ℕ). All (λ y. y < (S.state c.args.sul.now).outputs) o) items below;
      rests = subst (λ (o : List ℕ). Rests (S.state c.args.sul.now).origin.machine (S.state c.step.new.self).place o (drop (i + 1) w) w) items rests;
      runs = subst (λ (o : List ℕ). (S.state c.step.new.self).runs ≡ option_map (λ rs. rs ++ run_of (take (i + 1) w) o ∷ []) (S.state c.args.sul.now).runs) items runs;
    }

pub returns-in_err-y-clause-cut : goal.returns-in_err-y-clause-cut
returns-in_err-y-clause-cut g c =
    let S = g.S.Sul in
    let was = c.loop-x.invariant in
    let w : List ℕ = c.as_slice-x-items.result.now in
    let before : (S.state c.step.new.self).runs ≡ option_map (λ rs. rs ++ run_of (take c.loop-x.x-index w) c.loop-x.outs.items ∷ []) (S.state c.args.sul.now).runs =
    c.in_err-y.ensures.left ∙ was.runs in
    let cut : CutOff w (S.state c.args.sul.now).runs (S.state c.step.new.self).runs (S.state c.step.new.self).cut =
    refused_at_step w (S.state c.args.sul.now).runs (S.state c.step.new.self).runs (S.state c.step.new.self).cut c.loop-x.x-index c.loop-x.outs.items before c.in_err-y.ensures.cut c.loop-x-test.true was.count in
    search (rules, cut)

-- where a system may still bring a name, there is room for it
room_for_one : (known most now letters start came i room : ℕ) → known ≡ start + came → now ≡ most → min letters (most - start) ≤ room → came ≤ i → i < letters → known < now → came < room
room_for_one known most now letters start came i room count same holds few lt below = omega arith

pub note-requires-clause-room : goal.note-requires-clause-room
note-requires-clause-room g c =
    let S = g.S.Sul in
    let was = c.loop-x.invariant in
    let start : List (List ℕ) = (S.state c.args.sul.now).names in
    let count : length (S.state c.loop-x.sul).names ≡ length start + length c.loop-x.names.items =
    ap (λ (l : List (List ℕ)). length l) was.naming.gained ∙ length-append start c.loop-x.names.items in
    let room : c.named-known.result < (S.state c.step.new.self).most → length c.loop-x.names.items < vec_capacity c.loop-x.names =
    room_for_one c.named-known.result (S.state c.args.sul.now).most (S.state c.step.new.self).most (length c.as_slice-x-items.result.now) (length start) (length c.loop-x.names.items) c.loop-x.x-index (vec_capacity c.loop-x.names)
    (c.named-known.ensures.count ∙ count) (c.step.ensures.same.most ∙ was.most) was.names_room was.few c.loop-x-test.true in
    λ lt. let fits = room lt in search (rules, fits)

pub returns-in_err-y-clause-grown : goal.returns-in_err-y-clause-grown
returns-in_err-y-clause-grown g c =
    (c.loop-x.names.items, c.in_err-y.ensures.lacks ∙ c.loop-x.invariant.naming.gained)

pub returns-in_err-y-clause-same : goal.returns-in_err-y-clause-same
returns-in_err-y-clause-same g c =
    let was = c.loop-x.invariant in
    let same = c.step.ensures.same in
    record { origin = same.origin ∙ was.origin; inputs = same.inputs ∙ was.inputs; outputs = same.outputs ∙ was.outputs; most = same.most ∙ was.most }

pub returns-clause-names : goal.returns-clause-names
returns-clause-names g c = c.loop-x.invariant.naming.gained

pub returns-clause-brought : goal.returns-clause-brought
returns-clause-brought g c = c.loop-x.invariant.naming.brought

pub returns-clause-numbers : goal.returns-clause-numbers
returns-clause-numbers g c = c.loop-x.invariant.naming.numbers

pub returns-clause-grown : goal.returns-clause-grown
returns-clause-grown g c = (c.loop-x.names.items, c.loop-x.invariant.naming.gained)

pub returns-clause-same : goal.returns-clause-same
returns-clause-same g c =
    let was = c.loop-x.invariant in
    record { origin = was.origin; inputs = was.inputs; outputs = was.outputs; most = was.most }
