use Rattle.std.proofs.Common.{◌∙◌, ℕ, List, [], Bor, ap, sym, get_or, inr, refl, option_map, true≢false}
use Rattle.lw_words.proofs.Lists.{within-map_more}
use Rattle.lw_json.specs.Formats.{numbered_cell}
use Rattle.lw_json.specs.MachineFault.{HasOutputIn}
use Rattle.lw_json.proofs.EachLemmas.{going_more, fails_here, element}
use Rattle.lw_json.proofs.machine_reader.numbered_row.Goals as goal

abbrev nothing : ℕ × Bor (List ℕ)
nothing = (0, record { ref_ptr = (0, 0); now = [] })

pub returns-in_default-clause-err : goal.returns-in_default-clause-err
returns-in_default-clause-err c =
    let xs = c.args.row.now in
    let i = c.loop-letter.letter in
    let none = sym c.number.ensures.value ∙ c.in_default.is in
    inr (
      i,
      refl,
      fails_here (λ (k : ℕ × Bor (List ℕ)). (k.0, k.1.now)) (HasOutputIn c.args.outputs.now) xs i (get_or xs i nothing) c.loop-letter-test.true (element xs i nothing c.loop-letter-test.true)
          (λ known. true≢false (sym (rw none at known))) c.loop-letter.invariant.known,
    )

pub loop-letter-preserved : goal.loop-letter-preserved
loop-letter-preserved c =
    let xs = c.args.row.now in
    let i = c.loop-letter.letter in
    let x : ℕ × Bor (List ℕ) = get_or xs i nothing in
    let found = sym c.number.ensures.value ∙ c.in-Some.is in
    let lt = c.loop-letter-test.true in
    record {
      so_far = going_more (λ (k : ℕ × Bor (List ℕ)). (k.0, k.1.now)) (numbered_cell c.args.outputs.now) c.loop-letter.cells.items c.push.new.self.items xs i x (x.0, c.in-Some.output) lt (element xs i nothing lt)
          (ap (option_map (λ (y : ℕ). (x.0, y))) found) c.in_ok-push.ensures.items c.loop-letter.invariant.so_far;
      known = within-map_more (λ (k : ℕ × Bor (List ℕ)). (k.0, k.1.now)) (HasOutputIn c.args.outputs.now) xs i x lt (element xs i nothing lt) (rw found refl) c.loop-letter.invariant.known;
    }
