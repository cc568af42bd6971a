use Rattle.std.proofs.Common.{subst}
use Rattle.std.specs.List.{flat_map}
use Rattle.lw_words.specs.Word.{answers_of}
use Rattle.lw_chunks.specs.Middle.{words_of_length}
use Rattle.lw_apart.specs.Pairs.{along, with_access}
use Rattle.lw_apart.specs.bodies.Stages.{all_fronts, FirstOpen}
use Rattle.lw_apart.proofs.FirstLemmas.{open_left, open_right_if}
use Rattle.lw_apart.proofs.pairs.first_open.Goals as goal

pub returns-in-Some : goal.returns-in-Some
returns-in-Some c =
    let h = c.args.h.now.rows in
    let ks = answers_of c.args.cache.now.kept in
    let f = c.args.fronts.now in
    let first = flat_map (with_access f.access) (all_fronts f) in
    let second = flat_map (λ u. flat_map (along f.longest u) (words_of_length f.inputs f.longest)) f.access in
    open_left h ks first second c.in-Some.pair (subst (FirstOpen h ks first) c.in-Some.is c.in_ok-pair.ensures)

pub returns : goal.returns
returns c =
    let h = c.args.h.now.rows in
    let ks = answers_of c.args.cache.now.kept in
    let f = c.args.fronts.now in
    let first = flat_map (with_access f.access) (all_fronts f) in
    let second = flat_map (λ u. flat_map (along f.longest u) (words_of_length f.inputs f.longest)) f.access in
    open_right_if h ks first second c.first_of_beginnings.result (subst (FirstOpen h ks first) c.in_default.is c.in_ok-pair.ensures) c.first_of_beginnings.ensures
