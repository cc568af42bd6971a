use Rattle.std.proofs.Common.{◌∙◌, sym, List, ℕ, [], Bor, get_or}
use Rattle.lw_words.specs.Word.{number_of}
use Rattle.lw_json.proofs.EachLemmas.{going_more, going_none, element}
use Rattle.lw_json.proofs.word_reader.letters.Goals as goal

abbrev nothing : Bor (List ℕ)
nothing = record { ref_ptr = (0, 0); now = [] }

pub returns-in_default : goal.returns-in_default
returns-in_default c =
    let xs = c.args.pieces.now in
    let i = c.loop-piece.piece-index in
    let lt = c.loop-piece-test.true in
    going_none (λ (x : Bor (List ℕ)). x.now) (λ name. number_of name c.args.names.now) c.loop-piece.letters.items xs i (get_or xs i nothing) lt (element xs i nothing lt) (sym c.number.ensures.value ∙ c.in_default.is) c.loop-piece.invariant

pub loop-piece-preserved : goal.loop-piece-preserved
loop-piece-preserved c =
    let xs = c.args.pieces.now in
    let i = c.loop-piece.piece-index in
    let lt = c.loop-piece-test.true in
    going_more (λ (x : Bor (List ℕ)). x.now) (λ name. number_of name c.args.names.now) c.loop-piece.letters.items c.push.new.self.items xs i (get_or xs i nothing) c.in-Some.letter lt (element xs i nothing lt) (sym c.number.ensures.value ∙ c.in-Some.is)
    c.in_ok-push.ensures.items c.loop-piece.invariant
