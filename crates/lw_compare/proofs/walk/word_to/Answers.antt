use Rattle.std.proofs.Common.{rules, ◌≡◌, ◌∙◌, ◌∷◌, [], ◌++◌, reverse, get_or, arith}
use Rattle.lw_compare.specs.bodies.Walk.{words_of}
use Rattle.lw_compare.proofs.WordLemmas.{read_all, read_back}
use Rattle.lw_compare.proofs.walk.word_to.Goals as goal

pub loop-at-preserved : goal.loop-at-preserved
loop-at-preserved c =
    let h = c.loop-at.invariant in
    let r = read_back c.args.walk.now.steps.items c.loop-at.at c.loop-at.letters.items c.push-in-loop-at.new.self.items (get_or (words_of c.args.walk.now.steps.items) c.args.place [] ++ c.args.last ∷ []) c.index-step.result.now c.requires.back (omega arith) h.within c.index-step.ensures c.in_ok-push-2.ensures.items h.read in
    record { within = r.0; read = r.1 }

pub returns : goal.returns
returns c =
    let h = c.loop-at.invariant in
    let turned : c.from_letters.result ≡ reverse c.loop-at.letters.items = search rules in
    read_all c.args.walk.now.steps.items c.loop-at.at c.loop-at.letters.items c.from_letters.result (get_or (words_of c.args.walk.now.steps.items) c.args.place [] ++ c.args.last ∷ []) (omega arith) turned h.read
