use Rattle.std.proofs.Common.{◌∙◌, ◌++◌, ◌∷◌, [], List, ap, map, sym, take}
use Rattle.std.proofs.lemmas.List.{map-append, take_more}
use Rattle.std.proofs.lemmas.Option.{slice_get_within, get_or_from_slice_get}
use Rattle.lw_words.specs.declared.kept.KeptAnswer.{KeptAnswer}
use Rattle.lw_json.proofs.answers_writer.references.Goals as goal

pub loop-i-preserved : goal.loop-i-preserved
loop-i-preserved c =
    let ks = c.args.kept.now.answers in
    let k : KeptAnswer = c.get.result.now in
    ap (map (λ k. k.now)) c.in_ok-push.ensures.items
    ∙ (map-append (λ k. k.now) c.loop-i.all.items (c.get.result ∷ [])
    ∙ (ap (λ (l : List KeptAnswer). l ++ k ∷ []) c.loop-i.invariant
    ∙ (ap (λ (x : KeptAnswer). take c.loop-i.i ks ++ x ∷ []) (sym (get_or_from_slice_get ks c.loop-i.i k k c.get.ensures))
    ∙ sym (take_more ks c.loop-i.i k (slice_get_within ks c.loop-i.i k c.get.ensures)))))
