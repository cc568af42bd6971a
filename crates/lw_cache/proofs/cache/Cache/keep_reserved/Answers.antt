use Rattle.std.proofs.Common.{rules, ◌≡◌, ℕ, ◌+◌, ◌<◌, ◌≤◌, List, length, vec_len, vec_capacity, subst, sym, ap, ◌∙◌, arith, MatchOption}
use Rattle.std.proofs.lemmas.List.{length_push}
use Rattle.lw_words.specs.declared.kept.KeptAnswer.{KeptAnswer}
use Rattle.lw_cache.specs.Caching.{Caching, kept_answer}
use Rattle.lw_cache.specs.bodies.Trie.{node_at, IsStored, no_answer}
use Rattle.lw_cache.specs.bodies.Filling.{ComparedTo, IsTold}
use Rattle.lw_cache.proofs.KeepLemmas.{IsKeptMade, kept_made, see_claims, see_ok, see_err, see_known}
use Rattle.lw_cache.proofs.RoomLemmas.{room_kept}
use Rattle.lw_cache.proofs.cache.Cache.keep_reserved.Goals as goal

pub invariant_of-self : goal.invariant_of-self
invariant_of-self c =
    let words : c.self.inside.words ≡ c.args.self.now.words = ap (λ (v : Caching). v.words) c.self.view_is in
    let letters : c.self.inside.letters ≡ c.args.self.now.letters = ap (λ (v : Caching). v.letters) c.self.view_is in
    let some : 1 ≤ c.self.inside.words = omega (arith, words, c.requires.words) in
    let few : length c.self.inside.kept.answers < no_answer = omega (arith, some, c.self.invariant.1.kept_few) in
    let new : KeptAnswer = kept_answer c.args.instance c.args.run c.args.word c.args.outs in
    let compared : ComparedTo (node_at c.self.inside.nodes.items) (length c.self.inside.nodes.items) new.word new.outs 0 c.tell-found.result = search rules in
    let told : MatchOption c.tell-found.result (IsTold c.self.inside.nodes.items c.tell-found.new.nodes.items new.word new.outs c.len-number.result) (λ _. c.tell-found.new.nodes.items ≡ c.self.inside.nodes.items) = search rules in
    let k : IsKeptMade c.self.inside.nodes.items c.tell-found.new.nodes.items c.self.inside.held.items c.self.inside.kept.answers new c.clash_of.result =
    kept_made c.self.inside.nodes.items c.tell-found.new.nodes.items c.self.inside.held.items c.self.inside.kept.answers c.self.invariant.0 few new c.requires.lengths
    c.len-number.result c.len-number.ensures c.tell-found.result c.clash_of.result compared told c.clash_of.ensures.none c.clash_of.ensures.some in
    let word : c.as_slice.result.now ≡ c.args.word = c.as_slice.ensures in (
      subst (λ (l : List KeptAnswer). IsStored (node_at c.tell-found.new.nodes.items) (length c.tell-found.new.nodes.items) c.self.inside.held.items l) (sym c.put.ensures.answers) k.stored,
      room_kept c.self.inside.words c.self.inside.letters (vec_len c.self.inside.nodes) (vec_capacity c.self.inside.nodes) (vec_len c.self.inside.held) (vec_capacity c.self.inside.held) (length c.self.inside.kept.answers) c.self.inside.kept.room
          c.len.result (vec_len c.tell-found.new.nodes) (vec_capacity c.tell-found.new.nodes) (length c.put.new.kept.answers) c.put.new.kept.room c.self.invariant.1
          (omega (arith, words, c.requires.words)) (omega (arith, letters, c.requires.letters, c.len.ensures)) c.tell-found.ensures.more (subst (λ (m : ℕ). vec_len c.tell-found.new.nodes ≤ vec_len c.self.inside.nodes + m) (ap (λ (w : List ℕ). length w) word ∙ sym c.len.ensures) c.tell-found.ensures.len) c.tell-found.ensures.capacity
          (ap (λ (l : List KeptAnswer). length l) c.put.ensures.answers ∙ length_push c.self.inside.kept.answers new) c.put.ensures.room,
    )

pub returns-clause-claims : goal.returns-clause-claims
returns-clause-claims c =
    let words : c.self.inside.words ≡ c.args.self.now.words = ap (λ (v : Caching). v.words) c.self.view_is in
    let letters : c.self.inside.letters ≡ c.args.self.now.letters = ap (λ (v : Caching). v.letters) c.self.view_is in
    let some : 1 ≤ c.self.inside.words = omega (arith, words, c.requires.words) in
    let few : length c.self.inside.kept.answers < no_answer = omega (arith, some, c.self.invariant.1.kept_few) in
    let new : KeptAnswer = kept_answer c.args.instance c.args.run c.args.word c.args.outs in
    let compared : ComparedTo (node_at c.self.inside.nodes.items) (length c.self.inside.nodes.items) new.word new.outs 0 c.tell-found.result = search rules in
    let told : MatchOption c.tell-found.result (IsTold c.self.inside.nodes.items c.tell-found.new.nodes.items new.word new.outs c.len-number.result) (λ _. c.tell-found.new.nodes.items ≡ c.self.inside.nodes.items) = search rules in
    let k : IsKeptMade c.self.inside.nodes.items c.tell-found.new.nodes.items c.self.inside.held.items c.self.inside.kept.answers new c.clash_of.result =
    kept_made c.self.inside.nodes.items c.tell-found.new.nodes.items c.self.inside.held.items c.self.inside.kept.answers c.self.invariant.0 few new c.requires.lengths
    c.len-number.result c.len-number.ensures c.tell-found.result c.clash_of.result compared told c.clash_of.ensures.none c.clash_of.ensures.some in
    see_claims c.self.inside.nodes.items c.tell-found.new.nodes.items c.self.inside.held.items c.self.inside.kept.answers _ _ c.args.self.now c.self.view_is new c.clash_of.result k

pub returns-clause-ok : goal.returns-clause-ok
returns-clause-ok c =
    let words : c.self.inside.words ≡ c.args.self.now.words = ap (λ (v : Caching). v.words) c.self.view_is in
    let letters : c.self.inside.letters ≡ c.args.self.now.letters = ap (λ (v : Caching). v.letters) c.self.view_is in
    let some : 1 ≤ c.self.inside.words = omega (arith, words, c.requires.words) in
    let few : length c.self.inside.kept.answers < no_answer = omega (arith, some, c.self.invariant.1.kept_few) in
    let new : KeptAnswer = kept_answer c.args.instance c.args.run c.args.word c.args.outs in
    let compared : ComparedTo (node_at c.self.inside.nodes.items) (length c.self.inside.nodes.items) new.word new.outs 0 c.tell-found.result = search rules in
    let told : MatchOption c.tell-found.result (IsTold c.self.inside.nodes.items c.tell-found.new.nodes.items new.word new.outs c.len-number.result) (λ _. c.tell-found.new.nodes.items ≡ c.self.inside.nodes.items) = search rules in
    let k : IsKeptMade c.self.inside.nodes.items c.tell-found.new.nodes.items c.self.inside.held.items c.self.inside.kept.answers new c.clash_of.result =
    kept_made c.self.inside.nodes.items c.tell-found.new.nodes.items c.self.inside.held.items c.self.inside.kept.answers c.self.invariant.0 few new c.requires.lengths
    c.len-number.result c.len-number.ensures c.tell-found.result c.clash_of.result compared told c.clash_of.ensures.none c.clash_of.ensures.some in
    see_ok c.self.inside.nodes.items c.tell-found.new.nodes.items c.self.inside.held.items c.self.inside.kept.answers _ _ c.args.self.now c.self.view_is new c.clash_of.result k

pub returns-clause-err : goal.returns-clause-err
returns-clause-err c =
    let words : c.self.inside.words ≡ c.args.self.now.words = ap (λ (v : Caching). v.words) c.self.view_is in
    let letters : c.self.inside.letters ≡ c.args.self.now.letters = ap (λ (v : Caching). v.letters) c.self.view_is in
    let some : 1 ≤ c.self.inside.words = omega (arith, words, c.requires.words) in
    let few : length c.self.inside.kept.answers < no_answer = omega (arith, some, c.self.invariant.1.kept_few) in
    let new : KeptAnswer = kept_answer c.args.instance c.args.run c.args.word c.args.outs in
    let compared : ComparedTo (node_at c.self.inside.nodes.items) (length c.self.inside.nodes.items) new.word new.outs 0 c.tell-found.result = search rules in
    let told : MatchOption c.tell-found.result (IsTold c.self.inside.nodes.items c.tell-found.new.nodes.items new.word new.outs c.len-number.result) (λ _. c.tell-found.new.nodes.items ≡ c.self.inside.nodes.items) = search rules in
    let k : IsKeptMade c.self.inside.nodes.items c.tell-found.new.nodes.items c.self.inside.held.items c.self.inside.kept.answers new c.clash_of.result =
    kept_made c.self.inside.nodes.items c.tell-found.new.nodes.items c.self.inside.held.items c.self.inside.kept.answers c.self.invariant.0 few new c.requires.lengths
    c.len-number.result c.len-number.ensures c.tell-found.result c.clash_of.result compared told c.clash_of.ensures.none c.clash_of.ensures.some in
    see_err c.self.inside.nodes.items c.tell-found.new.nodes.items c.self.inside.held.items c.self.inside.kept.answers _ _ c.args.self.now c.self.view_is new c.clash_of.result k

pub returns-clause-known : goal.returns-clause-known
returns-clause-known c =
    let words : c.self.inside.words ≡ c.args.self.now.words = ap (λ (v : Caching). v.words) c.self.view_is in
    let letters : c.self.inside.letters ≡ c.args.self.now.letters = ap (λ (v : Caching). v.letters) c.self.view_is in
    let some : 1 ≤ c.self.inside.words = omega (arith, words, c.requires.words) in
    let few : length c.self.inside.kept.answers < no_answer = omega (arith, some, c.self.invariant.1.kept_few) in
    let new : KeptAnswer = kept_answer c.args.instance c.args.run c.args.word c.args.outs in
    let compared : ComparedTo (node_at c.self.inside.nodes.items) (length c.self.inside.nodes.items) new.word new.outs 0 c.tell-found.result = search rules in
    let told : MatchOption c.tell-found.result (IsTold c.self.inside.nodes.items c.tell-found.new.nodes.items new.word new.outs c.len-number.result) (λ _. c.tell-found.new.nodes.items ≡ c.self.inside.nodes.items) = search rules in
    let k : IsKeptMade c.self.inside.nodes.items c.tell-found.new.nodes.items c.self.inside.held.items c.self.inside.kept.answers new c.clash_of.result =
    kept_made c.self.inside.nodes.items c.tell-found.new.nodes.items c.self.inside.held.items c.self.inside.kept.answers c.self.invariant.0 few new c.requires.lengths
    c.len-number.result c.len-number.ensures c.tell-found.result c.clash_of.result compared told c.clash_of.ensures.none c.clash_of.ensures.some in
    see_known c.self.inside.nodes.items c.tell-found.new.nodes.items c.self.inside.held.items c.self.inside.kept.answers _ _ c.args.self.now c.self.view_is new c.clash_of.result k c.put.new.kept.answers c.put.ensures.answers
