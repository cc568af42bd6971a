use Rattle.std.proofs.Common.{List, ℕ, None, rules, sym, refl, ◌∙◌, subst, arith}
use Rattle.std.specs.List.{All}
use Rattle.std.proofs.lemmas.List.Elements.{All-take}
use Rattle.lw_words.specs.Word.{IsWord, answers_of}
use Rattle.lw_cache.proofs.SettlingLemmas.{leaves_handed, leaves_nothing, leaves_then}
use Rattle.lw_certify.proofs.CertifyLemmas.{fewer}
use Rattle.lw_rounds.proofs.ConformanceLemmas.{few_in_chunk, settled_more, settled_none}
use Rattle.lw_rounds.proofs.PlainLemmas.{tests_begin, tests_go_on, tests_find, tests_end, none_left}
use Rattle.lw_rounds.proofs.conformance.settle_chunks.Goals as goal

pub loop-oracle-init : goal.loop-oracle-init
loop-oracle-init g c =
    let before = g.O.Oracle.state c.args.oracle.now in
    record {
      settled = settled_none c.args.hypothesis.now.inputs c.args.hypothesis.now.rows (answers_of before.kept) (g.S.Chunks.left c.args.suite.now) c.requires.gives c.requires.letters;
      plainly = tests_begin c.args.hypothesis.now.rows (g.S.Chunks.left c.args.suite.now) before;
      leaves = leaves_nothing before c.requires.keeps c.requires.may;
      can = c.requires.can;
    }

pub settle_words-requires-clause-nothing : goal.settle_words-requires-clause-nothing
settle_words-requires-clause-nothing g c = c.loop-oracle.invariant.leaves.unclashed refl c.requires.nothing

pub settle_words-requires-clause-letters : goal.settle_words-requires-clause-letters
settle_words-requires-clause-letters g c =
    let a = c.args.hypothesis.now.inputs in
    subst (λ (words : List (List ℕ)). All (IsWord a) words) (sym (c.as_slice.ensures.value ∙ c.in_ok-next_chunk.ensures.chunk)) (All-take (IsWord a) 512 (g.S.Chunks.left c.loop-oracle.suite) c.loop-oracle.invariant.settled.letters)

pub settle_words-requires-clause-few : goal.settle_words-requires-clause-few
settle_words-requires-clause-few g c = few_in_chunk c.as_slice.result.now (g.S.Chunks.left c.loop-oracle.suite) (c.as_slice.ensures.value ∙ c.in_ok-next_chunk.ensures.chunk)

pub returns-in_err-found-clause-leaves : goal.returns-in_err-found-clause-leaves
returns-in_err-found-clause-leaves g c =
    leaves_handed (g.O.Oracle.state c.args.oracle.now) (g.O.Oracle.state c.settle_words.new.oracle) c.in_err-found.field-0.0 c.from_residual-in_err-found.result
    (leaves_then (g.O.Oracle.state c.args.oracle.now) (g.O.Oracle.state c.loop-oracle.oracle) (g.O.Oracle.state c.settle_words.new.oracle) _ c.loop-oracle.invariant.leaves c.in_err-found.ensures.leaves) (search rules)

pub returns-in-Some-clause-leaves : goal.returns-in-Some-clause-leaves
returns-in-Some-clause-leaves g c =
    leaves_then (g.O.Oracle.state c.args.oracle.now) (g.O.Oracle.state c.loop-oracle.oracle) (g.O.Oracle.state c.settle_words.new.oracle) None c.loop-oracle.invariant.leaves c.in_ok-found.ensures.leaves

pub loop-oracle-smaller : goal.loop-oracle-smaller
loop-oracle-smaller g c = fewer 512 (g.S.Chunks.left c.loop-oracle.suite) (g.S.Chunks.left c.next_chunk.new.self) (omega arith) (c.in_ok-next_chunk.ensures.more.0 c.if-branch.true) c.in_ok-next_chunk.ensures.rest

pub loop-oracle-preserved : goal.loop-oracle-preserved
loop-oracle-preserved g c =
    let start = g.O.Oracle.state c.args.oracle.now in
    let before = g.O.Oracle.state c.loop-oracle.oracle in
    let now = g.O.Oracle.state c.settle_words.new.oracle in
    let h = c.args.hypothesis.now.rows in
    let leaves = c.in_ok-found.ensures.leaves in
    record {
      settled = settled_more c.args.hypothesis.now.inputs h before.kept leaves.gained now.kept (g.S.Chunks.left c.args.suite.now) (g.S.Chunks.left c.loop-oracle.suite) c.as_slice.result.now (g.S.Chunks.left c.next_chunk.new.self) 512 leaves.at_end
          (c.as_slice.ensures.value ∙ c.in_ok-next_chunk.ensures.chunk) c.in_ok-next_chunk.ensures.rest c.loop-oracle.invariant.settled (rw c.in_default.is at c.in_ok-found.ensures.comes);
      plainly = tests_go_on h (g.S.Chunks.left c.args.suite.now) (g.S.Chunks.left c.loop-oracle.suite) c.as_slice.result.now start before now leaves.gained (c.as_slice.ensures.value ∙ c.in_ok-next_chunk.ensures.chunk)
          c.in_ok-found.ensures.plainly c.loop-oracle.invariant.leaves.same.exact leaves.at_end c.loop-oracle.invariant.plainly
          (g.S.Chunks.left c.next_chunk.new.self) (c.in_ok-next_chunk.ensures.more.0 c.if-branch.true) c.in_ok-next_chunk.ensures.rest (rw c.in_default.is at c.in_ok-found.ensures.first);
      leaves = leaves_then start before now None c.loop-oracle.invariant.leaves leaves;
      can = c.settle_words.ensures.can;
    }

pub returns-in-Some-clause-plainly : goal.returns-in-Some-clause-plainly
returns-in-Some-clause-plainly g c =
    let start = g.O.Oracle.state c.args.oracle.now in
    let before = g.O.Oracle.state c.loop-oracle.oracle in
    let now = g.O.Oracle.state c.settle_words.new.oracle in
    let leaves = c.in_ok-found.ensures.leaves in
    tests_find c.args.hypothesis.now.rows (g.S.Chunks.left c.args.suite.now) (g.S.Chunks.left c.loop-oracle.suite) c.as_slice.result.now start before now leaves.gained (c.as_slice.ensures.value ∙ c.in_ok-next_chunk.ensures.chunk)
    c.in_ok-found.ensures.plainly c.loop-oracle.invariant.leaves.same.exact leaves.at_end c.loop-oracle.invariant.plainly c.in-Some.word (rw c.in-Some.is at c.in_ok-found.ensures.first)

pub returns-clause-plainly : goal.returns-clause-plainly
returns-clause-plainly g c =
    tests_end c.args.hypothesis.now.rows (g.S.Chunks.left c.args.suite.now) (g.S.Chunks.left c.loop-oracle.suite) (g.O.Oracle.state c.args.oracle.now) (g.O.Oracle.state c.loop-oracle.oracle)
    (none_left c.in_ok-next_chunk.field-0 (g.S.Chunks.left c.loop-oracle.suite) c.in_ok-next_chunk.ensures.more c.if-branch.false) c.loop-oracle.invariant.plainly
