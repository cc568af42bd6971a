use Rattle.std.proofs.Common.{◌≡◌, ◌<◌, length, string_bytes, rules, arith}
use Rattle.lw_recheck.proofs.NameLemmas.{texts_more}
use Rattle.lw_recheck.proofs.keeping.texts_of.Goals as goal

pub loop-n-preserved : goal.loop-n-preserved
loop-n-preserved c =
    let names = c.args.names.now in
    let n = c.loop-n.n in
    let lt : n < length names = omega (arith, c.len-n-end.ensures.value, c.loop-n-test.true) in
    let is : string_bytes c.in_ok-from_str.field-0 ≡ c.name.result.now = search rules in
    texts_more names c.loop-n.texts.items c.push.new.self.items c.in_ok-from_str.field-0 n c.name.result.now lt c.name.ensures.value is c.in_ok-push.ensures.items c.loop-n.invariant
