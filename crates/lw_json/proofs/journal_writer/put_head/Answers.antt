use Rattle.std.proofs.Common.{◌∙◌}
use Rattle.lw_json.proofs.TokenLemmas.{writes_head}
use Rattle.lw_json.proofs.journal_writer.put_head.Goals as goal

pub returns : goal.returns
returns c =
    let ins = c.in_ok-put_names.ensures.value in
    record {
      before = c.end_object.ensures.room.0 ∙ ins.before ∙ c.key-2.ensures.room.0 ∙ c.u64.ensures.room.0 ∙ c.key.ensures.room.0 ∙ c.begin_object.ensures.room.0;
      tokens = writes_head _ _ _ _ _ _ _ _ c.in_ok-begin_object.ensures.ok c.in_ok-key.ensures.ok c.in_ok-u64.ensures.ok c.in_ok-key-2.ensures.ok ins.tokens c.in_ok-end_object.ensures.ok;
    }
