use Rattle.std.proofs.Common.{◌∙◌}
use Rattle.lw_json.proofs.TokenLemmas.{writes_file}
use Rattle.lw_json.proofs.answers_tokens.put_file.Goals as goal

pub returns-clause-value : goal.returns-clause-value
returns-clause-value c =
    let list = c.in_ok-put_list.ensures in
    let ins = c.in_ok-put_names.ensures.value in
    let outs = c.in_ok-put_names-2.ensures.value in
    record {
      before = c.end_object.ensures.room.0 ∙ outs.before ∙ c.key-4.ensures.room.0 ∙ ins.before ∙ c.key-3.ensures.room.0 ∙ c.u64.ensures.room.0 ∙ c.key-2.ensures.room.0 ∙ list.before ∙ c.key.ensures.room.0 ∙ c.begin_object.ensures.room.0;
      tokens = writes_file _ _ _ _ _ _ _ _ _ _ _ _ _ _ c.in_ok-begin_object.ensures.ok c.in_ok-key.ensures.ok list.tokens c.in_ok-key-2.ensures.ok c.in_ok-u64.ensures.ok
          c.in_ok-key-3.ensures.ok ins.tokens c.in_ok-key-4.ensures.ok outs.tokens c.in_ok-end_object.ensures.ok;
    }
